use Rattle.decision_items.proofs.item.Item.is_subset_of.Goals as goal

pub returns : goal.returns
returns c = c.is_subset_of.ensures
