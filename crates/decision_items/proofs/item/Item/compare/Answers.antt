use Rattle.decision_items.proofs.item.Item.compare.Goals as goal

pub returns : goal.returns
returns c = c.compare.ensures.agreement _ _ c.args.subset.now.is_placed c.requires c.args.self.now.is_placed
