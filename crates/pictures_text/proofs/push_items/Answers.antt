use Rattle.text.proofs.Appending.{append-then}
use Rattle.pictures_text.specs.Items.{item_of}
use Rattle.pictures_text.proofs.push_items.Goals as goal

pub returns : goal.returns
returns c =
    append-then _ _ _ (item_of c.args.case.first 1) _ c.push_item.ensures
    (append-then _ _ _ (item_of c.args.case.second 2) (item_of c.args.case.third 3) c.push_item-2.ensures c.push_item-3.ensures)
