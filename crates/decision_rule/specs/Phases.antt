-- No claim rests on these definitions: they say which items are compared, and settled.
use Rattle.std.specs.Prelude.{List}
use Rattle.decision_items.specs.declared.item.Item.{Item}
use Rattle.decision_rule.specs.declared.compared.Compared.{Compared}
use Rattle.decision_rule.specs.declared.settled.Settled.{Settled}

abbrev pub compared_items : Compared → List Item
compared_items c = c.listed.items.now

abbrev pub items_of : Settled → List Item
items_of s = compared_items s.compared
