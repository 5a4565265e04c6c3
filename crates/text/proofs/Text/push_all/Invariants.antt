use Rattle.std.proofs.Common.{◌≡◌, take}
use Rattle.std.specs.Prelude.{flat_map}
use Rattle.text.specs.Texts.{append}
use Rattle.text.proofs.Text.push_all.Given as goal

abbrev pub invariant-loop-value : goal.invariant-loop-value
invariant-loop-value g l = l.self ≡ append l.initial.self (flat_map g.T.Append.text (take l.value-index l.values))
