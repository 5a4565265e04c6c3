use Rattle.std.proofs.Common.{◌≡◌, take}
use Rattle.text.specs.Texts.{append}
use Rattle.record.specs.Encoded.{words}
use Rattle.record.proofs.fields.push_words.Given as goal

abbrev pub invariant-loop-value : goal.invariant-loop-value
invariant-loop-value l = l.out ≡ append l.initial.out (words 8 (take l.value-index l.values))
