use Rattle.std.proofs.Common.{◌≡◌, take}
use Rattle.text.specs.Texts.{append}
use Rattle.text.proofs.Text.push_bytes.Given as goal

abbrev pub invariant-loop-byte : goal.invariant-loop-byte
invariant-loop-byte l = l.self ≡ append l.initial.self (take l.byte-index l.word)
