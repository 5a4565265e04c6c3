use Rattle.std.proofs.Common.{◌≡◌, take}
use Rattle.std.specs.Prelude.{flat_map}
use Rattle.text.specs.Texts.{append}
use Rattle.session_text.specs.Found.{shown_byte}
use Rattle.session_text.proofs.found.push_shown.Given as goal

abbrev pub invariant-loop-byte : goal.invariant-loop-byte
invariant-loop-byte l = l.out ≡ append l.initial.out (flat_map shown_byte (take l.byte-index l.bytes))
