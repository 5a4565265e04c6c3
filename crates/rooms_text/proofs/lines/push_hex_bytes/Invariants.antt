use Rattle.std.proofs.Common.{◌≡◌, take}
use Rattle.std.specs.Prelude.{flat_map}
use Rattle.text.specs.Numbers.{hex}
use Rattle.text.specs.Texts.{append}
use Rattle.rooms_text.proofs.lines.push_hex_bytes.Given as goal

abbrev pub invariant-loop-byte : goal.invariant-loop-byte
invariant-loop-byte l = l.out ≡ append l.initial.out (flat_map (hex 2) (take l.byte-index l.bytes))
