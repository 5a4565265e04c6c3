use Rattle.std.proofs.Common.{sym}
use Rattle.text.specs.Numbers.{hex}
use Rattle.text.proofs.Appending.{append-nil, append_more}
use Rattle.rooms_text.proofs.lines.push_hex_bytes.Goals as goal

pub loop-byte-init : goal.loop-byte-init
loop-byte-init c = sym (append-nil c.args.out.now)

pub loop-byte-preserved : goal.loop-byte-preserved
loop-byte-preserved c = append_more (hex 2) c.args.bytes.now c.loop-byte.byte-index 0 _ _ _ c.loop-byte-test.true c.loop-byte.invariant c.push_hex.ensures
