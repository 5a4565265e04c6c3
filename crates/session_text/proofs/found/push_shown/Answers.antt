use Rattle.std.proofs.Common.{sym}
use Rattle.text.proofs.Appending.{append-nil, append_more}
use Rattle.session_text.specs.Found.{shown_byte}
use Rattle.session_text.proofs.found.push_shown.Goals as goal

pub loop-byte-init : goal.loop-byte-init
loop-byte-init c = sym (append-nil c.args.out.now)

pub loop-byte-preserved : goal.loop-byte-preserved
loop-byte-preserved c = append_more shown_byte c.args.bytes.now c.loop-byte.byte-index 0 _ _ _ c.loop-byte-test.true c.loop-byte.invariant c.push_byte.ensures
