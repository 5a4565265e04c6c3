use native.Mathlib.Omega.{arith}
use Rattle.octets.proofs.Puts.{put-put}
use Rattle.octets.proofs.Puts.{word-put}
use Rattle.track_transmission.proofs.fix.put_parts.Goals as goal

pub returns : goal.returns
returns c =
    let a = c.put_bytes-a.ensures in
    let size = c.args.report.size in
    let signers = word-put 4 c.put_bytes-a.result _ _ c.put_u32.ensures (omega (arith, size, c.requires, a.next, c.put_bytes-a.auto.to)) in (
      omega (arith, size, a.next, c.put_bytes.ensures.next),
      rw (c.bytes.ensures, c.mask.ensures) at (put-put a (put-put signers c.put_bytes.ensures)),
    )
