use mathlib.Core.Path.{ap}
use native.Mathlib.Omega.{arith}
use Rattle.track_transmission.specs.Bytes.{refused_bytes}
use Rattle.octets.proofs.Puts.{put-put, put_as}
use Rattle.octets.proofs.Puts.{word-put}
use Rattle.track_transmission.proofs.refused.RefusedFix.put.Goals as goal

pub returns : goal.returns
returns c =
    let a = c.put_fix-a.ensures in
    let b = c.put_bytes-b.ensures in
    let chi2 = word-put 8 c.put_bytes-b.result _ _ c.put_u64.ensures (omega (arith, c.requires, a.0, c.put_fix-a.auto.out, b.next, c.put_bytes-b.auto.to)) in (
      omega (arith, a.0, b.next),
      put_as (ap refused_bytes c.self.view_is) (rw c.bytes.ensures at (put-put a.1 (put-put b chi2))),
    )
