use mathlib.Core.Path.{◌≡◌, refl, sym, ap, subst, ◌∙◌}
use native.Mathlib.Omega.{arith}
use Rattle.octets.proofs.Puts.{put_whole, put_as}
use Rattle.fixes.specs.Fix.{Fix}
use Rattle.track_transmission.specs.Bytes.{fix_bytes, transmission_in, transmission_bytes}
use Rattle.track_transmission.specs.Parts.{Steady}
use Rattle.track_transmission.proofs.Encoding.{fix-length}
use Rattle.track_normalize.proofs.Validity.{Holdable}
use Rattle.track_merge.specs.Searching.{single}
use Rattle.track_merge.proofs.Written.{holdable-of}
use Rattle.track_merge.proofs.Opening.{single-steady, single-read}
use Rattle.track_merge.proofs.Single.{single-put}
use Rattle.track_merge.proofs.alone.Goals as goal

pub returns-clause-held : goal.returns-clause-held
returns-clause-held c =
    let f : Fix = c.args.fix.now in
    let h : Holdable f = holdable-of _ _ _ f c.fix.inside.report.formed c.fix.inside.report.size c.fix.invariant.0 c.fix.invariant.1 c.fix.view_is in
    let n = fix-length f h.valid in
    let e : c.put_parts.new.out ≡ transmission_bytes (single f) = single-put f _ _ n refl (put_whole (put_as (ap fix_bytes c.fix.view_is) c.put_parts.ensures.1) (omega (arith, n))) in
    ap transmission_in e ∙ single-read f h

pub returns-clause-steady : goal.returns-clause-steady
returns-clause-steady c =
    let f : Fix = c.args.fix.now in
    let h : Holdable f = holdable-of _ _ _ f c.fix.inside.report.formed c.fix.inside.report.size c.fix.invariant.0 c.fix.invariant.1 c.fix.view_is in
    let n = fix-length f h.valid in
    let e : c.put_parts.new.out ≡ transmission_bytes (single f) = single-put f _ _ n refl (put_whole (put_as (ap fix_bytes c.fix.view_is) c.put_parts.ensures.1) (omega (arith, n))) in
    subst Steady (sym e) (single-steady f h)
