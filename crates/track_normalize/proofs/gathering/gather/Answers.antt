use mathlib.Core.Path.{refl, sym, ap, ◌∙◌}
use Prim.Native.Nat.{ℕ}
use mathlib.Core.List.{[], ◌∷◌, ◌++◌}
use lib.Bits.{bit_or}
use lib.ListN.{get_or}
use Rattle.fixes.specs.Fix.{Fix, with_signers}
use Rattle.std.specs.Prelude.{position}
use Rattle.track_transmission.specs.Held.{is_of}
use Rattle.track_normalize.proofs.Gathered.{signed-there, put_last}
use Rattle.track_normalize.proofs.gathering.gather.Goals as goal

pub returns-in-Some : goal.returns-in-Some
returns-in-Some c =
    let f = c.args.fix.now in
    let ks = c.args.gathered.now.items in
    let x = c.index-deref_mut-i.result in
    let there = ap (position (is_of f)) (sym c.deref.ensures.0) ∙ sym c.seat_of.ensures ∙ c.in-Some.is in
    let g = get_or c.deref_mut.result.now c.in-Some.i x in
    let signed = c.sign.ensures ∙ ap (λ (n : ℕ). with_signers (bit_or g.signers n) g) (ap (λ (h : Fix). h.signers) c.fix.view_is) in
    signed-there f ks c.deref_mut.result.now _ c.in-Some.i x c.sign.new.self there c.deref_mut.ensures.value refl signed

pub returns-in-None : goal.returns-in-None
returns-in-None c = c.push.ensures.items ∙ ap (λ (f : Fix). c.args.gathered.now.items ++ (f ∷ [])) c.copied.ensures ∙ put_last c.args.fix.now c.args.gathered.now.items (ap (position (is_of c.args.fix.now)) (sym c.deref.ensures.0) ∙ sym c.seat_of.ensures ∙ c.in-None.is)
