use Prim.Native.Nat.{ℕ}
use mathlib.Core.Path.{sym, ap, ◌∙◌}
use mathlib.Core.List.{List}
use lib.Bits.{bit_or}
use lib.ListN.{length, get_or, set, length-set}
use Rattle.std.specs.Prelude.{position}
use Rattle.arrayvec.proofs.ArrayVecLemmas.{items-with_items}
use Rattle.fixes.specs.Fix.{Fix, with_signers}
use Rattle.track_transmission.specs.Held.{RefusedFix, HeldTransmission, fix_of, held_in, is_of}
use Rattle.track_transmission.specs.Values.{signed_refused}
use Rattle.track_normalize.specs.Normal.{signed_by}
use Rattle.track_normalize.specs.Joining.{sign_in}
use Rattle.std.specs.List.{list_any}
use Rattle.track_normalize.proofs.Taken.{held-standing, left-standing, held-refused, left-refused, held-none}
use Rattle.track_normalize.proofs.joining.sign.Goals as goal

abbrev view : List Fix → List RefusedFix → HeldTransmission
view fs xs = record { fixes = fs; refused = xs }

pub returns-in-Some-clause-held : goal.returns-in-Some-clause-held
returns-in-Some-clause-held c =
    let f = c.args.fix.now in
    let t = view c.held.inside.fixes.items c.held.inside.refused.items in
    let e = ap (position (is_of f)) (sym c.deref.ensures.0) ∙ sym c.seat_of.ensures ∙ c.in-Some.is in
    sym (ap (λ u. list_any (is_of f) (held_in u)) (sym c.held.view_is) ∙ held-standing f t c.in-Some.i f e)

pub returns-in-Some-clause-left : goal.returns-in-Some-clause-left
returns-in-Some-clause-left c =
    let f = c.args.fix.now in
    let t = view c.held.inside.fixes.items c.held.inside.refused.items in
    let e = ap (position (is_of f)) (sym c.deref.ensures.0) ∙ sym c.seat_of.ensures ∙ c.in-Some.is in
    let i = c.in-Some.i in
    let d = c.deref_mut.result.now in
    let x = c.index-deref_mut-i.result in
    let g = get_or d i x in
    let signed = c.sign.ensures ∙ ap (λ (n : ℕ). with_signers (bit_or g.signers n) g) (ap (λ (h : Fix). h.signers) c.fix.view_is) in
    let y = c.sign.new.self in
    let items =
    items-with_items c.held.inside.fixes (set d i y) (length-set d i y ∙ ap length c.deref_mut.ensures.value)
    ∙ ap (λ (h : Fix). set d i h) signed ∙ ap (λ (l : List Fix). set l i (signed_by f (get_or l i x))) c.deref_mut.ensures.value
    in
    left-standing f t i x e _ items ∙ ap (sign_in f) c.held.view_is

pub returns-in-Some-place_of-clause-held : goal.returns-in-Some-place_of-clause-held
returns-in-Some-place_of-clause-held c =
    let f = c.args.fix.now in
    let t = view c.held.inside.fixes.items c.held.inside.refused.items in
    let e = ap (position (is_of f)) (sym c.deref.ensures.0) ∙ sym c.seat_of.ensures ∙ c.in_default.is in
    let q = ap (position (λ x. is_of f (fix_of x))) (sym c.deref-2.ensures.0) ∙ sym c.place_of.ensures ∙ c.in-Some-place_of.is in
    sym (ap (λ u. list_any (is_of f) (held_in u)) (sym c.held.view_is) ∙ held-refused f t e c.in-Some-place_of.i (record { fix = f; against = f.inputs; chi2 = 0 }) q)

pub returns-in-Some-place_of-clause-left : goal.returns-in-Some-place_of-clause-left
returns-in-Some-place_of-clause-left c =
    let f = c.args.fix.now in
    let t = view c.held.inside.fixes.items c.held.inside.refused.items in
    let e = ap (position (is_of f)) (sym c.deref.ensures.0) ∙ sym c.seat_of.ensures ∙ c.in_default.is in
    let q = ap (position (λ x. is_of f (fix_of x))) (sym c.deref-2.ensures.0) ∙ sym c.place_of.ensures ∙ c.in-Some-place_of.is in
    let i = c.in-Some-place_of.i in
    let d = c.deref_mut-in-Some-place_of.result.now in
    let x = c.index-deref_mut-i-in-Some-place_of.result in
    let signed = c.sign-in-Some-place_of.ensures ∙ ap (λ (n : ℕ). signed_refused n (get_or d i x)) (ap (λ (h : Fix). h.signers) c.fix-2.view_is) in
    let y = c.sign-in-Some-place_of.new.self in
    let lent = c.deref_mut-in-Some-place_of.ensures.value in
    let items =
    items-with_items c.held.inside.refused (set d i y) (length-set d i y ∙ ap length lent)
    ∙ ap (λ (h : RefusedFix). set d i h) signed ∙ ap (λ (l : List RefusedFix). set l i (signed_refused f.signers (get_or l i x))) lent
    in
    left-refused f t e i x q _ items ∙ ap (sign_in f) c.held.view_is

pub returns-clause-held : goal.returns-clause-held
returns-clause-held c =
    let f = c.args.fix.now in
    let t = view c.held.inside.fixes.items c.held.inside.refused.items in
    let e = ap (position (is_of f)) (sym c.deref.ensures.0) ∙ sym c.seat_of.ensures ∙ c.in_default.is in
    let q = ap (position (λ x. is_of f (fix_of x))) (sym c.deref-2.ensures.0) ∙ sym c.place_of.ensures ∙ c.in_default-place_of.is in
    sym (ap (λ u. list_any (is_of f) (held_in u)) (sym c.held.view_is) ∙ held-none f t e q)
