-- When a report is refused with 7: where no other number comes before, none of the record's models is missing, and the record does not count.
use Rattle.std.proofs.Common.{◌≡◌, ℕ, Bool, true, false, cond, not, Option, Some, None, List, refl, arith, ltb, leb, length}
use Rattle.octets.specs.Masks.{bit}
use Rattle.record.specs.Formed.{well_formed}
use Rattle.models.specs.Models.{counts}
use Rattle.models.specs.Missing.{first_missing}
use Rattle.engines.specs.Limits.{max_engine}
use Rattle.track_memory.specs.Track.{Transition, refused, done}
use Rattle.track_shelf.specs.Layout.{max_waiting}
use Rattle.track_shelf.specs.Both.{Both}
use Rattle.track.specs.Track.{take_under, track_report}
use Rattle.track.specs.Claims.{SevenExactlyWhere}
use Rattle.lists.proofs.Bools.{by}

module _ (e : ℕ) (r : List ℕ) (b : Both) where
  abbrev answered : Bool → Bool → Bool → Option ℕ → Transition Both
  answered a w c o = cond a (refused 2) (cond (not w) (refused 3) (cond c (refused 4) (take_under o e r b)))

  other : (n : ℕ) → (n ≡ 7 → ⊥) → ◌≡◌ {A = Transition Both} (refused n) (refused 7) → ⊥
  other n d q = d (let z : n ≡ 7 = cc in z)

  -- it is refused with 7
  only : (a w c : Bool) (o : Option ℕ) → answered a w c o ≡ refused 7
      → (a ≡ false) × (w ≡ true) × (c ≡ false) × (o ≡ None) × (counts b.track.summaries r ≡ false)
  only true w c o q = absurd (other 2 (λ z. omega arith) q)
  only false false c o q = absurd (other 3 (λ z. omega arith) q)
  only false true true o q = absurd (other 4 (λ z. omega arith) q)
  only false true false (Some m) q =
      by (leb max_waiting (length b.shelf)) (λ h. absurd (other 13 (λ z. omega arith) (rw h at q))) (λ h. absurd (let k = rw h at q in let z : ⊥ = cc in z))
  only false true false None q =
      by (counts b.track.summaries r) (λ h. absurd (let k = rw h at q in let z : ⊥ = cc in z)) (λ h. (refl, refl, refl, refl, h))

pub seven-exactly-where : SevenExactlyWhere
seven-exactly-where e r b = (
  only e r b (ltb max_engine e) (well_formed r) (bit b.track.convicted e) (first_missing b.track.summaries r),
  λ h. rw (h.0, h.1, h.2, h.3, h.4) refl,
)
