-- What is known of the fixes of a board: they ascend, so that no two have one identity; each is formed; and there are no more of them than records.
use Rattle.std.proofs.Common.{ℕ, suc, ◌+◌, ◌≤◌, ◌≡◌, refl, sym, subst, true, List, [], ◌∷◌, arith, ltb, length, ltb-true, ltb-false}
use mathlib.Core.List.Memᴰ
use mathlib.Core.List.{Memᴰ}
use Rattle.octets.specs.Order.{is_before}
use Rattle.octets.proofs.Comparison.{before-irrefl}
use Rattle.std.specs.List.{list_all}
use Rattle.lists.proofs.Bools.{by, or, clash, and_left, and_right}
use Rattle.models.specs.Models.{counts}
use Rattle.models.specs.Identity.{set_hash, cited_inputs}
use Rattle.models.proofs.Sets.{cited-length, identity-length}
use Rattle.fixes.specs.Fix.{Fix, with_signers}
use Rattle.fixes.specs.Shown.{lower}
use Rattle.fixes.specs.Items.{no_fix, fix_at, Formed, AllFormed, Apart}
use Rattle.signed_records.specs.Read.{record_formed}
use Rattle.board_fixes.specs.Fixes.{record_in, fix_of_place, unite, enter, enter_all, fixes_of}
use Rattle.board_fixes.specs.Order.{identities_ascend}
use Rattle.board_fixes.proofs.Entering.{enter-ascends, enter-length, earlier-lower}
use Rattle.board_fixes.proofs.Representing.{counted}

-- ---- no two have one identity

pub apart : (gs : List Fix) → identities_ascend gs ≡ true → Apart gs
apart gs a i j h k e =
    by (ltb i j)
    (λ t. clash (earlier-lower gs a i j no_fix (ltb-true i j t) k) (rw e (before-irrefl (fix_at gs j).identity)))
    (λ t. by (ltb j i)
    (λ u. clash (earlier-lower gs a j i no_fix (ltb-true j i u) h) (rw e (before-irrefl (fix_at gs j).identity)))
    (λ u. let x = ltb-false i j t in let y = ltb-false j i u in omega arith))

-- ---- each is formed

formed-signed : (n : ℕ) (f : Fix) → Formed f → Formed (with_signers n f)
formed-signed n f w = record { key = w.key; form = w.form; cited = w.cited }

united-formed : (g f : Fix) → Formed g → Formed f → Formed (unite g f)
united-formed g f u v = by (is_before f.record_bytes g.record_bytes) (λ h. rw h (formed-signed _ f v)) (λ h. rw h (formed-signed _ g u))

all-cons : (f : Fix) (fs : List Fix) → Formed f → AllFormed fs → AllFormed (f ∷ fs)
all-cons f fs h w y m = or (Memᴰ.cases_cons m) (λ e. subst Formed (sym e) h) (λ k. w y k)

enter-formed : (f : Fix) (gs : List Fix) → Formed f → AllFormed gs → AllFormed (enter f gs)
unfolding enter
enter-formed f [] h w = all-cons f [] h w
enter-formed f (g ∷ gs) h w =
    let first = w g (Memᴰ.head refl) in
    let others : AllFormed gs = λ y m. w y (Memᴰ.tail m) in
    by (lower g f)
    (λ u. rw u (all-cons g (enter f gs) first (enter-formed f gs h others)))
    (λ u. by (lower f g)
    (λ v. rw (u, v) (all-cons f (g ∷ gs) h w))
    (λ v. rw (u, v) (all-cons (unite g f) gs (united-formed g f first h) others)))

slot-formed : (ss : List (List ℕ)) (p : List ℕ) → record_formed p ≡ true → Formed (fix_of_place ss p)
slot-formed ss p h = record { key = identity-length (set_hash (record_in p)) (cited_inputs ss (record_in p)); form = h; cited = cited-length ss (record_in p) }

-- ---- the fixes of summaries and records

record Kept (fs : List Fix) (n : ℕ) : Type 0 where
  in_order : identities_ascend fs ≡ true
  formed : AllFormed fs
  few : length fs ≤ n

all-kept : (ss ps : List (List ℕ)) (fs : List Fix) (n : ℕ) → list_all record_formed ps ≡ true → Kept fs n → Kept (enter_all fs (counted ss ps)) (n + length ps)
unfolding enter_all
all-kept ss [] fs n h k = record { in_order = k.in_order; formed = k.formed; few = let x = k.few in omega arith }
all-kept ss (p ∷ ps) fs n h k =
    let one : record_formed p ≡ true = and_left (record_formed p) (list_all record_formed ps) h in
    let others : list_all record_formed ps ≡ true = and_right (record_formed p) (list_all record_formed ps) h in
    let f = fix_of_place ss p in
    let x = k.few in
    let z : suc n + length ps ≡ n + suc (length ps) = omega arith in
    by (counts ss (record_in p))
    (λ c. rw (c, ← z) (all-kept ss ps (enter f fs) (suc n) others (record {
      in_order = enter-ascends f fs k.in_order;
      formed = enter-formed f fs (slot-formed ss p one) k.formed;
      few = let y = enter-length f fs in omega arith;
    })))
    (λ c. rw (c, ← z) (all-kept ss ps fs (suc n) others (record { in_order = k.in_order; formed = k.formed; few = omega arith })))

module _ (ss ps : List (List ℕ)) (h : list_all record_formed ps ≡ true) where
  all : Kept (fixes_of ss ps) (0 + length ps)
  unfolding fixes_of identities_ascend
  all = all-kept ss ps [] 0 h (record { in_order = refl; formed = λ y m. absurd (Memᴰ.not-nil m); few = omega arith })

  pub fixes-ascend : identities_ascend (fixes_of ss ps) ≡ true
  fixes-ascend = all.in_order

  pub fixes-apart : Apart (fixes_of ss ps)
  fixes-apart = apart (fixes_of ss ps) all.in_order

  pub fixes-formed : AllFormed (fixes_of ss ps)
  fixes-formed = all.formed

  pub fixes-few : length (fixes_of ss ps) ≤ length ps
  fixes-few = let x = all.few in omega arith
