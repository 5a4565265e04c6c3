-- Transmissions that are settled: which are left alone, and that those a conviction leaves are.
use Rattle.std.proofs.Common.{◌≡◌, ℕ, ◌+◌, ◌<◌, Bool, false, List, [], length, get_or, sym, ap, ◌∙◌, arith}
use mathlib.Core.Path.{subst}
use mathlib.Core.List.Memᴰ
use mathlib.Core.List.{map}
use lib.Dec.{ltb}
use borrow.Author.Tests.{ltb-true, ltb-false}
use Rattle.std.specs.Prelude.{IsTrue, ◌&&◌}
use Rattle.lists.proofs.Bools.{by, and_left, and_right}
use Rattle.fixes.proofs.Indexed.{in-at}
use Rattle.track_transmission.specs.Held.{HeldTransmission, held_in}
use Rattle.track_transmission.specs.Bytes.{transmission_in}
use Rattle.track_normalize.specs.Normal.{normalized}
use Rattle.track_normalize.specs.Taking.{Settled}
use Rattle.track_memory.specs.Memory.{decode}
use Rattle.track_recheck.specs.Recheck.{stands, has_stale, standing, without_engine, strike_engine}
use Rattle.track_recheck.specs.Steps.{AllSettled}
use Rattle.track_recheck.proofs.Standing.{filter_whole}
use Rattle.track_recheck.proofs.Renewing.{arranged-from}

-- one of which every fix stands
pub left-alone : (ss : List (List ℕ)) (t : HeldTransmission) → Settled t → has_stale ss t ≡ false → t ≡ standing ss t
left-alone ss t s e = sym (ap normalized (filter_whole (stands ss) (held_in t) e) ∙ s)

-- ---- the first i of transmissions are settled once they are changed

module _ (f : HeldTransmission → HeldTransmission) (ts : List HeldTransmission) where
  abbrev nothing : HeldTransmission
  nothing = transmission_in []

  abbrev pub SettledFirst : Bool → ℕ → Type 0
  SettledFirst s i = IsTrue s → (j : ℕ) → j < i → Settled (f (get_or ts j nothing))

  pub settled-next : (s one : Bool) (i : ℕ) → SettledFirst s i → (IsTrue one → Settled (f (get_or ts i nothing))) → SettledFirst (s && one) (i + 1)
  settled-next s one i a o h j l =
      by (ltb j i)
      (λ t. a (and_left s one h) j (ltb-true j i t))
      (λ t. let z : i ≡ j = let g = ltb-false j i t in omega (arith, l, g) in subst (λ k. Settled (f (get_or ts k nothing))) z (o (and_right s one h)))

  pub settled-all : (s : Bool) (i : ℕ) → length ts ≡ i → SettledFirst s i → IsTrue s → AllSettled (map f ts)
  settled-all s i n a h t m =
      let r = Memᴰ.of_map f ts m in
      let p = in-at nothing ts r.0 r.1 in
      subst Settled (ap f p.2 ∙ r.2) (a h p.0 (omega (arith, p.1, n)))

-- those of a track that are left
pub settled-left : (m : List ℕ) (e : ℕ) → AllSettled (map (without_engine e) (decode m).transmissions) → AllSettled (strike_engine e (decode m)).transmissions
unfolding strike_engine
settled-left m e a t i = a t (arranged-from (map (without_engine e) (decode m).transmissions) t i).0
