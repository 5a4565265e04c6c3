-- A walk that tests the places of a table one by one, for every test and width: i of n places have passed, and the next begins at a byte.
use Rattle.std.proofs.Common.{ℕ, ◌+◌, ◌*◌, ◌-◌, ◌≤◌, ◌<◌, ◌≡◌, refl, sym, ◌∙◌, Bool, true, false, not, ◌&&◌, List, [], ◌∷◌, arith, take, drop, take-take}
use Rattle.std.specs.List.{list_all}
use Rattle.tables.specs.Places.{places}
use Rattle.tables.proofs.Walks.{step-at, all-next, all_end}

pub record Passed (test : List ℕ → Bool) (w n : ℕ) (t : List ℕ) (i at : ℕ) : Type 0 where
  pub few : i ≤ n
  pub begins : at ≡ i * w
  pub rest : list_all test (places w n t) ≡ list_all test (places w (n - i) (drop at t))

module _ {test : List ℕ → Bool} {w n : ℕ} {t : List ℕ} {i at : ℕ} (p : Passed test w n t i at) where
  -- all have passed
  pub passed-all : n ≤ i → true ≡ list_all test (places w n t)
  passed-all h = sym (p.rest ∙ all_end test w n i at t h)

  -- the next is tested
  module _ (h : i < n) (b : Bool) (e : b ≡ test (take (at + w - at) (drop at t))) where
    turned : list_all test (places w n t) ≡ (b && list_all test (places w (n - (i + 1)) (drop (at + w) t)))
    turned = grind (arith, p.rest, all-next test w n i at t)

    pub passed-not : not b ≡ true → false ≡ list_all test (places w n t)
    passed-not z = grind (arith, turned)

    pub passed-next : not b ≡ false → Passed test w n t (i + 1) (at + w)
    passed-next z = record { few = omega arith; begins = step-at i w at p.begins; rest = grind (arith, turned) }

-- the first k bytes of a place, as they are lent
pub begin-lent : (k w at : ℕ) (t : List ℕ) → k ≤ w → take (at + k - at) (drop at t) ≡ take k (take (at + w - at) (drop at t))
begin-lent k w at t h =
    let e : at + k - at ≡ k = omega arith in
    let f : at + w - at ≡ w = omega arith in
    rw (e, f) (sym (take-take k w (drop at t) h))

-- places that pass a test pass a weaker one
pub all-weaken : (a b : List ℕ → Bool) → ((p : List ℕ) → a p ≡ true → b p ≡ true) → (ps : List (List ℕ)) → list_all a ps ≡ true → list_all b ps ≡ true
all-weaken a b f [] h = refl
all-weaken a b f (p ∷ ps) h = grind (arith, f p, all-weaken a b f ps)
