-- A walk over the places of a table, for every width: where a place ends, what stands at it, one step, and the end.
use Rattle.std.proofs.Common.{ℕ, zero, suc, ◌+◌, ◌*◌, ◌-◌, ◌≤◌, ◌<◌, ◌≡◌, refl, sym, ap, ◌∙◌, Bool, true, ◌&&◌, List, [], ◌∷◌, arith, suc-mul, zero-mul, mul-le-mul_right, le_trans, le_of_eq, not-suc-le-zero, le_of_suc-le-suc, add-one, get_or, take, drop, drop-drop, take-take}
use Rattle.std.specs.List.{list_all}
use Rattle.tables.specs.Places.{places}

-- ---- where a place ends

-- within the table
pub room : (i n w : ℕ) → i < n → i * w + w ≤ n * w
room i n w h = le_trans (le_of_eq (sym (suc-mul i w))) (mul-le-mul_right w h)

-- where the next begins
pub step-at : (i w at : ℕ) → at ≡ i * w → at + w ≡ (i + 1) * w
step-at i w at e = ap (λ (x : ℕ). x + w) e ∙ sym (suc-mul i w) ∙ ap (λ (x : ℕ). x * w) (sym (add-one i))

pub next-room : (i w l : ℕ) → i * w + w ≤ l → (i + 1) * w ≤ l
next-room i w l h = le_trans (le_of_eq (ap (λ (x : ℕ). x * w) (add-one i) ∙ suc-mul i w)) h

-- ---- what stands at a place

pub place_of : (w n i : ℕ) (t : List ℕ) → i < n → get_or (places w n t) i [] ≡ take w (drop (i * w) t)
unfolding places
place_of w zero i t h = absurd (not-suc-le-zero h)
place_of w (suc n) zero t h = ap (λ (k : ℕ). take w (drop k t)) (sym (zero-mul w))
place_of w (suc n) (suc i) t h =
    let e : w + i * w ≡ suc i * w = omega (arith, suc-mul i w) in
    place_of w n i (drop w t) (le_of_suc-le-suc h) ∙ ap (take w) (drop-drop (i * w) w t ∙ ap (λ (k : ℕ). drop k t) e)

-- a part of a place is a part of the table
pub part_in : (k j w : ℕ) (l : List ℕ) → j + k ≤ w → take k (drop j (take w l)) ≡ take k (drop j l)
part_in k zero w l h = take-take k w l (omega arith)
part_in k (suc j) zero l h = absurd (omega arith)
part_in k (suc j) (suc w) [] h = refl
part_in k (suc j) (suc w) (x ∷ l) h = part_in k j w l (omega arith)

pub part_of : (k j w a : ℕ) (t : List ℕ) → j + k ≤ w → take k (drop j (take w (drop a t))) ≡ take k (drop (a + j) t)
part_of k j w a t h = part_in k j w (drop a t) h ∙ ap (take k) (drop-drop j a t)

-- ---- one step, and the end

module _ (w n i at : ℕ) (t : List ℕ) where
  pub places-next : i < n → places w (n - i) (drop at t) ≡ take w (drop at t) ∷ places w (n - (i + 1)) (drop (at + w) t)
  unfolding places
  places-next h = let e : n - i ≡ suc (n - (i + 1)) = omega arith in rw (e, drop-drop w at t) refl

  pub places-end : n ≤ i → places w (n - i) (drop at t) ≡ []
  unfolding places
  places-end h = let e : n - i ≡ 0 = omega arith in rw e refl

-- every place passes a test
module _ (test : List ℕ → Bool) (w n i at : ℕ) (t : List ℕ) where
  pub all-next : i < n → list_all test (places w (n - i) (drop at t)) ≡ (test (take (at + w - at) (drop at t)) && list_all test (places w (n - (i + 1)) (drop (at + w) t)))
  all-next h = let z : at + w - at ≡ w = omega arith in rw (places-next w n i at t h, z) refl

  pub all_end : n ≤ i → list_all test (places w (n - i) (drop at t)) ≡ true
  all_end h = rw (places-end w n i at t h) refl
