-- A listing fits the output that it was written to: the equation of its contract says so, since the output keeps its length.
use Prim.Native.Nat.{ℕ, ◌≤◌}
use mathlib.Core.Path.{◌≡◌, sym, ap, ◌∙◌}
use mathlib.Core.List.{List}
use native.Mathlib.Omega.{arith}
use lib.Dec.{ltb}
use lib.ListN.{length, drop, length-append}
use Rattle.lists.proofs.Bools.{by}
use Rattle.errors.specs.After.{After, after, write_text}
use Rattle.fix_lines.specs.Text.{board_size}
use Rattle.track_memory.specs.Memory.{well_formed, decode}
use Rattle.track_listing.specs.Listing.{listing_of, list_track}

module _ (o o' : List ℕ) (a : ℕ) (room : board_size ≤ length o) (size : length o' ≡ length o) where
  answer-of : (x : After (List ℕ)) → after a o' ≡ x → a ≡ x.answer
  answer-of x e = ap (λ (y : After (List ℕ)). y.answer) e

  small : (n : ℕ) → n ≤ 10 → after a o' ≡ after n o → a ≤ length o
  small n h e = let p = answer-of (after n o) e in omega (arith, p, h, room)

  fits : (t : List ℕ) → after a o' ≡ write_text t o → a ≤ length o
  fits t e =
      let p = answer-of (write_text t o) e in
      let q = sym size ∙ ap (λ (y : After (List ℕ)). length y.left) e ∙ length-append t (drop (length t) o) in
      omega (arith, p, q, size)

  pub listed-fits : (m : List ℕ) → after a o' ≡ list_track m o → a ≤ length o
  unfolding list_track
  listed-fits m e =
      by (well_formed m)
      (λ w. by (ltb (length o) board_size)
      (λ b. small 10 (omega arith) (rw (w, b) at e))
      (λ b. fits (listing_of (decode m)) (rw (w, b) at e)))
      (λ w. small 1 (omega arith) (rw w at e))
