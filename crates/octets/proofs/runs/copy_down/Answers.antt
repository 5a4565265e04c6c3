use Rattle.std.proofs.lemmas.Grind.{common_steps}
use Prim.Native.Nat.{ℕ, ◌+◌, ◌-◌, ◌≤◌, ◌<◌}
use mathlib.Core.Path.{◌≡◌, refl, sym, ap, ◌∙◌}
use mathlib.Core.List.{List, ◌++◌, append_assoc}
use native.Mathlib.Omega.{arith}
use native.Mathlib.Nat.{add-zero, add_assoc}
use lib.ListN.{length, get_or, take, drop, set, length-append, length-take, length-drop, take-append-drop}
use lib.Seq.{take_at, length-take-le}
use Rattle.octets.proofs.Moves.{up, read-high}
use Rattle.octets.proofs.runs.copy_down.Invariants.{moved}
use Rattle.octets.proofs.runs.copy_down.Goals as goal

module _ (s : List ℕ) (from to w : ℕ) (h : to ≤ from) (l : from + w ≤ length s) where
  front : length (take to s) ≡ to
  front = length-take-le to s (omega arith)

  part : length (take w (drop from s)) ≡ w
  part = length-take-le w (drop from s) (rw length-drop (omega arith))

  moved_length : length (moved s from to w) ≡ length s
  unfolding moved
  moved_length = simp (length-append, length-take, length-drop) (omega arith)

  moved_at : (k : ℕ) → k < w → get_or (moved s from to w) (to + k) 0 ≡ get_or s (from + k) 0
  unfolding moved
  moved_at k g = grind (arith, common_steps)

  begin : s ≡ take (to + 0) (moved s from to w) ++ drop (to + 0) s
  unfolding moved
  begin = rw (add-zero to, take_at (take to s) (take w (drop from s) ++ drop (to + w) s) to front) (sym (take-append-drop to s))

  turn : (k : ℕ) → k < w
      → set (take (to + k) (moved s from to w) ++ drop (to + k) s) (to + k) (get_or (take (to + k) (moved s from to w) ++ drop (to + k) s) (from + k) 0)
      ≡ take (to + (k + 1)) (moved s from to w) ++ drop (to + (k + 1)) s
  turn k g =
      let m = moved_length in
      let e : from + k ≡ to + k + (from - to) = omega arith in
      let v : get_or (take (to + k) (moved s from to w) ++ drop (to + k) s) (from + k) 0 ≡ get_or (moved s from to w) (to + k) 0 =
      ap (λ (n : ℕ). get_or (take (to + k) (moved s from to w) ++ drop (to + k) s) n 0) e
      ∙ read-high (moved s from to w) s (to + k) (from - to) (omega arith) ∙ ap (λ (n : ℕ). get_or s n 0) (sym e) ∙ sym (moved_at k g) in
      rw (v, ← add_assoc to k 1) (up (moved s from to w) s (to + k) (omega arith) (omega arith))

  finish : take (to + w) (moved s from to w) ++ drop (to + w) s ≡ moved s from to w
  unfolding moved
  finish =
      let p = take to s ++ take w (drop from s) in
      let z : length p ≡ to + w = rw (length-append, front, part) refl in
      let q : moved s from to w ≡ p ++ drop (to + w) s = sym (append_assoc (take to s) (take w (drop from s)) (drop (to + w) s)) in
      ap (λ (x : List ℕ). take (to + w) x ++ drop (to + w) s) q ∙ ap (λ (x : List ℕ). x ++ drop (to + w) s) (take_at p (drop (to + w) s) (to + w) z) ∙ sym q

pub loop-k-init : goal.loop-k-init
loop-k-init c = let a = c.args in begin a.s.now a.from a.to a.w c.requires.to_le_from c.requires.w_in_bounds

pub loop-k-preserved : goal.loop-k-preserved
loop-k-preserved c =
    let a = c.args in
    rw c.loop-k.invariant (turn a.s.now a.from a.to a.w c.requires.to_le_from c.requires.w_in_bounds c.loop-k.k (omega arith))

pub returns : goal.returns
unfolding moved
returns c =
    let a = c.args in
    let e : c.loop-k.k ≡ a.w = omega arith in
    c.loop-k.invariant ∙ rw e (finish a.s.now a.from a.to a.w c.requires.to_le_from c.requires.w_in_bounds)
