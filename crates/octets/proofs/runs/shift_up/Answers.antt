use Rattle.std.proofs.lemmas.Grind.{common_steps}
use lib.ListN.{drop_of_length-le}
use lib.Seq.{length-take-le, take-length, drop_at}
use Prim.Native.Nat.{ℕ, ◌+◌, ◌-◌, ◌≤◌, ◌<◌}
use mathlib.Core.Path.{◌≡◌, refl, sym, ap, ◌∙◌}
use mathlib.Core.List.{List, ◌++◌, append-nil}
use native.Mathlib.Omega.{arith}
use lib.ListN.{length, get_or, take, drop, set, length-take, length-append}
use Rattle.octets.proofs.Moves.{down, read_low}
use Rattle.octets.proofs.runs.shift_up.Invariants.{moved}
use Rattle.octets.proofs.runs.shift_up.Goals as goal

moved_length : (s : List ℕ) (w : ℕ) → w ≤ length s → length (moved s w) ≡ length s
unfolding moved
moved_length s w h = simp (length-append, length-take) (omega arith)

moved_at : (s : List ℕ) (w k : ℕ) → w + k < length s → get_or (moved s w) (w + k) 0 ≡ get_or s k 0
unfolding moved
moved_at s w k h = grind (arith, common_steps)

start : (s : List ℕ) (w : ℕ) → w ≤ length s → s ≡ take (length s) s ++ drop (length s) (moved s w)
start s w h =
    let k : length (moved s w) ≤ length s = omega (arith, moved_length s w h) in
    rw (take-length s, drop_of_length-le (moved s w) k, append-nil s) refl

turn : (s : List ℕ) (w j : ℕ) → w < j → j ≤ length s
    → set (take j s ++ drop j (moved s w)) (j - 1) (get_or (take j s ++ drop j (moved s w)) (j - 1 - w) 0) ≡ take (j - 1) s ++ drop (j - 1) (moved s w)
turn s w j h l =
    let e : w + (j - 1 - w) ≡ j - 1 = omega arith in
    let v : get_or (take j s ++ drop j (moved s w)) (j - 1 - w) 0 ≡ get_or (moved s w) (j - 1) 0 =
    read_low s (drop j (moved s w)) j (j - 1 - w) (omega arith) l ∙ sym (moved_at s w (j - 1 - w) (omega arith)) ∙ ap (λ (n : ℕ). get_or (moved s w) n 0) e in
    rw v (down s (moved s w) j (omega arith) l (omega (arith, moved_length s w (omega arith))))

finish : (s : List ℕ) (w : ℕ) → w ≤ length s → take w s ++ drop w (moved s w) ≡ take w s ++ take (length s - w) s
unfolding moved
finish s w h = rw (drop_at (take w s) (take (length s - w) s) w (length-take-le w s h)) refl

pub loop-j-init : goal.loop-j-init
loop-j-init c = (omega arith, start c.args.s.now c.args.w c.requires)

pub loop-j-preserved : goal.loop-j-preserved
loop-j-preserved c =
    (omega arith, rw c.loop-j.invariant.1 (turn c.args.s.now c.args.w c.loop-j.j (omega arith) (omega arith)))

pub returns : goal.returns
returns c =
    let e : c.loop-j.j ≡ c.args.w = omega arith in
    c.loop-j.invariant.1 ∙ rw e (finish c.args.s.now c.args.w c.requires)
