-- A text that was written at the start of a buffer is what an operation leaves.
use Rattle.std.proofs.Common.{ℕ, ◌+◌, ◌≤◌, ◌≡◌, ap, ap₂, ◌∙◌, List, ◌++◌, arith, length, drop}
use Rattle.octets.specs.Put.{Put}
use Rattle.octets.proofs.Puts.{put_whole}
use Rattle.errors.specs.After.{after, write_text}

pub put_written : (l l' t : List ℕ) (r : ℕ) → Put l 0 t r l' → length t ≤ length l → after r l' ≡ write_text t l
put_written l l' t r p h =
    let e : 0 + length t ≡ length t = omega arith in
    ap₂ (λ (k : ℕ) (x : List ℕ). after k x) (p.next ∙ e) (put_whole p (omega arith) ∙ ap (λ (k : ℕ). t ++ drop k l) e)
