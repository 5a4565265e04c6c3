-- What was put at the start of a buffer is its beginning.
use Rattle.std.proofs.Common.{◌≡◌, ◌∙◌, ap, ℕ, ◌+◌, ◌≤◌, List, ◌++◌, length, take, drop, arith}
use Rattle.std.proofs.lemmas.List.{take_all, take-append-le}
use Rattle.octets.specs.Put.{Put}
use Rattle.octets.proofs.Puts.{put_whole}

pub front-put : (l l' t : List ℕ) (n : ℕ) → Put l 0 t n l' → length t ≤ length l → take n l' ≡ t
front-put l l' t n p h =
    let whole : l' ≡ t ++ drop (0 + length t) l = put_whole p (omega arith) in
    let size : n ≡ length t = omega (arith, p.next) in
    ap (λ (k : ℕ). take k l') size ∙ ap (take (length t)) whole ∙ take-append-le (length t) t (drop (0 + length t) l) (omega arith) ∙ take_all (length t) t (omega arith)
