-- The board after the answers, and the cases of a session's output.
use Rattle.std.proofs.Common.{ℕ, ◌+◌, ◌-◌, ◌≤◌, ◌<◌, ◌≡◌, refl, sym, ap, ◌∙◌, List, [], ◌∷◌, ◌++◌, append_assoc, arith, length, take, drop, length-drop, drop-drop}
use lib.Seq.{sets-eq}
use Rattle.octets.specs.Put.{Put}
use Rattle.octets.proofs.Moves.{tail-back, tail-lent}
use Rattle.octets.proofs.Puts.{put_whole}
use Rattle.session_text.specs.Output.{no_transmissions, printed}

-- a text that was written into the rest of a buffer
pub put-behind : (l y t : List ℕ) (at n : ℕ) → at + length t ≤ length l → Put (take (length l - at) (drop at l)) 0 t n y
    → Put l at t (at + n) (take at l ++ (y ++ drop (length l - at) (drop at l)))
put-behind l y t at n h p =
    let rest : Put (drop at l) 0 t n y = rw tail-lent at p in
    let d = length-drop at l in
    let z : 0 + length t ≡ length t = omega arith in
    let whole : y ≡ t ++ drop (length t) (drop at l) = put_whole rest (omega (arith, d)) ∙ ap (λ (k : ℕ). t ++ drop k (drop at l)) z in
    record {
      next = ap (λ (k : ℕ). at + k) (rest.next ∙ z);
      bytes = tail-back l y at
          ∙ ap (λ (z : List ℕ). take at l ++ z) (whole ∙ ap (λ (z : List ℕ). t ++ z) (drop-drop (length t) at l))
          ∙ sym (sets-eq t l at h ∙ append_assoc (take at l) t (drop (at + length t) l));
    }

-- a board without bytes, and one with bytes
pub printed-none : (t : List ℕ) → length t ≡ 0 → t ++ no_transmissions ≡ printed t
printed-none [] h = refl
printed-none (b ∷ t) h = absurd (omega arith)

pub printed-some : (t : List ℕ) → 0 < length t → t ≡ printed t
printed-some [] h = absurd (omega arith)
printed-some (b ∷ t) h = refl
