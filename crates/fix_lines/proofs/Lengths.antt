-- How long the text of transmissions is.
use Rattle.std.proofs.Common.{ℕ, suc, ◌+◌, ◌*◌, ◌≤◌, ◌≡◌, refl, ◌⊎◌, inl, inr, List, [], ◌∷◌, arith, length, length-append}
use mathlib.Core.List.{flat_map}
use Rattle.octets.specs.Ascii.{ascii}
use Rattle.fixes.specs.Shown.{Transmission}
use Rattle.fix_lines.specs.Text.{ranked_text, dominated_text, refused_text, text_of, text_from, board_text}
use Rattle.fix_lines.specs.Widths.{header_width, refused_width}
use Rattle.fix_lines.proofs.Widths.{header-width, line-width, refused-width}

each-width : {X : Type 0} (f : X → List ℕ) → ((x : X) → length (f x) ≤ refused_width) → (xs : List X) → length (flat_map f xs) ≤ length xs * refused_width
unfolding flat_map
each-width f w [] = omega arith
each-width f w (x ∷ xs) = let p = w x in let q = each-width f w xs in rw (length-append (f x) (flat_map f xs)) (omega arith)

-- a line for each fix
abbrev pub lines_in : Transmission → ℕ
lines_in t = length t.ranked + (length t.dominated + length t.refused)

abbrev pub all_lines : List Transmission → ℕ
all_lines [] = 0
all_lines (t ∷ ts) = lines_in t + all_lines ts

text-width : (k : ℕ) (t : Transmission) → (46 ≤ length (text_of k t)) × (length (text_of k t) ≤ header_width + lines_in t * refused_width)
unfolding text_of
text-width k t =
    let h = header-width k (length t.ranked) (length t.dominated) (length t.refused) in
    let r = each-width ranked_text (λ f. let x = line-width (ascii "ranked") f.record_bytes f.signers (unfold ascii in omega arith) in omega arith) t.ranked in
    let d = each-width dominated_text (λ f. let x = line-width (ascii "dominated") f.record_bytes f.signers (unfold ascii in omega arith) in omega arith) t.dominated in
    let x = each-width refused_text (λ y. refused-width y.item.record_bytes y.item.signers y.chi2) t.refused in
    simp length-append (omega (arith, h.0), omega (arith, h.1, r, d, x))

pub texts-width : (k : ℕ) (ts : List Transmission) → length (text_from k ts) ≤ length ts * header_width + all_lines ts * refused_width
unfolding text_from
texts-width k [] = omega arith
texts-width k (t ∷ ts) =
    let a = text-width k t in
    let r = texts-width (suc k) ts in
    rw (length-append (text_of k t) (text_from (suc k) ts)) (omega (arith, a.1, r))

-- the length of a board is 0, or greater than every refusal's number
pub board-long : (ts : List Transmission) → (length (board_text ts) ≡ 0) ⊎ (46 ≤ length (board_text ts))
unfolding text_from
board-long [] = inl refl
board-long (t ∷ ts) = let a = text-width 1 t in inr (rw (length-append (text_of 1 t) (text_from 2 ts)) (omega (arith, a.0)))
