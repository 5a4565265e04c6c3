-- What a crew's text has of the full one: it follows from it, it is no longer, and how long it is at least.
use Rattle.std.proofs.Common.{ℕ, zero, suc, ◌+◌, ◌/◌, ◌%◌, ◌≤◌, ◌≡◌, refl, sym, ap, ◌∙◌, Bool, true, false, ℤ, pos, negsuc, Option, Some, None, arith, leb, ltb, ◌==◌, length, length-append, append_assoc, leb-true, le-leb, All}
use mathlib.Core.List.{List, [], ◌∷◌, ◌++◌, flat_map}
use lib.Ieee.{binary64, to_bits}
use Rattle.std.specs.List.{list_all, before_first, position_or_len}
use Rattle.std.proofs.lemmas.List.Elements.{All-nil, All-cons}
use Rattle.std.proofs.lemmas.List.Folds.{list_all-append}
use Rattle.std.proofs.lemmas.List.Splits.{slice_split_at}
use Rattle.lists.proofs.Bools.{by, and_left, and_right, and_both}
use Rattle.octets.specs.Ascii.{ascii}
use Rattle.text.specs.Numbers.{digits, decimal, signed_decimal, hex, hex_digit}
use Rattle.text.specs.Heights.{metres}
use Rattle.record.specs.Fields.{time, latitude, longitude, height, weight}
use Rattle.decision_rule.specs.Outcome.{Refused}
use Rattle.fixes.specs.Fix.{Fix}
use Rattle.fixes.specs.Shown.{Transmission}
use Rattle.fix_lines.specs.Lines.{header, where_when, metres_text, height_text, fix_text, fix_line, chi_square_text, refused_line}
use Rattle.fix_lines.specs.Text.{header_of, ranked_text, dominated_text, refused_text, text_of, text_from}
use Rattle.fix_lines.specs.Crew.{crew_header, crew_text_of, crew_text_from}
use Rattle.fix_lines.specs.CrewFromFull.{crew_line, crew_part, CrewFromFull}
use Rattle.arithmetic.specs.declared.standing.ChiSquare.{ChiSquare}
use Rattle.arithmetic.specs.declared.standing.ChiSquare.TheVariants.{Measured, Unmeasured}

-- ---- bytes of lines

-- each byte is this one at least
abbrev from : ℕ → List ℕ → Bool
from k t = list_all (leb k) t

both : (k : ℕ) (t u : List ℕ) → from k t ≡ true → from k u ≡ true → from k (t ++ u) ≡ true
both k t u p q = list_all-append (leb k) t u ∙ and_both (from k t) (from k u) p q

digits-from : (k : ℕ) → k ≤ 48 → (j n : ℕ) → from k (digits j n) ≡ true
unfolding digits
digits-from k h zero n = rw (le-leb k (48 + n % 10) (omega arith)) refl
digits-from k h (suc j) n =
    by (ltb n 10) (λ b. rw (b, le-leb k (48 + n % 10) (omega arith)) refl)
    (λ b. rw b (both k (digits j (n / 10)) ((48 + n % 10) ∷ []) (digits-from k h j (n / 10)) (rw (le-leb k (48 + n % 10) (omega arith)) refl)))

signed-from : (v : ℤ) → from 11 (signed_decimal v) ≡ true
unfolding signed_decimal
signed-from (pos n) = digits-from 11 (omega arith) 9 n
signed-from (negsuc n) = digits-from 11 (omega arith) 9 (suc n)

hex-digit-from : (d : ℕ) → leb 11 (hex_digit d) ≡ true
hex-digit-from d = by (ltb d 10) (λ b. rw b (le-leb 11 (48 + d) (omega arith))) (λ b. rw b (le-leb 11 (87 + d) (omega arith)))

hex-from : (j n : ℕ) → from 11 (hex j n) ≡ true
unfolding hex
hex-from zero n = refl
hex-from (suc j) n = both 11 (hex j (n / 16)) (hex_digit (n % 16) ∷ []) (hex-from j (n / 16)) (rw (hex-digit-from (n % 16)) refl)

where-from : (r : List ℕ) → from 11 (where_when r) ≡ true
unfolding where_when ascii
where-from r = simp list_all-append (rw (digits-from 11 (omega arith) 19 (time r), signed-from (latitude r), signed-from (longitude r)) refl)

metres-from : (h : Option ℤ) → from 11 (metres_text h) ≡ true
unfolding metres_text ascii
metres-from None = refl
metres-from (Some h) = signed-from (metres h)

height-from : (r : List ℕ) → from 11 (height_text r) ≡ true
unfolding height_text ascii
height-from r = metres-from (height r)

fix-from : (role r : List ℕ) (s : ℕ) → from 11 role ≡ true → from 11 (fix_text role r s) ≡ true
unfolding fix_text ascii
fix-from role r s h = simp list_all-append (rw (h, where-from r, height-from r, digits-from 11 (omega arith) 19 (weight r), hex-from 8 s) refl)

chi-from : (c : ChiSquare) → from 11 (chi_square_text c) ≡ true
unfolding chi_square_text ascii
chi-from (Measured x) = hex-from 16 (to_bits binary64 x)
chi-from Unmeasured = refl

-- ---- line by line

-- no byte of a line is a line feed
no-feed : (t : List ℕ) → from 11 t ≡ true → All (λ b. (b == 10) ≡ false) t
no-feed [] h = All-nil (λ b. (b == 10) ≡ false)
no-feed (b ∷ t) h =
    let here : 11 ≤ b = leb-true 11 b (and_left (leb 11 b) (from 11 t) h) in
    All-cons (λ b. (b == 10) ≡ false) b t (grind arith) (no-feed t (and_right (leb 11 b) (from 11 t) h))

-- a line, and what comes behind it
lined : (l rest : List ℕ) → from 11 l ≡ true → crew_part ((l ++ (10 ∷ [])) ++ rest) ≡ crew_line l ++ crew_part rest
unfolding flat_map
lined l rest h =
    ap (λ (t : List ℕ). crew_part t) (append_assoc l (10 ∷ []) rest)
    ∙ ap (flat_map crew_line) (slice_split_at (λ b. b == 10) l 10 rest (no-feed l h) refl)

-- ---- a header

-- what stands before the first blank
before-blank : (t u : List ℕ) → from 33 t ≡ true → before_first (λ b. b == 32) (t ++ (32 ∷ u)) ≡ t
before-blank [] u h = refl
before-blank (b ∷ t) u h =
    let here : 33 ≤ b = leb-true 33 b (and_left (leb 33 b) (from 33 t) h) in
    let other : (b == 32) ≡ false = grind arith in
    let next : 1 + position_or_len (λ x. x == 32) (t ++ (32 ∷ u)) ≡ suc (position_or_len (λ x. x == 32) (t ++ (32 ∷ u))) = omega arith in
    rw (other, next) (ap (λ (x : List ℕ). b ∷ x) (before-blank t u (and_right (leb 33 b) (from 33 t) h)))

module _ (n a b d : ℕ) where
  -- a header without its line feed
  abbrev numbered : List ℕ
  numbered = ascii "transmission=" ++ decimal n

  abbrev counted : List ℕ
  counted = ascii "ranked=" ++ (decimal a ++ (ascii " dominated=" ++ (decimal b ++ (ascii " refused=" ++ decimal d))))

  header-is : header n a b d ≡ (numbered ++ (32 ∷ counted)) ++ (10 ∷ [])
  unfolding header ascii
  header-is = simp append_assoc

  numbered-from : from 33 numbered ≡ true
  unfolding ascii
  numbered-from = digits-from 33 (omega arith) 19 n

  counted-from : from 11 (numbered ++ (32 ∷ counted)) ≡ true
  unfolding ascii
  counted-from = simp list_all-append (rw (digits-from 11 (omega arith) 19 n, digits-from 11 (omega arith) 19 a, digits-from 11 (omega arith) 19 b, digits-from 11 (omega arith) 19 d) refl)

  header-seen : crew_line (numbered ++ (32 ∷ counted)) ≡ crew_header n
  unfolding crew_header ascii
  header-seen = ap (λ (t : List ℕ). t ++ (10 ∷ [])) (before-blank numbered counted numbered-from)

  header-first : (rest : List ℕ) → crew_part (header n a b d ++ rest) ≡ crew_header n ++ crew_part rest
  header-first rest =
      ap (λ (t : List ℕ). crew_part (t ++ rest)) header-is
      ∙ lined (numbered ++ (32 ∷ counted)) rest counted-from
      ∙ ap (λ (t : List ℕ). t ++ crew_part rest) header-seen

-- ---- a line of each kind

ranked-first : (f : Fix) (rest : List ℕ) → crew_part (ranked_text f ++ rest) ≡ ranked_text f ++ crew_part rest
unfolding fix_line fix_text ascii
ranked-first f rest = lined (fix_text (ascii "ranked") f.record_bytes f.signers) rest (fix-from (ascii "ranked") f.record_bytes f.signers refl)

dominated-first : (f : Fix) (rest : List ℕ) → crew_part (dominated_text f ++ rest) ≡ crew_part rest
unfolding fix_line fix_text ascii
dominated-first f rest = lined (fix_text (ascii "dominated") f.record_bytes f.signers) rest (fix-from (ascii "dominated") f.record_bytes f.signers refl)

refused-first : (r : Refused Fix ChiSquare) (rest : List ℕ) → crew_part (refused_text r ++ rest) ≡ crew_part rest
unfolding refused_line fix_text ascii
refused-first r rest =
    let l : List ℕ = fix_text (ascii "refused") r.item.record_bytes r.item.signers in
    let x : List ℕ = ascii " chi2=" ++ chi_square_text r.chi2 in
    ap (λ (t : List ℕ). crew_part (t ++ rest)) (sym (append_assoc l x (10 ∷ [])))
    ∙ lined (l ++ x) rest (both 11 l x (fix-from (ascii "refused") r.item.record_bytes r.item.signers refl) (chi-from r.chi2))

-- ---- lines one after another

module _ {X : Type 0} (f : X → List ℕ) where
  all-seen : ((x : X) (rest : List ℕ) → crew_part (f x ++ rest) ≡ f x ++ crew_part rest) → (xs : List X) (rest : List ℕ) → crew_part (flat_map f xs ++ rest) ≡ flat_map f xs ++ crew_part rest
  unfolding flat_map
  all-seen seen [] rest = refl
  all-seen seen (x ∷ xs) rest =
      ap (λ (t : List ℕ). crew_part t) (append_assoc (f x) (flat_map f xs) rest)
      ∙ seen x (flat_map f xs ++ rest)
      ∙ ap (λ (t : List ℕ). f x ++ t) (all-seen seen xs rest)
      ∙ sym (append_assoc (f x) (flat_map f xs) (crew_part rest))

  none-seen : ((x : X) (rest : List ℕ) → crew_part (f x ++ rest) ≡ crew_part rest) → (xs : List X) (rest : List ℕ) → crew_part (flat_map f xs ++ rest) ≡ crew_part rest
  unfolding flat_map
  none-seen unseen [] rest = refl
  none-seen unseen (x ∷ xs) rest =
      ap (λ (t : List ℕ). crew_part t) (append_assoc (f x) (flat_map f xs) rest)
      ∙ unseen x (flat_map f xs ++ rest)
      ∙ none-seen unseen xs rest

-- ---- transmissions

transmission-first : (n : ℕ) (t : Transmission) (rest : List ℕ) → crew_part (text_of n t ++ rest) ≡ crew_text_of n t ++ crew_part rest
unfolding text_of crew_text_of
transmission-first n t rest =
    let h : List ℕ = header_of n t in
    let r : List ℕ = flat_map ranked_text t.ranked in
    let d : List ℕ = flat_map dominated_text t.dominated in
    let x : List ℕ = flat_map refused_text t.refused in
    ap (λ (z : List ℕ). crew_part z) (append_assoc h (r ++ (d ++ x)) rest ∙ ap (λ (z : List ℕ). h ++ z) (append_assoc r (d ++ x) rest ∙ ap (λ (z : List ℕ). r ++ z) (append_assoc d x rest)))
    ∙ header-first n (length t.ranked) (length t.dominated) (length t.refused) (r ++ (d ++ (x ++ rest)))
    ∙ ap (λ (z : List ℕ). crew_header n ++ z)
    (all-seen ranked_text ranked-first t.ranked (d ++ (x ++ rest))
    ∙ ap (λ (z : List ℕ). r ++ z) (none-seen dominated_text dominated-first t.dominated (x ++ rest) ∙ none-seen refused_text refused-first t.refused rest))
    ∙ sym (append_assoc (crew_header n) r (crew_part rest))

from-text : (n : ℕ) (ts : List Transmission) → crew_part (text_from n ts) ≡ crew_text_from n ts
unfolding text_from crew_text_from flat_map ascii
from-text n [] = refl
from-text n (t ∷ ts) = transmission-first n t (text_from (suc n) ts) ∙ ap (λ (z : List ℕ). crew_text_of n t ++ z) (from-text (suc n) ts)

pub crew-from-full : CrewFromFull
crew-from-full ts = from-text 1 ts

-- ---- how long it is

header-longer : (n a b d : ℕ) → length (crew_header n) ≤ length (header n a b d)
unfolding header crew_header ascii
header-longer n a b d = simp length-append (omega arith)

pub crew-shorter : (n : ℕ) (ts : List Transmission) → length (crew_text_from n ts) ≤ length (text_from n ts)
unfolding text_from crew_text_from text_of crew_text_of
crew-shorter n [] = omega arith
crew-shorter n (t ∷ ts) =
    let h = header-longer n (length t.ranked) (length t.dominated) (length t.refused) in
    let more = crew-shorter (suc n) ts in
    simp length-append (omega arith)
