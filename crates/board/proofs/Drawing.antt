-- What is written of a picture, line by line, is the text of what is shown.
use Rattle.std.proofs.Common.{◌≡◌, ◌+◌, ◌-◌, ◌≤◌, ◌<◌, ◌++◌, ◌∙◌, refl, sym, ap, ap₂, length, take, take_at, drop, map, List, [], ◌∷◌, ℕ, zero, suc, add-one, flat_map}
use Rattle.std.proofs.Math.ListN.{drop_of_length-le, length-map}
use Rattle.std.proofs.Math.Seq.{drop-cons}
use Rattle.std.proofs.lemmas.Grind.{flat_map-append}
use Rattle.text.specs.declared.Text.{Text}
use Rattle.text.specs.Texts.{append}
use Rattle.text.proofs.Appending.{append-append, append-nil}
use Rattle.fixes.specs.Fix.{Fix}
use Rattle.fixes.specs.Shown.{Transmission, shown}
use Rattle.lists.specs.Lists.{sort}
use Rattle.board_transmissions.specs.Transmissions.{transmissions_of}
use Rattle.board_picture.specs.Picture.{older_than, latest_of, max_shown}
use Rattle.board_picture.specs.Lines.{ShownPart, line_of, refused_line_of, lines_of, part_of, no_part, part_at}
use Rattle.fix_lines.specs.declared.Standing.TheVariants.{Ranked, Dominated}
use Rattle.desks.specs.declared.Desk.{Desk}
use Rattle.desks.specs.declared.Desk.TheVariants.{Crew, Analyst, Manager}
use Rattle.fix_lines.specs.Lines.{header}
use Rattle.fix_lines.specs.Crew.{crew_header, crew_text_of, crew_text_from}
use Rattle.fix_lines.specs.Text.{ranked_text, dominated_text, refused_text, text_of, text_from}
use Rattle.board.specs.Drawn.{line_text, part_text, crew_part_text, part_text_for, parts_text}
use Rattle.board.specs.Latest.{latest_over, text_for}

-- ---- the lines of a transmission

pub flat-map : {A B : Type 0} (f : B → List ℕ) (g : A → B) (l : List A) → flat_map f (map g l) ≡ flat_map (λ x. f (g x)) l
flat-map f g [] = refl
flat-map f g (x ∷ l) = ap (λ t. f (g x) ++ t) (flat-map f g l)

module _ (t : Transmission) where
  body : flat_map line_text (lines_of t) ≡ flat_map ranked_text t.ranked ++ (flat_map dominated_text t.dominated ++ flat_map refused_text t.refused)
  body =
      flat_map-append line_text (map (line_of Ranked) t.ranked) (map (line_of Dominated) t.dominated ++ map refused_line_of t.refused)
      ∙ ap₂ (λ a b. a ++ b) (flat-map line_text (line_of Ranked) t.ranked)
      (flat_map-append line_text (map (line_of Dominated) t.dominated) (map refused_line_of t.refused)
      ∙ ap₂ (λ a b. a ++ b) (flat-map line_text (line_of Dominated) t.dominated) (flat-map line_text refused_line_of t.refused))

  part-is : (number : ℕ) → part_text number (part_of t) ≡ text_of number t
  unfolding text_of mathlib.Core.List.flat_map
  part-is number = ap (λ (b : List ℕ). header number (length t.ranked) (length t.dominated) (length t.refused) ++ b) body

  -- the ranked come first, as many as are counted
  ranked-are : take (length t.ranked) (lines_of t) ≡ map (line_of Ranked) t.ranked
  ranked-are = take_at (map (line_of Ranked) t.ranked) _ (length t.ranked) (length-map t.ranked (line_of Ranked))

  crew-part-is : (number : ℕ) → crew_part_text number (part_of t) ≡ crew_text_of number t
  unfolding crew_text_of mathlib.Core.List.flat_map
  crew-part-is number = ap (λ (b : List ℕ). crew_header number ++ b) (ap (flat_map line_text) ranked-are ∙ flat-map line_text (line_of Ranked) t.ranked)

-- in the form of each desk
pub parts-are : (desk : Desk) (number : ℕ) (us : List Transmission) → parts_text desk number (map part_of us) ≡ text_for desk number us
unfolding parts_text text_from crew_text_from
parts-are Crew number [] = refl
parts-are Crew number (t ∷ us) = ap₂ (λ (a : List ℕ) (b : List ℕ). a ++ b) (crew-part-is t number) (parts-are Crew (suc number) us)
parts-are Analyst number [] = refl
parts-are Analyst number (t ∷ us) = ap₂ (λ (a : List ℕ) (b : List ℕ). a ++ b) (part-is t number) (parts-are Analyst (suc number) us)
parts-are Manager number [] = refl
parts-are Manager number (t ∷ us) = ap₂ (λ (a : List ℕ) (b : List ℕ). a ++ b) (part-is t number) (parts-are Manager (suc number) us)

-- ---- one after another, from the kth on

-- one transmission, and what is left
pub next : (desk : Desk) (a b : Text) (ps : List ShownPart) (k n m : ℕ) → k < length ps → m ≡ n + 1 → b ≡ append a (part_text_for desk (n + 1) (part_at ps k))
    → append b (parts_text desk (m + 1) (drop (k + 1) ps)) ≡ append a (parts_text desk (n + 1) (drop k ps))
unfolding parts_text
next desk a b ps k n m h more e =
    let p = part_text_for desk (n + 1) (part_at ps k) in
    ap (λ (i : ℕ). append b (parts_text desk (i + 1) (drop (k + 1) ps))) more
    ∙ ap (λ (x : Text). append x (parts_text desk (n + 1 + 1) (drop (k + 1) ps))) e
    ∙ append-append a p (parts_text desk (n + 1 + 1) (drop (k + 1) ps))
    ∙ ap (append a) (rw (drop-cons ps k no_part h, add-one (n + 1), add-one k) refl)

-- nothing is left
pub end : (desk : Desk) (a b : Text) (ps : List ShownPart) (k n : ℕ) → length ps ≤ k → append b (parts_text desk n (drop k ps)) ≡ a → b ≡ a
unfolding parts_text
end desk a b ps k n h e = sym (append-nil b) ∙ sym (ap (λ (qs : List ShownPart). append b (parts_text desk n qs)) (drop_of_length-le ps h)) ∙ e

-- ---- the latest of all

drop-map : {A B : Type 0} (f : A → B) (k : ℕ) (l : List A) → drop k (map f l) ≡ map f (drop k l)
drop-map f zero l = refl
drop-map f (suc k) [] = refl
drop-map f (suc k) (x ∷ l) = drop-map f k l

pub latest-drawn : (desk : Desk) (fs : List Fix) (ts : List (List Fix)) → ts ≡ transmissions_of fs → (ps : List ShownPart) → ps ≡ map part_of (sort older_than (map shown ts)) → (k : ℕ) → k ≡ length ps - max_shown
    → parts_text desk 1 (drop k ps) ≡ text_for desk 1 (latest_over fs)
latest-drawn desk fs ts is ps shows k from =
    let s = sort older_than (map shown ts) in
    let n : length ps ≡ length s = ap (λ (z : List ShownPart). length z) shows ∙ length-map s part_of in
    ap (λ (z : List ShownPart). parts_text desk 1 (drop k z)) shows
    ∙ ap (parts_text desk 1) (drop-map part_of k s)
    ∙ parts-are desk 1 (drop k s)
    ∙ ap (λ (i : ℕ). text_for desk 1 (drop i s)) (from ∙ ap (λ (m : ℕ). m - max_shown) n)
    ∙ ap (λ (z : List (List Fix)). text_for desk 1 (latest_of (sort older_than (map shown z)))) is
