-- What is written of a picture, line by line, is the bytes of the entries of what is shown.
use Rattle.std.proofs.Common.{◌≡◌, ◌+◌, ◌-◌, ◌≤◌, ◌<◌, ◌++◌, ◌∙◌, refl, sym, ap, ap₂, length, drop, map, List, [], ◌∷◌, ℕ, zero, suc, add-one, flat_map}
use Rattle.std.proofs.Math.ListN.{drop_of_length-le, length-map}
use Rattle.std.proofs.Math.Seq.{drop-cons}
use Rattle.std.proofs.lemmas.List.{map-append}
use Rattle.std.proofs.lemmas.Grind.{flat_map-append}
use Rattle.text.specs.declared.Text.{Text}
use Rattle.text.specs.Texts.{append}
use Rattle.text.proofs.Appending.{append-append, append-nil}
use Rattle.fixes.specs.Fix.{Fix}
use Rattle.fixes.specs.Shown.{Transmission, shown}
use Rattle.lists.specs.Lists.{sort}
use Rattle.board_transmissions.specs.Transmissions.{transmissions_of}
use Rattle.board_transmissions.proofs.Indexed.{map-map}
use Rattle.board_picture.specs.Picture.{older_than, latest_of, max_shown}
use Rattle.board_picture.specs.Lines.{ShownLine, ShownPart, line_of, refused_line_of, lines_of, part_of, no_part, part_at, all_counted}
use Rattle.fix_lines.specs.declared.Standing.{Standing}
use Rattle.fix_lines.specs.declared.Standing.TheVariants.{Ranked, Dominated}
use Rattle.board_values.specs.Entries.{Entry, entry, refused_entry, fixes_shown, entries_of, entries_from}
use Rattle.board_values.specs.Written.{entry_bytes}
use Rattle.board_values.specs.Drawn.{fixes_on, part_bytes, parts_bytes, fixes_over}

-- ---- the lines of a transmission

pub flat-map : {A B : Type 0} (f : B → List ℕ) (g : A → B) (l : List A) → flat_map f (map g l) ≡ flat_map (λ x. f (g x)) l
flat-map f g [] = refl
flat-map f g (x ∷ l) = ap (λ t. f (g x) ++ t) (flat-map f g l)

fixes-back : (s : Standing) (l : List Fix) → fixes_on (map (line_of s) l) ≡ l
fixes-back s [] = refl
fixes-back s (f ∷ l) = ap (λ (k : List Fix). f ∷ k) (fixes-back s l)

module _ (t : Transmission) where
  fixes-are : fixes_on (lines_of t) ≡ fixes_shown t
  fixes-are =
      map-append (λ (l : ShownLine). l.fix) (map (line_of Ranked) t.ranked) (map (line_of Dominated) t.dominated ++ map refused_line_of t.refused)
      ∙ ap₂ (λ a b. a ++ b) (fixes-back Ranked t.ranked)
      (map-append (λ (l : ShownLine). l.fix) (map (line_of Dominated) t.dominated) (map refused_line_of t.refused)
      ∙ ap₂ (λ a b. a ++ b) (fixes-back Dominated t.dominated) (map-map (λ (l : ShownLine). l.fix) refused_line_of t.refused))

  module _ (ps : List (List ℕ)) (number before : ℕ) where
    abbrev of_line : List Fix → ShownLine → Entry
    of_line fs l = entry ps number before fs l.standing l.fix l.against

    entries-are : (fs : List Fix) → map (of_line fs) (lines_of t)
        ≡ map (λ (f : Fix). entry ps number before fs Ranked f f) t.ranked ++ (map (λ (f : Fix). entry ps number before fs Dominated f f) t.dominated ++ map (refused_entry ps number before fs) t.refused)
    entries-are fs =
        map-append (of_line fs) (map (line_of Ranked) t.ranked) (map (line_of Dominated) t.dominated ++ map refused_line_of t.refused)
        ∙ ap₂ (λ a b. a ++ b) (map-map (of_line fs) (line_of Ranked) t.ranked)
        (map-append (of_line fs) (map (line_of Dominated) t.dominated) (map refused_line_of t.refused)
        ∙ ap₂ (λ a b. a ++ b) (map-map (of_line fs) (line_of Dominated) t.dominated) (map-map (of_line fs) refused_line_of t.refused))

    pub part-is : part_bytes ps number before (part_of t) ≡ flat_map entry_bytes (entries_of ps number before t)
    part-is =
        ap (λ (fs : List Fix). flat_map (λ (l : ShownLine). entry_bytes (of_line fs l)) (lines_of t)) fixes-are
        ∙ sym (flat-map entry_bytes (of_line (fixes_shown t)) (lines_of t))
        ∙ ap (flat_map entry_bytes) (entries-are (fixes_shown t))

pub parts-are : (ps : List (List ℕ)) (number before : ℕ) (us : List Transmission) → parts_bytes ps number before (map part_of us) ≡ flat_map entry_bytes (entries_from ps number before us)
unfolding parts_bytes entries_from
parts-are ps number before [] = refl
parts-are ps number before (t ∷ us) =
    let next = before + (length t.ranked + (length t.dominated + length t.refused)) in
    ap₂ (λ (a : List ℕ) (b : List ℕ). a ++ b) (part-is t ps number before) (parts-are ps (suc number) next us)
    ∙ sym (flat_map-append entry_bytes (entries_of ps number before t) (entries_from ps (suc number) next us))

-- ---- one after another, from the kth on

-- one transmission, and what is left
pub next : (ps : List (List ℕ)) (a b : Text) (qs : List ShownPart) (k n m before then : ℕ) → k < length qs → m ≡ n + 1 → then ≡ before + all_counted (part_at qs k).counts → b ≡ append a (part_bytes ps (n + 1) before (part_at qs k))
    → append b (parts_bytes ps (m + 1) then (drop (k + 1) qs)) ≡ append a (parts_bytes ps (n + 1) before (drop k qs))
unfolding parts_bytes
next ps a b qs k n m before then h more counted e =
    let p = part_bytes ps (n + 1) before (part_at qs k) in
    let z = before + all_counted (part_at qs k).counts in
    ap₂ (λ (i j : ℕ). append b (parts_bytes ps (i + 1) j (drop (k + 1) qs))) more counted
    ∙ ap (λ (x : Text). append x (parts_bytes ps (n + 1 + 1) z (drop (k + 1) qs))) e
    ∙ append-append a p (parts_bytes ps (n + 1 + 1) z (drop (k + 1) qs))
    ∙ ap (append a) (rw (drop-cons qs k no_part h, add-one (n + 1), add-one k) refl)

-- nothing is left
pub end : (ps : List (List ℕ)) (a b : Text) (qs : List ShownPart) (k n before : ℕ) → length qs ≤ k → append b (parts_bytes ps n before (drop k qs)) ≡ a → b ≡ a
unfolding parts_bytes
end ps a b qs k n before h e = sym (append-nil b) ∙ sym (ap (λ (rs : List ShownPart). append b (parts_bytes ps n before rs)) (drop_of_length-le qs h)) ∙ e

-- ---- the latest of all

drop-map : {A B : Type 0} (f : A → B) (k : ℕ) (l : List A) → drop k (map f l) ≡ map f (drop k l)
drop-map f zero l = refl
drop-map f (suc k) [] = refl
drop-map f (suc k) (x ∷ l) = drop-map f k l

pub latest-drawn : (rs : List (List ℕ)) (fs : List Fix) (ts : List (List Fix)) → ts ≡ transmissions_of fs → (ps : List ShownPart) → ps ≡ map part_of (sort older_than (map shown ts)) → (k : ℕ) → k ≡ length ps - max_shown
    → parts_bytes rs 1 0 (drop k ps) ≡ fixes_over rs fs
latest-drawn rs fs ts is ps shows k from =
    let s = sort older_than (map shown ts) in
    let n : length ps ≡ length s = ap (λ (z : List ShownPart). length z) shows ∙ length-map s part_of in
    ap (λ (z : List ShownPart). parts_bytes rs 1 0 (drop k z)) shows
    ∙ ap (parts_bytes rs 1 0) (drop-map part_of k s)
    ∙ parts-are rs 1 0 (drop k s)
    ∙ ap (λ (i : ℕ). flat_map entry_bytes (entries_from rs 1 0 (drop i s))) (from ∙ ap (λ (m : ℕ). m - max_shown) n)
    ∙ ap (λ (z : List (List Fix)). flat_map entry_bytes (entries_from rs 1 0 (latest_of (sort older_than (map shown z))))) is
