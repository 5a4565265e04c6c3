-- What is written of a picture, point by point, is the text of its points.
use Rattle.std.proofs.Common.{ℕ, ◌+◌, ◌≤◌, ◌<◌, ◌≡◌, refl, sym, ap, ◌∙◌, Bool, true, false, List, [], ◌∷◌, ◌++◌, append_assoc, length, drop, add-one}
use Rattle.std.proofs.Math.Seq.{drop-cons}
use Rattle.std.proofs.Math.ListN.{drop_of_length-le}
use Rattle.octets.specs.Ascii.{ascii}
use Rattle.text.specs.declared.Text.{Text}
use Rattle.text.specs.Texts.{append}
use Rattle.text.proofs.Appending.{append-append, append-nil}
use Rattle.board_picture.specs.Lines.{ShownPart, first_of, no_part, part_at}
use Rattle.board_map.specs.Points.{Point, point_of, lies_within}
use Rattle.board_map.specs.Text.{point_text, points_text}
use Rattle.board_map.specs.Written.{points_in, separator, further_text}

-- a point more
further : (any : Bool) (q : Point) (qs : List Point) → further_text any (q ∷ qs) ≡ separator any ++ (point_text q ++ further_text true qs)
unfolding points_text
further true q qs = append_assoc (ascii ",") (point_text q) (further_text true qs)
further false q qs = refl

none-further : (any : Bool) → further_text any [] ≡ []
unfolding points_text
none-further true = refl
none-further false = refl

module _ (ps : List ShownPart) (k : ℕ) (h : k < length ps) where
  abbrev point : Point
  point = point_of (first_of (part_at ps k))

  next : drop k ps ≡ part_at ps k ∷ drop (k + 1) ps
  next = drop-cons ps k no_part h ∙ ap (λ (i : ℕ). part_at ps k ∷ drop i ps) (sym (add-one k))

  -- one that lies within is written, and what is left is behind it
  pub one-more : (a b d o : Text) (any then : Bool) → lies_within point ≡ true → b ≡ append a (separator any) → d ≡ append b (point_text point) → o ≡ d → then ≡ true
      → append o (further_text then (points_in (drop (k + 1) ps))) ≡ append a (further_text any (points_in (drop k ps)))
  one-more a b d o any then w e f is t =
      let qs = points_in (drop (k + 1) ps) in
      let left : points_in (drop k ps) ≡ point ∷ qs = ap points_in next ∙ rw w refl in
      rw (is, t, f, e)
      (append-append (append a (separator any)) (point_text point) (further_text true qs)
      ∙ append-append a (separator any) (point_text point ++ further_text true qs)
      ∙ ap (append a) (sym (further any point qs) ∙ sym (ap (further_text any) left)))

  -- one that lies beyond is not
  pub none-more : (a o : Text) (any then : Bool) → lies_within point ≡ false → o ≡ a → then ≡ any
      → append o (further_text then (points_in (drop (k + 1) ps))) ≡ append a (further_text any (points_in (drop k ps)))
  none-more a o any then w is t =
      let left : points_in (drop k ps) ≡ points_in (drop (k + 1) ps) = ap points_in next ∙ rw w refl in
      rw (is, t) (ap (λ (qs : List Point). append a (further_text any qs)) (sym left))

-- nothing is left
pub end : (a b : Text) (any : Bool) (ps : List ShownPart) (k : ℕ) → length ps ≤ k → append b (further_text any (points_in (drop k ps))) ≡ a → b ≡ a
end a b any ps k h e =
    sym (append-nil b) ∙ ap (append b) (sym (none-further any) ∙ sym (ap (λ (qs : List ShownPart). further_text any (points_in qs)) (drop_of_length-le ps h))) ∙ e
