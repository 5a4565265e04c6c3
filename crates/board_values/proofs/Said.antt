-- The record at the place that an entry names is the one that represents its fix, and so a line is what its entry and that record say.
use Rattle.std.proofs.Common.{ℕ, suc, ◌≡◌, refl, sym, ap, ap₂, subst, ◌∙◌, true, List, [], ◌∷◌, ◌++◌, map, take, get_or, arith}
use mathlib.Core.List.Memᴰ
use mathlib.Core.List.{Memᴰ}
use Rattle.std.specs.List.{filter}
use Rattle.lists.proofs.Lists.{filter-in, map-from}
use Rattle.lists.proofs.Bools.{by, or}
use Rattle.octets.specs.Order.{same, is_before}
use Rattle.octets.proofs.Comparison.{same-eq, same_refl}
use Rattle.record.specs.Layout.{record_size}
use Rattle.arithmetic.specs.declared.standing.ChiSquare.{ChiSquare}
use Rattle.decision_rule.specs.Outcome.{Refused as RefusedFix}
use Rattle.fixes.specs.Fix.{Fix}
use Rattle.fixes.specs.Shown.{Transmission, lower}
use Rattle.models.specs.Models.{counts}
use Rattle.fix_lines.specs.declared.Standing.TheVariants.{Ranked, Dominated, Refused}
use Rattle.fix_lines.specs.Standings.{standing_line}
use Rattle.board_fixes.specs.Fixes.{record_in, fix_of_place, unite, enter, enter_all, fixes_of}
use Rattle.board.proofs.Held.{all-entered}
use Rattle.board_picture.specs.Picture.{picture}
use Rattle.register.specs.Register.{Register}
use Rattle.board_values.specs.Entries.{place_of, fixes_shown, entries_of, entries_shown}
use Rattle.board_values.specs.Claims.{entries, on_board, line_by_line, of_fixes, record_named, line_said, lines_of, EntriesSayLines}
use Rattle.board_values.proofs.Counted.{fix-of}
use Rattle.board_values.proofs.Lines.{each-of, each-from, of-fixes}

-- ---- each fix of a register is represented by a record of a place

abbrev Stands : List (List ℕ) → Fix → Type 0
Stands ps f = (p : List ℕ) × Memᴰ p ps × (record_in p ≡ f.record_bytes)

united : (ps : List (List ℕ)) (g f : Fix) → Stands ps g → Stands ps f → Stands ps (unite g f)
united ps g f u v = by (is_before f.record_bytes g.record_bytes) (λ h. rw h v) (λ h. rw h u)

module _ (ps : List (List ℕ)) where
  stands : (ss : List (List ℕ)) → (f : Fix) → Memᴰ f (fixes_of ss ps) → Stands ps f
  unfolding fixes_of
  stands ss =
      all-entered (Stands ps) (united ps) [] (map (fix_of_place ss) (filter (λ p. counts ss (record_in p)) ps)) (λ f k. absurd (Memᴰ.not-nil k))
      (λ f k.
      let r = map-from (fix_of_place ss) (filter (λ p. counts ss (record_in p)) ps) f k in
      (r.0, (filter-in (λ p. counts ss (record_in p)) ps r.0 r.1).0, ap (λ (x : Fix). x.record_bytes) (sym r.2)))

-- ---- the place at which it is looked for

found : (ps : List (List ℕ)) (r p : List ℕ) → Memᴰ p ps → record_in p ≡ r → record_in (get_or ps (place_of ps r) []) ≡ r
unfolding place_of
found [] r p m e = absurd (Memᴰ.not-nil m)
found (q ∷ ps) r p m e =
    by (same (take record_size q) r)
    (λ h. rw h (same-eq (take record_size q) r h))
    (λ h. rw h (or (Memᴰ.cases_cons m) (λ k. let z : same (take record_size q) r ≡ true = ap (λ (x : List ℕ). same x r) (ap record_in (sym k) ∙ e) ∙ same_refl r in absurd (grind (arith, h, z))) (λ k. found ps r p k e)))

-- ---- lines of a board

pub same-on : {A B : Type 0} (h k : A → B) (l : List A) → ((x : A) → Memᴰ x l → h x ≡ k x) → map h l ≡ map k l
same-on h k [] w = refl
same-on h k (x ∷ l) w = ap₂ (λ y ys. y ∷ ys) (w x (Memᴰ.head refl)) (same-on h k l (λ y m. w y (Memᴰ.tail m)))

say-same : {B : Type 0} (say other : ℕ → Transmission → List B) (number : ℕ) (ts : List Transmission) → ((n : ℕ) (t : Transmission) → Memᴰ t ts → say n t ≡ other n t)
    → line_by_line say number ts ≡ line_by_line other number ts
unfolding line_by_line
say-same say other number [] w = refl
say-same say other number (t ∷ ts) w = ap₂ (λ x y. x ++ y) (w number t (Memᴰ.head refl)) (say-same say other (suc number) ts (λ n u m. w n u (Memᴰ.tail m)))

module _ (s : Register) where
  -- what stands at the place of a fix
  abbrev there : Fix → List ℕ
  there f = record_in (get_or s.records (place_of s.records f.record_bytes) [])

  pub there-is : (t : Transmission) (f : Fix) → Memᴰ t (on_board s) → Memᴰ f (fixes_shown t) → there f ≡ f.record_bytes
  unfolding picture
  there-is t f m k =
      let p = stands s.records s.summaries f (fix-of (fixes_of s.summaries s.records) t f m k) in
      found s.records f.record_bytes p.0 p.1 p.2

  pub named : map (record_named s.records) (entries s) ≡ line_by_line (of_fixes (λ f. f.record_bytes)) 1 (on_board s)
  unfolding entries_shown
  named =
      each-from (record_named s.records) s.records (of_fixes there) (λ n b t. each-of (record_named s.records) s.records n b t ∙ of-fixes there t) 1 0 (on_board s)
      ∙ say-same (of_fixes there) (of_fixes (λ f. f.record_bytes)) 1 (on_board s) (λ n t m. same-on there (λ f. f.record_bytes) (fixes_shown t) (λ f k. there-is t f m k))

  said : ℕ → Transmission → List (List ℕ)
  said n t =
      map (λ (f : Fix). standing_line Ranked (there f) f.signers) t.ranked
      ++ (map (λ (f : Fix). standing_line Dominated (there f) f.signers) t.dominated
      ++ map (λ (r : RefusedFix Fix ChiSquare). standing_line (Refused r.chi2) (there r.item) r.item.signers) t.refused)

  said-is : (n : ℕ) (t : Transmission) → Memᴰ t (on_board s) → said n t ≡ lines_of n t
  unfolding said
  said-is n t m =
      let item = λ (r : RefusedFix Fix ChiSquare). r.item in
      let is : (f : Fix) → Memᴰ f (fixes_shown t) → there f ≡ f.record_bytes = λ f k. there-is t f m k in
      ap₂ (λ x y. x ++ y)
      (same-on _ _ t.ranked (λ f k. ap (λ (r : List ℕ). standing_line Ranked r f.signers) (is f (Memᴰ.append_left (t.dominated ++ map item t.refused) k))))
      (ap₂ (λ x y. x ++ y)
      (same-on _ _ t.dominated (λ f k. ap (λ (r : List ℕ). standing_line Dominated r f.signers) (is f (Memᴰ.append_right t.ranked (Memᴰ.append_left (map item t.refused) k)))))
      (same-on _ _ t.refused (λ r k. ap (λ (x : List ℕ). standing_line (Refused r.chi2) x r.item.signers) (is r.item (Memᴰ.append_right t.ranked (Memᴰ.append_right t.dominated (Memᴰ.map item k)))))))

  -- of one transmission
  pub lines-said : (number before : ℕ) (t : Transmission) → Memᴰ t (on_board s) → map (line_said s.records) (entries_of s.records number before t) ≡ lines_of number t
  unfolding said
  lines-said number before t m = each-of (line_said s.records) s.records number before t ∙ said-is number t m

  pub lines : map (line_said s.records) (entries s) ≡ line_by_line lines_of 1 (on_board s)
  unfolding entries_shown said
  lines =
      each-from (line_said s.records) s.records said (λ n b t. each-of (line_said s.records) s.records n b t) 1 0 (on_board s)
      ∙ say-same said lines_of 1 (on_board s) said-is

pub say-lines : EntriesSayLines
say-lines = record { named = named; lines = lines }
