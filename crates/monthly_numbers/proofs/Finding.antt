-- What is found of a held record: whether it counts, its fix, and the ending of that.
use Rattle.std.proofs.Common.{ℕ, ◌<◌, ◌≤◌, ◌≡◌, refl, sym, ap, ◌∙◌, subst, Bool, true, false, cond, ◌&&◌, ◌+◌, arith, append_assoc, length-append, Option, Some, None, length, get_or, ltb, ltb-false}
use mathlib.Core.List.Memᴰ
use mathlib.Core.List.{List, [], ◌∷◌, ◌++◌, map, Memᴰ}
use Rattle.std.specs.List.{list_all, position, position_or_len}
use Rattle.std.proofs.lemmas.Option.{none-some}
use Rattle.std.proofs.lemmas.List.Sums.{fails_before_first}
use Rattle.std.proofs.lemmas.List.Quantifiers.{position-Some}
use Rattle.octets.specs.Order.{same}
use Rattle.octets.proofs.Comparison.{same-eq, same_refl}
use Rattle.lists.proofs.Bools.{by, or, clash, no_true}
use Rattle.lists.proofs.Lists.{flat_in, map-from}
use Rattle.record.specs.Fields.{time}
use Rattle.models.specs.Models.{counts, state_of, agreed_as, all_agreed}
use Rattle.signed_records.specs.Read.{record_formed}
use Rattle.fixes.specs.Fix.{Fix}
use Rattle.fixes.specs.Items.{no_fix, fix_at}
use Rattle.fixes.specs.Shown.{Transmission}
use Rattle.fixes.proofs.Indexed.{at_in, in-at}
use Rattle.decision_rule.specs.Outcome.{Refused as RefusedFix}
use Rattle.arithmetic.specs.declared.standing.ChiSquare.{ChiSquare}
use Rattle.board_fixes.specs.Fixes.{record_in, fixes_of}
use Rattle.board_picture.specs.Picture.{picture}
use Rattle.fix_lines.specs.declared.Standing.TheVariants as standing
use Rattle.board_picture.specs.Lines.{ShownLine, ShownPart, part_of, lines_of, line_of, refused_line_of}
use Rattle.register.specs.Register.{Register}
use Rattle.monthly_numbers.specs.declared.endings.Ending.{Ending}
use Rattle.monthly_numbers.specs.declared.endings.Ending.TheVariants.{Ranked, Dominated, Refused, Other, Uncounted}
use Rattle.monthly_numbers.specs.declared.endings.Ended.{Ended}
use Rattle.monthly_numbers.specs.Endings.{picture_in, ending}
use Rattle.monthly_numbers.specs.Kept.{ending_of, all_lines, parts_of, Told, ending_found, ended_in}
use Rattle.monthly_numbers.proofs.Ways.{fixes_with}
use Rattle.monthly_numbers.proofs.Ending.{flat_of, Shows, fix-shown, some-shown, stands-is, none-is}

-- ---- whether it counts

pub all-agreed : (s : ℕ) (ms : List ℕ) (ss : List (List ℕ)) → list_all (λ m. agreed_as s (state_of m ss)) ms ≡ all_agreed s ms ss
unfolding all_agreed
all-agreed s [] ss = refl
all-agreed s (m ∷ ms) ss = ap (λ (b : Bool). agreed_as s (state_of m ss) && b) (all-agreed s ms ss)

-- ---- the fix that it represents

-- records of two times are not the same
pub other-times : (a b : List ℕ) (s t : ℕ) → s ≡ time a → t ≡ time b → (s ≡ t → ⊥) → same a b ≡ false
other-times a b s t p q e = no_true (same a b) (λ u. e (p ∙ ap time (same-eq a b u) ∙ sym q))

-- where no position is found, none passes
none-there : {A : Type 0} (t : A → Bool) (l : List A) → position t l ≡ None → (x : A) → Memᴰ x l → t x ≡ false
none-there t l e x m =
    let r = in-at x l x m in
    by (ltb (position_or_len t l) (length l))
    (λ b. absurd (none-some (position_or_len t l) (sym e ∙ rw b refl)))
    (λ b. ap t (sym r.2) ∙ fails_before_first t l r.0 x (let k = ltb-false (position_or_len t l) (length l) b in let h = r.1 in omega arith))

-- ---- the lines of a transmission and the ways of its fixes

line-way : (t : Transmission) (l : ShownLine) → Memᴰ l (lines_of t) → Memᴰ l.fix (fixes_with (ending_of l.standing) t)
line-way t l m =
    or (Memᴰ.append_cases (map (line_of standing.Ranked) t.ranked) m)
    (λ k. let r = map-from (line_of standing.Ranked) t.ranked l k in rw r.2 r.1)
    (λ k. or (Memᴰ.append_cases (map (line_of standing.Dominated) t.dominated) k)
    (λ d. let r = map-from (line_of standing.Dominated) t.dominated l d in rw r.2 r.1)
    (λ d. let r = map-from refused_line_of t.refused l d in rw r.2 (Memᴰ.map (λ (x : RefusedFix Fix ChiSquare). x.item) r.1)))

way-line : (t : Transmission) (e : Ending) (f : Fix) → Memᴰ f (fixes_with e t) → (l : ShownLine) × Memᴰ l (lines_of t) × (l.fix ≡ f)
way-line t Ranked f m = (line_of standing.Ranked f, Memᴰ.append_left _ (Memᴰ.map (line_of standing.Ranked) m), refl)
way-line t Dominated f m = (line_of standing.Dominated f, Memᴰ.append_right (map (line_of standing.Ranked) t.ranked) (Memᴰ.append_left _ (Memᴰ.map (line_of standing.Dominated) m)), refl)
way-line t Refused f m =
    let x = map-from (λ (y : RefusedFix Fix ChiSquare). y.item) t.refused f m in
    (refused_line_of x.0, Memᴰ.append_right (map (line_of standing.Ranked) t.ranked) (Memᴰ.append_right (map (line_of standing.Dominated) t.dominated) (Memᴰ.map refused_line_of x.1)), sym x.2)
way-line t Other f m = absurd (Memᴰ.not-nil m)
way-line t Uncounted f m = absurd (Memᴰ.not-nil m)

-- ---- the ending of a fix, in a table that was told of all

module _ (s : Register) (formed : list_all record_formed s.records ≡ true) where
  abbrev fs : List Fix
  fs = fixes_of s.summaries s.records

  from-line : (l : ShownLine) → Memᴰ l (all_lines (parts_of fs)) → Shows s formed (ending_of l.standing) l.fix
  unfolding picture
  from-line l m =
      let p = flat_in (λ (q : ShownPart). q.lines) (parts_of fs) l m in
      let t = map-from part_of (picture_in s) p.0 p.1 in
      record { transmission = t.0; listed = t.1; fix = line-way t.0 l (subst (λ (q : ShownPart). Memᴰ l q.lines) t.2 p.2) }

  to-line : (e : Ending) (f : Fix) → Shows s formed e f → (l : ShownLine) × Memᴰ l (all_lines (parts_of fs)) × (l.fix ≡ f)
  unfolding picture
  to-line e f k =
      let r = way-line k.transmission e f k.fix in
      (r.0, flat_of (λ (q : ShownPart). q.lines) (parts_of fs) (part_of k.transmission) r.0 (Memᴰ.map part_of k.listed) r.1, r.2)

  module _ (es : List Ending) (told : Told fs (all_lines (parts_of fs)) es (all_lines (parts_of fs))) where
    at-index : (j : ℕ) → j < length fs → Shows s formed (get_or es j Uncounted) (fix_at fs j)
    at-index j h =
        let w = some-shown s formed (fix_at fs j) (at_in no_fix fs j h) in
        let l = to-line w.0 (fix_at fs j) w.1 in
        let r = told.sound j h (told.whole l.0 l.1 j h (sym l.2)) in
        subst (λ (e : Ending). Shows s formed e (fix_at fs j)) (sym r.3) (subst (Shows s formed (ending_of r.0.standing)) r.2 (from-line r.0 r.1))

    module _ (p : List ℕ) where
      abbrev test : Fix → Bool
      test f = same f.record_bytes (record_in p)

      pub found-some : (j : ℕ) → j < length fs → test (fix_at fs j) ≡ true → get_or es j Uncounted ≡ ending s p
      found-some j h e =
          sym (stands-is s formed p (get_or es j Uncounted) (record { fix = fix_at fs j; shows = at-index j h; represents = same-eq (fix_at fs j).record_bytes (record_in p) e }))

      pub found-none : ((f : Fix) → Memᴰ f fs → test f ≡ false) → cond (counts s.summaries (record_in p)) Other Uncounted ≡ ending s p
      found-none n =
          sym (none-is s formed p (λ e x. clash (rw (x.represents) (same_refl (record_in p))) (n x.fix (fix-shown s formed e x.fix x.shows))))

      -- by the first fix that it represents
      pub found : (o : Option ℕ) → o ≡ position test fs → ending_found es (counts s.summaries (record_in p)) o ≡ ending s p
      found (Some j) e = let r = position-Some test fs j no_fix (sym e) in found-some j r.0 r.1
      found None e = found-none (none-there test fs (sym e))

-- what the code finds: fs and gs are the fixes, ss the summaries, r the record in p
module _ (s : Register) (formed : list_all record_formed s.records ≡ true) (fs gs : List Fix) (f-is : fs ≡ fixes_of s.summaries s.records) (g-is : gs ≡ fixes_of s.summaries s.records)
    (es : List Ending) (told : Told fs (all_lines (parts_of fs)) es (all_lines (parts_of fs))) (ss : List (List ℕ)) (s-is : ss ≡ s.summaries) where
  pub ending-is : (p r : List ℕ) → r ≡ record_in p → (e : Ending) → e ≡ ending_found es (counts ss r) (position (λ f. same f.record_bytes r) gs) → e ≡ ending s p
  ending-is p r r-is e is =
      rw (s-is, r-is, g-is) at is ∙ found s formed es (subst (λ (z : List Fix). Told z (all_lines (parts_of z)) es (all_lines (parts_of z))) f-is told) p _ refl

-- ---- one more of the held records: those before are l, those after it ps

module _ (s : Register) (l new : List Ended) (qs : List (List ℕ)) (p : List ℕ) (ps : List (List ℕ)) (x : Ended) (left : qs ≡ p ∷ ps) (is : new ≡ l ++ x ∷ []) where
  pub few-left : length l + length qs ≤ 96 → length new + length ps ≤ 96
  few-left h =
      let a = ap (λ (z : List Ended). length z) is ∙ length-append l (x ∷ []) in
      let b = ap (λ (z : List (List ℕ)). length z) left in
      omega (arith, h, a, b)

  pub whole-left : (w : List Ended) → x ≡ ended_in s p → l ++ map (ended_in s) qs ≡ w → new ++ map (ended_in s) ps ≡ w
  whole-left w e h =
      ap (λ (z : List Ended). z ++ map (ended_in s) ps) (is ∙ ap (λ (y : Ended). l ++ y ∷ []) e)
      ∙ append_assoc l (ended_in s p ∷ []) (map (ended_in s) ps)
      ∙ ap (λ (z : List (List ℕ)). l ++ map (ended_in s) z) (sym left) ∙ h
