-- A table of endings, filled from the lines of a picture.
use Rattle.std.proofs.Common.{ℕ, ◌+◌, ◌≤◌, ◌<◌, ◌≡◌, refl, sym, ap, ◌∙◌, subst, true, arith, append_assoc, eqb, eqb-true, length, get_or, set, take, replicate}
use Rattle.std.proofs.lemmas.List.{take_more, take_all, get_or-set_same, get_or-set_other, get_or-replicate, map-append}
use Rattle.std.proofs.lemmas.Bool.{eqb-false}
use mathlib.Core.List.Memᴰ
use mathlib.Core.List.{List, [], ◌∷◌, ◌++◌, flat_map, append-nil, Memᴰ}
use Rattle.lists.proofs.Bools.{by, or}
use Rattle.fixes.specs.Fix.{Fix}
use Rattle.fixes.specs.Items.{fix_at, Apart}
use Rattle.fixes.proofs.Indexed.{at_in}
use Rattle.board_fixes.specs.Order.{identities_ascend}
use Rattle.board_fixes.proofs.Kept.{apart}
use Rattle.fix_lines.specs.declared.Standing.{Standing}
use Rattle.fix_lines.specs.declared.Standing.TheVariants as standing
use Rattle.board_picture.specs.declared.line.Line.{Line}
use Rattle.board_picture.specs.Lines.{ShownLine, ShownPart, line_in, with_fixes, part_at, no_part}
use Rattle.monthly_numbers.specs.declared.endings.Ending.{Ending}
use Rattle.monthly_numbers.specs.declared.endings.Ending.TheVariants.{Uncounted}
use Rattle.monthly_numbers.specs.Kept.{ending_of, all_lines, Told}
use Rattle.monthly_numbers.proofs.Ending.{flat_of}

-- a line says something
says : (x : Standing) → ending_of x ≡ Uncounted → ⊥
says standing.Ranked e = cc
says standing.Dominated e = cc
says (standing.Refused x) e = cc

module _ (fs : List Fix) (lines : List ShownLine) where
  pub told-none : (n : ℕ) → length fs ≤ n → Told fs lines (replicate n Uncounted) []
  told-none n h = record {
    sound = λ j k f. absurd (f (get_or-replicate n j Uncounted Uncounted (omega arith)));
    whole = λ l m. absurd (Memᴰ.not-nil m);
  }

  -- one more line
  module _ (a : Apart fs) (es : List Ending) (done : List ShownLine) (t : Told fs lines es done) (x : ShownLine) (here : Memᴰ x lines) (i : ℕ) (b : i < length fs) (is : fix_at fs i ≡ x.fix) (room : length fs ≤ length es) where
    same-there : (j : ℕ) → j ≡ i → get_or (set es i (ending_of x.standing)) j Uncounted ≡ ending_of x.standing
    same-there j e = rw e (get_or-set_same es i (ending_of x.standing) Uncounted (omega arith))

    other-there : (j : ℕ) → (j ≡ i → ⊥) → get_or (set es i (ending_of x.standing)) j Uncounted ≡ get_or es j Uncounted
    other-there j n = get_or-set_other es i j (ending_of x.standing) Uncounted n

    pub told-more : Told fs lines (set es i (ending_of x.standing)) (done ++ x ∷ [])
    told-more = record {
      sound = λ j k f.
          by (eqb j i)
          (λ e. let z = eqb-true j i e in (x, here, sym is ∙ ap (fix_at fs) (sym z), same-there j z))
          (λ e. let z = other-there j (eqb-false j i e) in
          let r = t.sound j k (λ u. f (z ∙ u)) in (r.0, r.1, r.2, z ∙ r.3));
      whole = λ l m j k e u.
          by (eqb j i)
          (λ d. says x.standing (sym (same-there j (eqb-true j i d)) ∙ u))
          (λ d. let n = eqb-false j i d in
          let z = sym (other-there j n) ∙ u in
          or (Memᴰ.append_cases done m)
          (λ q. t.whole l q j k e z)
          (λ q. or (Memᴰ.cases_cons q)
          (λ p. n (a j i k b (ap (λ (f : Fix). f.identity) (e ∙ ap (λ (y : ShownLine). y.fix) p ∙ sym is))))
          (λ p. Memᴰ.not-nil p)));
    }

-- ---- the lines of a picture, part by part

lines-append : (ps qs : List ShownPart) → all_lines (ps ++ qs) ≡ all_lines ps ++ all_lines qs
unfolding flat_map
lines-append [] qs = refl
lines-append (p ∷ ps) qs = ap (λ (l : List ShownLine). p.lines ++ l) (lines-append ps qs) ∙ sym (append_assoc p.lines (all_lines ps) (all_lines qs))

module _ (fs : List Fix) (ps : List ShownPart) where
  -- those of the first k parts, and the first i of the next
  abbrev pub until : ℕ → List Line → ℕ → List ShownLine
  until k ls i = all_lines (take k ps) ++ with_fixes fs (take i ls)

  pub until-none : (k : ℕ) (ls : List Line) → until k ls 0 ≡ all_lines (take k ps)
  until-none k ls = append-nil (all_lines (take k ps))

  pub until-more : (k : ℕ) (ls : List Line) (i : ℕ) (d : Line) → i < length ls → until k ls (i + 1) ≡ until k ls i ++ line_in fs (get_or ls i d) ∷ []
  until-more k ls i d h =
      ap (λ (l : List Line). all_lines (take k ps) ++ with_fixes fs l) (take_more ls i d h)
      ∙ ap (λ (l : List ShownLine). all_lines (take k ps) ++ l) (map-append (line_in fs) (take i ls) (get_or ls i d ∷ []))
      ∙ sym (append_assoc (all_lines (take k ps)) (with_fixes fs (take i ls)) (line_in fs (get_or ls i d) ∷ []))

  pub until-all : (k : ℕ) (ls : List Line) (i : ℕ) → k < length ps → length ls ≤ i → with_fixes fs ls ≡ (part_at ps k).lines → until k ls i ≡ all_lines (take (k + 1) ps)
  unfolding flat_map
  until-all k ls i h n e =
      ap (λ (l : List Line). all_lines (take k ps) ++ with_fixes fs l) (take_all i ls n)
      ∙ ap (λ (l : List ShownLine). all_lines (take k ps) ++ l) (e ∙ sym (append-nil (part_at ps k).lines))
      ∙ sym (lines-append (take k ps) (part_at ps k ∷ []))
      ∙ ap all_lines (sym (take_more ps k no_part h))

  -- each is one of all
  pub line-there : (k : ℕ) (ls : List Line) (i : ℕ) (d : Line) → k < length ps → i < length ls → with_fixes fs ls ≡ (part_at ps k).lines → Memᴰ (line_in fs (get_or ls i d)) (all_lines ps)
  line-there k ls i d h n e =
      flat_of (λ (p : ShownPart). p.lines) ps (part_at ps k) _ (at_in no_part ps k h) (subst (λ (l : List ShownLine). Memᴰ (line_in fs (get_or ls i d)) l) e (Memᴰ.map (line_in fs) (at_in d ls i n)))

  module _ (a : identities_ascend fs ≡ true) (es : List Ending) (k : ℕ) (ls : List Line) (i : ℕ) (d : Line) (room : length fs ≤ length es) (h : k < length ps) (n : i < length ls) (e : with_fixes fs ls ≡ (part_at ps k).lines) where
    pub turn : (get_or ls i d).fix < length fs → Told fs (all_lines ps) es (until k ls i) → (new : List Ending) → new ≡ set es (get_or ls i d).fix (ending_of (get_or ls i d).standing) → Told fs (all_lines ps) new (until k ls (i + 1))
    turn b t new q =
        subst (λ (z : List Ending). Told fs (all_lines ps) z (until k ls (i + 1))) (sym q)
        (subst (Told fs (all_lines ps) _) (sym (until-more k ls i d n))
        (told-more fs (all_lines ps) (apart fs a) es (until k ls i) t (line_in fs (get_or ls i d)) (line-there k ls i d h n e) (get_or ls i d).fix b refl room))
