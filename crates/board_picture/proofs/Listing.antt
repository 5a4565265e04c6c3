-- The lines of a transmission are those of what is decided of it.
use Rattle.std.proofs.Common.{ℕ, ◌+◌, ◌≤◌, ◌<◌, ◌≡◌, sym, ap, ap₂, subst, ◌∙◌, List, [], ◌∷◌, ◌++◌, map, arith, length, length-take, take, get_or, append_assoc, append-nil, length-append}
use Rattle.std.proofs.lemmas.List.{take_more, map-append}
use Rattle.std.proofs.lemmas.List.Elements.{All-push}
use lib.ListN.{length-map}
use Rattle.board_transmissions.specs.Links.{Members, members_of}
use Rattle.board_transmissions.proofs.Indexed.{map-map}
use Rattle.decision.specs.declared.Decision.{Decision}
use Rattle.decision.specs.declared.Refusal.{Refusal}
use Rattle.fixes.specs.Fix.{Fix}
use Rattle.fixes.specs.Items.{fix_at, no_fix}
use Rattle.fixes.specs.Shown.{Transmission, shown}
use Rattle.fixes.specs.Decided.{ShowsFixes, refused_of, refused_by}
use Rattle.fixes.proofs.Showing.{alone-shown, at-map}
use Rattle.fix_lines.specs.declared.Standing.TheVariants.{Ranked, Dominated, Refused}
use Rattle.board_picture.specs.declared.line.Line.{Line}
use Rattle.board_picture.specs.declared.part.Counts.{Counts}
use Rattle.board_picture.specs.Lines.{ShownLine, line_of, refused_line_of, lines_of, counts_of, line_refused, line_in, with_fixes, Appends}
use Rattle.board_picture.proofs.Counting.{shown-all}

pub member-at : (m : Members) (i k : ℕ) → i < length m.indices → k ≡ get_or m.indices i 0 → fix_at m.fixes k ≡ fix_at (members_of m) i
member-at m i k h e = ap (fix_at m.fixes) e ∙ sym (at-map (fix_at m.fixes) m.indices i 0 no_fix h)

-- the line of a refusal, whose two fixes have these indices
pub refused-is : (fs gs : List Fix) (r : Refusal) (i j : ℕ) → fix_at fs i ≡ fix_at gs r.refused → fix_at fs j ≡ fix_at gs r.kept → line_in fs (record { fix = i; standing = Refused r.chi2; against = j }) ≡ line_refused gs r
refused-is fs gs r i j e h = ap₂ (λ (f g : Fix). record { fix = f; standing = Refused r.chi2; against = g }) e h

pub members-length : (m : Members) → length (members_of m) ≡ length m.indices
members-length m = length-map m.indices (fix_at m.fixes)

-- ---- lines are appended

module _ (fs : List Fix) where
  pub none_yet : (old : List Line) → Appends fs old old []
  none_yet old = record { lines = sym (append-nil (with_fixes fs old)); known = λ k. k; against = λ k. k }

  one : (old : List Line) (l : Line) (x : ShownLine) → line_in fs l ≡ x → l.fix < length fs → l.against < length fs → Appends fs old (old ++ l ∷ []) (x ∷ [])
  one old l x e h j = record { lines = map-append (line_in fs) old (l ∷ []) ∙ ap (λ y. with_fixes fs old ++ y ∷ []) e; known = λ k. All-push (λ m. m.fix < length fs) old l k h; against = λ k. All-push (λ m. m.against < length fs) old l k j }

  pub both : {old now new : List Line} {xs ys : List ShownLine} → Appends fs old now xs → Appends fs now new ys → Appends fs old new (xs ++ ys)
  both {old} {now} {new} {xs} {ys} a b =
      record { lines = b.lines ∙ ap (λ s. s ++ ys) a.lines ∙ append_assoc (with_fixes fs old) xs ys; known = λ k. b.known (a.known k); against = λ k. b.against (a.against k) }

  pub appended : {old new : List Line} {xs : List ShownLine} → Appends fs old new xs → length new ≡ length old + length xs
  appended {old} {new} {xs} a =
      let n = length-map new (line_in fs) in
      let o = length-map old (line_in fs) in
      let e = ap (λ (z : List ShownLine). length z) a.lines ∙ length-append (with_fixes fs old) xs in
      omega (arith, n, o, e)

  -- a turn of a loop
  pub one_more : {A : Type 0} (f : A → ShownLine) (old now new : List Line) (xs : List A) (i : ℕ) (d : A) (l : Line) → i < length xs → Appends fs old now (map f (take i xs)) → new ≡ now ++ l ∷ []
      → line_in fs l ≡ f (get_or xs i d) → l.fix < length fs → l.against < length fs → Appends fs old new (map f (take (i + 1) xs))
  one_more f old now new xs i d l h a new-is l-is there against =
      subst (λ z. Appends fs old z (map f (take (i + 1) xs))) (sym new-is)
      (subst (Appends fs old (now ++ l ∷ [])) (sym (ap (map f) (take_more xs i d h) ∙ map-append f (take i xs) (get_or xs i d ∷ [])))
      (both a (one now l (f (get_or xs i d)) l-is there against)))

  -- there is room for a line
  pub room-left : {A : Type 0} (f : A → ShownLine) {old now : List Line} (xs : List A) (i : ℕ) → i < length xs → Appends fs old now (map f (take i xs)) → length old + length xs ≤ 96 → length now < 96
  room-left f {old} {now} xs i h a r =
      let n = appended a in
      let m = length-map (take i xs) f in
      let t = length-take i xs in
      omega (arith, n, m, t, r, h)

  -- how many lines there are then; m is the list as the code reads it
  pub room-then : {A : Type 0} (f : A → ShownLine) (l : List A) {m : List A} {old new : List Line} → m ≡ l → Appends fs old new (map f m) → length new ≡ length old + length l
  room-then f l {m} e a = let n = appended a in let k = length-map m f in let z = ap (λ (y : List _). length y) e in omega (arith, n, k, z)

  -- ---- one that is alone

  pub alone : (gs : List Fix) (old new : List Line) (l : Line) → length gs ≡ 1 → new ≡ old ++ l ∷ [] → line_in fs l ≡ line_of Ranked (fix_at gs 0) → l.fix < length fs → l.against < length fs → Appends fs old new (lines_of (shown gs))
  alone [] old new l h new-is l-is there against = absurd (omega arith)
  alone (g ∷ []) old new l h new-is l-is there against =
      subst (λ z. Appends fs old z (lines_of (shown (g ∷ [])))) (sym new-is)
      (subst (Appends fs old (old ++ l ∷ [])) (sym (ap lines_of (alone-shown g))) (one old l (line_of Ranked g) l-is there against))
  alone (g ∷ (k ∷ gs)) old new l h new-is l-is there against = absurd (omega arith)

abbrev counts : ℕ → ℕ → ℕ → Counts
counts r d x = record { ranked = r; dominated = d; refused = x }

pub alone-counts : (gs : List Fix) → length gs ≡ 1 → counts 1 0 0 ≡ counts_of (shown gs)
alone-counts [] h = absurd (omega arith)
alone-counts (g ∷ []) h = sym (ap counts_of (alone-shown g))
alone-counts (g ∷ (k ∷ gs)) h = absurd (omega arith)

-- ---- what is decided

module _ {N : ℕ} (gs : List Fix) (d : Decision N) (w : ShowsFixes gs d) where
  pub decided-all : length d.ranked.items + (length d.dominated.items + length d.refusals.items) ≡ length gs
  decided-all =
      let r = length-map d.ranked.items (fix_at gs) in
      let m = length-map d.dominated.items (fix_at gs) in
      let k = length-map (map refused_by d.refusals.items) (refused_of gs) ∙ length-map d.refusals.items refused_by in
      let a = ap (λ (t : Transmission). length t.ranked + (length t.dominated + length t.refused)) w.shown ∙ shown-all gs in
      omega (arith, r, m, k, a)

  -- how many there are of each standing
  pub decided-counts : (i j k : ℕ) → i ≡ length d.ranked.items → j ≡ length d.dominated.items → k ≡ length d.refusals.items → counts i j k ≡ counts_of (shown gs)
  decided-counts i j k p q r =
      rw (p ∙ sym (length-map d.ranked.items (fix_at gs)), q ∙ sym (length-map d.dominated.items (fix_at gs)), r ∙ sym (length-map d.refusals.items refused_by) ∙ sym (length-map (map refused_by d.refusals.items) (refused_of gs)))
      (ap counts_of w.shown)

  -- the lines, as they are appended in three parts
  pub decided-lines : map (λ i. line_of Ranked (fix_at gs i)) d.ranked.items ++ (map (λ i. line_of Dominated (fix_at gs i)) d.dominated.items ++ map (line_refused gs) d.refusals.items) ≡ lines_of (shown gs)
  decided-lines =
      sym (ap₂ (λ s t. s ++ t) (map-map (line_of Ranked) (fix_at gs) d.ranked.items)
      (ap₂ (λ s t. s ++ t) (map-map (line_of Dominated) (fix_at gs) d.dominated.items)
      (map-map refused_line_of (refused_of gs) (map refused_by d.refusals.items) ∙ map-map (λ u. refused_line_of (refused_of gs u)) refused_by d.refusals.items)))
      ∙ ap lines_of w.shown
