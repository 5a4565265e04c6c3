-- A further transmission is put in: its lines behind all others, and its part where it belongs.
use Rattle.std.proofs.Common.{◌⊎◌, inl, inr, get_or, ℕ, zero, suc, ◌+◌, ◌≤◌, ◌<◌, ◌≡◌, refl, sym, ap, ap₂, subst, ◌∙◌, Bool, true, ltb, ltb-true, ltb-false, List, [], ◌∷◌, ◌++◌, map, arith, length, take, drop, take_all, length-append}
use Rattle.std.proofs.lemmas.List.{take-append-le, take-map, take-take, drop-map}
use Rattle.std.proofs.Math.Seq.{drop-append_seam}
use lib.ListN.{length-map}
use mathlib.Core.List.Memᴰ
use mathlib.Core.List.{Memᴰ}
use Rattle.octets.proofs.Comparison.{before-asym, before-irrefl}
use Rattle.lists.specs.Lists.{insert}
use Rattle.lists.proofs.Bools.{by, or}
use Rattle.board_fixes.specs.Order.{identities_ascend}
use Rattle.board_fixes.proofs.Entering.{earlier-lower}
use Rattle.fixes.specs.Fix.{Fix}
use Rattle.fixes.specs.Items.{fix_at, no_fix}
use Rattle.fixes.specs.Shown.{lower, shown}
use Rattle.fixes.specs.Ages.{time_of}
use Rattle.fixes.proofs.Indexed.{at_in}
use Rattle.fixes.proofs.Showing.{at-map}
use Rattle.board_picture.specs.declared.line.Line.{Line}
use Rattle.board_picture.specs.declared.part.Part.{Part}
use Rattle.board_transmissions.specs.Links.{Members, members_of, total}
use Rattle.board_transmissions.proofs.Indexed.{map_same}
use Rattle.board_picture.specs.declared.part.Counts.{Counts}
use Rattle.board_picture.specs.Lines.{ShownLine, ShownPart, all_counted, part_of, first_line, first_of, no_part, part_at, line_in, with_fixes, Appends, Decides}
use Rattle.board_picture.specs.Parts.{before, earlier, part_in, lines_in, Lies, Within}
use Rattle.board_picture.proofs.Counting.{length-lines, counted-lines}
use Rattle.board_picture.proofs.Listing.{members-length, appended}

insert-map : {A B : Type 0} (h : A → B) (a : A → A → Bool) (b : B → B → Bool) (x : A) (l : List A) → ((y : A) → Memᴰ y l → a y x ≡ b (h y) (h x)) → map h (insert a x l) ≡ insert b (h x) (map h l)
unfolding insert
insert-map h a b x [] e = refl
insert-map h a b x (y ∷ l) e =
    let t = e y (Memᴰ.head refl) in
    by (a y x)
    (λ u. rw (u, sym t ∙ u) (ap (λ (k : List _). h y ∷ k) (insert-map h a b x l (λ z m. e z (Memᴰ.tail m)))))
    (λ u. rw (u, sym t ∙ u) refl)

insert-in : {A : Type 0} (b : A → A → Bool) (x : A) (l : List A) (y : A) → Memᴰ y (insert b x l) → (y ≡ x) ⊎ Memᴰ y l
unfolding insert
insert-in b x [] y m = Memᴰ.cases_cons m
insert-in b x (z ∷ l) y m =
    by (b z x)
    (λ t. or (Memᴰ.cases_cons (rw t at m)) (λ e. inr (Memᴰ.head e)) (λ k. or (insert-in b x l y k) (λ e. inl e) (λ n. inr (Memᴰ.tail n))))
    (λ t. Memᴰ.cases_cons (rw t at m))

insert-total : {A : Type 0} (n : A → ℕ) (b : A → A → Bool) (x : A) (l : List A) → total n (insert b x l) ≡ n x + total n l
unfolding insert
insert-total n b x [] = refl
insert-total n b x (y ∷ l) = let r = insert-total n b x l in by (b y x) (λ t. rw t (omega (arith, r))) (λ t. rw t refl)

-- what is before the end stays
kept : {A : Type 0} (s n : ℕ) (l m : List A) → s + n ≤ length l → take n (drop s (l ++ m)) ≡ take n (drop s l)
kept zero n l m h = take-append-le n l m (omega (arith, h))
kept (suc s) n [] m h = absurd (omega arith)
kept (suc s) n (x ∷ l) m h = kept s n l m (omega arith)

-- ---- the order

module _ (fs : List Fix) (o : identities_ascend fs ≡ true) where
  -- of fixes that ascend, the order of indices is that of identities
  index-lower : (i j : ℕ) → i < length fs → j < length fs → ltb i j ≡ lower (fix_at fs i) (fix_at fs j)
  index-lower i j h k =
      by (ltb i j)
      (λ t. t ∙ sym (earlier-lower fs o i j no_fix (ltb-true i j t) k))
      (λ t. t ∙ by (ltb j i)
      (λ u. sym (before-asym (fix_at fs j).identity (fix_at fs i).identity (earlier-lower fs o j i no_fix (ltb-true j i u) h)))
      (λ u. let x = ltb-false i j t in let y = ltb-false j i u in let e : i ≡ j = omega arith in rw e (sym (before-irrefl (fix_at fs j).identity))))

  same-order : (ls : List ShownLine) (p q : Part) → Lies fs ls p → Lies fs ls q → before p q ≡ earlier (part_in ls p) (part_in ls q)
  unfolding before
  same-order ls p q v w =
      let e = index-lower p.first q.first v.there w.there ∙ ap₂ lower v.is w.is in
      rw (v.sent, w.sent, e) refl

-- ---- one more: of a transmission lines were appended, of which the first is at i; l are the lines as the code reads them

module _ (fs : List Fix) (old new : List Line) (qs : List Part) (w : Within fs old qs) (m : Members) (n : Counts) (made : Decides m old new n) (same : m.fixes ≡ fs) (some : 0 < length m.indices)
    (l : List Line) (lent : l ≡ new) (i : ℕ) (at_end : i ≡ length old) (d : Line) where
  abbrev part : ShownPart
  part = part_of (shown (members_of m))

  a : Appends fs old new part.lines
  a = subst (λ (z : List Fix). Appends z old new part.lines) same made.lines

  counted : all_counted n ≡ length part.lines
  counted = ap all_counted made.counts ∙ counted-lines (members_of m)

  some-line : 0 < length part.lines
  some-line = let k = length-lines (members_of m) in let j = members-length m in omega (arith, k, j, some)

  before-this : i ≡ length (with_fixes fs old)
  before-this = at_end ∙ sym (length-map old (line_in fs))

  has : i < length new
  has = let k = appended fs a in omega (arith, k, at_end, some-line)

  pub line-there : i < length l
  line-there = rw lent has

  pub first-in : (get_or l i d).fix < length fs
  first-in = rw lent (a.known w.known i d has)

  first-there : fix_at fs (get_or l i d).fix ≡ first_of part
  first-there =
      rw lent
      (ap (λ (x : ShownLine). x.fix) (sym (at-map (line_in fs) new i d (line_in fs d) has) ∙ ap (λ (z : List ShownLine). get_or z i (line_in fs d)) a.lines)
      ∙ first-behind (with_fixes fs old) part.lines i (line_in fs d) before-this some-line)
    where
      first-behind : (k m : List ShownLine) (i : ℕ) (d : ShownLine) → i ≡ length k → 0 < length m → (get_or (k ++ m) i d).fix ≡ first_line m
      first-behind [] [] i d e s = absurd (omega arith)
      first-behind [] (x ∷ m) i d e s = rw e refl
      first-behind (y ∷ k) m zero d e s = absurd (omega arith)
      first-behind (y ∷ k) m (suc i) d e s = first-behind k m i d (omega arith) s

  module _ (time : ℕ) (sent : time ≡ time_of (fix_at fs (get_or l i d).fix)) where
    abbrev q : Part
    q = record { time = time; first = (get_or l i d).fix; start = i; counts = n }

    as-before : (p : Part) → Memᴰ p qs → part_in (with_fixes fs new) p ≡ part_in (with_fixes fs old) p
    as-before p k =
        ap (λ (z : List ShownLine). record { lines = z; counts = p.counts })
        (ap (λ (z : List ShownLine). take (all_counted p.counts) (drop p.start z)) a.lines ∙ kept p.start (all_counted p.counts) (with_fixes fs old) part.lines (w.lie p k).ends)

    this : part_in (with_fixes fs new) q ≡ part
    this =
        ap₂ (λ (z : List ShownLine) (k : Counts). record { lines = z; counts = k })
        (ap₂ (λ (j : ℕ) (z : List ShownLine). take (all_counted n) (drop j z)) before-this a.lines
        ∙ ap (take (all_counted n)) (drop-append_seam (with_fixes fs old) part.lines)
        ∙ take_all (all_counted n) part.lines (omega (arith, counted)))
        made.counts

    long : length (with_fixes fs new) ≡ length (with_fixes fs old) + length part.lines
    long = ap (λ (z : List ShownLine). length z) a.lines ∙ length-append (with_fixes fs old) part.lines

    lies-this : Lies fs (with_fixes fs new) q
    lies-this = record {
      ends = omega (arith, before-this, counted, long);
      there = first-in;
      is = first-there ∙ ap first_of (sym this);
      sent = sent ∙ ap time_of (first-there ∙ ap first_of (sym this));
    }

    lies-other : (p : Part) → Memᴰ p qs → Lies fs (with_fixes fs new) p
    lies-other p k =
        let v = w.lie p k in
        let e = as-before p k in
        record { ends = omega (arith, v.ends, long); there = v.there; is = v.is ∙ ap first_of (sym e); sent = v.sent ∙ ap (λ z. time_of (first_of z)) (sym e) }

    -- what is shown then
    pub shown-then : (ps : List ShownPart) → ps ≡ map (part_in (with_fixes fs old)) qs → (rs : List Part) → rs ≡ insert before q qs → map (part_in (with_fixes fs new)) rs ≡ insert earlier part ps
    shown-then ps e rs r =
        ap (map (part_in (with_fixes fs new))) r
        ∙ insert-map (part_in (with_fixes fs new)) before earlier q qs (λ p k. same-order fs w.in_order (with_fixes fs new) p q (lies-other p k) lies-this)
        ∙ ap₂ (insert earlier) this (map_same (part_in (with_fixes fs new)) (part_in (with_fixes fs old)) qs as-before ∙ sym e)

    pub within-then : (rs : List Part) → rs ≡ insert before q qs → Within fs new rs
    within-then rs r = record {
      in_order = w.in_order;
      known = a.known w.known;
      against = a.against w.against;
      lie = λ p k. or (insert-in before q qs p (subst (Memᴰ p) r k)) (λ e. subst (Lies fs (with_fixes fs new)) (sym e) lies-this) (λ j. lies-other p j);
      all =
          let b = w.all in
          let k = appended fs a in
          let z = ap lines_in (shown-then (map (part_in (with_fixes fs old)) qs) refl rs r) ∙ insert-total (λ p. length p.lines) earlier part (map (part_in (with_fixes fs old)) qs) in
          omega (arith, b, z, k);
    }

-- ---- none

pub none-yet : (fs : List Fix) → identities_ascend fs ≡ true → (ls : List Line) → ls ≡ [] → (qs : List Part) → qs ≡ [] → Within fs ls qs
none-yet fs o ls e qs r = rw (e, r) (record { in_order = o; known = λ i d h. absurd (omega arith); against = λ i d h. absurd (omega arith); lie = λ q m. absurd (Memᴰ.not-nil m); all = omega arith })

-- ---- where a part lies; m are the parts as the code reads them

module _ (fs : List Fix) (ls : List Line) (qs : List Part) (w : Within fs ls qs) (m : List Part) (e : m ≡ qs) (k : ℕ) (d : Part) (h : k < length (map (part_in (with_fixes fs ls)) qs)) where
  here : k < length qs
  here = rw (length-map qs (part_in (with_fixes fs ls))) at h

  lies : Lies fs (with_fixes fs ls) (get_or m k d)
  lies = w.lie (get_or m k d) (rw e (at_in d qs k here))

  pub part-there : part_in (with_fixes fs ls) (get_or m k d) ≡ part_at (map (part_in (with_fixes fs ls)) qs) k
  part-there = ap (λ (z : List Part). part_in (with_fixes fs ls) (get_or z k d)) e ∙ sym (at-map (part_in (with_fixes fs ls)) qs k d no_part here)

  pub ends-there : (xs : List Line) → xs ≡ ls → (n : ℕ) → n ≡ all_counted (get_or m k d).counts → (get_or m k d).start + n ≤ length xs
  ends-there xs f n is = let v = lies.ends in let l = length-map ls (line_in fs) in let x = ap (λ (z : List Line). length z) f in omega (arith, v, l, x, is)

  pub lines-there : (xs : List Line) → xs ≡ ls → (n : ℕ) → n ≡ all_counted (get_or m k d).counts → with_fixes fs (take n (drop (get_or m k d).start xs)) ≡ (part_at (map (part_in (with_fixes fs ls)) qs) k).lines
  lines-there xs f n is =
      let q = get_or m k d in
      sym (take-map (line_in fs) n (drop q.start xs))
      ∙ ap (take n) (sym (drop-map (line_in fs) q.start xs))
      ∙ ap₂ (λ (i : ℕ) (z : List Line). take i (drop q.start (with_fixes fs z))) is f
      ∙ ap (λ (p : ShownPart). p.lines) part-there

  pub ranked-ends : (xs : List Line) → xs ≡ ls → (n : ℕ) → n ≡ (get_or m k d).counts.ranked → (get_or m k d).start + n ≤ length xs
  ranked-ends xs f n is = let e = ends-there xs f (all_counted (get_or m k d).counts) refl in omega (arith, e, is)

  pub ranked-there : (xs : List Line) → xs ≡ ls → (n : ℕ) → n ≡ (get_or m k d).counts.ranked
      → with_fixes fs (take n (drop (get_or m k d).start xs)) ≡ take (part_at (map (part_in (with_fixes fs ls)) qs) k).counts.ranked (part_at (map (part_in (with_fixes fs ls)) qs) k).lines
  ranked-there xs f n is =
      let q = get_or m k d in
      let part : ShownPart = part_at (map (part_in (with_fixes fs ls)) qs) k in
      let rest : List Line = drop q.start xs in
      let few : n ≤ all_counted q.counts = omega arith in
      sym (ap (with_fixes fs) (take-take n (all_counted q.counts) rest few))
      ∙ sym (take-map (line_in fs) n (take (all_counted q.counts) rest))
      ∙ ap (take n) (lines-there xs f (all_counted q.counts) refl)
      ∙ ap (λ (i : ℕ). take i part.lines) (is ∙ ap (λ (p : ShownPart). p.counts.ranked) part-there)

  pub known-in : (get_or m k d).first < length fs
  known-in = lies.there

  pub known-there : fix_at fs (get_or m k d).first ≡ first_of (part_at (map (part_in (with_fixes fs ls)) qs) k)
  known-there = lies.is ∙ ap first_of part-there

  pub sent-there : (get_or m k d).time ≡ time_of (first_of (part_at (map (part_in (with_fixes fs ls)) qs) k))
  sent-there = lies.sent ∙ ap (λ p. time_of (first_of p)) part-there
