-- Fixes by their labels are the transmissions of fixes.
use Rattle.std.proofs.Common.{append-nil, ℕ, zero, suc, ◌+◌, ◌≤◌, ◌<◌, ◌≡◌, refl, sym, ap, subst, ◌∙◌, Bool, true, false, cond, List, [], ◌∷◌, ◌++◌, map, arith, length, get_or, replicate, eqb-true, eq-eqb, eq-or-lt_of_le}
use Rattle.octets.proofs.Comparison.{same-eq, same_refl}
use Rattle.lists.specs.Tables.{marked}
use Rattle.lists.specs.Range.{filt}
use Rattle.lists.proofs.Range.{filt-ext, filt-few, filt-at}
use Rattle.lists.proofs.Bools.{by, or, clash, no_true, same_test}
use Rattle.board_fixes.specs.Slots.{max_fixes}
use Rattle.fixes.specs.Fix.{Fix}
use Rattle.fixes.specs.Items.{no_fix, fix_at, AllFormed, Apart}
use Rattle.fixes.proofs.Indexed.{at_in}
use Rattle.board_transmissions.specs.Transmissions.{is_first, transmissions_of}
use Rattle.board_transmissions.specs.Chains.{here, Chain}
use Rattle.board_transmissions.specs.Links.{link_at, has_label, fixes_labelled}
use Rattle.board_transmissions.specs.Labels.{relabel}
use Rattle.board_transmissions.specs.Walk.{no_marks, unmarked, visit}
use Rattle.board_transmissions.proofs.Fitness.{self-linked}
use Rattle.board_transmissions.proofs.Marks.{Grown, no-marks, visited-grown}
use Rattle.board_transmissions.proofs.Labelling.{relabel-length, relabel-at}
use Rattle.board_transmissions.proofs.Reaching.{SelfLinked, chain-joined, chain-turned}
use Rattle.board_transmissions.proofs.Visiting.{Visited, visit-visited, complete}
use Rattle.board_transmissions.proofs.Indexed.{map_same, together_at, first_at, together-at-is, transmissions-are, first-of}

-- ---- indices that pass a test, one after another

filt-snoc : (g : ℕ → Bool) (k f : ℕ) → filt g k (suc f) ≡ filt g k f ++ cond (g (k + f)) ((k + f) ∷ []) []
unfolding filt
filt-snoc g k zero = grind arith
filt-snoc g k (suc f) = let z : suc k + f ≡ k + suc f = omega arith in grind (arith, filt-snoc g (suc k) f)

module _ (g : ℕ → Bool) (i : ℕ) (l : List ℕ) (e : l ≡ filt g 0 i) where
  next-is : filt g 0 (i + 1) ≡ filt g 0 i ++ cond (g i) (i ∷ []) []
  next-is = let z : i + 1 ≡ suc i = omega arith in let y : 0 + i ≡ i = omega arith in rw (z, filt-snoc g 0 i, y) refl

  pub passed-in : (r : List ℕ) → g i ≡ true → r ≡ l ++ (i ∷ []) → r ≡ filt g 0 (i + 1)
  passed-in r h p = grind (arith, next-is)

  pub passed-by : g i ≡ false → l ≡ filt g 0 (i + 1)
  passed-by h = grind (arith, next-is, append-nil)

  pub passed-few : length l ≤ i
  passed-few = rw e (filt-few g 0 i)

pub filt-none : (g : ℕ → Bool) → [] ≡ filt g 0 0
unfolding filt
filt-none g = refl

le_of_lt_suc : (i : ℕ) {s : ℕ} → i < s + 1 → i ≤ s
le_of_lt_suc i h = omega arith

-- ---- the walks so far

-- fix j is of the transmission whose first fix is k, and that comes before s
pub record Led (fs : List Fix) (s k j : ℕ) : Type 0 where
  pub below : k < s
  pub first : is_first fs (fix_at fs k) ≡ true
  pub chain : Chain fs (fix_at fs k) (fix_at fs j)

-- the walks from the fixes before s, the first fixes among these, and their labels
pub record Walked (fs : List Fix) (s : ℕ) (m : List Bool) (l firsts : List ℕ) : Type 0 where
  pub wide : length m ≡ max_fixes
  pub long : length l ≡ max_fixes
  pub led : (j : ℕ) → j < length fs → marked m j ≡ true → Led fs s (get_or l j 0) j
  pub seen : (i j : ℕ) → i < s → j < length fs → Chain fs (fix_at fs i) (fix_at fs j) → marked m j ≡ true
  pub firsts_are : firsts ≡ filt (first_at fs) 0 s

pub walked-none : (fs : List Fix) → Walked fs 0 no_marks (replicate max_fixes 0) []
unfolding filt
walked-none fs = record {
  wide = refl;
  long = refl;
  led = λ j h e. clash e (no-marks max_fixes j);
  seen = λ i j h k c. absurd (omega arith);
  firsts_are = refl;
}

module _ (fs : List Fix) (few : length fs ≤ max_fixes) (formed : AllFormed fs) (apart : Apart fs) where
  self : SelfLinked fs
  self f m = self-linked f.record_bytes (formed f m).form

  -- that of which two fixes are first is one
  pub first-once : (i j : ℕ) → i < length fs → j < length fs → is_first fs (fix_at fs i) ≡ true → is_first fs (fix_at fs j) ≡ true → Chain fs (fix_at fs i) (fix_at fs j) → i ≡ j
  first-once i j h k p q c =
      let r = first-of fs self i i h h (here (at_in no_fix fs i h)) in
      let s = first-of fs self j i k h (chain-turned c) in
      let x = apart i r.0 h (let l = r.1 in omega arith) (same-eq _ _ (sym r.3 ∙ p)) in
      let y = apart j s.0 k (let l = s.1 in omega arith) (same-eq _ _ (sym s.3 ∙ q)) in
      let z = first-of fs self i j h k c in
      let v = apart i z.0 h (let l = z.1 in omega arith) (same-eq _ _ (sym z.3 ∙ p)) in
      let l = s.1 in let o = z.1 in omega arith

  module _ (s : ℕ) (h : s < length fs) (m : List Bool) (l firsts : List ℕ) (w : Walked fs s m l firsts) where
    -- fix s has a mark: it is of an earlier transmission
    pub walked-by : marked m s ≡ true → Walked fs (s + 1) m l firsts
    walked-by e =
        let d = w.led s h e in
        let k = get_or l s 0 in
        let b = d.below in
        let r = first-of fs self s k h (omega arith) (chain-turned d.chain) in
        let i = r.1 in
        record {
          wide = w.wide;
          long = w.long;
          led = λ j t p. let q = w.led j t p in record { below = let c = q.below in omega arith; first = q.first; chain = q.chain };
          seen = λ i j t u c. or (eq-or-lt_of_le (le_of_lt_suc i t))
              (λ z. w.seen k j b u (chain-joined d.chain (subst (λ (x : ℕ). Chain fs (fix_at fs x) (fix_at fs j)) z c)))
              (λ z. w.seen i j z u c);
          firsts_are = passed-by (first_at fs) s firsts w.firsts_are (no_true _ (λ t. let z = apart s r.0 h (omega arith) (same-eq _ _ (sym r.3 ∙ t)) in absurd (omega arith)));
        }

    -- it has none: it is the first of its transmission, and a visit marks all of that
    pub walked-in : marked m s ≡ false → (r : List Bool) (q fs' : List ℕ) → r ≡ visit (link_at fs) (length fs) (unmarked m) s m → q ≡ relabel s m r l → fs' ≡ firsts ++ (s ∷ []) → Walked fs (s + 1) r q fs'
    walked-in e r q fs' a b p = record {
      wide = g.same ∙ w.wide;
      long = ap length b ∙ relabel-length s m r l ∙ w.long;
      led = λ j t u.
          let wd = w.wide in
          let lg = w.long in
          let sm = g.same in
          rw (b, relabel-at s m r l j (omega arith) (omega arith) (omega arith), u) (by (marked m j)
          (λ c. let d = w.led j t c in rw c (record { below = let x = d.below in omega arith; first = d.first; chain = d.chain }))
          (λ c. rw c (record { below = omega arith; first = is-first; chain = or (v.sound j u) (λ d. clash d c) (λ d. d) })));
      seen = λ i j t u c. or (eq-or-lt_of_le (le_of_lt_suc i t))
          (λ z. complete fs apart s h m r unseen v (subst (λ (x : ℕ). Chain fs (fix_at fs x) (fix_at fs j)) z c) j u refl)
          (λ z. g.kept j (w.seen i j z u c));
      firsts_are = passed-in (first_at fs) s firsts w.firsts_are fs' is-first p;
    }
      where
        g : Grown m r
        g = visited-grown (link_at fs) (length fs) (unmarked m) s m r a

        v : Visited fs s m r
        v = let wd = w.wide in rw a (visit-visited fs (unmarked m) s m (omega arith) h e (omega arith))

        unseen : (j : ℕ) → j < length fs → Chain fs (fix_at fs s) (fix_at fs j) → marked m j ≡ false
        unseen j t c = no_true (marked m j) (λ u. let d = w.led j t u in clash (w.seen (get_or l j 0) s d.below h (chain-joined d.chain (chain-turned c))) e)

        is-first : is_first fs (fix_at fs s) ≡ true
        is-first =
            let f = first-of fs self s s h h (here (at_in no_fix fs s h)) in
            or (eq-or-lt_of_le f.1)
            (λ z. f.3 ∙ rw z (same_refl (fix_at fs s).identity))
            (λ z. clash (w.seen f.0 s z h (chain-turned f.2)) e)

  -- at their end
  pub parts-are : (s : ℕ) (m : List Bool) (l firsts : List ℕ) → Walked fs s m l firsts → s ≤ length fs → length fs ≤ s → map (fixes_labelled fs l) firsts ≡ transmissions_of fs
  parts-are s m l firsts w most all =
      let z : s ≡ length fs = omega arith in
      ap (map (fixes_labelled fs l)) (w.firsts_are ∙ ap (filt (first_at fs) 0) z)
      ∙ map_same (fixes_labelled fs l) (λ k. map (fix_at fs) (filt (together_at fs k) 0 (length fs))) (filt (first_at fs) 0 (length fs)) (λ k n.
      let t = filt-at (first_at fs) 0 (length fs) k n in
      ap (map (fix_at fs)) (filt-ext (has_label l k) (together_at fs k) 0 (length fs) (λ j _ b.
      let d = w.led j (omega arith) (w.seen j j (omega arith) (omega arith) (here (at_in no_fix fs j (omega arith)))) in
      let e = d.below in
      same_test (has_label l k j) (together_at fs k j)
      (λ u. (together-at-is fs self k j (omega arith) (omega arith)).1 (rw (← eqb-true (get_or l j 0) k u) d.chain))
      (λ u. eq-eqb (get_or l j 0) k (first-once (get_or l j 0) k (omega arith) (omega arith) d.first t.2 (chain-joined d.chain (chain-turned ((together-at-is fs self k j (omega arith) (omega arith)).0 u))))))))
      ∙ sym (transmissions-are fs self)

-- ---- one transmission

-- its members are fixes of the list
pub all-below : (g : ℕ → Bool) (n j : ℕ) (l : List ℕ) → l ≡ filt g 0 j → j ≤ n → (i : ℕ) → i < length l → get_or l i 0 < n
all-below g n j l e h i k =
    let b : i < length (filt g 0 j) = rw e at k in
    let z = filt-at g 0 j (get_or (filt g 0 j) i 0) (at_in 0 (filt g 0 j) i b) in
    rw e (omega arith)
