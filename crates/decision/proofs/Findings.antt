-- What a search for whom an item is refused against shows: its refusal, and the list of the refusals of the items so far.
use mathlib.Core.Path.{◌≡◌, refl, sym, ap, ◌∙◌}
use mathlib.Core.Bool.{true, false, true≢false}
use mathlib.Core.List.{List, [], ◌∷◌, ◌++◌, map, flat_map, append-nil}
use Prim.Native.Nat.{ℕ, ◌+◌, ◌≤◌}
use native.Mathlib.Omega.{arith}
use Rattle.std.specs.List.{filter}
use Rattle.lists.proofs.Bools.{by}
use Rattle.lists.specs.Lists.{foremost}
use Rattle.lists.specs.Ordered.{count_from, up_to}
use Rattle.lists.proofs.Searches.{flat-more}
use Rattle.std.specs.Prelude.{Option, None, Some, is_some, unwrap_or}
use Rattle.decision_rule.specs.Outcome as O
use Rattle.decision_rule.specs.Standing as S
use Rattle.decision_rule.specs.Standing.{Relations, replaces, is_superseded, opposes, is_contested, is_refused, replaced, opposed, refusal_of}
use Rattle.decision_rule.specs.First.{foremost_of}
use Rattle.decision.specs.declared.Refusal.{Refusal}
use Rattle.decision.specs.Answer.{refusal, no_refusal}
use Rattle.decision.specs.Working.{finding}
use Rattle.decision.proofs.Laws.{refused-one, refused_none}
use Rattle.arithmetic.specs.declared.standing.ChiSquare.{ChiSquare}

module _ (r : Relations ℕ ChiSquare) (all : List ℕ) (i : ℕ) where
  -- ---- a refusal by whom a search found

  some-none : {k : ℕ} → Some k ≡ None → ⊥
  some-none {k} e = true≢false (ap is_some e)

  some-same : {j k : ℕ} → Some j ≡ Some k → j ≡ k
  some-same {j} e = ap (λ o. unwrap_or o j) e

  pub none-replaces : (l : List ℕ) → foremost_of r.lower l ≡ None → None ≡ finding (replaced r all i l)
  unfolding finding
  none-replaces [] e = refl
  none-replaces (x ∷ l) e = absurd (some-none e)

  pub none-opposes : (l : List ℕ) → foremost_of r.lower l ≡ None → None ≡ finding (opposed r all i l)
  unfolding finding
  none-opposes [] e = refl
  none-opposes (x ∷ l) e = absurd (some-none e)

  pub one-replaces : (l : List ℕ) (k : ℕ) (c : ChiSquare) → foremost_of r.lower l ≡ Some k → c ≡ r.chi_square k i
      → Some (record { refused = i; kept = k; chi2 = c; superseded = true }) ≡ finding (replaced r all i l)
  unfolding finding
  one-replaces [] k c e q = absurd (some-none (sym e))
  one-replaces (x ∷ l) k c e q = let z : foremost r.lower x l ≡ k = some-same e in rw (q, z) refl

  pub one-opposes : (l : List ℕ) (k : ℕ) (c : ChiSquare) → foremost_of r.lower l ≡ Some k → c ≡ r.chi_square i k
      → Some (record { refused = i; kept = k; chi2 = c; superseded = false }) ≡ finding (opposed r all i l)
  unfolding finding
  one-opposes [] k c e q = absurd (some-none (sym e))
  one-opposes (x ∷ l) k c e q = let z : foremost r.lower x l ≡ k = some-same e in rw (q, z) refl

  -- which of the two it is
  pub refusal-replaced : is_superseded r all i ≡ true → refusal_of r all i ≡ replaced r all i (filter (replaces r all i) all)
  unfolding refusal_of
  refusal-replaced e = rw e refl

  pub unrefused : is_refused r all i ≡ false → None ≡ finding (refusal_of r all i)
  unfolding finding
  unrefused e = ap finding (sym (refused_none r all i e))

  pub refusal-opposed : is_superseded r all i ≡ false → is_refused r all i ≡ true → refusal_of r all i ≡ opposed r all i (filter (opposes r all i) all)
  unfolding refusal_of is_refused
  refusal-opposed e q = let t : is_contested r all i ≡ true = rw e at q in rw (e, t) refl

-- ---- the refusals so far

abbrev the_refusal : Option Refusal → Refusal
the_refusal o = unwrap_or o no_refusal

-- the refusals of the items before i, of n items
abbrev pub refused_to : Relations ℕ ChiSquare → ℕ → ℕ → List Refusal
refused_to r n i = map refusal (flat_map (refusal_of r (up_to n)) (up_to i))

pub none-refused : (r : Relations ℕ ChiSquare) (n : ℕ) → refused_to r n 0 ≡ []
unfolding count_from flat_map
none-refused r n = refl

module _ (r : Relations ℕ ChiSquare) (n i : ℕ) (f : Option Refusal) (e : f ≡ finding (refusal_of r (up_to n) i)) where
  pub found_none : f ≡ None → refused_to r n (i + 1) ≡ refused_to r n i
  unfolding finding
  found_none q =
      let so = flat_map (refusal_of r (up_to n)) (up_to i) in
      ap (map refusal) (flat-more (refusal_of r (up_to n)) i ∙ ap (λ l. so ++ l) (empty (refusal_of r (up_to n) i) (sym e ∙ q)) ∙ append-nil so)
    where
      empty : (l : List (O.Refused ℕ ChiSquare)) → finding l ≡ None → l ≡ []
      empty [] e = refl
      empty (x ∷ l) e = absurd (true≢false (ap is_some e))

  pub found-one : (x : Refusal) → f ≡ Some x → refused_to r n (i + 1) ≡ refused_to r n i ++ (x ∷ [])
  unfolding finding
  found-one x q =
      let p : is_refused r (up_to n) i ≡ true = by (is_refused r (up_to n) i) (λ t. t) (λ t. absurd (true≢false (ap is_some (sym q ∙ e ∙ ap finding (refused_none r (up_to n) i t))))) in
      let y = refused-one r (up_to n) i p in
      let z : x ≡ refusal y.0 = ap the_refusal (sym q ∙ e ∙ ap finding y.1) in
      let so = flat_map (refusal_of r (up_to n)) (up_to i) in
      ap (map refusal) (flat-more (refusal_of r (up_to n)) i ∙ ap (λ l. so ++ l) y.1) ∙ map_snoc so y.0 ∙ ap (λ v. map refusal so ++ (v ∷ [])) (sym z)
    where
      map_snoc : (l : List (O.Refused ℕ ChiSquare)) (y : O.Refused ℕ ChiSquare) → map refusal (l ++ (y ∷ [])) ≡ map refusal l ++ (refusal y ∷ [])
      map_snoc [] y = refl
      map_snoc (x ∷ l) y = ap (λ k. refusal x ∷ k) (map_snoc l y)

-- after the last item they are all
pub all-refused : (r : Relations ℕ ChiSquare) (n i : ℕ) → i ≤ n → n ≤ i → refused_to r n i ≡ map refusal (S.decide r (up_to n)).refused
unfolding S.decide
all-refused r n i p q = let e : i ≡ n = omega arith in ap (refused_to r n) e
