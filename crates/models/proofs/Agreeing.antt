-- The state of a model, from its first summary on.
use Rattle.std.proofs.Common.{arith, ℕ, ◌≡◌, ◌+◌, ◌-◌, ◌≤◌, Bool, true, false, ◌&&◌, List, [], ◌∷◌, length, Option, Some, None, refl, sym, ap, ◌∙◌, eqb, cond}
use denote.Param.Members.{Mut}
use denote.Ref.{Bor}
use Rattle.std.specs.Fn.{CalledAt}
use Rattle.std.specs.Iterator.{YieldsFirstBy, Yields, FindsItem}
use Rattle.std.specs.List.{FoldsTo, list_all, find, enumerate_from}
use Rattle.tables.proofs.Tables.{length-places}
use Rattle.models.specs.Summary.{summary_size, model_of, spec_of, summary_inputs}
use Rattle.models.specs.Models.{summaries_for, has_spec_and_inputs, state_of, state_from, agreed, disputed}
use Rattle.models.specs.Answers.{summary_places, concurs, first_of}
use Rattle.models.specs.declared.summaries.Summary.{Summary}
use Rattle.models.specs.declared.summaries.Summaries.{Summaries}

-- what a model's summaries have in common, looked for among all
pub concur-all : (m s : ℕ) (h : List ℕ) (ps : List (List ℕ)) → list_all (has_spec_and_inputs s h) (summaries_for m ps) ≡ list_all (concurs m s h) ps
unfolding summaries_for
concur-all m s h [] = refl
concur-all m s h (p ∷ ps) = grind (arith, concur-all m s h ps)

pub as-places : (test : List ℕ → Bool) (ps : List (List ℕ)) → list_all test ps ≡ list_all test ps
as-places test [] = refl
as-places test (p ∷ ps) = ap (λ (b : Bool). test p && b) (as-places test ps)

-- the search for a model's first summary, by a test f that says whether a summary is of the model
module _ (m : ℕ) {F : Type 0} (g : Mut F (Bor Summary × Unit {0}) Bool) where
  abbrev Tests : F → Type 0
  Tests f = (x : Summary) (b : Bool) (q : F) → CalledAt g f x b q → (q ≡ f) × (b ≡ eqb (model_of x.bytes.now) m)

  -- the first summary of the model, where the first of a list is numbered n
  abbrev first_from : ℕ → List (List ℕ) → Option (ℕ × List ℕ)
  first_from n ps = find (λ x. eqb (model_of x.1) m) (enumerate_from n ps)

  -- what is passed over is of other models
  passed : (f : F) → Tests f → (xs : List Summary) (s t : Summaries) (q : F) → Yields (YieldsFirstBy (λ p. p.bytes.now) summary_places) s xs t → FoldsTo (λ p x r. CalledAt g p x false r) f xs q
      → (q ≡ f) × (summaries_for m (summary_places s) ≡ summaries_for m (summary_places t))
  unfolding summaries_for
  passed f says [] s t q y k = (sym k, ap (λ (z : Summaries). summaries_for m (summary_places z)) y)
  passed f says (x ∷ xs) s t q (j, e, y) (p, h, k) =
      let other = says x false p h in
      let kept = passed f says xs j t q y (rw other.0 at k) in
      (kept.0, rw (e, sym other.1) kept.1)

  -- and is counted
  counted : (n : ℕ) (f : F) → Tests f → (xs : List Summary) (s t : Summaries) (q : F) → Yields (YieldsFirstBy (λ p. p.bytes.now) summary_places) s xs t → FoldsTo (λ p x r. CalledAt g p x false r) f xs q
      → (length (summary_places s) ≡ length xs + length (summary_places t)) × (first_from n (summary_places s) ≡ first_from (n + length xs) (summary_places t))
  counted n f says [] s t q y k =
      let none : n ≡ n + 0 = omega arith in
      let same : length (summary_places s) ≡ length (summary_places t) = ap (λ (z : Summaries). length (summary_places z)) y in
      (same ∙ omega arith, ap (λ (z : Summaries). first_from n (summary_places z)) y ∙ ap (λ i. first_from i (summary_places t)) none)
  counted n f says (x ∷ xs) s t q (j, e, y) (p, h, k) =
      let other = says x false p h in
      let kept = counted (n + 1) f says xs j t q y (rw other.0 at k) in
      let one : (n + 1) + length xs ≡ n + length (x ∷ xs) = omega arith in
      let less = kept.0 in
      (ap length e ∙ omega (arith, less), rw (e, sym other.1) (kept.1 ∙ ap (λ i. first_from i (summary_places t)) one))

  module _ (f : F) (says : Tests f) (s u : Summaries) where
    pub none-found : FindsItem (YieldsFirstBy (λ p. p.bytes.now) summary_places) g s f None u → summaries_for m (summary_places s) ≡ []
    unfolding summaries_for
    none-found h = (passed f says h.0 s h.2.0 h.1 h.2.1 h.3).1 ∙ rw h.2.2.0 refl

    pub one-found : (x : Summary) → FindsItem (YieldsFirstBy (λ p. p.bytes.now) summary_places) g s f (Some x) u → summaries_for m (summary_places s) ≡ x.bytes.now ∷ summaries_for m (summary_places u)
    unfolding summaries_for
    one-found x h =
        let p = passed f says h.0 s h.2.0 h.1 h.2.1 h.3 in
        let here = says x true h.4.0 (rw p.0 at h.4.1) in
        p.1 ∙ rw (h.2.2, sym here.1) refl

    -- its place is the number of those before it
    pub place-found : (x : Summary) → FindsItem (YieldsFirstBy (λ p. p.bytes.now) summary_places) g s f (Some x) u
        → (u.count + 1 ≤ s.count) × (first_of m (summary_places s) ≡ Some (s.count - u.count - 1, x.bytes.now))
    place-found x h =
        let p = passed f says h.0 s h.2.0 h.1 h.2.1 h.3 in
        let counts = counted 0 f says h.0 s h.2.0 h.1 h.2.1 h.3 in
        let here = says x true h.4.0 (rw p.0 at h.4.1) in
        let before = counts.0 in
        let behind : length (summary_places h.2.0) ≡ length (summary_places u) + 1 = ap length h.2.2 ∙ omega arith in
        let whole = length-places summary_size s.count s.table.now in
        let rest = length-places summary_size u.count u.table.now in
        let place : 0 + length h.0 ≡ s.count - u.count - 1 = omega (arith, before, behind, whole, rest) in
        (omega (arith, before, behind, whole, rest), counts.1 ∙ rw (h.2.2, sym here.1) (ap (λ i. Some (i, x.bytes.now)) place))

-- the state, once a model's first summary is found and the others are compared with it
pub settled : (m : ℕ) (all rest : List (List ℕ)) (p : List ℕ) (r : Bool) → summaries_for m all ≡ p ∷ summaries_for m rest
    → r ≡ list_all (concurs m (spec_of p) (summary_inputs p)) rest → state_of m all ≡ cond r (agreed (spec_of p) (summary_inputs p)) disputed
unfolding state_from
settled m all rest p r e h = rw (e, h ∙ as-places (concurs m (spec_of p) (summary_inputs p)) rest ∙ sym (concur-all m (spec_of p) (summary_inputs p) rest)) refl
