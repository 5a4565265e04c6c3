-- For which model a record waits: the first that it cites of those without a summary, where there is one. A record that counts waits for none.
use Rattle.std.proofs.Common.{ℕ, Bool, ◌≡◌, ◌≤◌, ◌<◌, ◌+◌, true, false, List, [], ◌∷◌, ◌++◌, ◌||◌, refl, sym, ap, ◌∙◌, arith, Option, Some, None, length, drop, get_or, add-one, drop-cons}
use mathlib.Core.Logic.{◌↔◌}
use lib.ListN.{drop_of_length-le}
use Rattle.std.specs.List.{find, list_any}
use Rattle.lists.proofs.Bools.{by, and_left, and_right, neither_left, neither_right}
use Rattle.record.specs.Fields.{models, spec}
use Rattle.record.specs.Relations.{member}
use Rattle.models.specs.Models.{State, missing, agreed, disputed, state_of, agreed_as, all_agreed, counts}
use Rattle.models.specs.Missing.{is_missing, first_missing}
use Rattle.models.specs.Claims.{FirstMissing, WaitsExactlyWhere}

module _ (ps : List (List ℕ)) where
  abbrev lacks : ℕ → Bool
  lacks m = is_missing (state_of m ps)

  -- ---- the walk over the models that a record cites

  module _ (ms : List ℕ) where
    next : (i : ℕ) → i < length ms → drop i ms ≡ get_or ms i 0 ∷ drop (i + 1) ms
    next i h = drop-cons ms i 0 h ∙ rw (add-one i) refl

    pub passed : (i : ℕ) → i < length ms → find lacks ms ≡ find lacks (drop i ms) → lacks (get_or ms i 0) ≡ false → find lacks ms ≡ find lacks (drop (i + 1) ms)
    passed i h e f = e ∙ rw (next i h, f) refl

    pub here : (i : ℕ) → i < length ms → find lacks ms ≡ find lacks (drop i ms) → lacks (get_or ms i 0) ≡ true → find lacks ms ≡ Some (get_or ms i 0)
    here i h e f = e ∙ rw (next i h, f) refl

    pub nowhere : (i : ℕ) → length ms ≤ i → find lacks ms ≡ find lacks (drop i ms) → find lacks ms ≡ None
    nowhere i h e = e ∙ rw (drop_of_length-le ms h) refl

  -- ---- what is found

  here-first : (k m : ℕ) (ms : List ℕ) → k ≡ m → lacks k ≡ true → FirstMissing ps (k ∷ ms) m
  here-first k m ms e l = record { before = []; behind = ms; parts = ap (λ (x : ℕ). x ∷ ms) e; none_before = refl; missing = sym (ap lacks e) ∙ l }

  later : (k m : ℕ) (ms : List ℕ) → lacks k ≡ false → FirstMissing ps ms m → FirstMissing ps (k ∷ ms) m
  later k m ms l f = record {
    before = k ∷ f.before;
    behind = f.behind;
    parts = ap (λ (x : List ℕ). k ∷ x) f.parts;
    none_before = ap (λ (b : Bool). b || list_any lacks f.before) l ∙ f.none_before;
    missing = f.missing;
  }

  found : (ms : List ℕ) (m : ℕ) → find lacks ms ≡ Some m → FirstMissing ps ms m
  found [] m e = absurd (let z : ⊥ = cc in z)
  found (k ∷ ms) m e =
      by (lacks k)
      (λ h. here-first k m ms (let z : Some k ≡ Some m = sym (rw h refl) ∙ e in cc) h)
      (λ h. later k m ms h (found ms m (sym (rw h refl) ∙ e)))

  among : (m : ℕ) (before behind : List ℕ) → member m (before ++ (m ∷ behind)) ≡ true
  unfolding member
  among m [] behind = grind arith
  among m (k ∷ before) behind = grind (arith, among m before behind)

  pub is_cited : (ms : List ℕ) (m : ℕ) → FirstMissing ps ms m → member m ms ≡ true
  is_cited ms m f = rw f.parts (among m f.before f.behind)

  nothing : (ms : List ℕ) → find lacks ms ≡ None → list_any lacks ms ≡ false
  nothing [] e = refl
  nothing (k ∷ ms) e = by (lacks k) (λ l. grind (arith, e, l)) (λ l. rw l (nothing ms (sym (rw l refl) ∙ e)))

  in-vain : (ms : List ℕ) → list_any lacks ms ≡ false → find lacks ms ≡ None
  in-vain [] e = refl
  in-vain (k ∷ ms) e = rw (neither_left (lacks k) (list_any lacks ms) e) (in-vain ms (neither_right (lacks k) (list_any lacks ms) e))

  agreed-there : (s : ℕ) (x : State) → agreed_as s x ≡ true → is_missing x ≡ false
  agreed-there s missing e = grind arith
  agreed-there s (agreed x h) e = refl
  agreed-there s disputed e = refl

  pub counts-waits-not : (s : ℕ) (ms : List ℕ) → all_agreed s ms ps ≡ true → find lacks ms ≡ None
  unfolding all_agreed
  counts-waits-not s [] e = refl
  counts-waits-not s (m ∷ ms) e =
      rw (agreed-there s (state_of m ps) (and_left (agreed_as s (state_of m ps)) (all_agreed s ms ps) e)) (counts-waits-not s ms (and_right (agreed_as s (state_of m ps)) (all_agreed s ms ps) e))

pub waits_exactly_where : WaitsExactlyWhere
waits_exactly_where =
    record {
      none_missing = λ ps r. (nothing ps (models r), in-vain ps (models r));
      for_first = λ ps r. found ps (models r);
      counted = λ ps r. counts-waits-not ps (spec r) (models r);
    }
