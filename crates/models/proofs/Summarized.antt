-- Laws of summaries: how long they are, which a conviction leaves, and that what it leaves stays formed.
use Rattle.std.proofs.Common.{ℕ, ◌+◌, ◌≤◌, ◌≡◌, refl, ap, ◌∙◌, true, false, List, [], ◌∷◌, ◌++◌, append-nil, arith, add-zero, length, get_or, take, drop, length-append, take-take, get_or-take, get_or-drop}
use Rattle.octets.specs.Masks.{with_bit}
use Rattle.octets.proofs.Lookup.{bit-set}
use Rattle.octets.proofs.Numbers.{length-word-bytes}
use Rattle.tables.proofs.Keeping.{changed}
use Rattle.models.specs.Summary.{engine_of, model_of, summary_of, summary_size, inputs_size}
use Rattle.models.specs.Summaries.{summary_formed, is_of_another, no_value}
use Rattle.tables.proofs.Striking.{Strike}

pub summary-length : (e model spec : ℕ) (inputs : List ℕ) → length inputs ≡ inputs_size → length (summary_of e model spec inputs) ≡ summary_size
summary-length e model spec inputs h = rw (length-append, length-word-bytes 2 spec, h) refl

pub summary-longer : (e model spec : ℕ) (inputs : List ℕ) → length (summary_of e model spec inputs) ≡ 4 + length inputs
summary-longer e model spec inputs = rw (length-append, length-word-bytes 2 spec) (omega arith)

-- ---- a conviction

pub all_of : summary_size ≤ summary_size
all_of = omega arith

pub none_more : (v : List ℕ) → summary_size + length v ≡ summary_size → summary_size + length (no_value v) ≡ summary_size
none_more v h = refl

-- those of other engines stay, as they are
abbrev pub summaries_without : ℕ → Strike
summaries_without e = record { key = summary_size; width = summary_size; stays = is_of_another e; change = no_value; narrow = all_of; fitting = none_more }

module _ (e : ℕ) (t : List ℕ) (at : ℕ) where
  -- the engine of a summary is its first byte
  first_byte : engine_of (take summary_size (drop at t)) ≡ get_or t at 0
  first_byte = get_or-take summary_size (drop at t) 0 0 (omega arith) ∙ get_or-drop at t 0 0 ∙ ap (λ (x : ℕ). get_or t x 0) (add-zero at)

  pub of-engine : get_or t at 0 ≡ e → is_of_another e (take summary_size (drop at t)) ≡ false
  of-engine z = grind (arith, first_byte)

  pub of-another : (get_or t at 0 ≡ e → ⊥) → is_of_another e (take summary_size (drop at t)) ≡ true
  of-another z = grind (arith, first_byte)

-- a summary moved down is its key moved down
pub whole-moved : (t t' : List ℕ) (from to : ℕ) → t' ≡ take to t ++ (take summary_size (drop from t) ++ drop (to + summary_size) t)
    → t' ≡ take to t ++ ((take summary_size (take summary_size (drop from t)) ++ []) ++ drop (to + summary_size) t)
whole-moved t t' from to h = rw (append-nil, take-take summary_size summary_size (drop from t) all_of) h

engine-kept : (p : List ℕ) → engine_of (take summary_size p ++ []) ≡ engine_of p
engine-kept [] = refl
engine-kept (x ∷ p) = refl

model-kept : (p : List ℕ) → model_of (take summary_size p ++ []) ≡ model_of p
model-kept [] = refl
model-kept (x ∷ []) = refl
model-kept (x ∷ (y ∷ p)) = refl

-- one that is formed and stays is formed when the engine is convicted
pub kept-summary : (c e : ℕ) (p : List ℕ) → summary_formed c p ≡ true → is_of_another e p ≡ true → summary_formed (with_bit c e) (changed summary_size (is_of_another e) no_value p) ≡ true
kept-summary c e p h o = rw (engine-kept p, model-kept p) (grind (arith, bit-set c e (engine_of p)))
