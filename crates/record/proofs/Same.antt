-- Whether bytes are a record is said by its first 238: a record of which these are those of another is one where the other is.
use Prim.Native.Nat.{ℕ, zero, suc, ◌+◌, ◌-◌, ◌*◌, ◌≤◌, ◌<◌}
use mathlib.Core.Path.{◌≡◌, refl, sym, ap, ap₂, ◌∙◌}
use mathlib.Core.Bool.{true}
use mathlib.Core.List.{List, ◌∷◌}
use native.Mathlib.Omega.{arith}
use lib.ListN.{length, get_or, take, drop}
use lib.Seq.{take-take}
use Rattle.std.proofs.lemmas.List.{drop-take}
use Rattle.std.proofs.Common.{get_or-take}
use Rattle.octets.specs.Words.{word}
use Rattle.record.specs.Layout as L
use Rattle.record.specs.Fields.{tags_from, message_length, tag_count, model_count}
use Rattle.record.specs.Formed.{well_formed, height_formed, message_formed, tags_formed, models_formed}
use Rattle.record.proofs.Parts.{Formed, formed, message-fits}

module _ (m : ℕ) (a b : List ℕ) (e : take m a ≡ take m b) where
  part : (s : List ℕ) (n at : ℕ) → at + n ≤ m → take n (drop at s) ≡ take n (drop at (take m s))
  part s n at h =
      let k : m ≡ at + (m - at) = omega arith in
      sym (ap (λ (i : ℕ). take n (drop at (take i s))) k ∙ ap (take n) (drop-take at (m - at) s) ∙ take-take n (m - at) (drop at s) (omega arith))

  window : (n at : ℕ) → at + n ≤ m → take n (drop at a) ≡ take n (drop at b)
  window n at h = part a n at h ∙ ap (λ (s : List ℕ). take n (drop at s)) e ∙ sym (part b n at h)

  byte : (i : ℕ) → i < m → get_or a i 0 ≡ get_or b i 0
  byte i h = sym (get_or-take m a i 0 h) ∙ ap (λ (s : List ℕ). get_or s i 0) e ∙ get_or-take m b i 0 h

module _ (a b : List ℕ) (e : take L.spec_at a ≡ take L.spec_at b) (f : Formed a) where
  same-height : height_formed b ≡ height_formed a
  same-height = rw (byte L.spec_at a b e L.height_flag_at (omega arith), window L.spec_at a b e 4 L.height_at (omega arith)) refl

  same-message : message_formed b ≡ message_formed a
  same-message =
      let n = message-fits a f in
      rw (← byte L.spec_at a b e L.message_length_at (omega arith), window L.spec_at a b e (L.long_message - message_length a) (L.message_at + message_length a) (omega arith)) refl

  same-tags-from : (n i : ℕ) → i + n ≤ L.max_tags → tags_from b i n ≡ tags_from a i n
  unfolding tags_from
  same-tags-from zero i h = refl
  same-tags-from (suc n) i h = ap₂ (λ (t : ℕ) (l : List ℕ). t ∷ l) (ap word (sym (window L.spec_at a b e 8 (L.tags_at + 8 * i) (omega arith)))) (same-tags-from n (i + 1) (omega arith))

  same-tags : tags_formed b ≡ tags_formed a
  same-tags =
      let n = f.few in
      rw (
        ← byte L.spec_at a b e L.tag_count_at (omega arith),
        ← window L.spec_at a b e L.used_size L.used_at (omega arith),
        same-tags-from (tag_count a) 0 (omega arith),
        window L.spec_at a b e (8 * (L.max_tags - tag_count a)) (L.tags_at + 8 * tag_count a) (omega arith),
      ) refl

  same-models : models_formed b ≡ models_formed a
  same-models =
      let n = f.cited in
      rw (
        ← byte L.spec_at a b e L.model_count_at (omega arith),
        ← window L.spec_at a b e (model_count a) L.models_at (omega arith),
        window L.spec_at a b e (L.max_models - model_count a) (L.models_at + model_count a) (omega arith),
      ) refl

-- a record whose first bytes are those of one
pub also-formed : (a b : List ℕ) → take L.spec_at a ≡ take L.spec_at b → length a ≡ length b → well_formed a ≡ true → well_formed b ≡ true
unfolding well_formed
also-formed a b e l h =
    let f = formed a h in
    rw (← l, same-height a b e f, same-message a b e f, same-tags a b e f, same-models a b e f) h
