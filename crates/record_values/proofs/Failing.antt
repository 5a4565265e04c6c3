-- The first check that fails: of two lists, one behind the other; and none exactly where all hold, which are those of a record.
use Rattle.std.proofs.Common.{◌≡◌, ◌∙◌, sym, ap, ap₂, refl, take, drop, ℕ, suc, ◌+◌, ◌++◌, ◌&&◌, Bool, true, false, List, [], ◌∷◌, length, ◌||◌, ◌*◌, ◌-◌, ◌^◌, cond, eqb, leb, ltb, arith}
use Rattle.std.specs.List.{list_all}
use Rattle.record.specs.Formed.{ascends, all_up_to, well_formed}
use borrow.Author.Tests.{ne_eqb, eqb-true}
use Rattle.lists.proofs.Bools.{by}
use Rattle.octets.specs.Runs.{all_zero}
use Rattle.record.specs.Layout as L
use Rattle.record.specs.Fields as F
use Rattle.record_values.specs.declared.faults.Fault.{Fault}
use Rattle.record_values.specs.declared.faults.Fault.TheVariants as V
use Rattle.record_values.specs.Faults.{first_failing, checks, fault_number}
use Rattle.record_values.specs.Numbers.{fault_number_of}
use Rattle.record_values.specs.Claims.{NoFaultExactlyWhen}

pub in-first : (n : ℕ) (a b : List Bool) → (first_failing (suc n) a ≡ 0 → ⊥) → first_failing (suc n) (a ++ b) ≡ first_failing (suc n) a
unfolding first_failing
in-first n [] b f = absurd (f refl)
in-first n (x ∷ a) b f = by x (λ h. rw h (in-first (suc n) a b (λ e. f (rw h e)))) (λ h. rw h refl)

pub in-second : (n : ℕ) (a b : List Bool) → first_failing (suc n) a ≡ 0 → first_failing (suc n) (a ++ b) ≡ first_failing (suc n + length a) b
unfolding first_failing
in-second n [] b e = let z : suc n ≡ suc n + 0 = omega arith in ap (λ (k : ℕ). first_failing k b) z
in-second n (x ∷ a) b e =
    let z : suc (suc n) + length a ≡ suc n + suc (length a) = omega arith in
    by x (λ h. rw h (in-second (suc n) a b (rw h at e) ∙ ap (λ (k : ℕ). first_failing k b) z)) (λ h. absurd (grind (arith, e, h)))

pub some-fault : (f : Fault) → fault_number_of f ≡ 0 → ⊥
some-fault V.Length e = omega (arith, e)
some-fault V.HeightFlag e = omega (arith, e)
some-fault V.HeightRoom e = omega (arith, e)
some-fault V.MessageLength e = omega (arith, e)
some-fault V.MessageRoom e = omega (arith, e)
some-fault V.NoTag e = omega (arith, e)
some-fault V.TooManyTags e = omega (arith, e)
some-fault V.UsedMask e = omega (arith, e)
some-fault V.TagOrder e = omega (arith, e)
some-fault V.TagRoom e = omega (arith, e)
some-fault V.TooManyModels e = omega (arith, e)
some-fault V.Model e = omega (arith, e)
some-fault V.ModelRoom e = omega (arith, e)

none-fails : (n : ℕ) (bs : List Bool) → eqb (first_failing (suc n) bs) 0 ≡ list_all (λ b. b) bs
unfolding first_failing
none-fails n [] = refl
none-fails n (x ∷ bs) = by x (λ h. rw h (none-fails (suc n) bs)) (λ h. rw (h, ne_eqb (suc n) 0 (λ e. omega (arith, e))) refl)

-- the checks as a record's definition groups them
grouped : (h i m n s t u v w x y z : Bool) → (h && (i && (m && (n && (s && (t && (u && (v && (w && (x && (y && (z && true))))))))))))
    ≡ ((h && i) && ((m && n) && ((s && (t && (u && (v && w)))) && (x && (y && z)))))
grouped false _ _ _ _ _ _ _ _ _ _ _ = refl
grouped true false _ _ _ _ _ _ _ _ _ _ = refl
grouped true true false _ _ _ _ _ _ _ _ _ = refl
grouped true true true false _ _ _ _ _ _ _ _ = refl
grouped true true true true false _ _ _ _ _ _ _ = refl
grouped true true true true true false _ _ _ _ _ _ = refl
grouped true true true true true true false _ _ _ _ _ = refl
grouped true true true true true true true false _ _ _ _ = refl
grouped true true true true true true true true false _ _ _ = refl
grouped true true true true true true true true true x y z = by x (λ a. by y (λ c. by z (λ d. rw (a, c, d) refl) (λ d. rw (a, c, d) refl)) (λ c. rw (a, c) refl)) (λ a. rw a refl)

-- a flag that is 0 or 1, and zeros where it is 0
height-grouped : (f : ℕ) (b : Bool) → (leb f 1 && (eqb f 1 || b)) ≡ cond (eqb f 0) b (eqb f 1)
height-grouped f b =
    by (eqb f 0) (λ h. rw (eqb-true f 0 h) refl)
    (λ h. by (eqb f 1) (λ k. rw (eqb-true f 1 k) refl) (λ k. let z : leb f 1 ≡ false = grind (arith, h, k) in rw (h, k, z) refl))

pub no-fault : (r : List ℕ) → eqb (fault_number r) 0 ≡ well_formed r
unfolding well_formed
no-fault r =
    none-fails 0 (checks r)
    ∙ ap (λ (z : Bool). eqb (length r) L.record_size && z)
    (grouped (leb (F.byte_at L.height_flag_at r) 1) (eqb (F.byte_at L.height_flag_at r) 1 || all_zero (take 4 (drop L.height_at r)))
    (eqb (F.message_length r) L.short_message || eqb (F.message_length r) L.long_message)
    (all_zero (take (L.long_message - F.message_length r) (drop (L.message_at + F.message_length r) r))) (leb 1 (F.tag_count r)) (leb (F.tag_count r) L.max_tags)
    (ltb (F.used r) (2 ^ F.tag_count r)) (ascends (F.tags r)) (all_zero (take (8 * (L.max_tags - F.tag_count r)) (drop (L.tags_at + 8 * F.tag_count r) r)))
    (leb (F.model_count r) L.max_models) (all_up_to L.max_model (F.models r))
    (all_zero (take (L.max_models - F.model_count r) (drop (L.models_at + F.model_count r) r)))
    ∙ ap₂ (λ (x y : Bool). x && y) (height-grouped (F.byte_at L.height_flag_at r) (all_zero (take 4 (drop L.height_at r)))) refl)

pub no-fault-exactly-when : NoFaultExactlyWhen
no-fault-exactly-when r = ((λ e. sym (no-fault r) ∙ rw e refl), (λ w. eqb-true _ _ (no-fault r ∙ w)))
