-- The join of two registers: it is one, whatever its size, and which engines are convicted, which summaries are held and who signs a record in it.
use Rattle.std.proofs.Common.{ℕ, ◌+◌, ◌^◌, ◌<◌, ◌≡◌, refl, sym, ap, subst, ◌∙◌, Bool, true, false, not, ◌&&◌, ◌||◌, List, [], ◌∷◌, ◌++◌, append-nil, arith, eqb, length, take, drop, eqb-true}
use lib.Bits.{bit_and, bit_or, and_le_l, or_lt, xor_lt}
use Rattle.octets.specs.Masks.{bit}
use Rattle.octets.specs.Words.{word, word_bytes}
use Rattle.std.specs.List.{list_all}
use Rattle.lists.proofs.Bools.{by}
use Rattle.octets.proofs.Lookup.{bit-zero, bit-ext, bit-or}
use Rattle.octets.proofs.Numbers.{length-word-bytes, word-of-bytes}
use Rattle.tables.specs.Places.{holds}
use Rattle.tables.proofs.Keeping.{changed, kept-wide, kept-ascending, kept-all, holds_kept, lookup-kept}
use Rattle.models.specs.Summary.{summary_size, engine_of, model_of}
use Rattle.record.specs.Layout.{record_size}
use Rattle.signed_records.specs.Signed.{place_size}
use Rattle.models.specs.Summaries.{no_value, summary_formed}
use Rattle.signed_records.specs.Signed.{signers_in}
use Rattle.models.proofs.Summarized.{all_of, none_more}
use Rattle.engines.proofs.Masks.{apart, disjoint, or_apart, nothing-apart}
use Rattle.signed_records.proofs.Signatures.{no_word, key_of, place_held, place, place-small, held_place}
use Rattle.register.specs.Register.{Register}
use Rattle.register.specs.Claims.{signers_of}
use Rattle.register_join.specs.Join.{united, without_bits, both_signers, drop_signers, has_free_signer, is_of_free, strike_engines, joined}
use Rattle.register.proofs.Steps.{nothing-follows}
use Rattle.register_join.proofs.Uniting.{bit-without, united-holds, united-ascending, united-lookup, united-wide, united_all}
use Rattle.register_join.proofs.Loose.{Loose, unsigned, signers-small, rest, none-convicted, summary-passes}

-- ---- sets

pub without-small : (m c : ℕ) → m < 256 ^ 4 → without_bits m c < 256 ^ 4
unfolding without_bits
without-small m c h = xor_lt 32 m (bit_and m c) h (let l = and_le_l m c in omega arith)

or-some : (m n : ℕ) → eqb m 0 ≡ false → eqb (bit_or m n) 0 ≡ false
or-some m n h = by (eqb (bit_or m n) 0) (λ z. let o : m ≡ 0 = none (eqb-true (bit_or m n) 0 z) in absurd (grind (arith, o, h))) (λ z. z)
  where
    none : bit_or m n ≡ 0 → m ≡ 0
    none z = bit-ext m 0 (λ k. grind (arith, bit-or m n k, ap (λ (x : ℕ). bit x k) z, bit-zero k))

-- ---- a set of engines convicted

pub engine-kept : (p : List ℕ) → engine_of (take summary_size p ++ []) ≡ engine_of p
engine-kept [] = refl
engine-kept (x ∷ p) = refl

pub model-kept : (p : List ℕ) → model_of (take summary_size p ++ []) ≡ model_of p
model-kept [] = refl
model-kept (x ∷ []) = refl
model-kept (x ∷ (y ∷ p)) = refl

pub fitting : (c : ℕ) (v : List ℕ) → record_size + length v ≡ place_size → record_size + length (drop_signers c v) ≡ place_size
fitting c v h = ap (λ (x : ℕ). record_size + x) (length-word-bytes 4 (without_bits (word v) c))

module _ (c : ℕ) (small : c < 256 ^ 4) (s : Register) (v : Loose s) where
  abbrev all : ℕ
  all = bit_or c s.convicted

  struck-summary : (p : List ℕ) → summary_formed s.convicted p ≡ true → is_of_free c p ≡ true → summary_formed all (changed summary_size (is_of_free c) no_value p) ≡ true
  struck-summary p h o = rw (engine-kept p, model-kept p) (grind (arith, bit-or c s.convicted (engine_of p)))

  struck-place : (p : List ℕ) → place_held s.convicted p ≡ true → has_free_signer c p ≡ true → place_held all (changed record_size (has_free_signer c) (drop_signers c) p) ≡ true
  struck-place p h o =
      let u = place s.convicted p h in
      held_place all (take record_size p) u.formed (without_bits (signers_in p) c) (without-small (signers_in p) c (place-small s.convicted p u)) (grind arith)
      (disjoint (without_bits (signers_in p) c) all (λ k. grind (arith, bit-without (signers_in p) c k, bit-or c s.convicted k, apart (signers_in p) s.convicted k u.free)))

  pub struck-loose : Loose (strike_engines c s)
  struck-loose = record {
    small = or_lt 32 c s.convicted small v.small;
    summaries_wide = kept-wide summary_size (is_of_free c) no_value summary_size all_of none_more s.summaries v.summaries_wide;
    records_wide = kept-wide record_size (has_free_signer c) (drop_signers c) place_size key_of (fitting c) s.records v.records_wide;
    summaries_ascend = kept-ascending summary_size (is_of_free c) no_value summary_size all_of none_more s.summaries v.summaries_wide v.summaries_ascend;
    records_ascend = kept-ascending record_size (has_free_signer c) (drop_signers c) place_size key_of (fitting c) s.records v.records_wide v.records_ascend;
    summaries_formed = kept-all summary_size (is_of_free c) no_value (summary_formed s.convicted) (summary_formed all) struck-summary s.summaries v.summaries_formed;
    records_held = kept-all record_size (has_free_signer c) (drop_signers c) (place_held s.convicted) (place_held all) struck-place s.records v.records_held;
  }

  pub struck-holds : (p : List ℕ) → holds summary_size p (strike_engines c s).summaries ≡ (holds summary_size p s.summaries && is_of_free c p)
  struck-holds p =
      holds_kept summary_size (is_of_free c) no_value summary_size all_of none_more p s.summaries v.summaries_wide v.summaries_ascend
      ∙ ap (λ (l : List ℕ). holds summary_size p s.summaries && is_of_free c l) (ap (λ (l : List ℕ). p ++ l) (nothing-follows p s.summaries v.summaries_wide) ∙ append-nil p)

  nothing-without : without_bits 0 c ≡ 0
  nothing-without = bit-ext (without_bits 0 c) 0 (λ k. grind (arith, bit-without 0 c k, bit-zero k))

  pub struck-signers : (r : List ℕ) → signers_of r (strike_engines c s) ≡ without_bits (signers_of r s) c
  struck-signers r =
      ap word (lookup-kept record_size (has_free_signer c) (drop_signers c) place_size key_of (fitting c) r s.records v.records_wide v.records_ascend)
      ∙ by (holds record_size r s.records)
      (λ h. by (eqb (without_bits (signers_of r s) c) 0)
      (λ z. rw (h, ap word (rest s v r h), z, no_word) (sym (eqb-true (without_bits (signers_of r s) c) 0 z)))
      (λ z. rw (h, ap word (rest s v r h), z) (word-of-bytes 4 (without_bits (signers_of r s) c) (without-small (signers_of r s) c (signers-small s v r)))))
      (λ h. rw (h, no_word, unsigned s v r h) (sym nothing-without))

-- ---- two registers with the same convicted

abbrev unite : ℕ → Register → Register → Register
unite c u v =
    record {
      convicted = c;
      summaries = united summary_size (λ v w. []) u.summaries v.summaries;
      records = united record_size both_signers u.records v.records;
    }

module _ (c : ℕ) (u v : Register) (a : Loose u) (b : Loose v) (d : u.convicted ≡ c) (e : v.convicted ≡ c) where
  one-summary : (p : List ℕ) → summary_formed c p ≡ true → summary_formed c (take summary_size p ++ []) ≡ true
  one-summary p h = rw (engine-kept p, model-kept p) h

  of_both : (p : List ℕ) (m n : ℕ) → place_held c p ≡ true → m ≡ signers_in p → n < 256 ^ 4 → eqb (bit_and n c) 0 ≡ true → place_held c (take record_size p ++ word_bytes 4 (bit_or m n)) ≡ true
  of_both p m n h q l f =
      let o = place c p h in
      rw q (held_place c (take record_size p) o.formed (bit_or (signers_in p) n) (or_lt 32 (signers_in p) n (place-small c p o) l) (or-some (signers_in p) n o.some) (or_apart (signers_in p) n c o.free f))

  one-place : (p : List ℕ) → place_held c p ≡ true → place_held c (take record_size p ++ both_signers (drop record_size p) []) ≡ true
  one-place p h = of_both p (signers_in p) (word []) h refl (rw no_word (omega arith)) (rw no_word (nothing-apart c))

  two-places : (p q : List ℕ) → take record_size q ≡ take record_size p → place_held c p ≡ true → place_held c q ≡ true → place_held c (take record_size q ++ both_signers (drop record_size p) (drop record_size q)) ≡ true
  two-places p q k h g = let o = place c q g in rw k (of_both p (signers_in p) (signers_in q) h refl (place-small c q o) o.free)

  unite-loose : Loose (unite c u v)
  unite-loose = record {
    small = subst (λ (x : ℕ). x < 256 ^ 4) d a.small;
    summaries_wide = united-wide summary_size summary_size all_of (λ v w. []) (λ x y h g. refl) (λ x y h g. refl) u.summaries v.summaries a.summaries_wide b.summaries_wide;
    records_wide = united-wide record_size place_size key_of both_signers (λ x y h g. four x y) (λ x y h g. four x y) u.records v.records a.records_wide b.records_wide;
    summaries_ascend = united-ascending summary_size summary_size all_of (λ v w. []) u.summaries v.summaries a.summaries_wide b.summaries_ascend;
    records_ascend = united-ascending record_size place_size key_of both_signers u.records v.records a.records_wide b.records_ascend;
    summaries_formed =
        united_all summary_size summary_size all_of (λ v w. []) (summary_formed c) one-summary (λ p q k h g. one-summary q g) u.summaries v.summaries
        (subst (λ (x : ℕ). list_all (summary_formed x) u.summaries ≡ true) d a.summaries_formed) (subst (λ (x : ℕ). list_all (summary_formed x) v.summaries ≡ true) e b.summaries_formed);
    records_held =
        united_all record_size place_size key_of both_signers (place_held c) one-place two-places u.records v.records
        (subst (λ (x : ℕ). list_all (place_held x) u.records ≡ true) d a.records_held) (subst (λ (x : ℕ). list_all (place_held x) v.records ≡ true) e b.records_held);
  }
    where
      four : (x y : List ℕ) → record_size + length (both_signers x y) ≡ place_size
      four x y = ap (λ (n : ℕ). record_size + n) (length-word-bytes 4 (bit_or (word x) (word y)))

  unite-holds : (p : List ℕ) → holds summary_size p (unite c u v).summaries ≡ (holds summary_size p u.summaries || holds summary_size p v.summaries)
  unite-holds p = united-holds summary_size summary_size all_of (λ v w. []) p u.summaries v.summaries a.summaries_wide

  unite-signers : (n : ℕ) (r : List ℕ) → bit (signers_of r (unite c u v)) n ≡ (bit (signers_of r u) n || bit (signers_of r v) n)
  unite-signers n r =
      ap (λ (l : List ℕ). bit (word l) n) (united-lookup record_size place_size key_of both_signers r u.records v.records a.records_wide a.records_ascend b.records_ascend)
      ∙ by (holds record_size r u.records)
      (λ h. rw (h, word-of-bytes 4 (bit_or (signers_of r u) (signers_of r v)) (or_lt 32 (signers_of r u) (signers_of r v) (signers-small u a r) (signers-small v b r))) (bit-or (signers_of r u) (signers_of r v) n))
      (λ h. rw (h, unsigned u a r h, bit-zero n) refl)

-- ---- the join

module _ (t s : Register) (b : Loose t) (a : Loose s) where
  abbrev u : Register
  u = strike_engines s.convicted t

  abbrev v : Register
  v = strike_engines t.convicted s

  turned : bit_or s.convicted t.convicted ≡ bit_or t.convicted s.convicted
  turned = bit-ext (bit_or s.convicted t.convicted) (bit_or t.convicted s.convicted) (λ k. grind (arith, bit-or s.convicted t.convicted k, bit-or t.convicted s.convicted k))

  u-loose : Loose u
  u-loose = struck-loose s.convicted a.small t b

  v-loose : Loose v
  v-loose = struck-loose t.convicted b.small s a

  pub joined-loose : Loose (joined t s)
  unfolding joined
  joined-loose = unite-loose (bit_or t.convicted s.convicted) u v u-loose v-loose turned refl

  pub joined-convicted : (e : ℕ) → bit (joined t s).convicted e ≡ (bit t.convicted e || bit s.convicted e)
  unfolding joined
  joined-convicted e = bit-or t.convicted s.convicted e

  -- of an engine that is convicted in neither
  abbrev pub free : ℕ → Bool
  free e = not (bit t.convicted e || bit s.convicted e)

  pub joined-holds : (p : List ℕ) → holds summary_size p (joined t s).summaries ≡ ((holds summary_size p t.summaries || holds summary_size p s.summaries) && free (engine_of p))
  unfolding joined
  joined-holds p =
      unite-holds (bit_or t.convicted s.convicted) u v u-loose v-loose turned refl p
      ∙ grind (arith, struck-holds s.convicted a.small t b p, struck-holds t.convicted b.small s a p, λ (h : holds summary_size p t.summaries ≡ true). of-t p h, λ (h : holds summary_size p s.summaries ≡ true). of-s p h)
    where
      of-t : (p : List ℕ) → holds summary_size p t.summaries ≡ true → bit t.convicted (engine_of p) ≡ false
      of-t p h = grind (arith, summary-passes t b p h)

      of-s : (p : List ℕ) → holds summary_size p s.summaries ≡ true → bit s.convicted (engine_of p) ≡ false
      of-s p h = grind (arith, summary-passes s a p h)

  pub joined-signers : (e : ℕ) (r : List ℕ) → bit (signers_of r (joined t s)) e ≡ ((bit (signers_of r t) e || bit (signers_of r s) e) && free e)
  unfolding joined
  joined-signers e r =
      unite-signers (bit_or t.convicted s.convicted) u v u-loose v-loose turned refl e r
      ∙ grind (
        arith,
        struck-signers s.convicted a.small t b r,
        struck-signers t.convicted b.small s a r,
        bit-without (signers_of r t) s.convicted e,
        bit-without (signers_of r s) t.convicted e,
        none-convicted t b r e,
        none-convicted s a r e,
      )
