-- Registers of any size: as Valid, but for the limits of how many records and summaries there are. The join of two valid registers is one before it is known
-- whether it has room.
use Rattle.std.proofs.Common.{ℕ, ◌^◌, ◌<◌, ◌≡◌, refl, sym, ap, ap₂, subst, ◌∙◌, true, false, cond, not, ◌&&◌, List, [], ◌++◌, append-nil, arith, eqb, length, take, drop, take_at, drop_at}
use Rattle.octets.specs.Masks.{bit}
use Rattle.octets.specs.Words.{word, word_bytes}
use Rattle.std.specs.List.{list_all}
use Rattle.lists.proofs.Bools.{by}
use Rattle.octets.proofs.Lookup.{bit-zero, bit-ext}
use Rattle.tables.specs.Places.{ascending, holds, lookup}
use Rattle.tables.proofs.Tables.{wide}
use Rattle.tables.proofs.Keys.{absent, ascending-ext}
use Rattle.models.specs.Summary.{summary_size}
use Rattle.record.specs.Layout.{record_size}
use Rattle.record.specs.Formed as R
use Rattle.signed_records.specs.Signed.{place_size}
use Rattle.models.specs.Summaries.{summary_formed}
use Rattle.signed_records.specs.Signed.{signers_in}
use Rattle.engines.proofs.Masks.{apart}
use Rattle.signed_records.proofs.Signatures.{no_word, key_of, place_held, Place, place, place-small}
use Rattle.register.specs.Register.{Register}
use Rattle.register.specs.Claims.{signers_of}
use Rattle.register_join.specs.Join.{overfull}
use Rattle.register.proofs.Valid.{Valid}
use Rattle.register.proofs.Steps.{held-passes, held-long, nothing-follows}

pub record Loose (s : Register) : Type 0 where
  pub small : s.convicted < 256 ^ 4
  pub summaries_wide : wide summary_size s.summaries
  pub records_wide : wide place_size s.records
  pub summaries_ascend : ascending summary_size s.summaries ≡ true
  pub records_ascend : ascending record_size s.records ≡ true
  pub summaries_formed : list_all (summary_formed s.convicted) s.summaries ≡ true
  pub records_held : list_all (place_held s.convicted) s.records ≡ true

pub loose : (s : Register) → Valid s → Loose s
loose s v = record {
  small = v.small;
  summaries_wide = v.summaries_wide;
  records_wide = v.records_wide;
  summaries_ascend = v.summaries_ascend;
  records_ascend = v.records_ascend;
  summaries_formed = v.summaries_formed;
  records_held = v.records_held;
}

-- with room for it, it is valid
pub with-room : (s : Register) → Loose s → overfull s ≡ false → Valid s
with-room s v h = record {
  small = v.small;
  few_summaries = grind arith;
  few_records = grind arith;
  summaries_wide = v.summaries_wide;
  records_wide = v.records_wide;
  summaries_ascend = v.summaries_ascend;
  records_ascend = v.records_ascend;
  summaries_formed = v.summaries_formed;
  records_held = v.records_held;
}

pub valid-fits : (s : Register) → Valid s → overfull s ≡ false
valid-fits s v = grind (arith, v.few_records, v.few_summaries)

-- ---- what is looked up

module _ (s : Register) (v : Loose s) (r : List ℕ) where
  pub unsigned : holds record_size r s.records ≡ false → signers_of r s ≡ 0
  unsigned h = ap word (absent record_size r s.records h) ∙ no_word

  module _ (h : holds record_size r s.records ≡ true) where
    pub rest : drop record_size (r ++ lookup record_size r s.records) ≡ lookup record_size r s.records
    rest = drop_at r (lookup record_size r s.records) record_size (held-long record_size place_size r s.records key_of v.records_wide h)

    pub held-is : Place s.convicted (r ++ lookup record_size r s.records)
    held-is = place s.convicted (r ++ lookup record_size r s.records) (held-passes record_size r (place_held s.convicted) s.records v.records_held h)

    signed : eqb (signers_of r s) 0 ≡ false
    signed = ap (λ (x : List ℕ). eqb (word x) 0) (sym rest) ∙ held-is.some

    held_bytes : lookup record_size r s.records ≡ word_bytes 4 (signers_of r s)
    held_bytes = sym rest ∙ held-is.bytes ∙ ap (λ (x : List ℕ). word_bytes 4 (word x)) rest

    held_small : signers_of r s < 256 ^ 4
    held_small = subst (λ (x : List ℕ). word x < 256 ^ 4) rest (place-small s.convicted (r ++ lookup record_size r s.records) held-is)

  pub signers-small : signers_of r s < 256 ^ 4
  signers-small = by (holds record_size r s.records) held_small (λ h. rw (unsigned h) (omega arith))

  pub held-signed : holds record_size r s.records ≡ not (eqb (signers_of r s) 0)
  held-signed = grind (arith, signed, unsigned)

  pub lookup-signed : lookup record_size r s.records ≡ cond (eqb (signers_of r s) 0) [] (word_bytes 4 (signers_of r s))
  lookup-signed = grind (arith, held_bytes, signed, absent record_size r s.records, unsigned)

  -- a convicted engine signs nothing
  pub none-convicted : (e : ℕ) → (bit (signers_of r s) e && bit s.convicted e) ≡ false
  none-convicted e =
      by (holds record_size r s.records)
      (λ h. subst (λ (n : ℕ). (bit n e && bit s.convicted e) ≡ false) (ap word (rest h)) (apart (signers_in (r ++ lookup record_size r s.records)) s.convicted e (held-is h).free))
      (λ h. rw (unsigned h, bit-zero e) refl)

  -- and what is signed is a record
  pub signed-formed : (e : ℕ) → bit (signers_of r s) e ≡ true → R.well_formed r ≡ true
  signed-formed e z =
      by (holds record_size r s.records)
      (λ h. rw (take-key h) at (held-is h).formed)
      (λ h. grind (arith, unsigned h, bit-zero e))
    where
      take-key : (h : holds record_size r s.records ≡ true) → take record_size (r ++ lookup record_size r s.records) ≡ r
      take-key h = take_at r (lookup record_size r s.records) record_size (held-long record_size place_size r s.records key_of v.records_wide h)

-- a summary that is held is within the limits, of an engine that is not convicted, and 36 bytes
module _ (s : Register) (v : Loose s) (p : List ℕ) (h : holds summary_size p s.summaries ≡ true) where
  whole : p ++ lookup summary_size p s.summaries ≡ p
  whole = ap (λ (l : List ℕ). p ++ l) (nothing-follows p s.summaries v.summaries_wide) ∙ append-nil p

  pub summary-passes : summary_formed s.convicted p ≡ true
  summary-passes = sym (ap (summary_formed s.convicted) whole) ∙ held-passes summary_size p (summary_formed s.convicted) s.summaries v.summaries_formed h

  pub summary-long : length p ≡ summary_size
  summary-long = held-long summary_size summary_size p s.summaries (omega arith) v.summaries_wide h

-- ---- registers that hold the same are the same

abbrev made : ℕ → List (List ℕ) → List (List ℕ) → Register
made c h r = record { convicted = c; summaries = h; records = r }

same-parts : (s t : Register) → s.convicted ≡ t.convicted → s.summaries ≡ t.summaries → s.records ≡ t.records → s ≡ t
same-parts s t c h r =
    ap (λ (x : ℕ). made x s.summaries s.records) c
    ∙ ap₂ (λ (x y : List (List ℕ)). made t.convicted x y) h r

module _ (s t : Register) (v : Loose s) (u : Loose t) where
  pub summaries-same : ((p : List ℕ) → holds summary_size p s.summaries ≡ holds summary_size p t.summaries) → s.summaries ≡ t.summaries
  summaries-same h =
      ascending-ext summary_size s.summaries t.summaries v.summaries_ascend u.summaries_ascend h
      (λ p. nothing-follows p s.summaries v.summaries_wide ∙ sym (nothing-follows p t.summaries u.summaries_wide))

  pub records-same : ((r : List ℕ) → signers_of r s ≡ signers_of r t) → s.records ≡ t.records
  records-same h =
      ascending-ext record_size s.records t.records v.records_ascend u.records_ascend
      (λ r. held-signed s v r ∙ ap (λ (n : ℕ). not (eqb n 0)) (h r) ∙ sym (held-signed t u r))
      (λ r. lookup-signed s v r ∙ ap (λ (n : ℕ). cond (eqb n 0) [] (word_bytes 4 n)) (h r) ∙ sym (lookup-signed t u r))

  pub registers-same : ((e : ℕ) → bit s.convicted e ≡ bit t.convicted e)
      → ((p : List ℕ) → holds summary_size p s.summaries ≡ holds summary_size p t.summaries)
      → ((e : ℕ) (r : List ℕ) → bit (signers_of r s) e ≡ bit (signers_of r t) e) → s ≡ t
  registers-same c h b =
      same-parts s t (bit-ext s.convicted t.convicted c) (summaries-same h) (records-same (λ r. bit-ext (signers_of r s) (signers_of r t) (λ e. b e r)))
