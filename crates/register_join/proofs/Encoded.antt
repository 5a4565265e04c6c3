-- The bytes of a join: its header, and the tables that a walk through both makes; and when it has room.
use Rattle.std.proofs.Common.{ℕ, ◌+◌, ◌≡◌, refl, sym, ap, take, drop, replicate, take_at, drop_at, ◌∙◌, true, false, List, ◌++◌, arith, ltb, length, Result, Ok, Err}
use lib.Bits.{bit_or}
use lib.ListN.{length-replicate, replicate-append-replicate}
use Rattle.errors.specs.declared.Error.{Error}
use Rattle.errors.specs.declared.Error.TheVariants.{Full}
use Rattle.tables.specs.Places.{table_of}
use Rattle.models.specs.Limits.{max_summaries}
use Rattle.models.specs.Summary.{summary_size}
use Rattle.signed_records.specs.Signed.{place_size}
use Rattle.register.specs.Layout.{max_records}
use Rattle.register.specs.Register.{Register}
use Rattle.register.specs.Memory.{encode}
use Rattle.register.proofs.Frames.{frame-is}
use Rattle.register_join.specs.Join.{joined, overfull}
use Rattle.register_join.specs.Merged.{records_together, summaries_together, counted_in, header_of}

-- parts of zeros
abbrev pub zeros : ℕ → List ℕ
zeros n = replicate n 0

module _ (a b c : ℕ) where
  parts : zeros (a + (b + c)) ≡ zeros a ++ (zeros b ++ zeros c)
  parts = sym (replicate-append-replicate {A = ℕ} a (b + c) 0) ∙ ap (λ (z : List ℕ). zeros a ++ z) (sym (replicate-append-replicate {A = ℕ} b c 0))

  behind : drop a (zeros (a + (b + c))) ≡ zeros b ++ zeros c
  behind = ap (drop a) parts ∙ drop_at (zeros a) (zeros b ++ zeros c) a (length-replicate a 0)

  pub zero-front : take b (drop a (zeros (a + (b + c)))) ≡ zeros b
  zero-front = ap (take b) behind ∙ take_at (zeros b) (zeros c) b (length-replicate b 0)

  pub zero-back : drop b (drop a (zeros (a + (b + c)))) ≡ zeros c
  zero-back = ap (drop b) behind ∙ drop_at (zeros b) (zeros c) b (length-replicate b 0)

-- what an answer about room says
module _ (cap : ℕ) (ps : List (List ℕ)) (r : Result ℕ Error) (is : r ≡ counted_in cap ps) where
  pub full-found : (e : Error) → r ≡ Err e → (ltb cap (length ps) ≡ true) × (e ≡ Full)
  full-found e h = grind (arith, is, h)

  pub count-found : (n : ℕ) → r ≡ Ok n → (ltb cap (length ps) ≡ false) × (n ≡ length ps)
  count-found n h = grind (arith, is, h)

module _ (t s : Register) where
  abbrev pub both_summaries : List (List ℕ)
  both_summaries = summaries_together t.convicted s.summaries s.convicted t.summaries

  abbrev pub both_records : List (List ℕ)
  both_records = records_together t.convicted s.records s.convicted t.records

  pub too-many-summaries : ltb max_summaries (length both_summaries) ≡ true → overfull (joined t s) ≡ true
  unfolding joined
  too-many-summaries h = grind arith

  pub too-many-records : ltb max_records (length both_records) ≡ true → overfull (joined t s) ≡ true
  unfolding joined
  too-many-records h = grind arith

  pub room-for-both : ltb max_summaries (length both_summaries) ≡ false → ltb max_records (length both_records) ≡ false → overfull (joined t s) ≡ false
  unfolding joined
  room-for-both h g = grind arith

  -- a header and two tables
  pub put-together : (c n k : ℕ) (h p r : List ℕ) → c ≡ bit_or t.convicted s.convicted → n ≡ length both_summaries → k ≡ length both_records
      → h ≡ header_of c n k → p ≡ table_of summary_size max_summaries both_summaries → r ≡ table_of place_size max_records both_records → h ++ (p ++ r) ≡ encode (joined t s)
  unfolding encode joined
  put-together c n k h p r c-is n-is k-is h-is p-is r-is =
      rw (h-is, p-is, r-is, c-is, n-is, k-is)
      (frame-is (bit_or t.convicted s.convicted) (length both_summaries) (length both_records) (table_of summary_size max_summaries both_summaries) (table_of place_size max_records both_records))

  module _ (d c : ℕ) (d-is : d ≡ t.convicted) (c-is : c ≡ s.convicted) (ps qs : List (List ℕ)) where
    pub summaries-same : ps ≡ s.summaries → qs ≡ t.summaries → summaries_together d ps c qs ≡ both_summaries
    summaries-same e f = rw (d-is, c-is, e, f) refl

    pub records-same : ps ≡ s.records → qs ≡ t.records → records_together d ps c qs ≡ both_records
    records-same e f = rw (d-is, c-is, e, f) refl
