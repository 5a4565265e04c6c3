-- The join of two registers (docs/REFERENCE.md, 'Join'): what two rooms hold together, as if the calls of both had come to one. It depends on no order: see
-- specs/Claims.
use Rattle.std.specs.Prelude.{ℕ, Bool, cond, not, ◌||◌, List, [], ◌∷◌, ltb, eqb, length, take, drop, bit_xor}
use Rattle.std.specs.Int.Bits.{bit_and, bit_or}
use Rattle.octets.specs.Masks.{bit}
use Rattle.octets.specs.Words.{word, word_bytes}
use Rattle.tables.specs.Places.{put_place, keep_places}
use Rattle.record.specs.Layout.{record_size}
use Rattle.models.specs.Summary.{summary_size, engine_of}
use Rattle.errors.specs.After.{After, after}
use Rattle.models.specs.Limits.{max_summaries}
use Rattle.models.specs.Summaries.{no_value}
use Rattle.signed_records.specs.Signed.{signers_in}
use Rattle.register.specs.Layout.{max_records}
use Rattle.register.specs.Register.{Register}
use Rattle.register.specs.Memory.{well_formed, decode, on_memory}

-- ---- two tables in one

-- the places of ps put in among those of qs, first to last; where both have a key, what follows it is f of the two
unfoldable pub united : ℕ → (List ℕ → List ℕ → List ℕ) → List (List ℕ) → List (List ℕ) → List (List ℕ)
united k f [] qs = qs
united k f (p ∷ ps) qs = united k f ps (put_place k (f (drop k p)) (take k p) qs)

-- ---- engines and signers

-- the engines of a set that are not in another
unfoldable pub without_bits : ℕ → ℕ → ℕ
without_bits m c = bit_xor m (bit_and m c)

-- the signers of a record in two tables
abbrev pub both_signers : List ℕ → List ℕ → List ℕ
both_signers v w = word_bytes 4 (bit_or (word v) (word w))

-- signers without those of a set
abbrev pub drop_signers : ℕ → List ℕ → List ℕ
drop_signers c v = word_bytes 4 (without_bits (word v) c)

-- a record with a signer that is not of a set
abbrev pub has_free_signer : ℕ → List ℕ → Bool
has_free_signer c p = not (eqb (without_bits (signers_in p) c) 0)

-- a summary of an engine that is not of a set
abbrev pub is_of_free : ℕ → List ℕ → Bool
is_of_free c p = not (bit c (engine_of p))

-- ---- registers

-- what is left once the engines of a set are convicted
abbrev pub strike_engines : ℕ → Register → Register
strike_engines c s =
    record {
      convicted = bit_or c s.convicted;
      summaries = keep_places summary_size (is_of_free c) no_value s.summaries;
      records = keep_places record_size (has_free_signer c) (drop_signers c) s.records;
    }

-- The convicted of both, and what remains of both once those are struck: every summary, and every record with the signers that it has in either.
unfoldable pub joined : Register → Register → Register
joined t s =
    let u = strike_engines s.convicted t in
    let v = strike_engines t.convicted s in
    record {
      convicted = bit_or t.convicted s.convicted;
      summaries = united summary_size (λ v w. []) u.summaries v.summaries;
      records = united record_size both_signers u.records v.records;
    }

-- more than a register has room for
abbrev pub overfull : Register → Bool
overfull s = ltb max_records (length s.records) || ltb max_summaries (length s.summaries)

-- 5: more than 96 records or 256 summaries. Else 0.
abbrev pub take_join : Register → Register → After Register
take_join t s = cond (overfull (joined t s)) (after 5 s) (after 0 (joined t s))

-- ---- on bytes

-- 1: either is no well-formed register. The first, n, is read alone; m becomes the join.
unfoldable pub join_memory : List ℕ → List ℕ → After (List ℕ)
join_memory n m = cond (well_formed n) (on_memory (take_join (decode n)) m) (after 1 m)
