-- What one register holds that another does not (docs/REFERENCE.md, 'Join'): itself a register, and the calls that give it to a room that has no join.
use Rattle.std.specs.Prelude.{ℕ, zero, suc, Bool, cond, not, ◌&&◌, List, [], ◌∷◌, ◌++◌, ltb, eqb, length, take, drop}
use Rattle.octets.specs.Masks.{bit}
use Rattle.octets.specs.Words.{word, word_bytes}
use Rattle.tables.specs.Places.{holds, lookup, keep_places}
use Rattle.record.specs.Layout.{record_size}
use Rattle.models.specs.Summary.{summary_size, engine_of, model_of, spec_of, summary_inputs}
use Rattle.engines.specs.Limits.{max_engine}
use Rattle.desks.specs.declared.Desk.TheVariants.{Manager}
use Rattle.desks.specs.Desks.{number_of}
use Rattle.models.specs.Summaries.{no_value}
use Rattle.signed_records.specs.Signed.{signers_in}
use Rattle.errors.specs.After.{After, after}
use Rattle.register.specs.Layout.{register_size}
use Rattle.register.specs.Register.{Register}
use Rattle.register.specs.Memory.{well_formed, decode, encode}
use Rattle.register.specs.Calls.{Call, report, summary, conviction}
use Rattle.register_join.specs.Join.{without_bits, is_of_free}

-- ---- a register as calls

-- the engines of a set that are below n, the last first
unfoldable pub engines_below : ℕ → ℕ → List ℕ
engines_below zero c = []
engines_below (suc n) c = cond (bit c n) (n ∷ engines_below n c) (engines_below n c)

abbrev pub engines_in : ℕ → List ℕ
engines_in c = engines_below (suc max_engine) c

unfoldable pub conviction_calls : List ℕ → List Call
conviction_calls [] = []
conviction_calls (e ∷ es) = conviction (number_of Manager) e ∷ conviction_calls es

unfoldable pub summary_calls : List (List ℕ) → List Call
summary_calls [] = []
summary_calls (p ∷ ps) = summary (engine_of p) (model_of p) (spec_of p) (summary_inputs p) ∷ summary_calls ps

-- a record by each of its signers
unfoldable pub signer_calls : List ℕ → List ℕ → List Call
signer_calls r [] = []
signer_calls r (e ∷ es) = report e r ∷ signer_calls r es

unfoldable pub record_calls : List (List ℕ) → List Call
record_calls [] = []
record_calls (p ∷ ps) = signer_calls (take record_size p) (engines_in (signers_in p)) ++ record_calls ps

-- convictions, then summaries, then reports of one engine each
abbrev pub calls_of : Register → List Call
calls_of s = conviction_calls (engines_in s.convicted) ++ (summary_calls s.summaries ++ record_calls s.records)

-- ---- what a register has that another lacks

-- the signers of a record that a register with these convictions and records has neither convicted nor as signers of it
abbrev pub lacking_signers : ℕ → List (List ℕ) → List ℕ → ℕ
lacking_signers convicted records p = without_bits (without_bits (signers_in p) convicted) (word (lookup record_size (take record_size p) records))

-- the records that have some, each with these
unfoldable pub lacking_records : ℕ → List (List ℕ) → List (List ℕ) → List (List ℕ)
lacking_records convicted records [] = []
lacking_records convicted records (p ∷ ps) =
    let m = lacking_signers convicted records p in
    cond (eqb m 0) (lacking_records convicted records ps) ((take record_size p ++ word_bytes 4 m) ∷ lacking_records convicted records ps)

-- a summary that a register with these convictions and summaries neither holds nor has convicted the engine of
abbrev pub is_lacking : ℕ → List (List ℕ) → List ℕ → Bool
is_lacking convicted summaries p = not (holds summary_size p summaries) && is_of_free convicted p

-- what t has that s lacks
unfoldable pub lacking : Register → Register → Register
lacking t s =
    record {
      convicted = without_bits t.convicted s.convicted;
      summaries = keep_places summary_size (is_lacking s.convicted s.summaries) no_value t.summaries;
      records = lacking_records s.convicted s.records t.records;
    }

-- its convictions alone
abbrev pub only_convictions : Register → Register
only_convictions t = record { convicted = t.convicted; summaries = []; records = [] }

-- ---- on bytes

-- 1: either is no well-formed register. 10: the output is smaller than a register. What the first, n, holds and m lacks stands at the start of the output then, and
-- bytes past it stay.
unfoldable pub lacks_memory : List ℕ → List ℕ → List ℕ → After (List ℕ)
lacks_memory n m out =
    cond (not (well_formed m && well_formed n)) (after 1 out)
    (cond (ltb (length out) register_size) (after 10 out)
    (after 0 (encode (lacking (decode n) (decode m)) ++ drop register_size out)))
