-- The register that the bytes of a file hold: as many bytes as a register has are a saved one; others are a session, whose calls are made on a fresh register.
-- Source: docs/REFERENCE.md, 'Two rooms'.
use Rattle.std.specs.Prelude.{ℕ, List, cond, eqb, length, Result, Ok, Err}
use Rattle.std.specs.Result.{result_map_both}
use Rattle.register.specs.Layout.{register_size}
use Rattle.register.specs.Memory.{well_formed, fresh}
use Rattle.register.specs.Calls.{runs}
use Rattle.session_text.specs.Output.{calls_of}
use Rattle.rooms_text.specs.declared.reading.Refusal.{Refusal}
use Rattle.rooms_text.specs.declared.reading.Refusal.TheVariants.{NoRegister, Session}

abbrev pub saved_in : List ℕ → Result (List ℕ) Refusal
saved_in input = cond (well_formed input) (Ok input) (Err NoRegister)

abbrev pub session_in : List ℕ → Result (List ℕ) Refusal
session_in input = result_map_both (runs fresh) Session (calls_of input)

unfoldable pub held_in : List ℕ → Result (List ℕ) Refusal
held_in input = cond (eqb (length input) register_size) (saved_in input) (session_in input)

-- what a reader answers, and what it leaves of the memory before: a refusal changes nothing
abbrev pub answer_of : Result (List ℕ) Refusal → Result (Unit {0}) Refusal
answer_of (Ok m) = Ok tt
answer_of (Err r) = Err r

abbrev pub left_by : Result (List ℕ) Refusal → List ℕ → List ℕ
left_by (Ok m) before = m
left_by (Err r) before = before
