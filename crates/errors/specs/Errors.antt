-- The numbers of what is refused (docs/REFERENCE.md, 'Answers').
use Rattle.std.specs.Prelude.{ℕ, ◌≤◌, Result, Ok, Err}
use Rattle.errors.specs.declared.Error.{Error}
use Rattle.errors.specs.declared.Error.TheVariants.{Malformed, NoEngine, NoRecord, Convicted, Full, ModelDisputed, NoSummary, SmallOutput, ShelfFull, SmallMap, UnknownDesk, NoRight, OtherLength}

-- 1: a memory is no register, no track, or no shelf of that track. 2: no engine has the number. 3: the bytes are no record.
-- 4: the engine is convicted. 5: full. 7: a model is disputed. 9: no summary. 10: the output is too small. 13: the shelf is full.
-- 14: the output is too small for a map. 15: no desk has the number. 16: the desk has no right. 17: another length than a register's.
abbrev pub error_number : Error → ℕ
error_number Malformed = 1
error_number NoEngine = 2
error_number NoRecord = 3
error_number Convicted = 4
error_number Full = 5
error_number ModelDisputed = 7
error_number NoSummary = 9
error_number SmallOutput = 10
error_number ShelfFull = 13
error_number SmallMap = 14
error_number UnknownDesk = 15
error_number NoRight = 16
error_number OtherLength = 17

-- the greatest number that a refusal has: a call that answers a length answers 0 or more than this, so no length is taken for a refusal
abbrev pub greatest_refusal : ℕ
greatest_refusal = 17

abbrev pub NoneGreater : Type 0
NoneGreater = (e : Error) → error_number e ≤ greatest_refusal

-- 0: taken
abbrev pub answer_number : Result (Unit {0}) Error → ℕ
answer_number (Ok u) = 0
answer_number (Err e) = error_number e

-- what a call answers where it is done
abbrev pub value_or_number : Result ℕ Error → ℕ
value_or_number (Ok n) = n
value_or_number (Err e) = error_number e
