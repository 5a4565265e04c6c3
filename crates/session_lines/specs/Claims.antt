-- What is claimed of how a session is read, of what is due in it, and of its numbers. The contracts of src/claims.rt name it; the proofs are in
-- proofs/Forward, proofs/Sessions, proofs/Named and proofs/Printed.
-- Source: docs/REFERENCE.md, 'Session'.
use Rattle.std.specs.Prelude.{ℕ, zero, suc, ◌+◌, ◌≤◌, ◌<◌, ◌≡◌, Bool, cond, List, [], ◌∷◌, ◌++◌, ◌==◌, length, Some, is_some, Result, Ok, Err, ℤ, pos, negsuc}
use Rattle.text.specs.Numbers.{decimal, signed_decimal}
use Rattle.models.specs.Summary.{inputs_size}
use Rattle.register.specs.Calls.{Call}
use Rattle.session_lines.specs.declared.lines.BadLine.{BadLine}
use Rattle.session_lines.specs.declared.lines.Due.{Due}
use Rattle.session_lines.specs.declared.lines.Due.TheVariants as due
use Rattle.session_lines.specs.declared.lines.Kind.{Kind}
use Rattle.session_lines.specs.declared.lines.Kind.TheVariants as kind
use Rattle.session_lines.specs.Numbers.{u8, u16, u32, u64, read_number, read_signed, read_height, read_message, read_tags, read_models, read_hex, read_covariance}
use Rattle.session_lines.specs.Lines.{At, Reading, ◌>>=◌, bad_line, text, value}
use Rattle.session_lines.specs.Operations.{kind_of, operands_at, operation_at}
use Rattle.session_lines.specs.Session.{at_start, session_at, session_of, bad_of}

-- ---- what a session says, operation by operation

-- a session after an operation
abbrev pub and_then : Call → Result (List Call) BadLine → Result (List Call) BadLine
and_then c (Ok cs) = Ok (c ∷ cs)
and_then c (Err e) = Err e

pub record ReadsSessions (read : At → Result (List Call) BadLine) : Type 0 where
  -- where no byte is left there is no call
  pub empty : (s : At) → length s.rest ≡ 0 → read s ≡ Ok []
  -- where bytes are left, and the operation due has a bad line, that is the first bad line
  pub bad_operation : (s : At) (e : BadLine) → 0 < length s.rest → operation_at s ≡ Err e → read s ≡ Err e
  -- where it is good, its call is the first, and the rest is a session
  pub good_operation : (s : At) (c : Call) (rest : At) → operation_at s ≡ Ok (c, rest) → read s ≡ and_then c (read rest)

-- `session_at` reads so, and nothing else does: the bound on operations has no part in what it says
abbrev pub SessionsRead : Type 0
SessionsRead = ReadsSessions session_at

abbrev pub NoOtherReading : Type 0
NoOtherReading = (read : At → Result (List Call) BadLine) → ReadsSessions read → (s : At) → read s ≡ session_at s

-- ---- the empty file

-- every other file has a call or a bad line
abbrev pub OthersHaveCalls : Type 0
OthersHaveCalls = (s : List ℕ) → session_of s ≡ Ok [] → s ≡ []

-- another reading of sessions: one operation, then the others until no byte is left, so that an empty file is bad at line 1
unfoldable pub some_operations : ℕ → At → Reading (List Call)
some_operations zero s = Err (bad_line due.Op s)
some_operations (suc most) s = do
  c ← operation_at s
  cond (length (c.1).rest == 0) (Ok (c.0 ∷ [], c.1)) (some_operations most c.1 >>= λ (cs : List Call × At). Ok (c.0 ∷ cs.0, cs.1))

-- every file but the empty one is read so too
abbrev pub OnlyEmptyMoved : Type 0
OnlyEmptyMoved = (s : List ℕ) → 0 < length s → session_of s ≡ (some_operations (length s) (at_start s) >>= λ (cs : List Call × At). Ok cs.0)

-- ---- what is due

-- the texts that are a value of each line
abbrev pub is_value : Due → List ℕ → Bool
is_value due.Op t = is_some (kind_of t)
is_value due.Engine t = is_some (read_number u8 t)
is_value due.Model t = is_some (read_number u8 t)
is_value due.Spec t = is_some (read_number u16 t)
is_value due.Inputs t = is_some (read_hex inputs_size t)
is_value due.Time t = is_some (read_number u64 t)
is_value due.Lat t = is_some (read_signed t)
is_value due.Lon t = is_some (read_signed t)
is_value due.Height t = is_some (read_height t)
is_value due.Message t = is_some (read_message t)
is_value due.Tags t = is_some (read_tags t)
is_value due.Used t = is_some (read_number u32 t)
is_value due.Models t = is_some (read_models t)
is_value due.Cov t = is_some (read_covariance t)

-- the lines of an operation after its first
abbrev pub lines_after : Kind → List Due
lines_after kind.Summary = due.Engine ∷ due.Model ∷ due.Spec ∷ due.Inputs ∷ []
lines_after kind.Conviction = due.Engine ∷ []
lines_after kind.Report =
    due.Engine ∷ due.Time ∷ due.Lat ∷ due.Lon ∷ due.Height ∷ due.Message ∷ due.Tags ∷ due.Used ∷ due.Models ∷ due.Spec ∷ due.Cov ∷ []

-- a reading without its value: what is left, or the first bad line
abbrev pub lines_only : {A : Type 0} → Reading A → Result At BadLine
lines_only (Ok x) = Ok x.1
lines_only (Err e) = Err e

-- a line is good where its key stands and a value of it
abbrev pub pass_line : Due → At → Result At BadLine
pass_line d s = text d s >>= λ (t : List ℕ × At). cond (is_value d t.0) (Ok t.1) (Err (bad_line d s))

unfoldable pub pass_lines : List Due → At → Result At BadLine
pass_lines [] s = Ok s
pass_lines (d ∷ ds) s = pass_line d s >>= pass_lines ds

-- the grammar reads an operation's lines by this table: the keys, their order and their values are the same
abbrev pub FirstLine : Type 0
FirstLine = (s : At) → lines_only (value due.Op kind_of s) ≡ pass_line due.Op s

abbrev pub LinesAfter : Type 0
LinesAfter = (k : Kind) (s : At) → lines_only (operands_at k s) ≡ pass_lines (lines_after k) s

-- the lines of an operation, by its first
abbrev pub lines_by : Reading Kind → List Due
lines_by (Ok k) = due.Op ∷ lines_after k.0
lines_by (Err e) = due.Op ∷ []

-- of the lines due from s on those before this one are good, and what follows them is no such line
pub record BadAfter (ls : List Due) (e : BadLine) (s : At) : Type 0 where
  pub before : List Due
  pub behind : List Due
  pub among : ls ≡ before ++ (e.due ∷ behind)
  pub number : e.line ≡ s.line + length before
  pub rest : At
  pub good : pass_lines before s ≡ Ok rest
  pub here : pass_line e.due rest ≡ Err e

-- the line due in an operation with a bad line is the one that is bad
abbrev pub DueIsBad : Type 0
DueIsBad = (s : At) (e : BadLine) → operation_at s ≡ Err e → BadAfter (lines_by (value due.Op kind_of s)) e s

-- and that operation is the first with a bad line
abbrev pub DueHere : Type 0
DueHere = (s : At) (e : BadLine) → 0 < length s.rest → operation_at s ≡ Err e → bad_of (session_at s) ≡ Some e

abbrev pub DueLater : Type 0
DueLater = (s : At) (c : Call) (rest : At) → operation_at s ≡ Ok (c, rest) → bad_of (session_at s) ≡ bad_of (session_at rest)

-- ---- numbers

-- a number of 64 bits that is within a bound is read from its decimal text as itself
abbrev pub ReadAsItself : Type 0
ReadAsItself = (most n : ℕ) → n ≤ u64 → n ≤ most → read_number most (decimal n) ≡ Some n

-- no number has two texts
abbrev pub OneText : Type 0
OneText = (most n : ℕ) (t u : List ℕ) → read_number most t ≡ Some n → read_number most u ≡ Some n → t ≡ u

-- a signed number of 32 bits is one from -2 ^ 31 to 2 ^ 31 - 1
abbrev pub FitsI32 : ℤ → Type 0
FitsI32 (pos n) = n < 0x8000_0000
FitsI32 (negsuc n) = n < 0x8000_0000

-- and is read from its text as itself
abbrev pub SignedReadAsItself : Type 0
SignedReadAsItself = (v : ℤ) → FitsI32 v → read_signed (signed_decimal v) ≡ Some v
