-- Reading from left to right, up to the first bad line.
-- Source: docs/REFERENCE.md, 'Session'.
use Rattle.std.specs.Prelude.{ℕ, ◌+◌, List, Option, Result, Ok, Err, ok_or, option_and_then}
use Rattle.session_lines.specs.declared.lines.Due.{Due}
use Rattle.session_lines.specs.declared.lines.BadLine.{BadLine}
use Rattle.session_lines.specs.Numbers.{split_once, strip_prefix}
use Rattle.session_lines.specs.Keys.{key_of}

-- the bytes that are left, and the number of the first line of them
pub record At : Type 0 where
  pub rest : List ℕ
  pub line : ℕ

-- a value and what is left, or the first bad line
abbrev pub Reading : Type 0 → Type 0
Reading A = Result (A × At) BadLine

infixl 10 ◌>>=◌
abbrev pub ◌>>=◌ : {A B : Type 0} → Result A BadLine → (A → Result B BadLine) → Result B BadLine
(Ok x) >>= f = f x
(Err e) >>= f = Err e

abbrev pub bad_line : Due → At → BadLine
bad_line due s = record { line = s.line; due = due }

-- the text between a key and the first line feed after it, and the bytes that follow
unfoldable pub cut : List ℕ → List ℕ → Option (List ℕ × List ℕ)
cut key s = option_and_then (split_once 10) (strip_prefix key s)

-- the text of the line due
unfoldable pub text : Due → At → Reading (List ℕ)
text due s = do
  t ← ok_or (cut (key_of due) s.rest) (bad_line due s)
  Ok (t.0, record { rest = t.1; line = s.line + 1 })

-- its value
unfoldable pub value : {A : Type 0} → Due → (List ℕ → Option A) → At → Reading A
value due read s = do
  t ← text due s
  a ← ok_or (read t.0) (bad_line due s)
  Ok (a, t.1)
