-- What the words of a call are.
-- Source: docs/REFERENCE.md, 'Session' and 'Two rooms'.
use Rattle.std.specs.Prelude.{ℕ, List, ◌||◌, not, if◌then◌else◌, codes, slice_index_or}
use Rattle.std.specs.Str.{bytes_eq}
use Rattle.std.specs.List.{starts_with}
use Rattle.std.specs.Prelude.{nat_eq}
use Rattle.console.specs.declared.arguments.Word.{Word}
use Rattle.console.specs.declared.arguments.Word.TheVariants as word

-- of a program with one option of its own: a file's name does not begin with a minus; `-` alone is standard input
abbrev pub word_of : List ℕ → List ℕ → Word
word_of own t =
    if bytes_eq t (codes "--help") then word.Help
    else if bytes_eq t (codes "--version") then word.Version
    else if bytes_eq t own then word.Own
    else if bytes_eq t (codes "-") || not (starts_with nat_eq t (codes "-")) then word.File
    else word.Unknown

-- the word at an index, and the name of standard input where there is none
abbrev pub word_at : List (List ℕ) → ℕ → List ℕ
word_at words index = slice_index_or words index (codes "-")
