-- What the words of a call are, to a program whose own option is `--join`.
-- Source: docs/REFERENCE.md, 'Two rooms'.
use Rattle.std.specs.Prelude.{ℕ, List, codes}
use Rattle.console.specs.declared.arguments.Word.{Word}
use Rattle.console.specs.Words as W

abbrev pub word_of : List ℕ → Word
word_of t = W.word_of (codes "--join") t
