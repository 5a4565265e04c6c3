-- What the words of a call ask for, read from left to right (docs/REFERENCE.md, 'Session').
use Rattle.std.specs.Prelude.{ℕ, ◌+◌, true, false, List, [], ◌∷◌, Option, Some, None, Result, Ok, Err, codes}
use Rattle.console.specs.declared.arguments.Word.{Word}
use Rattle.console.specs.declared.arguments.Word.TheVariants as word
use Rattle.session_arguments.specs.declared.Wish.{Wish}
use Rattle.session_arguments.specs.declared.Instead.{Instead}
use Rattle.session_arguments.specs.declared.Instead.TheVariants as instead
use Rattle.console.specs.Words.{word_at}
use Rattle.session_arguments.specs.Words.{word_of}

-- a file, where none is named yet; one more is too many
abbrev pub take_file : Wish → ℕ → Option ℕ → Result Wish Instead
take_file w index None = Ok (record w { file = Some index })
take_file w index (Some before) = Err (instead.Wrong index)

-- the wish after the word at an index
abbrev pub take : Wish → ℕ → Word → Result Wish Instead
take w index word.Help = Err instead.Help
take w index word.Version = Err instead.Version
take w index word.Own = Ok (record w { strict = true })
take w index word.File = take_file w index w.file
take w index word.Unknown = Err (instead.Wrong index)

abbrev pub and_then : Result Wish Instead → (Wish → Result Wish Instead) → Result Wish Instead
and_then (Ok w) next = next w
and_then (Err i) next = Err i

-- the wish after words, of which the first has this index
unfoldable pub taken : Wish → ℕ → List (List ℕ) → Result Wish Instead
taken w index [] = Ok w
taken w index (t ∷ ts) = and_then (take w index (word_of t)) (λ (v : Wish). taken v (index + 1) ts)

-- where no word is given, standard input is read, and not strictly
abbrev pub asked_of : List (List ℕ) → Result Wish Instead
asked_of words = taken (record { file = None; strict = false }) 0 words

abbrev pub name_in : Option ℕ → List (List ℕ) → List ℕ
name_in None words = codes "-"
name_in (Some index) words = word_at words index

-- the file that a wish names; standard input where it names none
abbrev pub name_of : Wish → List (List ℕ) → List ℕ
name_of w words = name_in w.file words
