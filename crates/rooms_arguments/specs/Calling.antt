-- What the words of a call ask for, read from left to right: two files, and one for the joined register behind `--join` (docs/REFERENCE.md, 'Two rooms').
use Rattle.std.specs.Prelude.{ℕ, ◌+◌, Bool, true, false, List, [], ◌∷◌, Option, Some, None, Result, Ok, Err, if◌then◌else◌, is_some}
use Rattle.console.specs.declared.arguments.Word.{Word}
use Rattle.console.specs.declared.arguments.Word.TheVariants as word
use Rattle.rooms_arguments.specs.declared.Taken.{Taken}
use Rattle.rooms_arguments.specs.declared.Wish.{Wish}
use Rattle.rooms_arguments.specs.declared.Instead.{Instead}
use Rattle.rooms_arguments.specs.declared.Instead.TheVariants as instead
use Rattle.rooms_arguments.specs.Words.{word_of}

-- the first file, then the second; one more is too many
abbrev pub take_file : Taken → ℕ → Result Taken Instead
take_file k index =
    if is_some k.first then (if is_some k.second then Err (instead.Wrong index) else Ok (record { first = k.first; second = Some index; joined = k.joined; join_due = false }))
    else Ok (record { first = Some index; second = k.second; joined = k.joined; join_due = false })

-- a file for the joined register is due, where none is named yet
abbrev pub take_join : Taken → ℕ → Result Taken Instead
take_join k index =
    if is_some k.joined then Err (instead.Wrong index) else Ok (record { first = k.first; second = k.second; joined = k.joined; join_due = true })

abbrev pub take_word : Taken → ℕ → Word → Result Taken Instead
take_word k index word.Help = Err instead.Help
take_word k index word.Version = Err instead.Version
take_word k index word.Own = take_join k index
take_word k index word.File = take_file k index
take_word k index word.Unknown = Err (instead.Wrong index)

-- after the word at an index: behind `--join` any word is a file's name
abbrev pub take : Taken → ℕ → List ℕ → Result Taken Instead
take k index t =
    if k.join_due then Ok (record { first = k.first; second = k.second; joined = Some index; join_due = false }) else take_word k index (word_of t)

abbrev pub and_then : Result Taken Instead → (Taken → Result Taken Instead) → Result Taken Instead
and_then (Ok k) next = next k
and_then (Err i) next = Err i

-- after words, of which the first has this index
unfoldable pub taken : Taken → ℕ → List (List ℕ) → Result Taken Instead
taken k index [] = Ok k
taken k index (t ∷ ts) = and_then (take k index t) (λ (v : Taken). taken v (index + 1) ts)

abbrev pub wish_of : Bool → Option ℕ → Option ℕ → Option ℕ → Result Wish Instead
wish_of false (Some a) (Some b) joined = Ok (record { first = a; second = b; joined = joined })
wish_of join_due a b joined = Err instead.Missing

-- both files are named, and none is due
abbrev pub finish : Taken → Result Wish Instead
finish k = wish_of k.join_due k.first k.second k.joined

abbrev pub finished : Result Taken Instead → Result Wish Instead
finished (Ok k) = finish k
finished (Err i) = Err i

abbrev pub asked_of : List (List ℕ) → Result Wish Instead
asked_of words = finished (taken (record { first = None; second = None; joined = None; join_due = false }) 0 words)
