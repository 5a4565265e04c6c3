-- The bytes of a board's entries, and the operation (docs/REFERENCE.md, 'Values' and 'Operations').
use Rattle.std.specs.Prelude.{ℕ, cond, List, ◌++◌, flat_map, take, ltb, length}
use Rattle.octets.specs.Words.{word_bytes}
use Rattle.arithmetic.specs.declared.standing.ChiSquare.{ChiSquare}
use Rattle.arithmetic.specs.declared.standing.ChiSquare.TheVariants.{Unmeasured}
use Rattle.decision_bytes.specs.Answer.{chi_square_bytes}
use Rattle.decision_items.specs.Layout.{hash_size}
use Rattle.errors.specs.After.{After, after, write_text}
use Rattle.fix_lines.specs.declared.Standing.{Standing}
use Rattle.fix_lines.specs.declared.Standing.TheVariants.{Ranked, Dominated, Refused}
use Rattle.register.specs.Register.{Register}
use Rattle.register.specs.Memory.{well_formed, decode}
use Rattle.board_values.specs.Entries.{Entry, entries_shown}

-- 49 bytes
abbrev pub entry_size : ℕ
entry_size = 49

-- what a caller lends at least: room for 96 entries; less is refused with 10
abbrev pub fixes_size : ℕ
fixes_size = 4704

abbrev pub role_number : Standing → ℕ
role_number Ranked = 0
role_number Dominated = 1
role_number (Refused chi2) = 2

-- none where it is not refused
abbrev pub chi_square_of : Standing → ChiSquare
chi_square_of Ranked = Unmeasured
chi_square_of Dominated = Unmeasured
chi_square_of (Refused chi2) = chi2

-- whether there is a chi-square, and its bits, are 9 bytes; a number of one byte is below 256
unfoldable pub entry_bytes : Entry → List ℕ
entry_bytes e =
    word_bytes 1 e.number
    ++ (word_bytes 1 (role_number e.standing)
    ++ (word_bytes 1 e.place
    ++ (word_bytes 1 e.against
    ++ (word_bytes 4 e.signers
    ++ (take hash_size e.identity
    ++ chi_square_bytes (chi_square_of e.standing))))))

-- of a register, one after another
abbrev pub fixes_in : Register → List ℕ
fixes_in s = flat_map entry_bytes (entries_shown s.summaries s.records)

-- 1 for bytes that are no register, then 10 for an output under 4,704 bytes; else the entries are written, and the answer is how many bytes they have
unfoldable pub write_fixes : List ℕ → List ℕ → After (List ℕ)
write_fixes m out = cond (well_formed m) (cond (ltb (length out) fixes_size) (after 10 out) (write_text (fixes_in (decode m)) out)) (after 1 out)
