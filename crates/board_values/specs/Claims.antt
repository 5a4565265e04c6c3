-- What is claimed of a board's fixes as values; src/claims.rt has a function whose contract each of these is.
-- Source: docs/REFERENCE.md, 'Values'.
use Rattle.std.specs.Prelude.{ℕ, suc, ◌*◌, ◌<◌, ◌≤◌, ◌≡◌, true, false, max, List, [], ◌∷◌, ◌++◌, map, filter, flat_map, length, get_or, take, drop, eqb}
use Rattle.octets.specs.Bytes.{Bytes}
use Rattle.lists.specs.Ordered.{count_from}
use Rattle.arithmetic.specs.Agree.{agreement_of, agrees_of, chi_square_in}
use Rattle.arithmetic.specs.declared.standing.Agreement.{Agreement}
use Rattle.arithmetic.specs.declared.standing.ChiSquare.{ChiSquare}
use Rattle.record.specs.Relations.{subset}
use Rattle.decision_items.specs.Claimed.{claim_of}
use Rattle.decision_rule.specs.Outcome.{Refused as RefusedFix}
use Rattle.fixes.specs.Fix.{Fix}
use Rattle.fixes.specs.Shown.{Transmission}
use Rattle.fix_lines.specs.declared.Standing.{Standing}
use Rattle.fix_lines.specs.declared.Standing.TheVariants.{Ranked, Dominated, Refused}
use Rattle.fix_lines.specs.Standings.{standing_line}
use Rattle.fix_lines.specs.Lines.{header}
use Rattle.fix_lines.specs.Text.{ranked_text, dominated_text, refused_text}
use Rattle.board_fixes.specs.Fixes.{record_in}
use Rattle.board_picture.specs.Picture.{picture, latest_of, max_shown}
use Rattle.board.specs.Full.{board_in}
use Rattle.register.specs.Register.{Register}
use Rattle.register.specs.Memory.{well_formed, decode}
use Rattle.board_values.specs.Entries.{Entry, place_of, fixes_shown, entries_shown}
use Rattle.board_values.specs.Written.{entry_size, role_number, fixes_in}
use Rattle.board_values.specs.Reading.{entry_read}

abbrev pub entries : Register → List Entry
entries s = entries_shown s.summaries s.records

-- the transmissions of its board
abbrev pub on_board : Register → List Transmission
on_board s = latest_of (picture s.summaries s.records)

-- what is said of each line of transmissions, the first of which has this number
unfoldable pub line_by_line : {B : Type 0} → (ℕ → Transmission → List B) → ℕ → List Transmission → List B
line_by_line say number [] = []
line_by_line say number (t ∷ ts) = say number t ++ line_by_line say (suc number) ts

-- of each fix
abbrev pub of_fixes : {B : Type 0} → (Fix → B) → ℕ → Transmission → List B
of_fixes h number t = map h (fixes_shown t)

abbrev pub numbers : ℕ → Transmission → List ℕ
numbers number t = map (λ (f : Fix). number) (fixes_shown t)

abbrev pub standings : ℕ → Transmission → List Standing
standings number t = map (λ (f : Fix). Ranked) t.ranked ++ (map (λ (f : Fix). Dominated) t.dominated ++ map (λ (r : RefusedFix Fix ChiSquare). Refused r.chi2) t.refused)

-- an entry for each line of the board, in the order of the lines, with what the line says
pub record EntriesAreLines : Type 0 where
  pub numbered : (s : Register) → map (λ (e : Entry). e.number) (entries s) ≡ line_by_line numbers 1 (on_board s)
  pub standing : (s : Register) → map (λ (e : Entry). e.standing) (entries s) ≡ line_by_line standings 1 (on_board s)
  pub placed : (s : Register) → map (λ (e : Entry). e.place) (entries s) ≡ line_by_line (of_fixes (λ f. place_of s.records f.record_bytes)) 1 (on_board s)
  pub signed : (s : Register) → map (λ (e : Entry). e.signers) (entries s) ≡ line_by_line (of_fixes (λ f. f.signers)) 1 (on_board s)
  pub known : (s : Register) → map (λ (e : Entry). e.identity) (entries s) ≡ line_by_line (of_fixes (λ f. f.identity)) 1 (on_board s)

-- how many there are, and that each has as many bytes
pub record EntriesCounted : Type 0 where
  pub most : (m : List ℕ) → Bytes m → well_formed m ≡ true → length (entries (decode m)) ≤ 96
  pub transmissions : (s : Register) → length (on_board s) ≤ max_shown
  pub size : (m : List ℕ) → Bytes m → well_formed m ≡ true → length (fixes_in (decode m)) ≡ length (entries (decode m)) * entry_size

-- the record at the place that an entry names
abbrev pub record_named : List (List ℕ) → Entry → List ℕ
record_named ps e = record_in (get_or ps e.place [])

-- the line that an entry and that record say
abbrev pub line_said : List (List ℕ) → Entry → List ℕ
line_said ps e = standing_line e.standing (record_named ps e) e.signers

-- the entries of the transmission with this number
abbrev pub entries_numbered : ℕ → List Entry → List Entry
entries_numbered number es = filter (λ (e : Entry). eqb e.number number) es

-- how many entries have this role
abbrev pub with_role : ℕ → List Entry → ℕ
with_role role es = length (filter (λ (e : Entry). eqb (role_number e.standing) role) es)

-- the text of a transmission of which these are the entries: a header with its number and how many are ranked, dominated and refused, then a line for each
abbrev pub transmission_said : List (List ℕ) → ℕ → List Entry → List ℕ
transmission_said ps number es = header number (with_role 0 es) (with_role 1 es) (with_role 2 es) ++ flat_map (line_said ps) es

-- the greatest number of a transmission that entries have; 0 where there is no entry
unfoldable pub greatest_number : List Entry → ℕ
greatest_number [] = 0
greatest_number (e ∷ es) = max e.number (greatest_number es)

-- the text of a board of which these are the entries: the transmissions from 1 to the greatest number
abbrev pub board_said : List (List ℕ) → List Entry → List ℕ
board_said ps es = flat_map (λ number. transmission_said ps number (entries_numbered number es)) (count_from 1 (greatest_number es))

-- the full board of every register, its headers too, is what its entries and its records say
abbrev pub EntriesSayBoard : Type 0
EntriesSayBoard = (s : Register) → board_in s ≡ board_said s.records (entries s)

-- the lines of a transmission on the full board, below its header
abbrev pub lines_of : ℕ → Transmission → List (List ℕ)
lines_of number t = map ranked_text t.ranked ++ (map dominated_text t.dominated ++ map refused_text t.refused)

-- the place of an entry is that of the record that represents its fix, and so each line of the full board is what its entry and that record say
pub record EntriesSayLines : Type 0 where
  pub named : (s : Register) → map (record_named s.records) (entries s) ≡ line_by_line (of_fixes (λ f. f.record_bytes)) 1 (on_board s)
  pub lines : (s : Register) → map (line_said s.records) (entries s) ≡ line_by_line lines_of 1 (on_board s)

-- ---- whom a fix is refused against

-- what an index past the end gives: no entry has the number 0
abbrev pub no_entry : Entry
no_entry = record { number = 0; standing = Ranked; place = 0; against = 0; signers = 0; identity = [] }

abbrev pub entry_at : List Entry → ℕ → Entry
entry_at es i = get_or es i no_entry

-- the number and the identity of the entry that an entry names
abbrev pub whom_of : List Entry → Entry → ℕ × List ℕ
whom_of es e = ((entry_at es e.against).number, (entry_at es e.against).identity)

-- of a line: the number of its transmission, and the identity of the fix against which it is refused, or else its own
abbrev pub whoms : ℕ → Transmission → List (ℕ × List ℕ)
whoms number t =
    map (λ (f : Fix). (number, f.identity)) t.ranked
    ++ (map (λ (f : Fix). (number, f.identity)) t.dominated
    ++ map (λ (r : RefusedFix Fix ChiSquare). (number, r.against.identity)) t.refused)

-- e is refused against k, by their records ps: k is a subset of e, they disagree, and the chi-square of e is that between the two
pub record Opposed (ps : List (List ℕ)) (e k : Entry) : Type 0 where
  pub a_subset : subset (record_named ps k) (record_named ps e) ≡ true
  pub disagreeing : agrees_of (agreement_of (claim_of (record_named ps k)) (claim_of (record_named ps e))) ≡ false
  pub measured : e.standing ≡ Refused (chi_square_in (agreement_of (claim_of (record_named ps k)) (claim_of (record_named ps e))))

-- of the entries es of a register's board
pub record NamesWhom (s : Register) (es : List Entry) : Type 0 where
  -- each names an entry of its own transmission: that of the fix which the refusal names, or else its own
  pub whom : map (whom_of es) es ≡ line_by_line whoms 1 (on_board s)
  pub own : (i : ℕ) → i < length es → role_number (entry_at es i).standing < 2 → (entry_at es i).against ≡ i
  pub opposed : (i : ℕ) → i < length es → role_number (entry_at es i).standing ≡ 2 → Opposed s.records (entry_at es i) (entry_at es (entry_at es i).against)

abbrev pub EntriesNameWhom : Type 0
EntriesNameWhom = (m : List ℕ) → Bytes m → well_formed m ≡ true → NamesWhom (decode m) (entries (decode m))

-- ---- read back

-- the bytes of entry i
abbrev pub bytes_at : List ℕ → ℕ → List ℕ
bytes_at b i = take entry_size (drop (i * entry_size) b)

-- what is written of each entry says that entry, its chi-square bit for bit
abbrev pub EntriesReadBack : Type 0
EntriesReadBack = (m : List ℕ) → Bytes m → well_formed m ≡ true
    → (i : ℕ) → i < length (entries (decode m)) → entry_read (bytes_at (fixes_in (decode m)) i) ≡ entry_at (entries (decode m)) i
