-- The text of what a room lacks, which is itself a register: a line for each conviction by ascending engine, then for each summary in ascending order, then for each
-- report, by ascending record and for each record by ascending engine.
-- Source: docs/REFERENCE.md, 'Two rooms'.
use Rattle.std.specs.Prelude.{ℕ, suc, List, [], ◌++◌, flat_map, take, if◌then◌else◌}
use Rattle.octets.specs.Masks.{bit}
use Rattle.lists.specs.Ordered.{up_to}
use Rattle.engines.specs.Limits.{max_engine}
use Rattle.record.specs.Layout.{record_size}
use Rattle.signed_records.specs.Signed.{signers_in}
use Rattle.register.specs.Register.{Register}
use Rattle.rooms_text.specs.declared.lines.Room.{Room}
use Rattle.rooms_text.specs.Lines.{conviction_line, summary_line, report_line}

-- the text of an engine, if it is in a set
abbrev pub if_in : ℕ → (ℕ → List ℕ) → ℕ → List ℕ
if_in set text e = if bit set e then text e else []

-- the texts of the engines in a set, by ascending number
abbrev pub for_each_in : ℕ → (ℕ → List ℕ) → List ℕ
for_each_in set text = flat_map (if_in set text) (up_to (suc max_engine))

abbrev pub conviction_lines : Room → ℕ → List ℕ
conviction_lines room convicted = for_each_in convicted (conviction_line room)

-- a line for each signer of a record's place
abbrev pub report_lines : Room → List ℕ → List ℕ
report_lines room p = for_each_in (signers_in p) (report_line room (take record_size p))

unfoldable pub lacking_text : Room → Register → List ℕ
lacking_text room s = (conviction_lines room s.convicted ++ flat_map (summary_line room) s.summaries) ++ flat_map (report_lines room) s.records
