use Rattle.std.proofs.Common.{◌≡◌, ◌≤◌, ◌+◌, length}
use Rattle.board_values.specs.Entries.{place_of}
use Rattle.board_values.proofs.texts.place_of.Given as goal

abbrev pub invariant-loop-signed : goal.invariant-loop-signed
invariant-loop-signed l = record {
  few : l.place + length l.signed-iterator ≤ 96;
  whole : l.place + place_of l.signed-iterator l.report.bytes.now ≡ place_of l.register.records l.report.bytes.now;
}
