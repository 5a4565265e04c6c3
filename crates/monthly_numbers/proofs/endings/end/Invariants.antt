use Rattle.std.proofs.Common.{◌≡◌, ◌≤◌, ◌+◌, ◌++◌, length, map}
use Rattle.monthly_numbers.specs.Kept.{ended_in}
use Rattle.monthly_numbers.proofs.endings.end.Given as goal

-- what is in the list and what is left to come are the whole
abbrev pub invariant-loop-signed : goal.invariant-loop-signed
invariant-loop-signed l = record {
  few : length l.endings.items + length l.signed-iterator ≤ 96;
  whole : l.endings.items ++ map (ended_in l.register) l.signed-iterator ≡ map (ended_in l.register) l.register.records;
}
