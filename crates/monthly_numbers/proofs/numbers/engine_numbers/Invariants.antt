use Rattle.std.proofs.Common.{◌≡◌, take}
use Rattle.monthly_numbers.specs.Kept.{numbers_in}
use Rattle.monthly_numbers.proofs.numbers.engine_numbers.Given as goal

abbrev pub invariant-loop-ended : goal.invariant-loop-ended
invariant-loop-ended l = l.numbers ≡ numbers_in l.engine (take l.ended-index l.endings)
