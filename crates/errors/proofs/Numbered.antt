-- Whatever is refused has a number that is not 0, and none above the greatest.
use Rattle.std.proofs.Common.{ℕ, ◌≡◌, arith}
use Rattle.errors.specs.Errors.{error_number, NoneGreater}
use Rattle.errors.specs.declared.Error.{Error}
use Rattle.errors.specs.declared.Error.TheVariants.{Malformed, NoEngine, NoRecord, Convicted, Full, ModelDisputed, NoSummary, SmallOutput, ShelfFull, SmallMap, UnknownDesk, NoRight, OtherLength}

pub never-zero : (e : Error) → error_number e ≡ 0 → ⊥
never-zero Malformed h = omega arith
never-zero NoEngine h = omega arith
never-zero NoRecord h = omega arith
never-zero Convicted h = omega arith
never-zero Full h = omega arith
never-zero ShelfFull h = omega arith
never-zero ModelDisputed h = omega arith
never-zero NoSummary h = omega arith
never-zero SmallOutput h = omega arith
never-zero SmallMap h = omega arith
never-zero UnknownDesk h = omega arith
never-zero NoRight h = omega arith
never-zero OtherLength h = omega arith

pub none-greater : NoneGreater
none-greater Malformed = omega arith
none-greater NoEngine = omega arith
none-greater NoRecord = omega arith
none-greater Convicted = omega arith
none-greater Full = omega arith
none-greater ShelfFull = omega arith
none-greater ModelDisputed = omega arith
none-greater NoSummary = omega arith
none-greater SmallOutput = omega arith
none-greater SmallMap = omega arith
none-greater UnknownDesk = omega arith
none-greater NoRight = omega arith
none-greater OtherLength = omega arith
