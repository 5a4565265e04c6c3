-- The numbers of what is answered of a record's models (docs/REFERENCE.md, 'Answers') and of why bytes are no record ('Values').
use Rattle.std.specs.Prelude.{ℕ, Result, Ok, Err, Option, Some, None}
use Rattle.errors.specs.Errors.{error_number}
use Rattle.errors.specs.declared.Error.{Error}
use Rattle.record_values.specs.declared.known.Known.{Known}
use Rattle.record_values.specs.declared.known.Known.TheVariants.{Inputs, Waiting}
use Rattle.record_values.specs.declared.faults.Fault.{Fault}
use Rattle.record_values.specs.declared.faults.Fault.TheVariants as V

abbrev pub known_number : Result Known Error → ℕ
known_number (Ok Inputs) = 0
known_number (Ok Waiting) = 24
known_number (Err e) = error_number e

-- as the checks stand
abbrev pub fault_number_of : Fault → ℕ
fault_number_of V.Length = 1
fault_number_of V.HeightFlag = 2
fault_number_of V.HeightRoom = 3
fault_number_of V.MessageLength = 4
fault_number_of V.MessageRoom = 5
fault_number_of V.NoTag = 6
fault_number_of V.TooManyTags = 7
fault_number_of V.UsedMask = 8
fault_number_of V.TagOrder = 9
fault_number_of V.TagRoom = 10
fault_number_of V.TooManyModels = 11
fault_number_of V.Model = 12
fault_number_of V.ModelRoom = 13

abbrev pub found_number : Option Fault → ℕ
found_number (Some f) = fault_number_of f
found_number None = 0
