use mathlib.Core.Path.{refl}
use Rattle.octets.specs.Words as W
use Rattle.octets.specs.Runs.{all_zero}
use Rattle.record.specs.Fields.{tags_from}
use Rattle.record.specs.Formed.{well_formed, ascends, ascends_from, all_up_to}
use Rattle.record.proofs.RecordDefault.default.Goals as goal

pub of-requires : goal.of-requires
unfolding well_formed ascends ascends_from all_up_to all_zero W.word tags_from
of-requires c = refl
