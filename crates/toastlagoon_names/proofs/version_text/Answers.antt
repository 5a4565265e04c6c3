use Rattle.std.proofs.Common.{refl}
use Rattle.text.specs.Numbers.{digits}
use Rattle.toastlagoon_names.proofs.version_text.Goals as goal

pub returns : goal.returns
unfolding digits
returns c = refl
