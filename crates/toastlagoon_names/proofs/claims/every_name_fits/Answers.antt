use Rattle.toastlagoon_names.proofs.Sizes.{names-fit, no-name-is-empty}
use Rattle.toastlagoon_names.proofs.claims.every_name_fits.Goals as goal

pub returns : goal.returns
returns c = record { fit = names-fit; some = no-name-is-empty }
