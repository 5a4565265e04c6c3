use Rattle.std.proofs.Common.{ap₂, ◌∙◌}
use Rattle.octets.specs.Order.{same}
use Rattle.models.proofs.hashes.IdentityPartialEq.eq.Goals as goal

pub returns : goal.returns
returns c = c.equal.ensures ∙ ap₂ same c.bytes.ensures c.bytes-2.ensures
