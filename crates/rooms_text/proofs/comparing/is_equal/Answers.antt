use Rattle.std.proofs.Common.{◌∙◌, ap₂}
use Rattle.octets.specs.Order.{same}
use Rattle.rooms_text.proofs.comparing.is_equal.Goals as goal

pub returns : goal.returns
returns c = c.equal.ensures ∙ ap₂ same c.split_at.ensures.back c.split_at-2.ensures.back
