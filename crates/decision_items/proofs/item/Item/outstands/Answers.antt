use mathlib.Core.Path.{refl}
use Rattle.decision_items.proofs.item.Item.outstands.Goals as goal

pub returns : goal.returns
returns c = refl
