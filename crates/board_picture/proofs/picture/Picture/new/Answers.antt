use Rattle.std.proofs.Common.{refl, []}
use Rattle.board_fixes.specs.Order.{identities_ascend}
use Rattle.board_picture.proofs.Adding.{none-yet}
use Rattle.board_picture.proofs.picture.Picture.new.Goals as goal

pub invariant_of-result : goal.invariant_of-result
unfolding identities_ascend
invariant_of-result c = none-yet [] refl _ c.new.ensures _ c.new-2.ensures
