use Rattle.std.proofs.Common.{subst, ◌∙◌, refl}
use Rattle.fixes.specs.Decided.{IsFix}
use Rattle.board_picture.proofs.Listing.{member-at}
use Rattle.board_picture.proofs.deciding.item_at.Goals as goal

pub returns : goal.returns
returns c = subst (λ f. IsFix f c.item.result) (c.fix.ensures ∙ member-at c.args.transmission.now c.args.i _ c.requires refl) c.item.ensures
