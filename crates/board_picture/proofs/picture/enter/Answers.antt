use mathlib.Core.Path.{sym, ◌∙◌}
use Rattle.board_picture.specs.Parts.{before}
use Rattle.board_picture.proofs.Order.{insert-at}
use Rattle.board_picture.proofs.picture.enter.Goals as goal

pub returns : goal.returns
returns c =
    c.insert.ensures.items
    ∙ rw (c.unwrap_or-place.ensures, c.len.ensures.value)
    (sym (insert-at before c.args.part c.args.parts.now.items c.place_of.result (rw c.deref.ensures.0 at c.place_of.ensures)))
