use mathlib.Core.Path.{sym, ap, ◌∙◌, subst}
use lib.ListN.{length}
use Rattle.std.specs.List.{list_all}
use Rattle.lists.specs.Lists.{last_of}
use Rattle.lists.specs.Ordered.{up_to}
use Rattle.track_arrange.specs.Arranged.{max_transmissions}
use Rattle.track_arrange.specs.Claims.{InOrder}
use Rattle.track_arrange.specs.Leads.{is_empty}
use Rattle.track_arrange.proofs.Ascending.{order-ascending, none-ordered}
use Rattle.track_arrange.proofs.leads.order.Goals as goal

pub returns-then-ascend : goal.returns-then-ascend
returns-then-ascend c =
    c.latest_places.ensures ∙ ap (λ ts. last_of max_transmissions (up_to (length ts))) c.as_slice-all.ensures.value
    ∙ order-ascending c.args.blocks.now.items (subst InOrder c.as_slice-all.ensures.value (c.ascend.ensures c.if-ascend.true))

pub returns-then-are_empty : goal.returns-then-are_empty
returns-then-are_empty c =
    c.new.ensures ∙ none-ordered c.args.blocks.now.items (ap (list_all is_empty) (sym c.as_slice-all.ensures.value) ∙ sym c.are_empty.ensures ∙ c.if-are_empty.true)
