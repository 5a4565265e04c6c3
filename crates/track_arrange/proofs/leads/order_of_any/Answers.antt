use mathlib.Core.Path.{ap, ◌∙◌}
use mathlib.Core.List.{map}
use Rattle.lists.specs.Lists.{last_of}
use Rattle.track_arrange.specs.Arranged.{max_transmissions}
use Rattle.track_arrange.specs.Leads.{place_of}
use Rattle.track_arrange.proofs.Entering.{entered-all}
use Rattle.track_arrange.proofs.leads.order_of_any.Goals as goal

pub returns : goal.returns
returns c =
    c.places_of.ensures ∙ ap (map place_of) (c.deref.ensures.0 ∙ c.forget_oldest.ensures ∙ ap (last_of max_transmissions) (c.enter_all.ensures ∙ entered-all c.args.blocks.now.items))
