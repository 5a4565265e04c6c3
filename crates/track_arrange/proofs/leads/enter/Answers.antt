use mathlib.Core.Path.{sym, ap, ap₂, ◌∙◌}
use Rattle.std.specs.List.{insert, position}
use Rattle.std.specs.Option.{unwrap_or}
use Rattle.track_arrange.specs.Leads.{before, put_behind}
use Rattle.track_arrange.proofs.Entering.{behind-at}
use Rattle.track_arrange.proofs.leads.enter.Goals as goal

pub returns : goal.returns
returns c =
    let l = c.learn_ties.new.leads.items in
    let x = c.learn_ties.new.lead in
    let p = c.place_among.ensures ∙ ap (position (before x)) c.deref.ensures.0 in
    c.insert.ensures.items
    ∙ ap (λ i. insert l i x) (c.unwrap_or-place.ensures ∙ ap (unwrap_or c.place_among.result) c.len.ensures.value)
    ∙ sym (behind-at x l c.place_among.result p)
    ∙ ap₂ (put_behind before) c.learn_ties.ensures.lead c.learn_ties.ensures.leads
