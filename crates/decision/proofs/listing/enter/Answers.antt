use Rattle.std.proofs.Common.{ap, ◌∙◌, arith, length}
use Rattle.std.specs.List as L
use Rattle.std.specs.List.{prefix_len}
use Rattle.std.proofs.lemmas.List.Sums.{prefix_len-le-length}
use Rattle.decision_rule.specs.Listed.{relations}
use Rattle.decision.proofs.Ranking.{put-in}
use Rattle.decision.proofs.listing.enter.Goals as goal

pub insert-requires : goal.insert-requires
insert-requires g c =
    let before = (relations c.args.settled.now.compared.listed.items.now).ahead in
    let a = prefix_len-le-length (λ j. before j c.args.i) c.as_slice.result.now in
    let b = ap length c.as_slice.ensures.value in
    (omega arith, (omega (arith, a, b, c.place_of-place.ensures), c.requires.room))

pub returns-clause-items : goal.returns-clause-items
returns-clause-items g c =
    let before = (relations c.args.settled.now.compared.listed.items.now).ahead in
    c.insert.ensures.items
    ∙ ap (λ k. L.insert c.args.list.now.items k c.args.i) (c.place_of-place.ensures ∙ ap (prefix_len (λ j. before j c.args.i)) c.as_slice.ensures.value)
    ∙ put-in before c.args.i c.args.list.now.items
