use mathlib.Core.Path.{ap, ap₂, ◌∙◌}
use mathlib.Core.List.{◌∷◌, ◌++◌, map}
use native.Mathlib.Omega.{arith}
use lib.ListN.{length}
use Rattle.track_transmission.specs.Held.{fix_of}
use Rattle.track_normalize.specs.Normal.{gather_all}
use Rattle.track_normalize.specs.Joining.{with_fix}
use Rattle.track_normalize.specs.Deciding.{normalized_distinct}
use Rattle.track_normalize.proofs.Distinct.{all-few, gather-few}
use Rattle.track_normalize.proofs.Gathered.{kept_distinct, gathered_with}
use Rattle.track_normalize.proofs.deciding.decide_with.Goals as goal

pub gather-requires : goal.gather-requires
gather-requires c =
    let few = all-few c.new-gathered.result.items c.deref.result.now in
    omega (arith, few, ap length c.gather_all.ensures, ap length c.new-gathered.ensures, c.deref.ensures.1)

pub gather_refused-requires : goal.gather_refused-requires
gather_refused-requires c =
    let few = all-few c.new-gathered.result.items c.deref.result.now in
    let more = gather-few c.args.fix.now c.gather_all.new.gathered.items in
    omega (arith, few, more, ap length c.gather_all.ensures, ap length c.gather.ensures, ap length c.new-gathered.ensures, c.deref.ensures.1, c.deref-2.ensures.1)

pub returns : goal.returns
returns c =
    let f = c.args.fix.now in
    let fs = c.held.inside.fixes.items in
    let xs = c.held.inside.refused.items in
    let a = c.gather_all.ensures ∙ ap₂ gather_all c.new-gathered.ensures c.deref.ensures.0 in
    let b = c.gather_refused.ensures ∙ ap (λ l. gather_all c.gather.new.gathered.items (map fix_of l)) c.deref-2.ensures.0 in
    c.decide.ensures
    ∙ ap normalized_distinct (gathered_with f fs xs _ _ _ a c.gather.ensures b)
    ∙ kept_distinct (fs ++ (f ∷ map fix_of xs))
    ∙ ap (λ t. with_fix f t) c.held.view_is
