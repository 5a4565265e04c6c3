use Rattle.std.proofs.Common.{◌≡◌, ◌+◌, ◌-◌, sym, ap, ◌∙◌, length, arith, ◌∷◌, ◌++◌, []}
use Rattle.lists.specs.Ordered.{count_from}
use Rattle.lists.proofs.Lists.{count-length}
use Rattle.track_arrange.proofs.Ascending.{counted-more, last-counted}
use Rattle.track_arrange.proofs.leads.latest_places.Goals as goal

pub loop-i-init : goal.loop-i-init
unfolding count_from
loop-i-init c = record { most = omega arith; places = c.new-places.ensures }

pub push-requires : goal.push-requires
push-requires c =
    let e = ap length c.loop-i.invariant.places in
    let f = count-length c.saturating_sub-first.result c.loop-i.i in
    (omega arith, omega (arith, e, f, c.requires, c.loop-i.invariant.most, c.saturating_sub-first.ensures, c.loop-i-test.true))

pub loop-i-preserved : goal.loop-i-preserved
loop-i-preserved c = record {
  most = omega (arith, c.loop-i-test.true);
  places = c.push.ensures.items ∙ ap (λ l. l ++ ((c.saturating_sub-first.result + c.loop-i.i) ∷ [])) c.loop-i.invariant.places ∙ sym (counted-more c.saturating_sub-first.result c.loop-i.i);
}

pub returns : goal.returns
returns c =
    let e : c.loop-i.i ≡ c.args.n - c.saturating_sub-first.result = omega (arith, c.loop-i.invariant.most, c.loop-i-test.false) in
    c.loop-i.invariant.places ∙ ap (count_from c.saturating_sub-first.result) e ∙ ap (λ k. count_from k (c.args.n - k)) c.saturating_sub-first.ensures ∙ last-counted c.args.n
