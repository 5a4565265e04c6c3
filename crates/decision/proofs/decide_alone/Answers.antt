use Rattle.std.proofs.Common.{◌≡◌, sym, ap, ◌∙◌, length, arith, ◌∷◌, ◌++◌, []}
use Rattle.lists.specs.Ordered.{up_to, count_from}
use Rattle.lists.proofs.Lists.{count-length}
use Rattle.lists.proofs.Searches.{up_more}
use Rattle.decision.proofs.decide_alone.Goals as goal

pub loop-i-init : goal.loop-i-init
unfolding count_from
loop-i-init g c = record { most = omega arith; ranked = c.new-ranked.ensures }

pub push-requires : goal.push-requires
push-requires g c =
    let e = ap length c.loop-i.invariant.ranked in
    let f = count-length 0 c.loop-i.i in
    (omega arith, omega (arith, e, f, c.requires, c.loop-i.invariant.most))

pub loop-i-preserved : goal.loop-i-preserved
loop-i-preserved g c = record {
  most = omega arith;
  ranked = c.push.ensures.items ∙ ap (λ l. l ++ (c.loop-i.i ∷ [])) c.loop-i.invariant.ranked ∙ sym (up_more c.loop-i.i);
}

pub returns-clause-ranked : goal.returns-clause-ranked
returns-clause-ranked g c = let e : c.loop-i.i ≡ c.args.n = omega (arith, c.loop-i.invariant.most, c.loop-i-test.false) in c.loop-i.invariant.ranked ∙ ap up_to e
