use Rattle.std.proofs.Common.{◌≡◌, ◌-◌, sym, ap, ◌∙◌, arith, length}
use Rattle.std.specs.List.{filter}
use Rattle.lists.specs.Lists.{sort, insert}
use Rattle.lists.specs.Ordered.{count_from}
use Rattle.decision_rule.specs.Standing as S
use Rattle.decision_rule.specs.Listed.{relations}
use Rattle.decision_rule.specs.Rows.{is_ranked}
use Rattle.decision.proofs.Ranking.{sorted_from, sorted-none, sorted-hit, sorted-miss, sorted-below, sorted-few}
use Rattle.decision.proofs.listing.list_ranked.Goals as goal

pub loop-i-init : goal.loop-i-init
loop-i-init g c =
    let l = c.args.settled.now.compared.listed.items.now in
    record {
      most = omega (arith, c.len-i.ensures);
      ranked = c.requires.none ∙ sorted-none (relations l).ahead (is_ranked l) (length l) ∙ ap (sorted_from (relations l).ahead (is_ranked l) (length l)) (sym c.len-i.ensures);
    }

pub loop-i-preserved-then-not-is_ranked : goal.loop-i-preserved-then-not-is_ranked
loop-i-preserved-then-not-is_ranked g c =
    let l = c.args.settled.now.compared.listed.items.now in
    record {
      most = omega (arith, c.loop-i.invariant.most);
      ranked =
          c.loop-i.invariant.ranked
          ∙ sorted-miss (relations l).ahead (is_ranked l) (length l) c.loop-i.i c.loop-i-test.true c.loop-i.invariant.most (sym c.is_ranked.ensures ∙ c.if-not-is_ranked.true);
    }

pub enter-requires : goal.enter-requires
enter-requires g c =
    let l = c.args.settled.now.compared.listed.items.now in
    let r = c.loop-i.invariant.ranked in
    let a = sorted-few (relations l).ahead (is_ranked l) (length l) c.loop-i.i r in (
      omega arith,
      (
        sorted-below (relations l).ahead (is_ranked l) (length l) c.loop-i.i c.loop-i.invariant.most r,
        (omega (arith, c.loop-i-test.true, c.loop-i.invariant.most), omega (arith, a, c.requires.room, c.loop-i-test.true)),
      ),
    )

pub loop-i-preserved : goal.loop-i-preserved
loop-i-preserved g c =
    let l = c.args.settled.now.compared.listed.items.now in
    record {
      most = omega (arith, c.loop-i.invariant.most);
      ranked =
          c.enter.ensures.items
          ∙ ap (insert (relations l).ahead (c.loop-i.i - 1)) c.loop-i.invariant.ranked
          ∙ sorted-hit (relations l).ahead (is_ranked l) (length l) c.loop-i.i c.loop-i-test.true c.loop-i.invariant.most (sym c.is_ranked.ensures ∙ c.if-not-is_ranked.false);
    }

pub returns : goal.returns
unfolding S.decide
returns g c =
    let l = c.args.settled.now.compared.listed.items.now in
    let e : c.loop-i.i ≡ 0 = omega (arith, c.loop-i-test.false) in
    let z : length l - 0 ≡ length l = omega arith in
    c.loop-i.invariant.ranked
    ∙ ap (sorted_from (relations l).ahead (is_ranked l) (length l)) e
    ∙ ap (λ k. sort (relations l).ahead (filter (is_ranked l) (count_from 0 k))) z
