use Rattle.std.proofs.Common.{◌≡◌, sym, ap, ◌∙◌, length, arith, ◌∷◌, ◌++◌, []}
use Rattle.std.specs.List.{filter}
use Rattle.lists.specs.Ordered.{up_to, count_from}
use Rattle.lists.proofs.Searches.{filter-hit, filter-miss, filter-up}
use Rattle.decision_rule.specs.Standing as S
use Rattle.decision_rule.specs.Rows.{is_dominated}
use Rattle.decision.proofs.listing.list_dominated.Goals as goal

pub loop-i-init : goal.loop-i-init
unfolding count_from
loop-i-init g c = record { most = omega arith; dominated = c.requires.none }

pub push-requires : goal.push-requires
push-requires g c =
    let l = c.args.settled.now.compared.listed.items.now in
    let a = filter-up (is_dominated l) c.loop-i.i in
    let d = ap length c.loop-i.invariant.dominated in
    (omega arith, omega (arith, a, d))

pub loop-i-preserved-then-not-is_dominated : goal.loop-i-preserved-then-not-is_dominated
loop-i-preserved-then-not-is_dominated g c =
    let l = c.args.settled.now.compared.listed.items.now in
    record { most = omega arith; dominated = c.loop-i.invariant.dominated ∙ sym (filter-miss (is_dominated l) c.loop-i.i (sym c.is_dominated.ensures ∙ c.if-not-is_dominated.true)) }

pub loop-i-preserved : goal.loop-i-preserved
loop-i-preserved g c =
    let l = c.args.settled.now.compared.listed.items.now in
    record {
      most = omega arith;
      dominated =
          c.push.ensures.items
          ∙ ap (λ k. k ++ (c.loop-i.i ∷ [])) c.loop-i.invariant.dominated
          ∙ sym (filter-hit (is_dominated l) c.loop-i.i (sym c.is_dominated.ensures ∙ c.if-not-is_dominated.false));
    }

pub returns : goal.returns
unfolding S.decide
returns g c =
    let l = c.args.settled.now.compared.listed.items.now in
    let e : c.loop-i.i ≡ length l = omega (arith, c.loop-i.invariant.most) in
    c.loop-i.invariant.dominated ∙ ap (λ k. filter (is_dominated l) (up_to k)) e
