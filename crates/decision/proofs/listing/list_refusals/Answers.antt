use Rattle.std.proofs.Common.{sym, ap, ◌∙◌, length, arith, ◌∷◌, ◌++◌, []}
use Rattle.decision_rule.specs.Listed.{relations}
use Rattle.decision.proofs.Findings.{none-refused, found_none, found-one, all-refused}
use Rattle.decision.proofs.listing.list_refusals.Goals as goal

pub loop-i-init : goal.loop-i-init
loop-i-init g c =
    let items = c.args.settled.now.compared.listed.items.now in
    record { few = omega (arith, ap length c.requires.none); most = omega arith; refused = c.requires.none ∙ sym (none-refused (relations items) (length items)) }

pub loop-i-preserved-in_default : goal.loop-i-preserved-in_default
loop-i-preserved-in_default g c =
    let items = c.args.settled.now.compared.listed.items.now in
    record {
      few = omega (arith, c.loop-i.invariant.few);
      most = omega arith;
      refused = c.loop-i.invariant.refused ∙ sym (found_none (relations items) (length items) c.loop-i.i _ c.refusal.ensures c.in_default.is);
    }

pub push-requires : goal.push-requires
push-requires g c = (omega arith, omega (arith, c.loop-i.invariant.few))

pub loop-i-preserved : goal.loop-i-preserved
loop-i-preserved g c =
    let items = c.args.settled.now.compared.listed.items.now in
    record {
      few = omega (arith, c.loop-i.invariant.few, c.push.ensures.len);
      most = omega arith;
      refused =
          c.push.ensures.items
          ∙ ap (λ l. l ++ (c.in-Some.found ∷ [])) c.loop-i.invariant.refused
          ∙ sym (found-one (relations items) (length items) c.loop-i.i _ c.refusal.ensures _ c.in-Some.is);
    }

pub returns : goal.returns
returns g c =
    let items = c.args.settled.now.compared.listed.items.now in
    c.loop-i.invariant.refused ∙ all-refused (relations items) (length items) c.loop-i.i (omega (arith, c.loop-i.invariant.most)) (omega arith)
