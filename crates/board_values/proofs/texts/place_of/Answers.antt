use Rattle.std.proofs.Common.{rules, ◌∙◌, sym, ap, List, ℕ}
use Rattle.octets.specs.Order.{same}
use Rattle.board_values.proofs.Walks.{place-none, place-found, place-more, few-more}
use Rattle.board_values.proofs.texts.place_of.Goals as goal

pub returns-then-equal : goal.returns-then-equal
returns-then-equal c =
    place-found _ _ _ _ c.loop-signed.invariant.whole c.in-Some.signed c.next.new.self (search rules)
    (ap (λ (b : List ℕ). same b c.args.report.bytes.now) (sym c.record.ensures) ∙ sym c.equal.ensures ∙ c.if-equal.true)

pub loop-signed-preserved : goal.loop-signed-preserved
loop-signed-preserved c = record {
  few = few-more _ _ c.in-Some.signed _ (search rules) c.loop-signed.invariant.few;
  whole =
      place-more _ _ _ _ c.loop-signed.invariant.whole c.in-Some.signed c.next.new.self (search rules)
      (ap (λ (b : List ℕ). same b c.args.report.bytes.now) (sym c.record.ensures) ∙ sym c.equal.ensures ∙ c.if-equal.false);
}

pub returns : goal.returns
returns c = place-none _ _ _ _ c.loop-signed.invariant.whole (search rules)
