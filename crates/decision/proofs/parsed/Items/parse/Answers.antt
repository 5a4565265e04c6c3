use Rattle.std.proofs.Common.{◌≡◌, false, sym, ◌∙◌}
use Rattle.decision.specs.Answer.{is_bad}
use Rattle.decision.proofs.Passed.{few-items, long-items}
use Rattle.decision.proofs.parsed.Items.parse.Goals as goal

pub invariant_of-result : goal.invariant_of-result
invariant_of-result c =
    let good : is_bad c.args.bytes.now ≡ false = sym c.is_bad.ensures ∙ c.if-is_bad.false in
    record { good = good; whole = long-items _ good; few = few-items _ good }
