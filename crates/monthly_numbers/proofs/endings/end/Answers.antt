use Rattle.std.proofs.Common.{rules, ◌≡◌, ◌∙◌}
use Rattle.monthly_numbers.specs.Endings.{ending}
use Rattle.monthly_numbers.proofs.Finding.{ending-is, few-left, whole-left}
use Rattle.monthly_numbers.proofs.endings.end.Goals as goal

pub loop-signed-preserved : goal.loop-signed-preserved
loop-signed-preserved c =
    let s = c.args.register.now in
    let p = c.in-Some.signed in
    let fixes = c.represent.ensures.fixes in
    let is : c.ending_in.result ≡ ending s p =
    ending-is s c.records-signed-items.ensures.formed _ _ (c.deref.ensures.0 ∙ fixes) (c.deref-in-loop-signed.ensures.0 ∙ fixes) _ c.tell_fixes-table.ensures _ c.summaries-summaries.ensures p _ c.record.ensures _ c.ending_in.ensures in
    record {
      few = few-left s _ _ _ p _ _ (search rules) c.push.ensures.items c.loop-signed.invariant.few;
      whole = whole-left s _ _ _ p _ _ (search rules) c.push.ensures.items _ (λ i. record { signers = c.signers.ensures i; ending = is i }) c.loop-signed.invariant.whole;
    }
