use Rattle.std.proofs.Common.{◌≡◌, sym, ap, ◌∙◌, ne_eqb}
use Rattle.octets.specs.Order.{same}
use Rattle.record.specs.Fields.{time}
use Rattle.fixes.specs.Fix.{Fix}
use Rattle.monthly_numbers.proofs.Finding.{other-times}
use Rattle.monthly_numbers.proofs.endings.represents.Goals as goal

pub returns-else-time : goal.returns-else-time
returns-else-time c =
    ne_eqb c.time.result c.time-2.result c.if-time.false
    ∙ sym (other-times c.args.fix.now.record_bytes c.args.report.bytes.now c.time.result c.time-2.result (c.time.ensures ∙ ap (λ (f : Fix). time f.record_bytes) c.fix.view_is) c.time-2.ensures c.if-time.false)

pub returns-then-time : goal.returns-then-time
returns-then-time c =
    let is : c.equal.result ≡ same c.args.fix.now.record_bytes c.args.report.bytes.now = c.equal.ensures ∙ ap (λ (f : Fix). same f.record_bytes c.args.report.bytes.now) c.fix.view_is in
    is
