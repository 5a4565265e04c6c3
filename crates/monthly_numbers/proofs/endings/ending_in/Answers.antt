use Rattle.std.proofs.Common.{◌≡◌, true, false, sym, ap₂, ◌∙◌, None}
use Rattle.std.specs.List.{position}
use Rattle.octets.specs.Order.{same}
use Rattle.models.specs.Models.{counts}
use Rattle.models.specs.Answers.{summary_places}
use Rattle.monthly_numbers.specs.declared.endings.Ending.TheVariants.{Other, Uncounted}
use Rattle.monthly_numbers.specs.Kept.{ending_found}
use Rattle.monthly_numbers.proofs.endings.ending_in.Goals as goal

pub returns-in-None : goal.returns-in-None
returns-in-None c =
    let ss = summary_places c.args.all in
    let r = c.args.report.bytes.now in
    let none : None ≡ position (λ f. same f.record_bytes r) c.args.fixes.now = sym c.in-None.is ∙ c.fix_of.ensures in
    let counted : counts ss r ≡ true = sym c.counts.ensures ∙ c.if-counts.true in
    let other : Other ≡ ending_found c.args.table.now (counts ss r) (position (λ f. same f.record_bytes r) c.args.fixes.now) = ap₂ (ending_found c.args.table.now) (sym counted) none in
    other

pub returns-in-None-2 : goal.returns-in-None-2
returns-in-None-2 c =
    let ss = summary_places c.args.all in
    let r = c.args.report.bytes.now in
    let none : None ≡ position (λ f. same f.record_bytes r) c.args.fixes.now = sym c.in-None-2.is ∙ c.fix_of.ensures in
    let counted : counts ss r ≡ false = sym c.counts.ensures ∙ c.if-counts.false in
    let uncounted : Uncounted ≡ ending_found c.args.table.now (counts ss r) (position (λ f. same f.record_bytes r) c.args.fixes.now) = ap₂ (ending_found c.args.table.now) (sym counted) none in
    uncounted
