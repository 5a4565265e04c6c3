use Rattle.std.proofs.Common.{ℕ, ap, ◌∙◌, rules, tests}
use Rattle.std.proofs.lemmas.Iterator.{YieldsList-from_slice}
use Rattle.std.proofs.lemmas.Iterator.Search.{all_from_yields_List}
use Rattle.record.specs.Fields.{models}
use Rattle.models.specs.Models.{state_of, agreed_as, all_agreed}
use Rattle.models.specs.Answers.{summary_places}
use Rattle.monthly_numbers.proofs.Finding.{all-agreed}
use Rattle.monthly_numbers.proofs.endings.counts.Goals as goal

pub returns : goal.returns
returns c =
    let ms = models c.args.report.bytes.now in
    let ps = summary_places c.args.all in
    let s = c.spec-spec.result in
    all_from_yields_List (λ m. agreed_as s (state_of m ps)) _ _ c.all.result c.all.ensures.ran (YieldsList-from_slice ms cc) (λ x b q k. search (rules, tests))
    ∙ all-agreed s ms ps ∙ ap (λ (n : ℕ). all_agreed n ms ps) c.spec-spec.ensures
