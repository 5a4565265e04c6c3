use Rattle.std.proofs.Common.{refl, ◌∙◌, rules, tests}
use Rattle.std.proofs.lemmas.Iterator.Search.{all_from_yields_List}
use Rattle.std.proofs.lemmas.Iterator.Consumers.{YieldsList-from_first}
use Rattle.models.specs.Answers.{summary_places}
use Rattle.models.proofs.Agreeing.{as-places}
use Rattle.models.specs.Summaries.{summary_formed}
use Rattle.models.proofs.formed.summaries_formed.Goals as goal

pub returns : goal.returns
returns c =
    let all = summary_places c.args.all in
    let test = summary_formed c.args.convicted in
    all_from_yields_List test c.all.new.self _ c.all.result c.all.ensures.ran (YieldsList-from_first (λ p. p.bytes.now) summary_places all refl) (λ x b q k. search (rules, tests)) ∙ as-places test all
