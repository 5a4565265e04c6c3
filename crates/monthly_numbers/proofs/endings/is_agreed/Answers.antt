use Rattle.std.proofs.Common.{◌≡◌, false, sym, ap, ◌∙◌}
use Rattle.lists.proofs.Bools.{or}
use Rattle.models.specs.Models.{agreed_as, state_of}
use Rattle.models.specs.Answers.{state_as, summary_places}
use Rattle.models.specs.declared.states.ModelState.{ModelState}
use Rattle.monthly_numbers.proofs.endings.is_agreed.Goals as goal

pub returns-in-Missing : goal.returns-in-Missing
returns-in-Missing c =
    let none : false ≡ agreed_as c.args.spec (state_of c.args.model (summary_places c.args.all)) =
    or c.in-Missing.is
    (λ e. ap (λ (x : ModelState). agreed_as c.args.spec (state_as x)) (sym e) ∙ ap (agreed_as c.args.spec) c.state.ensures.state)
    (λ e. ap (λ (x : ModelState). agreed_as c.args.spec (state_as x)) (sym e) ∙ ap (agreed_as c.args.spec) c.state.ensures.state) in
    none
