use Rattle.std.proofs.Common.{◌≡◌, sym, ap, ◌∙◌}
use Rattle.errors.specs.After.{after}
use Rattle.desks.specs.Desks.{number_of}
use Rattle.desks.proofs.Rights.{number-of-desk}
use Rattle.register.specs.Calls.{conviction, called}
use Rattle.toastlagoon.proofs.tl_register_conviction.Goals as goal

pub returns : goal.returns
returns c =
    let same : number_of c.in-Some.desk ≡ c.args.desk = number-of-desk c.args.desk c.in-Some.desk (sym c.in-Some.ensures) in
    ap (λ n. after n c.conviction.new.memory) c.answer_number.ensures
    ∙ c.conviction.ensures
    ∙ ap (λ n. called (conviction n c.args.engine) c.args.memory.now) same
