use Rattle.std.proofs.Common.{◌≡◌, sym, ap, ◌∙◌}
use Rattle.errors.specs.After.{after}
use Rattle.desks.specs.Desks.{number_of}
use Rattle.desks.proofs.Rights.{number-of-desk}
use Rattle.board.specs.Preview.{draw_preview}
use Rattle.toastlagoon.proofs.tl_register_preview.Goals as goal

pub returns : goal.returns
returns c =
    let same : number_of c.in-Some.desk ≡ c.args.desk = number-of-desk c.args.desk c.in-Some.desk (sym c.in-Some.ensures) in
    ap (λ n. after n c.preview.new.out) c.value_or_number.ensures
    ∙ c.preview.ensures.preview
    ∙ ap (λ n. draw_preview n c.args.engine c.args.memory.now c.args.out.now) same
