use Rattle.std.proofs.Common.{sym, arith}
use Rattle.octets.proofs.Puts.{put_as}
use Rattle.session_text.proofs.Cases.{output-good, output-refused}
use Rattle.session_text.proofs.print.Goals as goal

pub perform_all-requires : goal.perform_all-requires
perform_all-requires c = let good = output-good c.args.input.now c.in-Ok.ensures in omega (arith, good.0)

pub returns-in-Ok-clause-text : goal.returns-in-Ok-clause-text
returns-in-Ok-clause-text c = put_as (sym (output-good c.args.input.now c.in-Ok.ensures).1) c.perform_all.ensures.text

pub returns-in-Ok-clause-fits : goal.returns-in-Ok-clause-fits
returns-in-Ok-clause-fits c =
    let good = output-good c.args.input.now c.in-Ok.ensures in omega (arith, good.0, c.perform_all.ensures.bound)

pub returns-in-Ok-clause-refused : goal.returns-in-Ok-clause-refused
returns-in-Ok-clause-refused c = c.in-Ok.ensures

pub returns-in-Err-clause-text : goal.returns-in-Err-clause-text
returns-in-Err-clause-text c = put_as (sym (output-refused c.args.input.now c.in-Err.refusal c.in-Err.ensures)) c.write_line.ensures.1
