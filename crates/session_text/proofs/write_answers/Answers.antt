use Rattle.std.proofs.Common.{arith, rules}
use Rattle.text.proofs.Appending.{put_whole}
use Rattle.session_lines.specs.Session.{at_start, calls_from}
use Rattle.session_text.specs.Output.{answers}
use Rattle.session_text.proofs.Answering.{answers-fit}
use Rattle.session_text.proofs.write_answers.Goals as goal

pub returns : goal.returns
returns c =
    let short = answers-fit c.args.memory.now c.args.input.now in
    let put = put_whole _ (answers c.args.memory.now (calls_from (at_start c.args.input.now))) _ _ _ (rw c.new-text.ensures at c.answer_all.ensures.text) c.len.ensures (λ e. search rules) (omega arith) in
    record { text = put; bound = omega (arith, put.next); left = c.answer_all.ensures.left }
