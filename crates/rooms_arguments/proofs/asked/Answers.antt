use Rattle.std.proofs.Common.{rules, sym, ◌∙◌, ap, arith, string_bytes}
use Rattle.std.proofs.lemmas.List.{length-map}
use Rattle.rooms_arguments.specs.Calling as C
use Rattle.rooms_arguments.proofs.Words.{taken-more, taken-instead, taken-end}
use Rattle.rooms_arguments.proofs.asked.Goals as goal

pub returns-in_err-taken : goal.returns-in_err-taken
returns-in_err-taken c =
    let whole = c.loop-index.invariant ∙ ap C.finished (taken-instead string_bytes c.args.words.now c.loop-index.taken c.loop-index.index c.index-words-index.result c.loop-index-test.true c.index-words-index.is
    c.take.result (c.take.ensures ∙ ap (C.take c.loop-index.taken c.loop-index.index) c.as_bytes.ensures.value) c.in_err-taken.field-0.0 (c.in_err-taken.was)) in
    rw whole (search rules)

pub loop-index-preserved : goal.loop-index-preserved
loop-index-preserved c =
    c.loop-index.invariant ∙ ap C.finished (taken-more string_bytes c.args.words.now c.loop-index.taken c.loop-index.index c.index-words-index.result c.loop-index-test.true c.index-words-index.is
    c.take.result (c.take.ensures ∙ ap (C.take c.loop-index.taken c.loop-index.index) c.as_bytes.ensures.value) c.in_ok-taken.taken (c.in_ok-taken.was))

pub returns : goal.returns
returns c = c.finish.ensures ∙ sym (c.loop-index.invariant ∙ ap C.finished (taken-end _ _ _ (simp length-map (omega arith))))
