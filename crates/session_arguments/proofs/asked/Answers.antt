use Rattle.std.proofs.Common.{rules, sym, ◌∙◌, ap, arith, string_bytes}
use Rattle.std.proofs.lemmas.List.{length-map}
use Rattle.session_arguments.specs.Words as W
use Rattle.session_arguments.specs.Calling as C
use Rattle.session_arguments.proofs.Words.{taken-more, taken-instead, taken-end}
use Rattle.session_arguments.proofs.asked.Goals as goal

pub returns-in_err-wish : goal.returns-in_err-wish
returns-in_err-wish c =
    let whole = c.loop-index.invariant ∙ taken-instead string_bytes c.args.words.now c.loop-index.wish c.loop-index.index c.index-words-index.result c.loop-index-test.true c.index-words-index.is
    c.take.result (c.take.ensures ∙ ap (λ t. C.take c.loop-index.wish c.loop-index.index (W.word_of t)) c.as_bytes.ensures.value) c.in_err-wish.field-0.0 (c.in_err-wish.was) in
    rw whole (search rules)

pub loop-index-preserved : goal.loop-index-preserved
loop-index-preserved c =
    c.loop-index.invariant ∙ taken-more string_bytes c.args.words.now c.loop-index.wish c.loop-index.index c.index-words-index.result c.loop-index-test.true c.index-words-index.is
    c.take.result (c.take.ensures ∙ ap (λ t. C.take c.loop-index.wish c.loop-index.index (W.word_of t)) c.as_bytes.ensures.value) c.in_ok-wish.wish (c.in_ok-wish.was)

pub returns : goal.returns
returns c = sym (c.loop-index.invariant ∙ taken-end _ _ _ (simp length-map (omega arith)))
