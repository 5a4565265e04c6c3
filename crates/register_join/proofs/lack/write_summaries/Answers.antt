use Rattle.std.proofs.Common.{ℕ, ◌+◌, ◌<◌, ◌≡◌, refl, sym, ap, ◌∙◌, le_trans, Bool, true, List, [], ◌∷◌, arith, get_or, drop}
use Rattle.tables.specs.Places.{keep_places}
use Rattle.tables.proofs.Keeping.{kept-length}
use Rattle.models.specs.Limits.{max_summaries}
use Rattle.models.specs.Summary.{summary_size}
use Rattle.models.specs.Summaries.{no_value}
use Rattle.register_join.specs.Lacks.{is_lacking}
use Rattle.register_join.specs.Merged.{summary_before}
use Rattle.register_join.proofs.Filling.{none-written, passed-by, next-inside, next-written, room-for-next, count-written, told-bytes}
use Rattle.register_join.proofs.LackTurns.{next-summary, no-more-summaries}
use Rattle.register_join.proofs.lack.write_summaries.Goals as goal
use Rattle.register_join.proofs.lack.write_summaries.Goals.{After-is_lacking-lacking}

-- the summaries of a list that are lacking
abbrev lacking : ℕ → List (List ℕ) → List (List ℕ) → List (List ℕ)
lacking c mine ps = keep_places summary_size (is_lacking c mine) no_value ps

next : (c : After-is_lacking-lacking) → lacking c.args.convicted c.args.mine.now (drop c.loop-place.place-index c.args.theirs.now)
    ≡ summary_before (get_or c.args.theirs.now c.loop-place.place-index []) c.is_lacking-lacking.result (lacking c.args.convicted c.args.mine.now (drop (c.loop-place.place-index + 1) c.args.theirs.now))
next c =
    next-summary c.args.convicted c.args.mine.now c.args.theirs.now c.loop-place.place-index c.loop-place-test.true (c.told-theirs c.loop-place.place-index c.loop-place-test.true)
    ∙ ap (λ (b : Bool). summary_before (get_or c.args.theirs.now c.loop-place.place-index []) b (lacking c.args.convicted c.args.mine.now (drop (c.loop-place.place-index + 1) c.args.theirs.now))) (sym c.is_lacking-lacking.ensures)

stays : (c : After-is_lacking-lacking) → c.is_lacking-lacking.result ≡ true → lacking c.args.convicted c.args.mine.now (drop c.loop-place.place-index c.args.theirs.now)
    ≡ get_or c.args.theirs.now c.loop-place.place-index [] ∷ lacking c.args.convicted c.args.mine.now (drop (c.loop-place.place-index + 1) c.args.theirs.now)
stays c h = next c ∙ rw h refl

room : (c : After-is_lacking-lacking) → c.is_lacking-lacking.result ≡ true → c.loop-place.count < max_summaries
room c h =
    room-for-next summary_size max_summaries (lacking c.args.convicted c.args.mine.now c.args.theirs.now) c.loop-place.out c.loop-place.count (lacking c.args.convicted c.args.mine.now (drop c.loop-place.place-index c.args.theirs.now)) c.loop-place.invariant
    (le_trans (kept-length summary_size (is_lacking c.args.convicted c.args.mine.now) no_value c.args.theirs.now) c.requires.few)
    (get_or c.args.theirs.now c.loop-place.place-index []) (lacking c.args.convicted c.args.mine.now (drop (c.loop-place.place-index + 1) c.args.theirs.now)) (stays c h)

pub loop-place-init : goal.loop-place-init
loop-place-init c = none-written summary_size max_summaries (lacking c.args.convicted c.args.mine.now c.args.theirs.now) c.args.out.now c.requires.zero

pub loop-place-preserved-then-not-lacking : goal.loop-place-preserved-then-not-lacking
loop-place-preserved-then-not-lacking c =
    let after = lacking c.args.convicted c.args.mine.now (drop (c.loop-place.place-index + 1) c.args.theirs.now) in
    passed-by summary_size max_summaries (lacking c.args.convicted c.args.mine.now c.args.theirs.now) c.loop-place.out c.loop-place.count (lacking c.args.convicted c.args.mine.now (drop c.loop-place.place-index c.args.theirs.now)) c.loop-place.invariant after
    (next (goal.at.loop-place-preserved-then-not-lacking c).After-is_lacking-lacking ∙ rw c.if-not-lacking.true refl)

pub put_summary-requires : goal.put_summary-requires
put_summary-requires c =
    next-inside summary_size max_summaries (lacking c.args.convicted c.args.mine.now c.args.theirs.now) c.loop-place.out c.loop-place.count (lacking c.args.convicted c.args.mine.now (drop c.loop-place.place-index c.args.theirs.now)) c.loop-place.invariant
    (room (goal.at.put_summary-requires c).After-is_lacking-lacking c.if-not-lacking.false)

pub loop-place-preserved : goal.loop-place-preserved
loop-place-preserved c =
    let a = (goal.at.loop-place-preserved c).After-is_lacking-lacking in
    next-written summary_size max_summaries (lacking c.args.convicted c.args.mine.now c.args.theirs.now) c.loop-place.out c.loop-place.count (lacking c.args.convicted c.args.mine.now (drop c.loop-place.place-index c.args.theirs.now)) c.loop-place.invariant
    (room a c.if-not-lacking.false) (get_or c.args.theirs.now c.loop-place.place-index []) (lacking c.args.convicted c.args.mine.now (drop (c.loop-place.place-index + 1) c.args.theirs.now)) (stays a c.if-not-lacking.false)
    c.put_summary.ensures.size c.put_summary.new.t c.put_summary.ensures.bytes

pub returns-clause-count : goal.returns-clause-count
returns-clause-count c =
    count-written summary_size max_summaries (lacking c.args.convicted c.args.mine.now c.args.theirs.now) c.loop-place.out c.loop-place.count (lacking c.args.convicted c.args.mine.now (drop c.loop-place.place-index c.args.theirs.now)) c.loop-place.invariant
    (no-more-summaries c.args.convicted c.args.mine.now c.args.theirs.now c.loop-place.place-index (let h = c.loop-place-test.false in omega arith))

pub returns-clause-bytes : goal.returns-clause-bytes
returns-clause-bytes c =
    told-bytes summary_size max_summaries (lacking c.args.convicted c.args.mine.now c.args.theirs.now) c.loop-place.out c.loop-place.count (lacking c.args.convicted c.args.mine.now (drop c.loop-place.place-index c.args.theirs.now)) c.loop-place.invariant
    (no-more-summaries c.args.convicted c.args.mine.now c.args.theirs.now c.loop-place.place-index (let h = c.loop-place-test.false in omega arith))
