use Rattle.std.proofs.Common.{◌≡◌, not, true, List, [], ◌∷◌, length, refl, sym, ap, ◌∙◌, rules, arith}
use Rattle.std.specs.List.{filter, list_all}
use Rattle.octets.proofs.Numbers.{all-bytes}
use Rattle.track_memory.specs.Memory.{decode}
use Rattle.track_shelf.specs.Waiting.{Waiting, waits_for}
use Rattle.track_shelf.specs.Memory.{decode_shelf, encode_shelf}
use Rattle.track_shelf.specs.Both.{decode_both, encode_both, commit_both}
use Rattle.track.specs.Track.{take_record, tried_all}
use Rattle.track.specs.Steps.{may_report}
use Rattle.track.proofs.Trying.{none-tried, trying-formed, one-tried, all-tried, same-track, start-is-valid, may-report-all, none-arrives}
use Rattle.track.proofs.summaries.arrive.Goals as goal
use Rattle.track.proofs.summaries.arrive.Goals.{After-as_slice-all}

-- those that are tried, and the others, which are written back
tried-are : (c : After-as_slice-all) → c.as_slice-all.result.now ≡ filter (waits_for c.args.model) (decode_shelf c.args.shelf.now)
tried-are c = c.as_slice-all.ensures.value ∙ c.for_model-tried.ensures ∙ ap (filter (waits_for c.args.model)) (c.fixes-waiting.ensures ∙ c.of.ensures ∙ ap decode_shelf c.copy_of-copy.ensures)

written : (c : After-as_slice-all) → c.write.new.shelf ≡ encode_shelf (filter (λ x. not (waits_for c.args.model x)) (decode_shelf c.args.shelf.now))
written c =
    c.write.ensures
    ∙ ap encode_shelf (c.as_slice.ensures.value ∙ c.for_others.ensures ∙ ap (filter (λ (x : Waiting). not (waits_for c.args.model x))) (c.fixes-waiting.ensures ∙ c.of.ensures ∙ ap decode_shelf c.copy_of-copy.ensures))

pub loop-fix-init : goal.loop-fix-init
loop-fix-init c =
    let m = c.args.memory.now in
    let y = all-bytes m (search rules) in
    let s = sym (same-track c.args.model m c.args.shelf.now c.requires y) in
    let z = written c in
    none-tried _ c.as_slice-all.result.now m c.write.new.shelf (start-is-valid c.args.model m c.args.shelf.now c.requires y) (λ i. (s i, z i))

pub take-answer-requires : goal.take-answer-requires
take-answer-requires c = trying-formed c.loop-fix.invariant

pub loop-fix-preserved : goal.loop-fix-preserved
loop-fix-preserved c =
    let m = c.args.memory.now in
    let y = all-bytes m (search rules) in
    let may : list_all (may_report (decode m).convicted) c.as_slice-all.result.now ≡ true =
    ap (list_all (may_report (decode m).convicted)) (tried-are (goal.at.loop-fix-preserved c).After-as_slice-all) ∙ may-report-all c.args.model m c.args.shelf.now c.requires y in
    one-tried _ _ _ _ c.loop-fix.memory c.loop-fix.shelf _ _ c.fix-item.result _ may c.loop-fix.invariant c.loop-fix-test.true c.fix-item.is
    (c.take-answer.ensures ∙ ap (λ (x : Waiting). commit_both c.loop-fix.memory c.loop-fix.shelf (take_record x.engine x.record_bytes (decode_both c.loop-fix.memory c.loop-fix.shelf))) c.fix.view_is)

pub returns : goal.returns
returns c =
    all-tried _ _ _ c.as_slice-all.result.now _ _ c.loop-fix-test.false c.loop-fix.invariant
    ∙ ap (λ (l : List Waiting). encode_both (tried_all (record { track = decode c.args.memory.now; shelf = filter (λ x. not (waits_for c.args.model x)) (decode_shelf c.args.shelf.now) }) l)) (tried-are (goal.at.returns c).After-as_slice-all)

empty : (l : List Waiting) → length l ≡ 0 → l ≡ []
empty [] e = refl
empty (x ∷ l) e = absurd (omega (arith, e))

pub returns-then-is_empty : goal.returns-then-is_empty
returns-then-is_empty c =
    let m = c.args.memory.now in
    let y = all-bytes m (search rules) in
    let tried = c.for_model-tried.ensures ∙ ap (filter (waits_for c.args.model)) (c.fixes-waiting.ensures ∙ c.of.ensures ∙ ap decode_shelf c.copy_of-copy.ensures) in
    let none : length c.for_model-tried.result.items ≡ 0 = search rules in
    none-arrives c.args.model m c.args.shelf.now c.requires y (sym tried ∙ empty c.for_model-tried.result.items none)
