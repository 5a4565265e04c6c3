use Rattle.std.proofs.Common.{rules, arith, ◌≤◌, ◌≡◌, refl, ap, ap₂, ◌∙◌, ltb-false, length, take, drop}
use Rattle.lists.proofs.Bools.{clash}
use Rattle.errors.specs.Errors.{error_number, answer_number}
use lib.Bits.{bit_or}
use Rattle.models.specs.Limits.{max_summaries, summaries_size}
use Rattle.tables.specs.Places.{table_of}
use Rattle.models.specs.Summary.{summary_size}
use Rattle.signed_records.specs.Signed.{place_size}
use Rattle.register.specs.Layout.{max_records, summaries_at, records_size}
use Rattle.register.specs.Memory.{decode}
use Rattle.register_join.specs.Merged.{records_together, summaries_together, counted_in}
use Rattle.register_join.proofs.Encoded.{zero-front, zero-back, full-found, count-found, both_summaries, both_records, too-many-summaries, too-many-records, room-for-both, put-together, summaries-same, records-same}
use Rattle.register_join.proofs.LawfulKinds.{lawful-records, lawful-summaries}
use Rattle.register_join.proofs.together.write.Goals as goal
use Rattle.register_join.proofs.together.write.Goals.{After-unite, After-unite-2}

-- what is answered of the summaries, and of the records
summaries-are : (c : After-unite) → summaries_together c.convicted-their_convicted.result c.summaries.result.now c.convicted-my_convicted.result c.summaries-2.result.now ≡ both_summaries (decode c.args.theirs.now) (decode c.args.mine.now)
summaries-are c =
    summaries-same (decode c.args.theirs.now) (decode c.args.mine.now) c.convicted-their_convicted.result c.convicted-my_convicted.result c.convicted-their_convicted.ensures c.convicted-my_convicted.ensures
    c.summaries.result.now c.summaries-2.result.now c.summaries.ensures.places c.summaries-2.ensures.places

of-summaries : (c : After-unite) → c.unite.result ≡ counted_in max_summaries (both_summaries (decode c.args.theirs.now) (decode c.args.mine.now))
of-summaries c =
    c.unite.ensures.answer ∙ ap (counted_in max_summaries) (summaries-are c)

records-are : (c : After-unite-2) → records_together c.convicted-their_convicted.result c.records.result.now c.convicted-my_convicted.result c.records-2.result.now ≡ both_records (decode c.args.theirs.now) (decode c.args.mine.now)
records-are c =
    records-same (decode c.args.theirs.now) (decode c.args.mine.now) c.convicted-their_convicted.result c.convicted-my_convicted.result c.convicted-their_convicted.ensures c.convicted-my_convicted.ensures
    c.records.result.now c.records-2.result.now c.records.ensures.places c.records-2.ensures.places

of-records : (c : After-unite-2) → c.unite-2.result ≡ counted_in max_records (both_records (decode c.args.theirs.now) (decode c.args.mine.now))
of-records c =
    c.unite-2.ensures.answer ∙ ap (counted_in max_records) (records-are c)

pub unite-requires : goal.unite-requires
unite-requires c =
    (omega arith, (lawful-summaries, (c.summaries.ensures.ascend, (c.summaries-2.ensures.ascend, (c.summaries.ensures.wide, (c.summaries-2.ensures.wide, c.split_at_mut-places.ensures.front ∙ ap (take summaries_size) (c.split_at_mut-header.ensures.back ∙ ap (drop summaries_at) c.requires.zero) ∙ zero-front summaries_at summaries_size records_size))))))

pub unite-requires-2 : goal.unite-requires-2
unite-requires-2 c =
    (omega arith, (lawful-records, (c.records.ensures.ascend, (c.records-2.ensures.ascend, (c.records.ensures.wide, (c.records-2.ensures.wide, c.split_at_mut-places.ensures.back ∙ ap (drop summaries_size) (c.split_at_mut-header.ensures.back ∙ ap (drop summaries_at) c.requires.zero) ∙ zero-back summaries_at summaries_size records_size))))))

pub returns-in_err-n-clause-answer : goal.returns-in_err-n-clause-answer
returns-in_err-n-clause-answer c =
    let t = decode c.args.theirs.now in
    let s = decode c.args.mine.now in
    let x = c.in_err-n.field-0.0 in
    let k = full-found max_summaries (both_summaries t s) c.unite.result (of-summaries (goal.at.returns-in_err-n-clause-answer c).After-unite) x c.in_err-n.was in
    let e : answer_number c.from_residual.result ≡ error_number x = search rules in
    rw (e, k.1, too-many-summaries t s k.0) refl

pub returns-in_err-n-clause-written : goal.returns-in_err-n-clause-written
returns-in_err-n-clause-written c h =
    let t = decode c.args.theirs.now in
    let s = decode c.args.mine.now in
    let k = full-found max_summaries (both_summaries t s) c.unite.result (of-summaries (goal.at.returns-in_err-n-clause-written c).After-unite) c.in_err-n.field-0.0 c.in_err-n.was in
    clash (too-many-summaries t s k.0) h

pub returns-in_err-k-clause-answer : goal.returns-in_err-k-clause-answer
returns-in_err-k-clause-answer c =
    let t = decode c.args.theirs.now in
    let s = decode c.args.mine.now in
    let x = c.in_err-k.field-0.0 in
    let k = full-found max_records (both_records t s) c.unite-2.result (of-records (goal.at.returns-in_err-k-clause-answer c).After-unite-2) x c.in_err-k.was in
    let e : answer_number c.from_residual-in_err-k.result ≡ error_number x = search rules in
    rw (e, k.1, too-many-records t s k.0) refl

pub returns-in_err-k-clause-written : goal.returns-in_err-k-clause-written
returns-in_err-k-clause-written c h =
    let t = decode c.args.theirs.now in
    let s = decode c.args.mine.now in
    let k = full-found max_records (both_records t s) c.unite-2.result (of-records (goal.at.returns-in_err-k-clause-written c).After-unite-2) c.in_err-k.field-0.0 c.in_err-k.was in
    clash (too-many-records t s k.0) h

pub returns-clause-answer : goal.returns-clause-answer
returns-clause-answer c =
    let t = decode c.args.theirs.now in
    let s = decode c.args.mine.now in
    let n = count-found max_summaries (both_summaries t s) c.unite.result (of-summaries (goal.at.returns-clause-answer c).After-unite) c.in_ok-n.n c.in_ok-n.was in
    let k = count-found max_records (both_records t s) c.unite-2.result (of-records (goal.at.returns-clause-answer c).After-unite-2) c.in_ok-k.k c.in_ok-k.was in
    rw (room-for-both t s n.0 k.0) refl

pub returns-clause-written : goal.returns-clause-written
returns-clause-written c h =
    let t = decode c.args.theirs.now in
    let s = decode c.args.mine.now in
    let a = (goal.at.returns-clause-written c).After-unite in
    let b = (goal.at.returns-clause-written c).After-unite-2 in
    let n = count-found max_summaries (both_summaries t s) c.unite.result (of-summaries a) c.in_ok-n.n c.in_ok-n.was in
    let k = count-found max_records (both_records t s) c.unite-2.result (of-records b) c.in_ok-k.k c.in_ok-k.was in
    let few : length (both_summaries t s) ≤ max_summaries = ltb-false max_summaries (length (both_summaries t s)) n.0 in
    let few_too : length (both_records t s) ≤ max_records = ltb-false max_records (length (both_records t s)) k.0 in
    put-together t s c.union.result c.in_ok-n.n c.in_ok-k.k c.put_header.new.header c.unite.new.out c.unite-2.new.out
    (c.union.ensures ∙ ap₂ bit_or c.convicted-their_convicted.ensures c.convicted-my_convicted.ensures) n.1 k.1 c.put_header.ensures
    (c.unite.ensures.written (rw (summaries-are a) few) ∙ ap (table_of summary_size max_summaries) (summaries-are a))
    (c.unite-2.ensures.written (rw (records-are b) few_too) ∙ ap (table_of place_size max_records) (records-are b))
