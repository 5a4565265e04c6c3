use Rattle.std.proofs.Common.{ℕ, ◌+◌, ◌<◌, ◌≡◌, sym, ap, ap₂, ◌∙◌, le_trans, true, false, eqb, [], ◌∷◌, ◌++◌, arith, get_or, take, drop}
use Rattle.octets.specs.Words.{word_bytes}
use Rattle.record.specs.Layout.{record_size}
use Rattle.signed_records.specs.Signed.{place_size}
use Rattle.register.specs.Layout.{max_records}
use Rattle.register_join.specs.Join.{without_bits}
use Rattle.register_join.specs.Lacks.{lacking_records, lacking_signers}
use Rattle.register_join.specs.Merged.{signed_before}
use Rattle.register_join.proofs.Filling.{none-written, passed-by, next-inside, next-written, room-for-next, count-written, told-bytes}
use Rattle.register_join.proofs.LawfulKinds.{signed-wide, with-signers, without-signers}
use Rattle.register_join.proofs.LackTurns.{next-record, no-more-records, fewer-records}
use Rattle.register_join.proofs.lack.write_records.Goals as goal
use Rattle.register_join.proofs.lack.write_records.Goals.{After-without-signers}

-- the signers that are worked out are those that are lacking
told : (c : After-without-signers) → c.without-signers.result ≡ lacking_signers c.args.convicted c.args.mine.now (get_or c.args.theirs.now c.loop-place.place-index [])
told c = c.without-signers.ensures.set ∙ ap₂ without_bits c.free_signers-left.ensures.set c.signers_of.ensures

next : (c : After-without-signers) → lacking_records c.args.convicted c.args.mine.now (drop c.loop-place.place-index c.args.theirs.now)
    ≡ signed_before (get_or c.args.theirs.now c.loop-place.place-index []) c.without-signers.result (lacking_records c.args.convicted c.args.mine.now (drop (c.loop-place.place-index + 1) c.args.theirs.now))
next c =
    let after = lacking_records c.args.convicted c.args.mine.now (drop (c.loop-place.place-index + 1) c.args.theirs.now) in
    next-record c.args.convicted c.args.mine.now c.args.theirs.now c.loop-place.place-index c.loop-place-test.true
    ∙ ap (λ (m : ℕ). signed_before (get_or c.args.theirs.now c.loop-place.place-index []) m after) (sym (told c))

-- where it has some, the record is the next
stays : (c : After-without-signers) → eqb c.without-signers.result 0 ≡ false → lacking_records c.args.convicted c.args.mine.now (drop c.loop-place.place-index c.args.theirs.now)
    ≡ (take record_size (get_or c.args.theirs.now c.loop-place.place-index []) ++ word_bytes 4 c.without-signers.result) ∷ lacking_records c.args.convicted c.args.mine.now (drop (c.loop-place.place-index + 1) c.args.theirs.now)
stays c h =
    next c
    ∙ with-signers (get_or c.args.theirs.now c.loop-place.place-index []) c.without-signers.result (lacking_records c.args.convicted c.args.mine.now (drop (c.loop-place.place-index + 1) c.args.theirs.now)) h

room : (c : After-without-signers) → eqb c.without-signers.result 0 ≡ false → c.loop-place.count < max_records
room c h =
    let whole = lacking_records c.args.convicted c.args.mine.now c.args.theirs.now in
    room-for-next place_size max_records whole c.loop-place.out c.loop-place.count (lacking_records c.args.convicted c.args.mine.now (drop c.loop-place.place-index c.args.theirs.now)) c.loop-place.invariant
    (le_trans (fewer-records c.args.convicted c.args.mine.now c.args.theirs.now) c.requires.few)
    (take record_size (get_or c.args.theirs.now c.loop-place.place-index []) ++ word_bytes 4 c.without-signers.result) (lacking_records c.args.convicted c.args.mine.now (drop (c.loop-place.place-index + 1) c.args.theirs.now)) (stays c h)

pub loop-place-init : goal.loop-place-init
loop-place-init c = none-written place_size max_records (lacking_records c.args.convicted c.args.mine.now c.args.theirs.now) c.args.out.now c.requires.zero

pub loop-place-preserved-then-is_empty : goal.loop-place-preserved-then-is_empty
loop-place-preserved-then-is_empty c =
    let whole = lacking_records c.args.convicted c.args.mine.now c.args.theirs.now in
    let rest = lacking_records c.args.convicted c.args.mine.now (drop c.loop-place.place-index c.args.theirs.now) in
    let after = lacking_records c.args.convicted c.args.mine.now (drop (c.loop-place.place-index + 1) c.args.theirs.now) in
    let none : eqb c.without-signers.result 0 ≡ true = sym c.is_empty.ensures ∙ c.if-is_empty.true in
    passed-by place_size max_records whole c.loop-place.out c.loop-place.count rest c.loop-place.invariant after
    (next (goal.at.loop-place-preserved-then-is_empty c).After-without-signers ∙ without-signers (get_or c.args.theirs.now c.loop-place.place-index []) c.without-signers.result after none)

pub put_record-requires : goal.put_record-requires
put_record-requires c =
    let some : eqb c.without-signers.result 0 ≡ false = sym c.is_empty.ensures ∙ c.if-is_empty.false in
    next-inside place_size max_records (lacking_records c.args.convicted c.args.mine.now c.args.theirs.now) c.loop-place.out c.loop-place.count
    (lacking_records c.args.convicted c.args.mine.now (drop c.loop-place.place-index c.args.theirs.now)) c.loop-place.invariant (room (goal.at.put_record-requires c).After-without-signers some)

pub loop-place-preserved : goal.loop-place-preserved
loop-place-preserved c =
    let p = get_or c.args.theirs.now c.loop-place.place-index [] in
    let whole = lacking_records c.args.convicted c.args.mine.now c.args.theirs.now in
    let rest = lacking_records c.args.convicted c.args.mine.now (drop c.loop-place.place-index c.args.theirs.now) in
    let after = lacking_records c.args.convicted c.args.mine.now (drop (c.loop-place.place-index + 1) c.args.theirs.now) in
    let some : eqb c.without-signers.result 0 ≡ false = sym c.is_empty.ensures ∙ c.if-is_empty.false in
    let a = (goal.at.loop-place-preserved c).After-without-signers in
    next-written place_size max_records whole c.loop-place.out c.loop-place.count rest c.loop-place.invariant (room a some) (take record_size p ++ word_bytes 4 c.without-signers.result) after (stays a some)
    (signed-wide p c.without-signers.result c.put_record.ensures.size) c.put_record.new.t c.put_record.ensures.bytes

pub returns-clause-count : goal.returns-clause-count
returns-clause-count c =
    count-written place_size max_records (lacking_records c.args.convicted c.args.mine.now c.args.theirs.now) c.loop-place.out c.loop-place.count
    (lacking_records c.args.convicted c.args.mine.now (drop c.loop-place.place-index c.args.theirs.now)) c.loop-place.invariant (no-more-records c.args.convicted c.args.mine.now c.args.theirs.now c.loop-place.place-index (let h = c.loop-place-test.false in omega arith))

pub returns-clause-bytes : goal.returns-clause-bytes
returns-clause-bytes c =
    told-bytes place_size max_records (lacking_records c.args.convicted c.args.mine.now c.args.theirs.now) c.loop-place.out c.loop-place.count
    (lacking_records c.args.convicted c.args.mine.now (drop c.loop-place.place-index c.args.theirs.now)) c.loop-place.invariant (no-more-records c.args.convicted c.args.mine.now c.args.theirs.now c.loop-place.place-index (let h = c.loop-place-test.false in omega arith))
