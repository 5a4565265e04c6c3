use Rattle.std.proofs.Common.{◌≡◌, true, false, refl, sym, ◌∙◌, ◌≤◌, ℕ, List, length, arith, le-leb, Some, Result, Ok, Err, is_ok}
use Rattle.std.proofs.lemmas.Bool.{lt-leb}
use Rattle.std.specs.Result.{result_err}
use Rattle.register.specs.Calls.{Call}
use Rattle.session_text.specs.declared.refusals.Refusal.{Refusal}
use Rattle.errors.proofs.Parsed.{parsed, unparsed}
use Rattle.register.specs.Memory.{well_formed, decode}
use Rattle.session_lines.specs.Session.{at_start, calls_from}
use Rattle.session_text.specs.Output.{answers, calls_of}
use Rattle.session_text.proofs.Answering.{answers-fit}
use Rattle.session_text.proofs.Cases.{calls-of-good}
use Rattle.session_text.proofs.Performing.{performed-malformed, performed-refused, performed-small, performed-good, performed_written}
use Rattle.session_text.proofs.performed.perform_on.Goals as goal

pub returns-in-Err-clause-session : goal.returns-in-Err-clause-session
returns-in-Err-clause-session c =
    let k = unparsed (well_formed c.args.memory.now) (decode c.args.memory.now) _ c.parse.ensures _ c.in-Err.is in
    rw k.1 (sym (performed-malformed c.args.input.now c.args.memory.now c.args.out.now k.0))

pub returns-in-Err-check-clause-session : goal.returns-in-Err-check-clause-session
returns-in-Err-check-clause-session c =
    let formed : well_formed c.args.memory.now ≡ true = (parsed (well_formed c.args.memory.now) (decode c.args.memory.now) _ c.parse.ensures _ c.in_default.is).0 in
    sym (performed-refused c.args.input.now c.args.memory.now c.args.out.now c.in-Err-check.refusal formed c.in-Err-check.ensures)

pub returns-then-out-lt-ANSWERS_SIZE-clause-session : goal.returns-then-out-lt-ANSWERS_SIZE-clause-session
returns-then-out-lt-ANSWERS_SIZE-clause-session c =
    let formed : well_formed c.args.memory.now ≡ true = (parsed (well_formed c.args.memory.now) (decode c.args.memory.now) _ c.parse.ensures _ c.in_default.is).0 in
    let good = calls-of-good c.args.input.now c.in_default-check.ensures in
    sym (performed-small c.args.input.now c.args.memory.now c.args.out.now _ formed good.1 c.if-out-lt-ANSWERS_SIZE.true)

pub write_answers-requires : goal.write_answers-requires
write_answers-requires c = let good = calls-of-good c.args.input.now c.in_default-check.ensures in let room = c.if-out-lt-ANSWERS_SIZE.false in omega (arith, good.0, room)

pub overflow_cast-result : goal.overflow_cast-result
overflow_cast-result c = let good = calls-of-good c.args.input.now c.in_default-check.ensures in let few = c.write_answers.ensures.bound in omega (arith, good.0, few)

pub returns-clause-session : goal.returns-clause-session
returns-clause-session c =
    let formed : well_formed c.args.memory.now ≡ true = (parsed (well_formed c.args.memory.now) (decode c.args.memory.now) _ c.parse.ensures _ c.in_default.is).0 in
    let good = calls-of-good c.args.input.now c.in_default-check.ensures in
    let room = c.if-out-lt-ANSWERS_SIZE.false in
    let fit = answers-fit c.args.memory.now c.args.input.now in
    let short : length (answers c.args.memory.now (calls_from (at_start c.args.input.now))) ≤ length c.args.out.now = omega (arith, good.0, room, fit) in
    performed_written _ _ _ _ _ _ c.write_answers.ensures.text short c.write_answers.ensures.left
    ∙ sym (performed-good c.args.input.now c.args.memory.now c.args.out.now _ formed good.1 room)

-- ---- done where the register, the session and the room are

refused : (s : List ℕ) (r : Refusal) → Some r ≡ result_err (calls_of s) → is_ok (calls_of s) ≡ false
refused s r e = go (calls_of s) e
  where
    go : (k : Result (List Call) Refusal) → Some r ≡ result_err k → is_ok k ≡ false
    go (Ok cs) e = cc
    go (Err q) e = refl

pub returns-in-Err-clause-done : goal.returns-in-Err-clause-done
returns-in-Err-clause-done c =
    let k = unparsed (well_formed c.args.memory.now) (decode c.args.memory.now) _ c.parse.ensures _ c.in-Err.is in
    rw k.0 refl

pub returns-in-Err-check-clause-done : goal.returns-in-Err-check-clause-done
returns-in-Err-check-clause-done c =
    let formed : well_formed c.args.memory.now ≡ true = (parsed (well_formed c.args.memory.now) (decode c.args.memory.now) _ c.parse.ensures _ c.in_default.is).0 in
    rw (formed, refused c.args.input.now c.in-Err-check.refusal c.in-Err-check.ensures) refl

pub returns-then-out-lt-ANSWERS_SIZE-clause-done : goal.returns-then-out-lt-ANSWERS_SIZE-clause-done
returns-then-out-lt-ANSWERS_SIZE-clause-done c =
    let formed : well_formed c.args.memory.now ≡ true = (parsed (well_formed c.args.memory.now) (decode c.args.memory.now) _ c.parse.ensures _ c.in_default.is).0 in
    let good = calls-of-good c.args.input.now c.in_default-check.ensures in
    rw (formed, good.1, lt-leb _ _ c.if-out-lt-ANSWERS_SIZE.true) refl

pub returns-clause-done : goal.returns-clause-done
returns-clause-done c =
    let formed : well_formed c.args.memory.now ≡ true = (parsed (well_formed c.args.memory.now) (decode c.args.memory.now) _ c.parse.ensures _ c.in_default.is).0 in
    let good = calls-of-good c.args.input.now c.in_default-check.ensures in
    rw (formed, good.1, le-leb _ _ c.if-out-lt-ANSWERS_SIZE.false) refl
