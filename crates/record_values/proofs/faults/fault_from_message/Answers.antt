use Rattle.std.proofs.Common.{◌≡◌, ◌∙◌, ◌++◌, ap, sym}
use Rattle.record_values.specs.Faults.{message_checks, tag_checks, model_checks, first_failing}
use Rattle.record_values.specs.Numbers.{fault_number_of, found_number}
use Rattle.record_values.proofs.Failing.{in-first, in-second, some-fault}
use Rattle.record_values.proofs.faults.fault_from_message.Goals as goal

pub returns-in-Some : goal.returns-in-Some
returns-in-Some c =
    let r = c.args.r.now in
    let e : fault_number_of c.in-Some.fault ≡ first_failing 4 (message_checks r) = ap found_number (sym c.in-Some.is) ∙ c.message_fault.ensures in
    e ∙ sym (in-first 3 (message_checks r) (tag_checks r ++ model_checks r) (λ z. some-fault c.in-Some.fault (e ∙ z)))

pub returns-in-None : goal.returns-in-None
returns-in-None c =
    let r = c.args.r.now in
    c.fault_behind.ensures ∙ sym (in-second 3 (message_checks r) (tag_checks r ++ model_checks r) (sym c.message_fault.ensures ∙ ap found_number c.in-None.is))
