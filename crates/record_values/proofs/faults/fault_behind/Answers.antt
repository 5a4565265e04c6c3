use Rattle.std.proofs.Common.{◌≡◌, ◌∙◌, ap, sym}
use Rattle.record_values.specs.Faults.{tag_checks, model_checks, first_failing}
use Rattle.record_values.specs.Numbers.{fault_number_of, found_number}
use Rattle.record_values.proofs.Failing.{in-first, in-second, some-fault}
use Rattle.record_values.proofs.faults.fault_behind.Goals as goal

pub returns-in-Some : goal.returns-in-Some
returns-in-Some c =
    let r = c.args.r.now in
    let e : fault_number_of c.in-Some.fault ≡ first_failing 6 (tag_checks r) = ap found_number (sym c.in-Some.is) ∙ c.tag_fault.ensures in
    e ∙ sym (in-first 5 (tag_checks r) (model_checks r) (λ z. some-fault c.in-Some.fault (e ∙ z)))

pub returns-in-None : goal.returns-in-None
returns-in-None c =
    let r = c.args.r.now in
    c.model_fault.ensures ∙ sym (in-second 5 (tag_checks r) (model_checks r) (sym c.tag_fault.ensures ∙ ap found_number c.in-None.is))
