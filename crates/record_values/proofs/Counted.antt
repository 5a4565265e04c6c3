-- A record has model inputs in a register exactly where it counts.
use Rattle.std.proofs.Common.{◌≡◌, ◌∙◌, sym, ap, refl, ℕ, Bool, true, Option, Some, None, List, cond, arith}
use Rattle.models.specs.Identity.{cited_inputs}
use Rattle.lists.proofs.Bools.{by}
use Rattle.models.specs.Models.{counts}
use Rattle.models.specs.Missing.{first_missing}
use Rattle.models.proofs.Waiting.{waits_exactly_where}
use Rattle.register.specs.Memory as M
use Rattle.record_values.specs.Known.{inputs_unless_missing, inputs_among}
use Rattle.record_values.specs.Claims.{HadWhereCounted}

among : (ps : List (List ℕ)) (r found : List ℕ) → ((inputs_among ps r found).answer ≡ 0 → counts ps r ≡ true) × (counts ps r ≡ true → (inputs_among ps r found).answer ≡ 0)
among ps r found =
    by (counts ps r)
    (λ h. ((λ e. h), (λ e. rw (waits_exactly_where.counted ps r h, h) refl)))
    (λ h. ((λ e. absurd (refused (first_missing ps r) (sym (ap (λ (x : Bool). (inputs_unless_missing (first_missing ps r) (cond x (Some (cited_inputs ps r)) None) found).answer) h) ∙ e))), (λ e. absurd (grind (arith, e, h)))))
  where
    refused : (m : Option ℕ) → (inputs_unless_missing m None found).answer ≡ 0 → ⊥
    refused (Some m) e = grind (arith, e)
    refused None e = grind (arith, e)

pub had-where-counted : HadWhereCounted
had-where-counted m r found a b = rw (a, b) (among (M.decode m).summaries r found)
