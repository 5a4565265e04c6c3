-- A call on what a register holds, and that a call on bytes that are a register is that one.
use Rattle.std.proofs.Common.{ℕ, ◌≡◌, refl, true, cond, List, Option, Some, None}
use Rattle.errors.specs.After.{After, after}
use Rattle.desks.specs.declared.Desk.{Desk}
use Rattle.desks.specs.declared.Desk.TheVariants.{Crew, Analyst, Manager}
use Rattle.desks.specs.Desks.{number_of, desk_of, may_convict, answered, with_right}
use Rattle.register.specs.Register.{Register, take_report, take_summary, take_conviction}
use Rattle.register.specs.Memory.{well_formed, on_memory}
use Rattle.register.specs.Calls.{Call, report, summary, conviction, called}

abbrev pub act : Call → Register → After Register
act (report e r) s = take_report e r s
act (summary e model spec inputs) s = take_summary e model spec inputs s
act (conviction d e) s = with_right may_convict d s (take_conviction e s)

pub called-is : (c : Call) (m : List ℕ) → well_formed m ≡ true → called c m ≡ on_memory (act c) m
unfolding on_memory
called-is (report e r) m h = refl
called-is (summary e model spec inputs) m h = refl
called-is (conviction d e) m h = go (desk_of d)
  where
    go : (o : Option Desk)
        → answered m (λ (desk : Desk). cond (may_convict desk) (on_memory (take_conviction e) m) (after 16 m)) o
        ≡ on_memory (λ (s : Register). answered s (λ (desk : Desk). cond (may_convict desk) (take_conviction e s) (after 16 s)) o) m
    go None = rw h refl
    go (Some Crew) = rw h refl
    go (Some Analyst) = rw h refl
    go (Some Manager) = refl

-- a conviction by a desk, and not by a number
pub convicted-by : (desk : Desk) (e : ℕ) (m : List ℕ) → called (conviction (number_of desk) e) m ≡ cond (may_convict desk) (on_memory (take_conviction e) m) (after 16 m)
convicted-by Crew e m = refl
convicted-by Analyst e m = refl
convicted-by Manager e m = refl
