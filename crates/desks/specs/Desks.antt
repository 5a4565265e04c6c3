-- Which desks there are, and what each may do (docs/REFERENCE.md, 'Desks'). A desk is asked before all else: what it is refused leaves what was there.
use Rattle.std.specs.Prelude.{ℕ, Bool, true, false, cond, eqb, Option, Some, None}
use Rattle.desks.specs.declared.Desk.{Desk}
use Rattle.desks.specs.declared.Desk.TheVariants.{Crew, Analyst, Manager}
use Rattle.errors.specs.After.{After, after}

-- the number by which other products know it
abbrev pub number_of : Desk → ℕ
number_of Crew = 0
number_of Analyst = 1
number_of Manager = 2

-- the desk of a number, if there is one
abbrev pub desk_of : ℕ → Option Desk
desk_of n =
    cond (eqb n (number_of Crew)) (Some Crew)
    (cond (eqb n (number_of Analyst)) (Some Analyst)
    (cond (eqb n (number_of Manager)) (Some Manager) None))

-- only a manager convicts
abbrev pub may_convict : Desk → Bool
may_convict Crew = false
may_convict Analyst = false
may_convict Manager = true

-- ---- a right

abbrev pub right_of : (Desk → Bool) → Option Desk → Bool
right_of right None = false
right_of right (Some desk) = right desk

-- whether the desk of a number has a right: a number without a desk has none
unfoldable pub has_right : (Desk → Bool) → ℕ → Bool
has_right right n = right_of right (desk_of n)

-- ---- what is answered

abbrev pub answered : {A : Type 0} → A → (Desk → After A) → Option Desk → After A
answered unchanged answer None = after 15 unchanged
answered unchanged answer (Some desk) = answer desk

-- 15: no desk has this number. Else what the desk is answered.
abbrev pub at_desk : {A : Type 0} → ℕ → A → (Desk → After A) → After A
at_desk n unchanged answer = answered unchanged answer (desk_of n)

-- 15, then 16: the desk has no right to it
abbrev pub with_right : {A : Type 0} → (Desk → Bool) → ℕ → A → After A → After A
with_right right n unchanged done = at_desk n unchanged (λ desk. cond (right desk) done (after 16 unchanged))
