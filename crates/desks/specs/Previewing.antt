-- Which desks may preview a conviction (docs/REFERENCE.md, 'Desks').
use Rattle.std.specs.Prelude.{Bool, true, false}
use Rattle.desks.specs.declared.Desk.{Desk}
use Rattle.desks.specs.declared.Desk.TheVariants.{Crew, Analyst, Manager}

-- an analyst and a manager see the board as it would be after a conviction
abbrev pub may_preview : Desk → Bool
may_preview Crew = false
may_preview Analyst = true
may_preview Manager = true
