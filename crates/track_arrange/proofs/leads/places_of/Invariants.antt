use Rattle.std.proofs.Common.{◌≡◌, map, take}
use Rattle.track_arrange.specs.Leads.{place_of}
use Rattle.track_arrange.proofs.leads.places_of.Given as goal

abbrev pub invariant-loop-lead : goal.invariant-loop-lead
invariant-loop-lead l = l.places.items ≡ map place_of (take l.lead-index l.leads)
