use Rattle.std.proofs.Common.{◌≡◌, [], take}
use Rattle.track_arrange.specs.Leads.{before, put_all_behind, leads_from}
use Rattle.track_arrange.proofs.leads.enter_all.Given as goal

abbrev pub invariant-loop-place : goal.invariant-loop-place
invariant-loop-place l = l.leads.items ≡ put_all_behind before [] (leads_from 0 (take l.place l.blocks))
