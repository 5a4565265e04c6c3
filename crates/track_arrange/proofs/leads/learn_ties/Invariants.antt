use Rattle.std.proofs.Common.{◌≡◌}
use Rattle.track_arrange.proofs.leads.learn_ties.Given as goal

abbrev pub invariant-loop-held : goal.invariant-loop-held
invariant-loop-held l = (l.held-items ≡ l.initial.held-items) × (l.lead ≡ l.initial.lead)
