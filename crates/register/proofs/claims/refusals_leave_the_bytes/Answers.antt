use Rattle.register.proofs.Checks.{call-refused, call-malformed, call-leaves}
use Rattle.register.proofs.claims.refusals_leave_the_bytes.Goals as goal

pub returns-clause-refused : goal.returns-clause-refused
returns-clause-refused c = call-refused

pub returns-clause-malformed : goal.returns-clause-malformed
returns-clause-malformed c = call-malformed

pub returns-clause-register : goal.returns-clause-register
returns-clause-register c = call-leaves
