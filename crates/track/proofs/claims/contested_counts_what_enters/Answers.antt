use Rattle.track.proofs.Counted.{report-counts, waiting-counts-none, refusal-counts-none, summary-counts, conviction-counts-none}
use Rattle.track.proofs.claims.contested_counts_what_enters.Goals as goal

pub returns-clause-report : goal.returns-clause-report
returns-clause-report c = report-counts

pub returns-clause-waiting : goal.returns-clause-waiting
returns-clause-waiting c = waiting-counts-none

pub returns-clause-refusal : goal.returns-clause-refusal
returns-clause-refusal c = refusal-counts-none

pub returns-clause-summary : goal.returns-clause-summary
returns-clause-summary c = summary-counts

pub returns-clause-conviction : goal.returns-clause-conviction
returns-clause-conviction c = conviction-counts-none
