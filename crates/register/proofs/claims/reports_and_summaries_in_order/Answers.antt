use Rattle.register.proofs.Checks.{report-in-order, summary-in-order}
use Rattle.register.proofs.claims.reports_and_summaries_in_order.Goals as goal

pub returns-clause-report : goal.returns-clause-report
returns-clause-report c = report-in-order

pub returns-clause-summary : goal.returns-clause-summary
returns-clause-summary c = summary-in-order
