-- The calls of a session are a manager's: its reports and summaries have no desk, and its convictions a manager's.
use Rattle.std.proofs.Common.{◌≡◌, refl, ℕ, zero, suc, true, Ok, Err}
use Rattle.std.specs.List.{list_all}
use Rattle.lists.proofs.Bools.{and_both}
use Rattle.models.specs.Summary.{inputs_size}
use Rattle.register.specs.Calls.{Call}
use Rattle.session_lines.specs.declared.lines.Due.TheVariants as due
use Rattle.session_lines.specs.declared.lines.Kind.{Kind}
use Rattle.session_lines.specs.declared.lines.Kind.TheVariants as kind
use Rattle.session_lines.specs.Numbers as Val
use Rattle.session_lines.specs.Lines.{At, Reading, ◌>>=◌, value}
use Rattle.session_lines.specs.Operations.{conviction_at, summary_at, report_at, operands_at, operation_at, kind_of}
use Rattle.session_lines.specs.Session.{calls_by, calls_at}
use Rattle.session_text.proofs.Digits.{by_manager}

-- a call that is read
abbrev Managed : Reading Call → Type 0
Managed (Ok x) = by_manager x.0 ≡ true
Managed (Err e) = Unit {0}

-- what is read behind a value
behind : {A : Type 0} (m : Reading A) (k : A × At → Reading Call) → ((x : A × At) → Managed (k x)) → Managed (m >>= k)
behind (Ok x) k f = f x
behind (Err e) k f = tt

conviction-managed : (s : At) → Managed (conviction_at s)
unfolding conviction_at
conviction-managed s = behind (value due.Engine (Val.read_number Val.u8) s) _ λ e. refl

summary-managed : (s : At) → Managed (summary_at s)
unfolding summary_at
summary-managed s =
    behind (value due.Engine (Val.read_number Val.u8) s) _ λ e.
    behind (value due.Model (Val.read_number Val.u8) e.1) _ λ m.
    behind (value due.Spec (Val.read_number Val.u16) m.1) _ λ p.
    behind (value due.Inputs (Val.read_hex inputs_size) p.1) _ λ i. refl

report-managed : (s : At) → Managed (report_at s)
unfolding report_at
report-managed s =
    behind (value due.Engine (Val.read_number Val.u8) s) _ λ e.
    behind (value due.Time (Val.read_number Val.u64) e.1) _ λ time.
    behind (value due.Lat Val.read_signed time.1) _ λ lat.
    behind (value due.Lon Val.read_signed lat.1) _ λ lon.
    behind (value due.Height Val.read_height lon.1) _ λ height.
    behind (value due.Message Val.read_message height.1) _ λ message.
    behind (value due.Tags Val.read_tags message.1) _ λ tags.
    behind (value due.Used (Val.read_number Val.u32) tags.1) _ λ used.
    behind (value due.Models Val.read_models used.1) _ λ models.
    behind (value due.Spec (Val.read_number Val.u16) models.1) _ λ spec.
    behind (value due.Cov Val.read_covariance spec.1) _ λ cov. refl

operands-managed : (k : Kind) (s : At) → Managed (operands_at k s)
operands-managed kind.Summary s = summary-managed s
operands-managed kind.Conviction s = conviction-managed s
operands-managed kind.Report s = report-managed s

operation-managed : (s : At) → Managed (operation_at s)
unfolding operation_at
operation-managed s = behind (value due.Op kind_of s) _ λ k. operands-managed k.0 k.1

pub calls-managed : (k : ℕ) (s : At) → list_all by_manager (calls_at k s) ≡ true
unfolding calls_at
calls-managed zero s = refl
calls-managed (suc k) s = go (calls-managed k) (operation_at s) (operation-managed s)
  where
    go : ((r : At) → list_all by_manager (calls_at k r) ≡ true) → (m : Reading Call) → Managed m → list_all by_manager (calls_by (calls_at k) m) ≡ true
    go more (Ok c) h = and_both (by_manager c.0) (list_all by_manager (calls_at k c.1)) h (more c.1)
    go more (Err e) h = refl
