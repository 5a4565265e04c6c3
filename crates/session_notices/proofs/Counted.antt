-- An operation that is read takes as many lines as are counted for it.
use Rattle.std.proofs.Common.{◌≡◌, refl, ℕ, ◌+◌, List, Option, Some, None, Ok, Err, ok_or, arith}
use Rattle.register.specs.Calls.{Call}
use Rattle.session_lines.specs.declared.lines.Due.{Due}
use Rattle.session_lines.specs.declared.lines.Due.TheVariants as due
use Rattle.session_lines.specs.declared.lines.Kind.{Kind}
use Rattle.session_lines.specs.declared.lines.Kind.TheVariants as kind
use Rattle.session_lines.specs.Keys.{key_of}
use Rattle.session_lines.specs.Numbers as Val
use Rattle.session_lines.specs.Lines.{At, Reading, ◌>>=◌, bad_line, cut, text, value}
use Rattle.session_lines.specs.Operations.{conviction_at, summary_at, report_at, operands_at, operation_at, kind_of}
use Rattle.session_notices.specs.Notices.{lines_of}
use Rattle.session_notices.specs.Claims.{LinesCounted}

-- a fact of what is read, where something is
abbrev Holds : {A : Type 0} → (A × At → Type 0) → Reading A → Type 0
Holds P (Ok x) = P x
Holds P (Err e) = Unit {0}

-- a line, and what is read behind it, from the next line on
step : {A B : Type 0} (P : B × At → Type 0) (d : Due) (read : List ℕ → Option A) (s : At) (k : A × At → Reading B)
    → ((x : A × At) → x.1.line ≡ s.line + 1 → Holds P (k x)) → Holds P (value d read s >>= k)
unfolding value text
step {A} {B} P d read s k f = go (cut (key_of d) s.rest)
  where
    end : (p : List ℕ × List ℕ) (o : Option A) → Holds P ((ok_or o (bad_line d s) >>= λ (a : A). Ok (a, record { rest = p.1; line = s.line + 1 })) >>= k)
    end p None = tt
    end p (Some a) = f (a, record { rest = p.1; line = s.line + 1 }) refl

    go : (o : Option (List ℕ × List ℕ))
        → Holds P
        (((ok_or o (bad_line d s) >>= λ (t : List ℕ × List ℕ). Ok (t.0, record { rest = t.1; line = s.line + 1 })) >>= λ (t : List ℕ × At). ok_or (read t.0) (bad_line d s) >>= λ (a : A). Ok (a, t.1)) >>= k)
    go None = tt
    go (Some p) = end p (read p.0)

-- so many lines were read, from this one on
abbrev Counts : ℕ → Call × At → Type 0
Counts n x = x.1.line ≡ n + lines_of x.0

conviction-counts : (n : ℕ) (s : At) → s.line ≡ n + 1 → Holds (Counts n) (conviction_at s)
unfolding conviction_at
conviction-counts n s h = step (Counts n) due.Engine (Val.read_number 255) s _ λ e h₁. omega arith

summary-counts : (n : ℕ) (s : At) → s.line ≡ n + 1 → Holds (Counts n) (summary_at s)
unfolding summary_at
summary-counts n s h =
    step (Counts n) due.Engine (Val.read_number 255) s _ λ e h₁.
    step (Counts n) due.Model (Val.read_number 255) e.1 _ λ m h₂.
    step (Counts n) due.Spec (Val.read_number 0xffff) m.1 _ λ p h₃.
    step (Counts n) due.Inputs (Val.read_hex 32) p.1 _ λ i h₄. omega arith

report-counts : (n : ℕ) (s : At) → s.line ≡ n + 1 → Holds (Counts n) (report_at s)
unfolding report_at
report-counts n s h =
    step (Counts n) due.Engine (Val.read_number 255) s _ λ e h₁.
    step (Counts n) due.Time (Val.read_number 0xffff_ffff_ffff_ffff) e.1 _ λ time h₂.
    step (Counts n) due.Lat Val.read_signed time.1 _ λ lat h₃.
    step (Counts n) due.Lon Val.read_signed lat.1 _ λ lon h₄.
    step (Counts n) due.Height Val.read_height lon.1 _ λ height h₅.
    step (Counts n) due.Message Val.read_message height.1 _ λ message h₆.
    step (Counts n) due.Tags Val.read_tags message.1 _ λ tags h₇.
    step (Counts n) due.Used (Val.read_number 0xffff_ffff) tags.1 _ λ used h₈.
    step (Counts n) due.Models Val.read_models used.1 _ λ models h₉.
    step (Counts n) due.Spec (Val.read_number 0xffff) models.1 _ λ spec h₁₀.
    step (Counts n) due.Cov Val.read_covariance spec.1 _ λ cov h₁₁. omega arith

operands-count : (k : Kind) (n : ℕ) (s : At) → s.line ≡ n + 1 → Holds (Counts n) (operands_at k s)
operands-count kind.Summary n s h = summary-counts n s h
operands-count kind.Conviction n s h = conviction-counts n s h
operands-count kind.Report n s h = report-counts n s h

operation-counts : (s : At) → Holds (Counts s.line) (operation_at s)
unfolding operation_at
operation-counts s = step (Counts s.line) due.Op kind_of s _ λ k h. operands-count k.0 s.line k.1 h

pub lines-counted : LinesCounted
lines-counted s c r e = go (operation_at s) (operation-counts s) e
  where
    go : (m : Reading Call) → Holds (Counts s.line) m → m ≡ Ok (c, r) → r.line ≡ s.line + lines_of c
    go (Ok x) h q = let a : x.0 ≡ c = cc in let b : x.1 ≡ r = cc in rw (a, b) at h
    go (Err b) h q = cc
