-- What is due is what the grammar reads, and the line that is due in an operation with a bad line is the one that is bad.
use Rattle.std.proofs.Common.{◌≡◌, ◌∙◌, sym, ap, refl, ℕ, ◌+◌, Bool, true, false, cond, List, [], ◌∷◌, Option, Some, None, Result, Ok, Err, ok_or, arith, is_some}
use Rattle.models.specs.Summary.{inputs_size}
use Rattle.session_lines.specs.declared.lines.BadLine.{BadLine}
use Rattle.session_lines.specs.declared.lines.Due.{Due}
use Rattle.session_lines.specs.declared.lines.Due.TheVariants as due
use Rattle.session_lines.specs.declared.lines.Kind.{Kind}
use Rattle.session_lines.specs.declared.lines.Kind.TheVariants as kind
use Rattle.session_lines.specs.Numbers as Val
use Rattle.session_lines.specs.Lines.{At, Reading, ◌>>=◌, bad_line, cut, text, value}
use Rattle.session_lines.specs.Keys.{key_of}
use Rattle.session_lines.specs.Operations.{conviction_at, summary_at, report_at, kind_of, operands_at, operation_at}
use Rattle.session_lines.specs.Claims.{is_value, lines_after, lines_only, pass_line, pass_lines, FirstLine, LinesAfter, lines_by, BadAfter, DueIsBad}

-- ---- lines

-- the tests of a line are those of its reader
abbrev Reads : {A : Type 0} → Due → (List ℕ → Option A) → Type 0
Reads d read = (t : List ℕ) → is_value d t ≡ is_some (read t)

line-passes : {A : Type 0} (d : Due) (read : List ℕ → Option A) → Reads d read → (s : At) → lines_only (value d read s) ≡ pass_line d s
unfolding value
line-passes {A} d read h s = go (text d s)
  where
    end : (t : List ℕ × At) (o : Option A) (b : Bool) → b ≡ is_some o → lines_only (ok_or o (bad_line d s) >>= λ (a : A). Ok (a, t.1)) ≡ cond b (Ok t.1) (Err (bad_line d s))
    end t None b e = rw e refl
    end t (Some a) b e = rw e refl

    go : (m : Reading (List ℕ))
        → lines_only (m >>= λ (t : List ℕ × At). ok_or (read t.0) (bad_line d s) >>= λ (a : A). Ok (a, t.1)) ≡ (m >>= λ (t : List ℕ × At). cond (is_value d t.0) (Ok t.1) (Err (bad_line d s)))
    go (Ok t) = end t (read t.0) (is_value d t.0) (h t.0)
    go (Err e) = refl

-- a line, and those after it
more-passes : {A B : Type 0} (d : Due) (read : List ℕ → Option A) → Reads d read → (s : At) (ds : List Due) (k : A × At → Reading B)
    → ((x : A × At) → lines_only (k x) ≡ pass_lines ds x.1) → lines_only (value d read s >>= k) ≡ pass_lines (d ∷ ds) s
unfolding pass_lines
more-passes {A} {B} d read h s ds k f = go (value d read s) ∙ ap (λ (m : Result At BadLine). m >>= pass_lines ds) (line-passes d read h s)
  where
    go : (m : Reading A) → lines_only {A = B} (m >>= k) ≡ (lines_only m >>= pass_lines ds)
    go (Ok x) = f x
    go (Err e) = refl

none-passes : (s : At) → Ok s ≡ pass_lines [] s
unfolding pass_lines
none-passes s = refl

-- ---- operations

conviction-passes : (s : At) → lines_only (conviction_at s) ≡ pass_lines (lines_after kind.Conviction) s
unfolding conviction_at
conviction-passes s = more-passes due.Engine (Val.read_number Val.u8) (λ t. refl) s [] _ λ e. none-passes e.1

summary-passes : (s : At) → lines_only (summary_at s) ≡ pass_lines (lines_after kind.Summary) s
unfolding summary_at
summary-passes s =
    more-passes due.Engine (Val.read_number Val.u8) (λ t. refl) s (due.Model ∷ due.Spec ∷ due.Inputs ∷ []) _ λ e.
    more-passes due.Model (Val.read_number Val.u8) (λ t. refl) e.1 (due.Spec ∷ due.Inputs ∷ []) _ λ m.
    more-passes due.Spec (Val.read_number Val.u16) (λ t. refl) m.1 (due.Inputs ∷ []) _ λ p.
    more-passes due.Inputs (Val.read_hex inputs_size) (λ t. refl) p.1 [] _ λ i. none-passes i.1

report-passes : (s : At) → lines_only (report_at s) ≡ pass_lines (lines_after kind.Report) s
unfolding report_at
report-passes s =
    more-passes due.Engine (Val.read_number Val.u8) (λ t. refl) s (due.Time ∷ due.Lat ∷ due.Lon ∷ due.Height ∷ due.Message ∷ due.Tags ∷ due.Used ∷ due.Models ∷ due.Spec ∷ due.Cov ∷ []) _ λ e.
    more-passes due.Time (Val.read_number Val.u64) (λ t. refl) e.1 (due.Lat ∷ due.Lon ∷ due.Height ∷ due.Message ∷ due.Tags ∷ due.Used ∷ due.Models ∷ due.Spec ∷ due.Cov ∷ []) _ λ t.
    more-passes due.Lat Val.read_signed (λ t. refl) t.1 (due.Lon ∷ due.Height ∷ due.Message ∷ due.Tags ∷ due.Used ∷ due.Models ∷ due.Spec ∷ due.Cov ∷ []) _ λ a.
    more-passes due.Lon Val.read_signed (λ t. refl) a.1 (due.Height ∷ due.Message ∷ due.Tags ∷ due.Used ∷ due.Models ∷ due.Spec ∷ due.Cov ∷ []) _ λ o.
    more-passes due.Height Val.read_height (λ t. refl) o.1 (due.Message ∷ due.Tags ∷ due.Used ∷ due.Models ∷ due.Spec ∷ due.Cov ∷ []) _ λ h.
    more-passes due.Message Val.read_message (λ t. refl) h.1 (due.Tags ∷ due.Used ∷ due.Models ∷ due.Spec ∷ due.Cov ∷ []) _ λ m.
    more-passes due.Tags Val.read_tags (λ t. refl) m.1 (due.Used ∷ due.Models ∷ due.Spec ∷ due.Cov ∷ []) _ λ g.
    more-passes due.Used (Val.read_number Val.u32) (λ t. refl) g.1 (due.Models ∷ due.Spec ∷ due.Cov ∷ []) _ λ u.
    more-passes due.Models Val.read_models (λ t. refl) u.1 (due.Spec ∷ due.Cov ∷ []) _ λ l.
    more-passes due.Spec (Val.read_number Val.u16) (λ t. refl) l.1 (due.Cov ∷ []) _ λ p.
    more-passes due.Cov Val.read_covariance (λ t. refl) p.1 [] _ λ v. none-passes v.1

pub first-line : FirstLine
first-line s = line-passes due.Op kind_of (λ t. refl) s

pub lines-after : LinesAfter
lines-after kind.Summary s = summary-passes s
lines-after kind.Conviction s = conviction-passes s
lines-after kind.Report s = report-passes s

-- ---- the line that is bad

-- a good line is one line, and a bad one says where it is and what was due
abbrev OneLine : Due → At → Result At BadLine → Type 0
OneLine d s (Ok r) = r.line ≡ s.line + 1
OneLine d s (Err e) = e ≡ bad_line d s

pass-one : (d : Due) (s : At) → OneLine d s (pass_line d s)
unfolding text
pass-one d s = go (cut (key_of d) s.rest)
  where
    end : (t : List ℕ × At) → (t.1).line ≡ s.line + 1 → (b : Bool) → OneLine d s (cond b (Ok t.1) (Err (bad_line d s)))
    end t h true = h
    end t h false = refl

    go : (o : Option (List ℕ × List ℕ))
        → OneLine d s ((ok_or o (bad_line d s) >>= λ (t : List ℕ × List ℕ). Ok (t.0, record { rest = t.1; line = s.line + 1 })) >>= λ (t : List ℕ × At). cond (is_value d t.0) (Ok t.1) (Err (bad_line d s)))
    go None = refl
    go (Some p) = end (p.0, record { rest = p.1; line = s.line + 1 }) refl (is_value d p.0)

at_once : (d : Due) (ds : List Due) (s : At) (e : BadLine) → pass_line d s ≡ Err e → BadAfter (d ∷ ds) e s
unfolding pass_lines
at_once d ds s e q =
    let o : e ≡ bad_line d s = rw q at (pass-one d s) in
    record {
      before = [];
      behind = ds;
      among = ap (λ (b : BadLine). b.due ∷ ds) (sym o);
      number = ap (λ (b : BadLine). b.line) o ∙ (let z : s.line ≡ s.line + 0 = omega arith in z);
      rest = s;
      good = refl;
      here = ap (λ (b : BadLine). pass_line b.due s) o ∙ q;
    }

after_one : (d : Due) (ds : List Due) (s r : At) (e : BadLine) → pass_line d s ≡ Ok r → BadAfter ds e r → BadAfter (d ∷ ds) e s
unfolding pass_lines
after_one d ds s r e q b =
    let o : r.line ≡ s.line + 1 = rw q at (pass-one d s) in
    record {
      before = d ∷ b.before;
      behind = b.behind;
      among = ap (λ (x : List Due). d ∷ x) b.among;
      number = let n = b.number in omega (arith, n, o);
      rest = b.rest;
      good = ap (λ (m : Result At BadLine). m >>= pass_lines b.before) q ∙ b.good;
      here = b.here;
    }

-- the first line was read as m
first_read : (d : Due) (ds : List Due) (s : At) (e : BadLine) (m : Result At BadLine) → pass_line d s ≡ m → (m >>= pass_lines ds) ≡ Err e
    → ((r : At) → pass_lines ds r ≡ Err e → BadAfter ds e r) → BadAfter (d ∷ ds) e s
first_read d ds s e (Err b) q h more = at_once d ds s e (q ∙ h)
first_read d ds s e (Ok r) q h more = after_one d ds s r e q (more r h)

bad-after : (ds : List Due) (s : At) (e : BadLine) → pass_lines ds s ≡ Err e → BadAfter ds e s
unfolding pass_lines
bad-after [] s e h = absurd (let z : ◌≡◌ {A = ℕ} 0 1 = cc in omega arith)
bad-after (d ∷ ds) s e h = first_read d ds s e (pass_line d s) refl h λ r q. bad-after ds r e q

opened : (s : At) (e : BadLine) (m : Reading Kind) → lines_only m ≡ pass_line due.Op s → (m >>= λ (k : Kind × At). operands_at k.0 k.1) ≡ Err e → BadAfter (lines_by m) e s
opened s e (Err b) q h = let z : b ≡ e = cc in at_once due.Op [] s e (sym q ∙ ap (λ (x : BadLine). Err x) z)
opened s e (Ok k) q h =
    let l : lines_only (operands_at k.0 k.1) ≡ Err e = ap lines_only h in
    after_one due.Op (lines_after k.0) s k.1 e (sym q) (bad-after (lines_after k.0) k.1 e (sym (lines-after k.0 k.1) ∙ l))

pub due-is-bad : DueIsBad
unfolding operation_at
due-is-bad s e h = opened s e (value due.Op kind_of s) (first-line s) h
