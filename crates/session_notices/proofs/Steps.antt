-- What is left to be said, operation by operation.
use Rattle.std.proofs.Common.{◌≡◌, ◌∙◌, ap, sym, refl, ℕ, ◌+◌, ◌≤◌, ◌<◌, List, ◌++◌, length, append_assoc, arith, Ok, Err}
use mathlib.Core.List.{append-nil}
use Rattle.errors.specs.After.{After, after}
use Rattle.register.specs.Calls.{Call, called}
use Rattle.session_lines.specs.declared.lines.BadLine.{BadLine}
use Rattle.session_lines.specs.Lines.{At}
use Rattle.session_lines.specs.Operations.{operation_at}
use Rattle.session_lines.specs.Session.{calls_from}
use Rattle.session_lines.proofs.Forward.{calls-step, calls-end}
use Rattle.session_notices.specs.Notices.{lines_of, notice_if_refused, notices}
use Rattle.session_notices.proofs.Counted.{lines-counted}

-- all that is said is what was said so far, and the notices of what is left; an operation's number is bounded by what is read
pub record Saying (whole : List ℕ) (most : ℕ) (out : List ℕ) (number line : ℕ) (m : List ℕ) (s : At) : Type 0 where
  pub text : whole ≡ out ++ notices number line m (calls_from s)
  pub here : line ≡ s.line
  pub few : number + length s.rest ≤ most

module _ (whole : List ℕ) (most : ℕ) (out : List ℕ) (number line : ℕ) (m : List ℕ) (s : At) (h : Saying whole most out number line m s) where
  -- after an operation
  pub saying-more : (c : Call) (r : At) → operation_at s ≡ Ok (c, r) → length r.rest < length s.rest
      → (a : ℕ) (m' : List ℕ) → after a m' ≡ called c m → (out' : List ℕ) → out' ≡ out ++ notice_if_refused number line a
      → Saying whole most out' (number + 1) r.line m' r
  unfolding notices
  saying-more c r q less a m' p out' e =
      let x : (called c m).answer ≡ a = ap (λ (y : After (List ℕ)). y.answer) (sym p) in
      let y : (called c m).left ≡ m' = ap (λ (z : After (List ℕ)). z.left) (sym p) in
      let z : line + lines_of c ≡ r.line = ap (λ (n : ℕ). n + lines_of c) h.here ∙ sym (lines-counted s c r q) in
      record {
        text = h.text ∙ ap (λ (cs : List Call). out ++ notices number line m cs) (calls-step s c r q)
            ∙ rw (x, y, z) (sym (append_assoc out (notice_if_refused number line a) (notices (number + 1) r.line m' (calls_from r)))
            ∙ ap (λ (t : List ℕ). t ++ notices (number + 1) r.line m' (calls_from r)) (sym e));
        here = refl;
        few = (let f = h.few in omega arith);
      }

  -- where no further operation is good
  pub saying-end : (b : BadLine) → operation_at s ≡ Err b → out ≡ whole
  unfolding notices
  saying-end b q = sym (h.text ∙ ap (λ (cs : List Call). out ++ notices number line m cs) (calls-end s b q) ∙ append-nil out)
