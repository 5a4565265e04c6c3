-- The answers of a session's calls, one by one, and that they are no longer than what was read.
use Rattle.std.proofs.Common.{◌≡◌, ◌∙◌, refl, sym, ap, true, ℕ, ◌*◌, ◌≤◌, List, [], ◌∷◌, length, Ok, Err, arith, length-append}
use Rattle.std.specs.List.{list_all}
use Rattle.lists.proofs.Bools.{and_left, and_right}
use Rattle.text.specs.declared.Text.{Text}
use Rattle.text.specs.Texts.{append}
use Rattle.text.proofs.Appending.{append-append, append-nil}
use Rattle.errors.specs.After.{After, after}
use Rattle.register.specs.Calls.{Call, called, runs}
use Rattle.session_lines.specs.declared.lines.BadLine.{BadLine}
use Rattle.session_lines.specs.Lines.{At}
use Rattle.session_lines.specs.Operations.{operation_at}
use Rattle.session_lines.specs.Session.{at_start, calls_from}
use Rattle.session_lines.proofs.Forward.{calls-step, calls-end}
use Rattle.session_lines.proofs.Shortest.{calls-short}
use Rattle.session_text.specs.Output.{answer_line, answers}
use Rattle.session_text.proofs.Digits.{by_manager, answer_width, answer-digit, answer-width}
use Rattle.session_text.proofs.Managed.{calls-managed}

-- each answer of a manager's calls takes a line of one width
pub answers-wide : (m : List ℕ) (cs : List Call) → list_all by_manager cs ≡ true → length (answers m cs) ≡ answer_width * length cs
unfolding answers
answers-wide m [] h = refl
answers-wide m (c ∷ cs) h =
    let more = answers-wide (called c m).left cs (and_right (by_manager c) (list_all by_manager cs) h) in
    let line = answer-width (called c m).answer (answer-digit c m (and_left (by_manager c) (list_all by_manager cs) h)) in
    simp length-append (omega (arith, more, line))

-- a line of an answer is shorter than the shortest operation
pub answers-fit : (m s : List ℕ) → length (answers m (calls_from (at_start s))) ≤ length s
answers-fit m s = let a = answers-wide m (calls_from (at_start s)) (calls-managed (length s) (at_start s)) in let b = calls-short (length s) (at_start s) in omega arith

-- the text and the register after what is left of a session are those of the whole
pub record Answered (whole : Text) (end : List ℕ) (m : List ℕ) (text : Text) (s : At) : Type 0 where
  pub text_is : whole ≡ append text (answers m (calls_from s))
  pub left : end ≡ runs m (calls_from s)

module _ (whole : Text) (end m : List ℕ) (text : Text) (s : At) (h : Answered whole end m text s) where
  -- after a call
  pub answered-more : (c : Call) (r : At) → operation_at s ≡ Ok (c, r)
      → (a : ℕ) (m' : List ℕ) → after a m' ≡ called c m → (text' : Text) → text' ≡ append text (answer_line a) → Answered whole end m' text' r
  unfolding answers runs
  answered-more c r q a m' p text' e =
      let step = calls-step s c r q in
      let x : (called c m).answer ≡ a = ap (λ (y : After (List ℕ)). y.answer) (sym p) in
      let y : (called c m).left ≡ m' = ap (λ (z : After (List ℕ)). z.left) (sym p) in
      record {
        text_is = h.text_is ∙ ap (λ (cs : List Call). append text (answers m cs)) step
            ∙ rw (x, y) (sym (append-append text (answer_line a) (answers m' (calls_from r))) ∙ ap (λ (t : Text). append t (answers m' (calls_from r))) (sym e));
        left = h.left ∙ ap (runs m) step ∙ ap (λ (z : List ℕ). runs z (calls_from r)) y;
      }

  -- where no further call is good
  pub answered-end : (b : BadLine) → operation_at s ≡ Err b → (text ≡ whole) × (m ≡ end)
  unfolding answers runs
  answered-end b q =
      let none = calls-end s b q in
      (sym (h.text_is ∙ ap (λ (cs : List Call). append text (answers m cs)) none ∙ append-nil text), sym (h.left ∙ ap (runs m) none))
