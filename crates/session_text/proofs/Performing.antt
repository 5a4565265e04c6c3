-- A session performed on a register: each way out, and what is claimed of what is left.
use Rattle.std.proofs.Common.{◌≡◌, refl, sym, ap, ap₂, subst, ◌∙◌, ℕ, ◌≤◌, ◌<◌, true, false, List, [], ◌++◌, Some, Result, Ok, Err, length, drop, lt-ltb, le-ltb}
use Rattle.std.specs.List.{list_all}
use Rattle.std.specs.Result.{result_err}
use Rattle.std.proofs.Math.Seq.{take-append_seam}
use Rattle.octets.specs.Put.{Put}
use Rattle.errors.specs.After.{After, after, write_text}
use Rattle.errors.proofs.Writing.{put_written}
use Rattle.desks.specs.declared.Desk.TheVariants.{Manager}
use Rattle.desks.specs.Desks.{number_of}
use Rattle.register.specs.Memory.{well_formed, decode, fresh}
use Rattle.register.specs.Calls.{Call, runs}
use Rattle.register.proofs.Further.{runs-formed}
use Rattle.fix_lines.specs.Text.{board_size}
use Rattle.board.specs.Board.{draw_for, draw_board}
use Rattle.board.specs.Full.{board_in}
use Rattle.session_lines.specs.Session.{at_start, calls_from}
use Rattle.session_text.specs.declared.refusals.Refusal.{Refusal}
use Rattle.session_text.specs.Output.{calls_of, answers, printed, answers_then_board, text_by, output_of}
use Rattle.session_text.specs.Performed.{refusal_number, answers_size, perform_calls, perform_by, perform_session}
use Rattle.session_text.specs.Claims.{NineBytesEach, PrintedAsPerformed}
use Rattle.session_text.proofs.Digits.{by_manager}
use Rattle.session_text.proofs.Managed.{calls-managed}
use Rattle.session_text.proofs.Cases.{calls-of-good}
use Rattle.session_text.proofs.Answering.{answers-wide}

module _ (s m out : List ℕ) where
  -- bytes that are no register
  pub performed-malformed : well_formed m ≡ false → perform_session s m out ≡ after 1 (m, out)
  unfolding perform_session
  performed-malformed h = rw h refl

  -- a session that is refused
  pub performed-refused : (r : Refusal) → well_formed m ≡ true → Some r ≡ result_err (calls_of s) → perform_session s m out ≡ after (refusal_number r) (m, out)
  unfolding perform_session
  performed-refused r h e = rw h (go (calls_of s) e)
    where
      go : (k : Result (List Call) Refusal) → Some r ≡ result_err k → perform_by k m out ≡ after (refusal_number r) (m, out)
      go (Ok cs) e = cc
      go (Err q) e = ap (λ (x : Refusal). after (refusal_number x) (m, out)) (let z : q ≡ r = cc in z)

  module _ (cs : List Call) (h : well_formed m ≡ true) (e : calls_of s ≡ Ok cs) where
    -- no room for the answers
    pub performed-small : length out < answers_size → perform_session s m out ≡ after 10 (m, out)
    unfolding perform_session
    performed-small k = rw (h, e, lt-ltb (length out) answers_size k) refl

    pub performed-good : answers_size ≤ length out → perform_session s m out ≡ perform_calls cs m out
    unfolding perform_session
    performed-good k = rw (h, e, le-ltb (length out) answers_size k) refl

-- what was written of answers, and the register that was left
pub performed_written : (cs : List Call) (m m' out out' : List ℕ) (r : ℕ) → Put out 0 (answers m cs) r out' → length (answers m cs) ≤ length out → m' ≡ runs m cs
    → after r (m', out') ≡ perform_calls cs m out
performed_written cs m m' out out' r p k e =
    ap₂ (λ (a : After (List ℕ)) (x : List ℕ). after a.answer (x, a.left)) (put_written out out' (answers m cs) r p k) e

-- ---- what is claimed

pub nine-bytes-each : NineBytesEach
nine-bytes-each s m out cs h e k =
    let good = calls-of-good s (ap result_err (sym e)) in
    let same : calls_from (at_start s) ≡ cs = let z : ◌≡◌ {A = Result (List Call) Refusal} (Ok (calls_from (at_start s))) (Ok cs) = sym good.1 ∙ e in cc in
    ap (λ (a : After (List ℕ × List ℕ)). a.answer) (performed-good s m out cs h e k)
    ∙ answers-wide m cs (subst (λ (ds : List Call). list_all by_manager ds ≡ true) same (calls-managed (length s) (at_start s)))

pub printed-as-performed : PrintedAsPerformed
unfolding draw_for output_of answers_then_board runs
printed-as-performed s out drawn cs e k b =
    let formed : well_formed (runs fresh cs) ≡ true = runs-formed cs in
    let performed = performed-good s fresh out cs (runs-formed []) e k in
    let board = board_in (decode (runs fresh cs)) in
    let drawing : draw_board (number_of Manager) (runs fresh cs) drawn ≡ write_text board drawn = rw (formed, le-ltb (length drawn) board_size b) refl in
    ap text_by e
    ∙ ap₂ (λ (x y : List ℕ). x ++ printed y) (sym (take-append_seam (answers fresh cs) (drop (length (answers fresh cs)) out))) (sym (take-append_seam board (drop (length board) drawn)))
    ∙ rw (performed, drawing) refl
