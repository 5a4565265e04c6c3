-- What is printed of a session without a board, and that only the empty input prints nothing before it.
use Rattle.std.proofs.Common.{ℕ, ◌≤◌, ◌<◌, ◌≡◌, refl, sym, ap, ◌∙◌, ⊎_elim, List, [], ◌∷◌, ◌++◌, arith, ltb, length, get_or, length-append, le-ltb, Result, Ok, Err}
use Rattle.std.specs.Result.{result_map_both}
use Rattle.lists.proofs.Bools.{by}
use Rattle.octets.specs.Ascii.{ascii}
use Rattle.register.specs.Memory.{decode, fresh}
use Rattle.register.specs.Calls.{Call, runs, none_full}
use Rattle.register.proofs.Opened.{opened}
use Rattle.register.proofs.Kept.{decode-valid}
use Rattle.register.proofs.History.{run}
use Rattle.register.proofs.Whole.{decoded}
use Rattle.desks.specs.declared.Desk.TheVariants.{Manager}
use Rattle.board.specs.Full.{board_in}
use Rattle.board.proofs.Fitting.{long}
use Rattle.board.proofs.Nothing.{no_bytes}
use Rattle.session_lines.specs.declared.lines.BadLine.{BadLine}
use Rattle.session_lines.specs.Session.{at_start, session_of}
use Rattle.session_lines.proofs.Forward.{session-empty}
use Rattle.session_lines.proofs.Sessions.{others-have-calls}
use Rattle.session_text.specs.declared.refusals.Refusal.{Refusal}
use Rattle.session_text.specs.declared.refusals.Refusal.TheVariants as refusal
use Rattle.session_text.specs.Output.{max_input, calls_of, answer_line, answers, no_transmissions, printed, answers_then_board, refusal_text, text_by, output_of}
use Rattle.session_text.specs.Claims.{NeverSilent, EmptyIsQuiet, OnlyEmptyIsQuiet, LineWithoutBoard, BoardAsItIs, NoBoardIsTheLine}
use Rattle.session_text.proofs.Ending.{printed-some}

-- ---- the calls of a session

module _ (s : List ℕ) where
  pub calls_good : (m : Result (List Call) BadLine) → length s ≤ max_input → session_of s ≡ m → calls_of s ≡ result_map_both (λ (cs : List Call). cs) refusal.BadLine m
  unfolding calls_of
  calls_good m h e = rw (le-ltb max_input (length s) h, e) refl

  pub session-good : (cs : List Call) → calls_of s ≡ Ok cs → session_of s ≡ Ok cs
  unfolding calls_of
  session-good cs e = by (ltb max_input (length s)) (λ h. let f : ◌≡◌ {A = Result (List Call) Refusal} (Err refusal.TooLong) (Ok cs) = rw h at e in cc) (λ h. go (session_of s) (rw h at e))
    where
      go : (m : Result (List Call) BadLine) → result_map_both (λ (ds : List Call). ds) refusal.BadLine m ≡ Ok cs → m ≡ Ok cs
      go (Ok ds) e = cc
      go (Err b) e = cc

-- ---- something is printed

printed-long : (t : List ℕ) → 0 < length (printed t)
unfolding ascii
printed-long [] = omega arith
printed-long (b ∷ t) = omega arith

text-long : (m : Result (List Call) Refusal) → 0 < length (text_by m)
unfolding refusal_text answers_then_board ascii
text-long (Err refusal.TooLong) = omega arith
text-long (Err (refusal.BadLine b)) = omega arith
text-long (Ok cs) =
    let t = printed (board_in (decode (runs fresh cs))) in
    omega (arith, length-append (answers fresh cs) t, printed-long (board_in (decode (runs fresh cs))))

pub never-silent : NeverSilent
unfolding output_of
never-silent s = text-long (calls_of s)

-- ---- the empty input

-- a fresh register has a board of no bytes
fresh-board : board_in (decode (runs fresh [])) ≡ []
unfolding none_full run
fresh-board = ap board_in (decoded [] refl) ∙ no_bytes [] [] Manager refl

pub empty-text : text_by (Ok []) ≡ no_transmissions
unfolding answers_then_board answers
empty-text = ap printed fresh-board

pub empty-is-quiet : EmptyIsQuiet
unfolding output_of
empty-is-quiet = ap text_by (calls_good [] (Ok []) (omega arith) (session-empty (at_start []) refl)) ∙ empty-text

-- ---- no other input

-- texts whose first bytes differ
apart : (t u : List ℕ) → (get_or t 0 0 ≡ get_or u 0 0 → ⊥) → t ≡ u → ⊥
apart t u f e = f (ap (λ (x : List ℕ). get_or x 0 0) e)

quiet-session : (m : Result (List Call) Refusal) → text_by m ≡ no_transmissions → m ≡ Ok []
unfolding refusal_text answers_then_board answers answer_line ascii
quiet-session (Err refusal.TooLong) h = absurd (apart (text_by (Err refusal.TooLong)) no_transmissions (λ e. omega arith) h)
quiet-session (Err (refusal.BadLine b)) h = absurd (apart (text_by (Err (refusal.BadLine b))) no_transmissions (λ e. omega arith) h)
quiet-session (Ok []) h = refl
quiet-session (Ok (c ∷ cs)) h = absurd (apart (text_by (Ok (c ∷ cs))) no_transmissions (λ e. omega arith) h)

pub only-empty-is-quiet : OnlyEmptyIsQuiet
unfolding output_of
only-empty-is-quiet s h = others-have-calls s (session-good s [] (quiet-session (calls_of s) h))

-- ---- after the answers

module _ (s : List ℕ) (cs : List Call) where
  printed-after : length s ≤ max_input → session_of s ≡ Ok cs → output_of s ≡ answers fresh cs ++ printed (board_in (decode (runs fresh cs)))
  unfolding output_of answers_then_board
  printed-after h e = ap text_by (calls_good s (Ok cs) h e)

pub line-without-board : LineWithoutBoard
line-without-board s cs h e q = printed-after s cs h e ∙ ap (λ (t : List ℕ). answers fresh cs ++ printed t) q

pub board-as-it-is : BoardAsItIs
board-as-it-is s cs h e q = printed-after s cs h e ∙ ap (λ (t : List ℕ). answers fresh cs ++ t) (sym (printed-some (board_in (decode (runs fresh cs))) q))

pub no-board-is-the-line : NoBoardIsTheLine
unfolding ascii
no-board-is-the-line m b w e =
    let n = ap length e in
    ⊎_elim (λ z. omega (arith, z, n)) (λ z. omega (arith, z, n)) (long (decode m) (decode-valid m (opened m w) b))
