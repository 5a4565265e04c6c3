-- The cases of a reason, and that there is one exactly where a session is refused.
use Rattle.std.proofs.Common.{◌≡◌, ap, sym, refl, ℕ, ◌≤◌, List, [], ◌∷◌, length, get_or, length-append, length-take, Some, None, Result, Ok, Err, ltb, eqb, arith, lt-ltb, Option, ◌*◌, ◌-◌, ◌==◌, nat_lt, take, flat_map}
use Rattle.std.specs.Result.{result_err}
use Rattle.octets.specs.Ascii.{ascii}
use Rattle.text.proofs.Readback.{decimal-width}
use Rattle.register.specs.Calls.{Call}
use Rattle.session_lines.specs.declared.lines.BadLine.{BadLine}
use Rattle.session_lines.specs.declared.lines.Due.{Due}
use Rattle.session_lines.specs.declared.lines.Due.TheVariants as due
use Rattle.session_text.specs.declared.refusals.Refusal.{Refusal}
use Rattle.session_text.specs.declared.refusals.Refusal.TheVariants as refusal
use Rattle.session_text.specs.Output.{calls_of, answer_line, answers, answers_then_board, refusal_text, text_by, output_of}
use Rattle.session_text.proofs.Quiet.{calls_good, empty-text}
use Rattle.session_lines.specs.Numbers.{split_once}
use Rattle.text.specs.Numbers.{hex}
use Rattle.lists.proofs.Bools.{by}
use Rattle.session_text.specs.Found.{most_shown, is_printable, shown_byte, shown_end, quoted, ends_in_return, return_words, found_by, found_text, behind_lines}
use Rattle.session_text.specs.Reasons.{line_text, bad_line_reason, reason_text, reason_by, reason_of}
use Rattle.session_text.specs.Claims.{ReasonWhereRefused, NamesTheBadLine}

pub reason-some : (s : List ℕ) (r : Refusal) → Some r ≡ result_err (calls_of s) → reason_of s ≡ reason_text s r
unfolding reason_of
reason-some s r e = go (calls_of s) e
  where
    go : (m : Result (List Call) Refusal) → Some r ≡ result_err m → reason_by s m ≡ reason_text s r
    go (Ok cs) e = cc
    go (Err q) e = ap (reason_text s) (let z : q ≡ r = cc in z)

pub reason-none : (s : List ℕ) → None ≡ result_err (calls_of s) → reason_of s ≡ []
unfolding reason_of
reason-none s e = go (calls_of s) e
  where
    go : (m : Result (List Call) Refusal) → None ≡ result_err m → reason_by s m ≡ []
    go (Ok cs) e = refl
    go (Err q) e = cc

-- ---- how long a reason is

line-short : (d : Due) → length (line_text d) ≤ 128
unfolding ascii
line-short due.Op = omega arith
line-short due.Engine = omega arith
line-short due.Model = omega arith
line-short due.Spec = omega arith
line-short due.Inputs = omega arith
line-short due.Time = omega arith
line-short due.Lat = omega arith
line-short due.Lon = omega arith
line-short due.Height = omega arith
line-short due.Message = omega arith
line-short due.Tags = omega arith
line-short due.Used = omega arith
line-short due.Models = omega arith
line-short due.Cov = omega arith

shown-short : (b : ℕ) → length (shown_byte b) ≤ 4
unfolding hex
shown-short b = by (is_printable b) (λ h. rw h (omega arith)) (λ h. rw h (omega arith))

all-shown-short : (t : List ℕ) → length (flat_map shown_byte t) ≤ 4 * length t
all-shown-short [] = omega arith
all-shown-short (b ∷ t) = simp length-append (omega (arith, shown-short b, all-shown-short t))

end-short : (t : List ℕ) → length (shown_end t) ≤ 3
unfolding ascii
end-short t = by (nat_lt most_shown (length t)) (λ h. rw h (omega arith)) (λ h. rw h (omega arith))

quoted-short : (t : List ℕ) → length (quoted t) ≤ 244
unfolding quoted ascii
quoted-short t =
    let few = length-take most_shown t in
    simp length-append (omega (arith, few, all-shown-short (take most_shown t), end-short t))

words-short : (t : List ℕ) → length (return_words t) ≤ 50
unfolding ascii
words-short t = by (ends_in_return t) (λ h. rw h (omega arith)) (λ h. rw h (omega arith))

found-short : (s : List ℕ) → length (found_text s) ≤ 294
unfolding found_text ascii
found-short s = by (length s == 0) (λ h. rw h (omega arith)) (λ h. rw h (go (split_once 10 s)))
  where
    go : (o : Option (List ℕ × List ℕ)) → length (found_by s o) ≤ 294
    go None = simp length-append (omega (arith, quoted-short s))
    go (Some p) = simp length-append (omega (arith, quoted-short p.0, words-short p.0))

bad-short : (s : List ℕ) (bad : BadLine) → length (bad_line_reason s bad) ≤ 512
unfolding bad_line_reason ascii
bad-short s bad =
    let width = decimal-width bad.line in
    let line = line-short bad.due in
    let found = found-short (behind_lines (bad.line - 1) s) in
    simp length-append (omega (arith, width, line, found, length-append {A = ℕ}))

pub reason-short : (s : List ℕ) (r : Refusal) → length (reason_text s r) ≤ 512
unfolding reason_text ascii
reason-short s refusal.TooLong = omega arith
reason-short s (refusal.BadLine bad) = bad-short s bad

-- ---- what is printed begins with 'r' exactly where a session is refused

pub reason-where-refused : ReasonWhereRefused
unfolding reason_of output_of reason_text bad_line_reason refusal_text answers_then_board answers answer_line ascii
reason-where-refused s = go (calls_of s)
  where
    go : (m : Result (List Call) Refusal) → ltb 0 (length (reason_by s m)) ≡ eqb (get_or (text_by m) 0 0) 114
    go (Err refusal.TooLong) = refl
    go (Err (refusal.BadLine bad)) = lt-ltb 0 (length (reason_text s (refusal.BadLine bad))) (omega arith)
    go (Ok []) = ap (λ (t : List ℕ). eqb (get_or t 0 0) 114) (sym empty-text)
    go (Ok (c ∷ cs)) = refl

-- ---- the line that it names

pub names-the-bad-line : NamesTheBadLine
unfolding reason_of reason_text
names-the-bad-line s bad h e = ap (reason_by s) (calls_good s (Err bad) h e)
