-- An operation takes bytes, so that a session is an operation and the session of what is left.
use Rattle.std.proofs.Common.{◌≡◌, ◌∙◌, sym, ap, refl, ℕ, zero, suc, ◌+◌, ◌-◌, ◌≤◌, ◌<◌, ltb, List, [], ◌∷◌, length, take, drop, Option, Some, None, Result, Ok, Err, eqb, MatchOption, ok_or, arith, length-drop, length-take, ltb-true, ltb-false, eqb-true, option_map, position, ◌==◌}
use Rattle.lists.proofs.Bools.{by}
use Rattle.std.specs.List.{position_or_len}
use Rattle.std.specs.Str.{bytes_eq}
use Rattle.std.proofs.lemmas.Slice.Eq.{bytes_eq-Decides}
use Rattle.register.specs.Calls.{Call}
use Rattle.session_lines.specs.declared.lines.Due.{Due}
use Rattle.session_lines.specs.declared.lines.Due.TheVariants as due
use Rattle.session_lines.specs.declared.lines.Kind.{Kind}
use Rattle.session_lines.specs.declared.lines.Kind.TheVariants as kind
use Rattle.session_lines.specs.declared.lines.BadLine.{BadLine}
use Rattle.session_lines.specs.Keys.{key_of}
use Rattle.session_lines.specs.Numbers.{split_once, strip_prefix}
use Rattle.session_lines.specs.Numbers as Val
use Rattle.session_lines.specs.Session.{operations_at, session_at, bad_of, calls_by, calls_at, calls_from}
use Rattle.session_lines.specs.Claims.{and_then, DueHere, DueLater}
use Rattle.session_lines.specs.Lines.{At, Reading, ◌>>=◌, bad_line, cut, text, value}
use Rattle.session_lines.specs.Operations.{conviction_at, summary_at, report_at, operands_at, operation_at, kind_of}

-- what is left has fewer than n bytes
abbrev pub Below : {A : Type 0} → ℕ → Reading A → Type 0
Below n (Ok x) = length x.1.rest < n
Below n (Err e) = Unit {0}

-- a text and what is left, with at least so many bytes before them and one between
abbrev pub Shorter : ℕ → ℕ → Option (List ℕ × List ℕ) → Type 0
Shorter k n None = Unit {0}
Shorter k n (Some p) = k + length p.0 + length p.1 < n

split_shorter : (c : ℕ) (s : List ℕ) → Shorter 0 (length s) (split_once c s)
split_shorter c s = go (position (λ (b : ℕ). b == c) s) (within s)
  where
    within : (s : List ℕ) → MatchOption (position (λ (b : ℕ). b == c) s) (Unit {0}) (λ n. n < length s)
    within s = by (ltb (position_or_len (λ (b : ℕ). b == c) s) (length s)) (λ e. rw e (ltb-true _ _ e)) (λ e. rw e tt)

    go : (o : Option ℕ) → MatchOption o (Unit {0}) (λ n. n < length s) → Shorter 0 (length s) (option_map (λ (n : ℕ). (take n s, drop (n + 1) s)) o)
    go None h = tt
    go (Some n) h = omega (arith, length-drop (n + 1) s, length-take n s)

pub cut_shorter : (key s : List ℕ) → Shorter (length key) (length s) (cut key s)
unfolding cut
cut_shorter key s = by (bytes_eq (take (length key) s) key)
    (λ e. rw e (longer ((bytes_eq-Decides (take (length key) s) key).0 e) (split_once 10 (drop (length key) s)) (split_shorter 10 (drop (length key) s))))
    (λ e. rw e tt)
  where
    longer : take (length key) s ≡ key → (o : Option (List ℕ × List ℕ)) → Shorter 0 (length (drop (length key) s)) o → Shorter (length key) (length s) o
    longer q None h = tt
    longer q (Some p) h = omega (arith, length-drop (length key) s, length-take (length key) s, ap length q)

value_below : {A : Type 0} (due : Due) (read : List ℕ → Option A) (s : At) (n : ℕ) → length s.rest ≤ n → Below n (value due read s)
unfolding value text
value_below {A} due read s n h = go (cut (key_of due) s.rest) (cut_shorter (key_of due) s.rest)
  where
    end : (p : List ℕ × List ℕ) → length p.1 < length s.rest → (o : Option A) → Below n (ok_or o (bad_line due s) >>= λ (a : A). Ok (a, record { rest = p.1; line = s.line + 1 }))
    end p q None = tt
    end p q (Some a) = omega arith

    go : (o : Option (List ℕ × List ℕ)) → Shorter (length (key_of due)) (length s.rest) o
        → Below n ((ok_or o (bad_line due s) >>= λ (t : List ℕ × List ℕ). Ok (t.0, record { rest = t.1; line = s.line + 1 })) >>= λ (t : List ℕ × At). ok_or (read t.0) (bad_line due s) >>= λ (a : A). Ok (a, t.1))
    go None q = tt
    go (Some p) q = end p (omega arith) (read p.0)

-- ---- operations

-- a line, and then others that leave no more than it
step_below : {A B : Type 0} (d : Due) (read : List ℕ → Option A) (s : At) (n : ℕ) (k : A × At → Reading B) → length s.rest ≤ n
    → ((x : A × At) → length x.1.rest < n → Below n (k x)) → Below n (value d read s >>= k)
step_below d read s n k h f = go (value d read s) (value_below d read s n h)
  where
    go : (m : Reading _) → Below n m → Below n (m >>= k)
    go (Ok x) q = f x q
    go (Err e) q = tt

conviction_below : (s : At) (n : ℕ) → length s.rest ≤ n → Below n (conviction_at s)
unfolding conviction_at
conviction_below s n h = step_below due.Engine (Val.read_number 255) s n _ h λ e h₁. h₁

summary_below : (s : At) (n : ℕ) → length s.rest ≤ n → Below n (summary_at s)
unfolding summary_at
summary_below s n h =
    step_below due.Engine (Val.read_number 255) s n _ h λ e h₁.
    step_below due.Model (Val.read_number 255) e.1 n _ (omega arith) λ m h₂.
    step_below due.Spec (Val.read_number 0xffff) m.1 n _ (omega arith) λ p h₃.
    step_below due.Inputs (Val.read_hex 32) p.1 n _ (omega arith) λ i h₄. h₄

report_below : (s : At) (n : ℕ) → length s.rest ≤ n → Below n (report_at s)
unfolding report_at
report_below s n h =
    step_below due.Engine (Val.read_number 255) s n _ h λ e h₁.
    step_below due.Time (Val.read_number Val.u64) e.1 n _ (omega arith) λ t h₂.
    step_below due.Lat Val.read_signed t.1 n _ (omega arith) λ a h₃.
    step_below due.Lon Val.read_signed a.1 n _ (omega arith) λ o h₄.
    step_below due.Height Val.read_height o.1 n _ (omega arith) λ z h₅.
    step_below due.Message Val.read_message z.1 n _ (omega arith) λ m h₆.
    step_below due.Tags Val.read_tags m.1 n _ (omega arith) λ g h₇.
    step_below due.Used (Val.read_number 0xffff_ffff) g.1 n _ (omega arith) λ u h₈.
    step_below due.Models Val.read_models u.1 n _ (omega arith) λ l h₉.
    step_below due.Spec (Val.read_number 0xffff) l.1 n _ (omega arith) λ p h₁₀.
    step_below due.Cov Val.read_covariance p.1 n _ (omega arith) λ v h₁₁. h₁₁

pub operands_below : (k : Kind) (s : At) (n : ℕ) → length s.rest ≤ n → Below n (operands_at k s)
operands_below kind.Summary s n h = summary_below s n h
operands_below kind.Conviction s n h = conviction_below s n h
operands_below kind.Report s n h = report_below s n h

pub operation_below : (s : At) → Below (length s.rest) (operation_at s)
unfolding operation_at
operation_below s = step_below due.Op kind_of s (length s.rest) _ (omega arith) λ k h. operands_below k.0 k.1 (length s.rest) (omega arith)

-- ---- the bound on operations has no part in what is read

pub nothing_left : (j : ℕ) (s : At) → length s.rest ≡ 0 → operations_at j s ≡ Ok ([], s)
unfolding operations_at
nothing_left zero s h = refl
nothing_left (suc j) s h = grind arith

pub one_more : (j : ℕ) (s : At) → 0 < length s.rest → operations_at (suc j) s ≡ (operation_at s >>= λ (c : Call × At). operations_at j c.1 >>= λ (cs : List Call × At). Ok (c.0 ∷ cs.0, cs.1))
unfolding operations_at
one_more j s h = grind arith

abbrev pub later : ℕ → Call × At → Reading (List Call)
later j c = operations_at j c.1 >>= λ (cs : List Call × At). Ok (c.0 ∷ cs.0, cs.1)

pub operations_same : (k j : ℕ) (s : At) → length s.rest ≤ k → length s.rest ≤ j → operations_at k s ≡ operations_at j s
operations_same zero j s h e = nothing_left zero s (omega arith) ∙ sym (nothing_left j s (omega arith))
operations_same (suc k) zero s h e = nothing_left (suc k) s (omega arith) ∙ sym (nothing_left zero s (omega arith))
operations_same (suc k) (suc j) s h e =
    by (ltb 0 (length s.rest))
    (λ q. let p : 0 < length s.rest = ltb-true 0 (length s.rest) q in
    one_more k s p ∙ go (λ c q. operations_same k j c.1 (omega arith) (omega arith)) (operation_at s) (operation_below s) ∙ sym (one_more j s p))
    (λ q. let p : length s.rest ≤ 0 = ltb-false 0 (length s.rest) q in nothing_left (suc k) s (omega arith) ∙ sym (nothing_left (suc j) s (omega arith)))
  where
    go : ((c : Call × At) → length c.1.rest < length s.rest → operations_at k c.1 ≡ operations_at j c.1) → (m : Reading Call) → Below (length s.rest) m
        → (m >>= later k) ≡ (m >>= later j)
    go f (Err b) q = refl
    go f (Ok c) q = ap (λ (r : Reading (List Call)). ◌>>=◌ {B = List Call × At} r λ (cs : List Call × At). Ok (c.0 ∷ cs.0, cs.1)) (f c q)

-- ---- operation by operation

pub left_less : (s : At) (c : Call) (r : At) → operation_at s ≡ Ok (c, r) → length r.rest < length s.rest
left_less s c r q = rw q at (operation_below s)

first : (s : At) → 0 < length s.rest → operations_at (length s.rest) s ≡ (operation_at s >>= later (length s.rest - 1))
first s h = let z : length s.rest ≡ suc (length s.rest - 1) = omega arith in ap (λ (n : ℕ). operations_at n s) z ∙ one_more (length s.rest - 1) s h

pub session-empty : (s : At) → length s.rest ≡ 0 → session_at s ≡ Ok []
unfolding session_at
session-empty s h = rw (nothing_left (length s.rest) s h) refl

pub session-here : (s : At) (e : BadLine) → 0 < length s.rest → operation_at s ≡ Err e → session_at s ≡ Err e
unfolding session_at
session-here s e h q = rw (first s h, q) refl

pub session-step : (s : At) (c : Call) (r : At) → operation_at s ≡ Ok (c, r) → session_at s ≡ and_then c (session_at r)
unfolding session_at
session-step s c r q =
    let b = left_less s c r q in
    let j = length s.rest - 1 in
    rw (first s (omega arith), q)
    (ends (operations_at j r) ∙ ap (λ (m : Reading (List Call)). and_then c (calls_only m)) (operations_same j (length r.rest) r (omega arith) (omega arith)))
  where
    calls_only : Reading (List Call) → Result (List Call) BadLine
    calls_only m = m >>= λ (cs : List Call × At). Ok cs.0

    ends : (m : Reading (List Call)) → ((m >>= λ (cs : List Call × At). Ok (c ∷ cs.0, cs.1)) >>= λ (cs : List Call × At). Ok cs.0) ≡ and_then c (calls_only m)
    ends (Ok x) = refl
    ends (Err x) = refl

-- ---- the first bad line

bad-and : (c : Call) (m : Result (List Call) BadLine) → bad_of (and_then c m) ≡ bad_of m
bad-and c (Ok cs) = refl
bad-and c (Err e) = refl

pub due-later : DueLater
due-later s c r q = ap bad_of (session-step s c r q) ∙ bad-and c (session_at r)

pub due-here : DueHere
due-here s e h q = ap bad_of (session-here s e h q)

pub bad-end : (s : At) → length s.rest ≡ 0 → bad_of (session_at s) ≡ None
bad-end s h = ap bad_of (session-empty s h)

-- ---- the calls before it

none-left : (s : At) → length s.rest ≡ 0 → (next : At → List Call) → calls_by next (operation_at s) ≡ []
none-left s h next = go (operation_at s) (operation_below s)
  where
    go : (m : Reading Call) → Below (length s.rest) m → calls_by next m ≡ []
    go (Ok c) q = absurd (omega arith)
    go (Err e) q = refl

calls_same : (k j : ℕ) (s : At) → length s.rest ≤ k → length s.rest ≤ j → calls_at k s ≡ calls_at j s
unfolding calls_at
calls_same zero zero s h e = refl
calls_same zero (suc j) s h e = sym (none-left s (omega arith) (calls_at j))
calls_same (suc k) zero s h e = none-left s (omega arith) (calls_at k)
calls_same (suc k) (suc j) s h e = go (λ r q. calls_same k j r (omega arith) (omega arith)) (operation_at s) (operation_below s)
  where
    go : ((r : At) → length r.rest < length s.rest → calls_at k r ≡ calls_at j r) → (m : Reading Call) → Below (length s.rest) m → calls_by (calls_at k) m ≡ calls_by (calls_at j) m
    go f (Ok c) q = ap (λ (cs : List Call). c.0 ∷ cs) (f c.1 q)
    go f (Err b) q = refl

pub calls-step : (s : At) (c : Call) (r : At) → operation_at s ≡ Ok (c, r) → calls_from s ≡ c ∷ calls_from r
unfolding calls_at
calls-step s c r q =
    let b = left_less s c r q in
    let j = length s.rest - 1 in
    let z : length s.rest ≡ suc j = omega arith in
    ap (λ (n : ℕ). calls_at n s) z ∙ ap (calls_by (calls_at j)) q ∙ ap (λ (cs : List Call). c ∷ cs) (calls_same j (length r.rest) r (omega arith) (omega arith))

calls-none : (k : ℕ) (s : At) (e : BadLine) → operation_at s ≡ Err e → calls_at k s ≡ []
unfolding calls_at
calls-none zero s e q = refl
calls-none (suc k) s e q = rw q refl

pub calls-end : (s : At) (e : BadLine) → operation_at s ≡ Err e → calls_from s ≡ []
calls-end s e q = calls-none (length s.rest) s e q

-- of a session without a bad line they are all
abbrev Are : List Call → Reading (List Call) → Type 0
Are cs (Ok x) = cs ≡ x.0
Are cs (Err b) = Unit {0}

are-more : (c : Call × At) (cs : List Call) (m : Reading (List Call)) → Are cs m → Are (c.0 ∷ cs) (m >>= λ (ds : List Call × At). Ok (c.0 ∷ ds.0, ds.1))
are-more c cs (Ok x) h = ap (λ (ds : List Call). c.0 ∷ ds) h
are-more c cs (Err b) h = tt

are-by : (k : ℕ) (m : Reading Call) → ((s : At) → Are (calls_at k s) (operations_at k s)) → Are (calls_by (calls_at k) m) (m >>= later k)
are-by k (Ok c) f = are-more c (calls_at k c.1) (operations_at k c.1) (f c.1)
are-by k (Err b) f = tt

are : (k : ℕ) (s : At) → Are (calls_at k s) (operations_at k s)
unfolding operations_at calls_at
are zero s = refl
are (suc k) s =
    by (eqb (length s.rest) 0) (λ h. rw h (none-left s (eqb-true (length s.rest) 0 h) (calls_at k)))
    (λ h. rw h (are-by k (operation_at s) (are k)))

pub calls-good : (s : At) (cs : List Call) → session_at s ≡ Ok cs → calls_from s ≡ cs
unfolding session_at
calls-good s cs e = from (operations_at (length s.rest) s) e (are (length s.rest) s)
  where
    from : (m : Reading (List Call)) → (m >>= λ (ds : List Call × At). Ok ds.0) ≡ Ok cs → Are (calls_from s) m → calls_from s ≡ cs
    from (Ok x) e h = let z : x.0 ≡ cs = cc in h ∙ z
    from (Err b) e h = absurd (let z : ◌≡◌ {A = ℕ} 0 1 = cc in omega arith)
