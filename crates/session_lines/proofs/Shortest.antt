-- The fewest bytes of a good operation: its first line alone has as many as `op=report` and a line feed.
use Rattle.std.proofs.Common.{◌≡◌, refl, ℕ, zero, suc, ◌+◌, ◌*◌, ◌≤◌, ◌<◌, List, length, Option, Some, None, Ok, Err, ok_or, arith, codes}
use Rattle.std.proofs.lemmas.Slice.Eq.{bytes_eq-Decides}
use Rattle.register.specs.Calls.{Call}
use Rattle.session_lines.specs.declared.lines.Due.TheVariants as due
use Rattle.session_lines.specs.declared.lines.Kind.{Kind}
use Rattle.session_lines.specs.Keys.{key_of}
use Rattle.session_lines.specs.Lines.{At, Reading, ◌>>=◌, bad_line, cut, text, value}
use Rattle.session_lines.specs.Operations.{operands_at, operation_at, kind_of}
use Rattle.session_lines.specs.Session.{calls_by, calls_at}
use Rattle.session_lines.proofs.Forward.{Below, Shorter, cut_shorter, operands_below}

-- the bytes of `op=report` and its line feed
abbrev pub shortest : ℕ
shortest = 10

-- a good reading takes so many bytes at least
abbrev Takes : {A : Type 0} → ℕ → Reading A → Type 0
Takes n (Ok x) = shortest + length (x.1).rest ≤ n
Takes n (Err e) = Unit {0}

-- `report` is the shortest of the three words
kind-wide : (t : List ℕ) (k : Kind) → kind_of t ≡ Some k → 6 ≤ length t
unfolding kind_of
kind-wide t k h = grind (arith, (bytes_eq-Decides t (codes "summary")).0, (bytes_eq-Decides t (codes "convict")).0, (bytes_eq-Decides t (codes "report")).0)

first-takes : (s : At) → Takes (length s.rest) (value due.Op kind_of s)
unfolding value text
first-takes s = go (cut (key_of due.Op) s.rest) (cut_shorter (key_of due.Op) s.rest)
  where
    end : (p : List ℕ × List ℕ) → 3 + length p.0 + length p.1 < length s.rest → (o : Option Kind) → kind_of p.0 ≡ o
        → Takes (length s.rest) (ok_or o (bad_line due.Op s) >>= λ (k : Kind). Ok (k, record { rest = p.1; line = s.line + 1 }))
    end p q None h = tt
    end p q (Some k) h = let w = kind-wide p.0 k h in omega arith

    go : (o : Option (List ℕ × List ℕ)) → Shorter 3 (length s.rest) o
        → Takes (length s.rest)
        ((ok_or o (bad_line due.Op s) >>= λ (t : List ℕ × List ℕ). Ok (t.0, record { rest = t.1; line = s.line + 1 })) >>= λ (t : List ℕ × At). ok_or (kind_of t.0) (bad_line due.Op s) >>= λ (k : Kind). Ok (k, t.1))
    go None q = tt
    go (Some p) q = end p q (kind_of p.0) refl

operation-takes : (s : At) → Takes (length s.rest) (operation_at s)
unfolding operation_at
operation-takes s = go (value due.Op kind_of s) (first-takes s)
  where
    more : (n : ℕ) (m : Reading Call) → Below n m → shortest + n ≤ length s.rest → Takes (length s.rest) m
    more n (Ok c) b h = omega arith
    more n (Err e) b h = tt

    go : (m : Reading Kind) → Takes (length s.rest) m → Takes (length s.rest) (m >>= λ (k : Kind × At). operands_at k.0 k.1)
    go (Ok k) h = more (length (k.1).rest) (operands_at k.0 k.1) (operands_below k.0 k.1 (length (k.1).rest) (omega arith)) h
    go (Err e) h = tt

by-short : (k n : ℕ) (m : Reading Call) → Takes n m → ((r : At) → shortest * length (calls_at k r) ≤ length r.rest) → shortest * length (calls_by (calls_at k) m) ≤ n
by-short k n (Ok c) h f = let g = f c.1 in omega arith
by-short k n (Err e) h f = omega arith

-- a session has no more calls than a tenth of its bytes
pub calls-short : (k : ℕ) (s : At) → shortest * length (calls_at k s) ≤ length s.rest
unfolding calls_at
calls-short zero s = omega arith
calls-short (suc k) s = by-short k (length s.rest) (operation_at s) (operation-takes s) (calls-short k)
