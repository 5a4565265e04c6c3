-- A number written into a place of a table, and into a transmission.
use Prim.Native.Nat.{ℕ, ◌+◌, ◌*◌, ◌≤◌, ◌<◌}
use mathlib.Core.Path.{◌≡◌, sym, ap, ap₂, ◌∙◌}
use mathlib.Core.List.{List, [], ◌++◌, append_assoc}
use native.Mathlib.Omega.{arith}
use lib.ListN.{length, get_or, take, drop, set, length-append, take-append-drop}
use lib.Seq.{take_at, take-append-add, drop-append-add, take-append-le, drop-append-le}
use Rattle.octets.specs.Words.{word_bytes}
use Rattle.octets.specs.Writes.{put_word}
use Rattle.octets.proofs.Numbers.{length-word-bytes}
use Rattle.tables.specs.Places.{flat, table_of}
use Rattle.tables.proofs.Tables.{wide, split-at-place, replace-table, place-of-table}
use Rattle.octets.proofs.Framing.{mid-put}

-- in the second of two parts
pub put_second : (n x v : ℕ) (a b : List ℕ) → put_word n (length a + x) v (a ++ b) ≡ a ++ put_word n x v b
put_second n x v a b =
    let e : length a + x + n ≡ length a + (x + n) = omega arith in
    ap₂ (λ (p q : List ℕ). p ++ (word_bytes n v ++ q)) (take-append-add a b x) (ap (λ (k : ℕ). drop k (a ++ b)) e ∙ drop-append-add a b (x + n))
    ∙ append_assoc a (take x b) (word_bytes n v ++ drop (x + n) b)

-- in the first of two parts
pub put_first : (n x v : ℕ) (a b : List ℕ) → x + n ≤ length a → put_word n x v (a ++ b) ≡ put_word n x v a ++ b
put_first n x v a b h =
    ap₂ (λ (p q : List ℕ). p ++ (word_bytes n v ++ q)) (take-append-le x a b (omega arith)) (drop-append-le (x + n) a b h)
    ∙ sym (append_assoc (take x a) (word_bytes n v ++ drop (x + n) a) b ∙ ap (λ (l : List ℕ). take x a ++ l) (append_assoc (word_bytes n v) (drop (x + n) a) b))

-- in place k of a table
pub put-place : (w cap : ℕ) (ps : List (List ℕ)) → wide w ps → (k : ℕ) → k < length ps → (a z : List ℕ) (n s v at : ℕ) → length a ≡ at
    → get_or ps k [] ≡ a ++ (word_bytes n s ++ z)
    → put_word n (k * w + at) v (table_of w cap ps) ≡ table_of w cap (set ps k (a ++ (word_bytes n v ++ z)))
put-place w cap ps h k l a z n s v at u e =
    let d = split-at-place w cap ps k h l in
    let f = flat (take k ps) in
    let r = drop w (drop (k * w) (table_of w cap ps)) in
    let o = d.own in
    let m : length (a ++ (word_bytes n v ++ z)) ≡ w = rw length-append (rw length-append (omega (arith, ap length e ∙ length-append a (word_bytes n s ++ z), length-append (word_bytes n s) z, length-word-bytes n s, length-word-bytes n v, o))) in
    let t : table_of w cap ps ≡ (take (k * w) (table_of w cap ps) ++ a) ++ (word_bytes n s ++ (z ++ r)) = whole o in
    let g : length (take (k * w) (table_of w cap ps) ++ a) ≡ k * w + at = length-append (take (k * w) (table_of w cap ps)) a ∙ ap₂ ◌+◌ front_length u in
    ap (put_word n (k * w + at) v) t
    ∙ mid-put (take (k * w) (table_of w cap ps) ++ a) (word_bytes n s) (z ++ r) (k * w + at) n g (length-word-bytes n s) v
    ∙ append_assoc (take (k * w) (table_of w cap ps)) a (word_bytes n v ++ (z ++ r))
    ∙ ap (λ (x : List ℕ). take (k * w) (table_of w cap ps) ++ x) (sym (append_assoc a (word_bytes n v ++ z) r ∙ ap (λ (x : List ℕ). a ++ x) (append_assoc (word_bytes n v) z r)))
    ∙ replace-table w cap ps k (a ++ (word_bytes n v ++ z)) h m l
  where
    front_length : length (take (k * w) (table_of w cap ps)) ≡ k * w
    front_length =
        let d = split-at-place w cap ps k h l in
        ap (λ (x : List ℕ). length (take (k * w) x)) d.is ∙ ap length (take_at (flat (take k ps)) _ (k * w) d.before) ∙ d.before

    whole : length (get_or ps k []) ≡ w → table_of w cap ps ≡ (take (k * w) (table_of w cap ps) ++ a) ++ (word_bytes n s ++ (z ++ drop w (drop (k * w) (table_of w cap ps))))
    whole o =
        let y = drop w (drop (k * w) (table_of w cap ps)) in
        let p = place-of-table w cap ps k h l in
        sym (take-append-drop (k * w) (table_of w cap ps))
        ∙ ap (λ (x : List ℕ). take (k * w) (table_of w cap ps) ++ x) (sym (take-append-drop w (drop (k * w) (table_of w cap ps))) ∙ ap (λ (x : List ℕ). x ++ y) (p ∙ e))
        ∙ ap (λ (x : List ℕ). take (k * w) (table_of w cap ps) ++ x) (append_assoc a (word_bytes n s ++ z) y ∙ ap (λ (x : List ℕ). a ++ x) (append_assoc (word_bytes n s) z y))
        ∙ sym (append_assoc (take (k * w) (table_of w cap ps)) a (word_bytes n s ++ (z ++ y)))
