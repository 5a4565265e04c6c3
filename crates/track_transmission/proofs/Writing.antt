-- Laws of places that are written one after another into a cleared table.
use Prim.Native.Nat.{ℕ, ◌+◌, ◌-◌, ◌*◌, ◌≤◌, ◌<◌}
use mathlib.Core.Path.{◌≡◌, refl, sym, ap, ◌∙◌}
use mathlib.Core.List.{List, [], ◌∷◌, ◌++◌, map, map-append, append-nil}
use native.Mathlib.Omega.{arith}
use native.Mathlib.Nat.{add-mul, zero-add}
use native.Mathlib.Numerals.{add-one}
use lib.ListN.{length, get_or, take, drop, set, replicate, length-replicate, length-map, replicate-append-replicate}
use lib.Seq.{take-suc, drop_at, take_all}
use Rattle.octets.specs.Put.{Put}
use Rattle.octets.proofs.Puts.{put_whole, put_as, put-put, put-none}
use Rattle.tables.specs.Places.{flat, table_of}
use Rattle.tables.proofs.Tables.{flat_append}

-- one place more
flat-next : {A : Type 0} (f : A → List ℕ) (l : List A) (i : ℕ) (d : A) → i < length l → flat (map f (take i l)) ++ f (get_or l i d) ≡ flat (map f (take (i + 1) l))
unfolding flat
flat-next {A} f l i d k =
    let z = take i l in
    let x = get_or l i d in
    ap (λ (y : List ℕ). flat (map f z) ++ y) (sym (append-nil (f x)))
    ∙ sym (flat_append (map f z) (f x ∷ []))
    ∙ ap flat (sym (map-append f z (x ∷ [])))
    ∙ ap (λ (y : List A). flat (map f y)) (sym (take-suc l i d k) ∙ ap (λ (m : ℕ). take m l) (sym (add-one i)))

-- a text at the front of a buffer
put_front : {r : ℕ} {l t m : List ℕ} → Put l 0 t r m → r ≤ length l → m ≡ t ++ drop r l
put_front {r} {l} {t} {m} p h =
    put_whole p (omega (arith, p.next)) ∙ ap (λ (k : ℕ). t ++ drop k l) (sym p.next)

-- all of them are the table
put-table : (w cap : ℕ) (ps : List (List ℕ)) {r : ℕ} {l t : List ℕ}
    → Put l 0 (flat ps) r t → l ≡ replicate (cap * w) 0 → length (flat ps) ≡ length ps * w → length ps ≤ cap → t ≡ table_of w cap ps
put-table w cap ps {r} {l} {t} p z e h =
    let n = length ps in
    let a : cap * w ≡ n * w + (cap - n) * w = ap (λ (i : ℕ). i * w) (all cap n h) ∙ add-mul n (cap - n) w in
    let m : length l ≡ cap * w = ap length z ∙ length-replicate (cap * w) 0 in
    let y : l ≡ replicate (n * w) 0 ++ replicate ((cap - n) * w) 0 = z ∙ ap (λ (k : ℕ). replicate k 0) a ∙ sym (replicate-append-replicate (n * w) ((cap - n) * w) 0) in
    put_front p (omega (arith, p.next))
    ∙ ap (λ (x : List ℕ). flat ps ++ x)
    (ap (λ (k : ℕ). drop k l) (p.next ∙ zero-add (length (flat ps)) ∙ e) ∙ ap (drop (n * w)) y ∙ drop_at (replicate (n * w) 0) (replicate ((cap - n) * w) 0) (n * w) (length-replicate (n * w) 0))
  where
    all : (c n : ℕ) → n ≤ c → c ≡ n + (c - n)
    all c n h = omega arith

-- ---- the members of a list written one after another

-- of the members of l the first i stand in a buffer, and the next goes behind them
pub record Written {A : Type 0} (w : ℕ) (f : A → List ℕ) (l : List A) (b : List ℕ) (i at : ℕ) (out : List ℕ) : Type 0 where
  pub next : at ≡ i * w
  pub text : Put b 0 (flat (map f (take i l))) at out

module _ {A : Type 0} (w : ℕ) (f : A → List ℕ) (l : List A) (b : List ℕ) where
  pub written-none : Written w f l b 0 0 b
  unfolding flat
  written-none = record { next = omega arith; text = put-none b 0 }

  pub written-next : (i at r : ℕ) (out out' : List ℕ) (x : A) → Written w f l b i at out → i < length l → x ≡ get_or l i x → (r ≡ at + w) × Put out at (f x) r out' → Written w f l b (i + 1) r out'
  written-next i at r out out' x k h e p = record {
    next = let n = k.next in omega (arith, p.0, n);
    text = put_as (flat-next f l i x h) (put-put k.text (put_as (ap f e) p.1));
  }

  -- all of them in a cleared buffer are the table
  pub written-table : (c i at : ℕ) (was out : List ℕ) → Written w f l b i at out → b ≡ replicate (length was) 0 → length was ≡ c * w → length l ≤ c → i ≤ length l → length l ≤ i → out ≡ table_of w c (map f l)
  written-table c i at was out k cleared size few here end =
      let all : take i l ≡ l = take_all i l end in
      let q : Put b 0 (flat (map f l)) at out = put_as (ap (λ (x : List A). flat (map f x)) all) k.text in
      let m = length-map l f in
      let n : i ≡ length (map f l) = omega (arith, m) in
      put-table w c (map f l) q (cleared ∙ ap (λ (z : ℕ). replicate z 0) size)
      (sym (zero-add (length (flat (map f l)))) ∙ sym q.next ∙ k.next ∙ ap (λ (z : ℕ). z * w) n) (omega arith)

-- two counts at the head
pub counted : (h : List ℕ) (n m : ℕ) → length h ≡ 2 → set (set h 0 n) 1 m ≡ n ∷ (m ∷ [])
counted [] n m e = absurd (omega arith)
counted (x ∷ []) n m e = absurd (omega arith)
counted (x ∷ (y ∷ [])) n m e = refl
counted (x ∷ (y ∷ (z ∷ h))) n m e = absurd (omega arith)
