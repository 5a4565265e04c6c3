-- Joins of any bytes: in either order, regrouped, with itself and with a fresh register.
use Rattle.std.proofs.Common.{ℕ, ◌≡◌, refl, sym, ap, ◌∙◌, true, false, cond, List, arith}
use Rattle.lists.proofs.Bools.{by}
use Rattle.octets.specs.Bytes.{Bytes}
use Rattle.errors.specs.After.{after}
use Rattle.register.specs.Memory.{well_formed, decode, encode, fresh, on_memory}
use Rattle.register_join.specs.Join.{overfull, joined, join_memory}
use Rattle.register_join.specs.Claims.{Commutative, Associative, Idempotent}
use Rattle.register.proofs.Opened.{opened, encode-decode}
use Rattle.register.proofs.Kept.{decode-valid}
use Rattle.register.proofs.Valid.{Valid, decode-encode, formed-encode}
use Rattle.register.proofs.Whole.{fresh-is}
use Rattle.register.proofs.History.{start, start-valid}
use Rattle.register_join.proofs.Loose.{Loose, loose, with-room, valid-fits}
use Rattle.register_join.proofs.Joined.{joined-loose}
use Rattle.register_join.proofs.JoinLaws.{commutative, associative, idempotent, neutral}

-- ---- what a join does to bytes that are registers, and to others

module _ (n m : List ℕ) where
  pub join-of : well_formed n ≡ true → well_formed m ≡ true
      → join_memory n m ≡ cond (overfull (joined (decode n) (decode m))) (after 5 m) (after 0 (encode (joined (decode n) (decode m))))
  unfolding join_memory on_memory
  join-of h g = grind arith

  pub none-first : well_formed n ≡ false → join_memory n m ≡ after 1 m
  unfolding join_memory
  none-first h = rw h refl

  pub none-second : well_formed m ≡ false → join_memory n m ≡ after 1 m
  unfolding join_memory on_memory
  none-second h = grind arith

-- what is known of a join that is taken
pub record Taken (n m : List ℕ) : Type 0 where
  pub first : well_formed n ≡ true
  pub second : well_formed m ≡ true
  pub room : overfull (joined (decode n) (decode m)) ≡ false
  pub is : join_memory n m ≡ after 0 (encode (joined (decode n) (decode m)))

pub taken : (n m : List ℕ) → (join_memory n m).answer ≡ 0 → Taken n m
taken n m h = record {
  first = formed-first;
  second = formed-second;
  room = roomy;
  is = join-of n m formed-first formed-second ∙ rw roomy refl;
}
  where
    formed-first : well_formed n ≡ true
    formed-first = grind (arith, none-first n m)

    formed-second : well_formed m ≡ true
    formed-second = grind (arith, none-second n m)

    roomy : overfull (joined (decode n) (decode m)) ≡ false
    roomy = grind (arith, join-of n m formed-first formed-second)

module _ (m : List ℕ) (b : Bytes m) (h : well_formed m ≡ true) where
  pub valid : Valid (decode m)
  valid = decode-valid m (opened m h) b

  pub loosely : Loose (decode m)
  loosely = loose (decode m) valid

  pub back : encode (decode m) ≡ m
  back = encode-decode m (opened m h) b

-- ---- in either order

pub either-way : Commutative
either-way n m b d =
    by (well_formed n)
    (λ h. by (well_formed m)
    (λ g. let e = commutative (decode n) (decode m) (loosely n b h) (loosely m d g) in
    record { answer = grind (arith, join-of n m h g, join-of m n g h, e); left = λ z. grind (arith, join-of n m h g, join-of m n g h, e) })
    (λ g. record { answer = grind (arith, none-second n m g, none-first m n g); left = λ z. absurd (grind (arith, none-second n m g)) }))
    (λ h. record { answer = grind (arith, none-first n m h, none-second m n h); left = λ z. absurd (grind (arith, none-first n m h)) })

-- ---- regrouped

pub regrouped : Associative
regrouped o n m c b a x y =
    let t = taken n m x in
    let u = taken o n y in
    let lo = loosely o c u.first in
    let ln = loosely n b t.first in
    let lm = loosely m a t.second in
    let v = with-room (joined (decode n) (decode m)) (joined-loose (decode n) (decode m) ln lm) t.room in
    let w = with-room (joined (decode o) (decode n)) (joined-loose (decode o) (decode n) lo ln) u.room in
    let e = associative (decode o) (decode n) (decode m) lo ln lm in
    let p = join-of o (encode (joined (decode n) (decode m))) u.first (formed-encode (joined (decode n) (decode m)) v) in
    let q = join-of (encode (joined (decode o) (decode n))) m (formed-encode (joined (decode o) (decode n)) w) t.second in
    rw (t.is, u.is, p, q, decode-encode (joined (decode n) (decode m)) v, decode-encode (joined (decode o) (decode n)) w, e)
    (by (overfull (joined (joined (decode o) (decode n)) (decode m)))
    (λ f. rw f (record { answer = refl; left = λ z. absurd (grind arith) }))
    (λ f. rw f (record { answer = refl; left = λ z. refl })))

-- ---- with itself, and with a fresh register

pub fresh-formed : well_formed fresh ≡ true
fresh-formed = ap well_formed (sym fresh-is) ∙ formed-encode start start-valid

pub fresh-decoded : decode fresh ≡ start
fresh-decoded = ap decode (sym fresh-is) ∙ decode-encode start start-valid

pub nothing-new : Idempotent
nothing-new m b h =
    let s = decode m in
    let l = loosely m b h in
    let f = valid-fits s (valid m b h) in
    let k = back m b h in
    record {
      itself = join-of m m h h ∙ rw (idempotent s l, f, k) refl;
      fresh_to = join-of fresh m fresh-formed h ∙ rw (fresh-decoded, neutral s l, f, k) refl;
      to_fresh = join-of m fresh h fresh-formed ∙ rw (fresh-decoded, commutative s start l (loose start start-valid), neutral s l, f, k) refl;
    }
