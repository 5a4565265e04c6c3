-- Rooms that take calls and join one another: what each holds is what remains of the calls that it knows of.
use Rattle.std.proofs.Common.{ℕ, zero, suc, ◌≡◌, refl, sym, ap, subst, ◌∙◌, Bool, true, false, cond, not, ◌&&◌, ◌||◌, List, [], ◌∷◌, ◌++◌, drop, arith, eqb, eqb-true, eq-eqb}
use Rattle.lists.proofs.Bools.{by, same_test, and_left, and_right}
use Rattle.octets.specs.Order.{same}
use Rattle.std.specs.List.{list_any}
use Rattle.models.specs.Summary.{summary_of}
use Rattle.errors.specs.After.{After, after}
use Rattle.register.specs.Register.{Register}
use Rattle.register.specs.Memory.{well_formed, decode, encode, fresh, on_memory}
use Rattle.register.specs.Calls.{Call, called, report, summary, conviction, convicts, reports, summaries_of, elem, is_conviction_of, is_report_of}
use Rattle.register.proofs.Acting.{act, called-is}
use Rattle.register.specs.Claims.{HoldsExactly}
use Rattle.register_join.specs.Join.{overfull, joined, join_memory}
use Rattle.register_join.specs.Claims.{lacked, Event, call, join, packet, rooms_ago, rooms, known_ago, known, refused, made, got_ago, got, SameCalls, Exchange, Convergence}
use Rattle.register.proofs.Valid.{formed-encode}
use Rattle.register.proofs.History.{start, run, roomy, Sum, history}
use Rattle.register_join.proofs.Stepping.{step}
use Rattle.register.proofs.Whole.{called-encode, fresh-is, last, both}
use Rattle.register_join.proofs.Loose.{valid-fits}
use Rattle.register_join.proofs.Packets.{late-encoded}
use Rattle.register_join.proofs.JoinLists.{of-sum, sum-of, has-both, has-as, has-same, has-list, exactly, join-encoded}

-- the bytes are a register that holds what a list has
pub record Stands (cs : List Call) (m : List ℕ) : Type 0 where
  pub register : Register
  pub bytes : m ≡ encode register
  pub sum : Sum cs register

pub stands-fresh : Stands [] fresh
stands-fresh = record { register = start; bytes = sym fresh-is; sum = unfold run in history [] (unfold roomy in refl) }

-- after a call
pub stands-call : (c : Call) (cs : List Call) (m : List ℕ) → Stands cs m → eqb (called c m).answer 5 ≡ false → Stands (c ∷ cs) (called c m).left
stands-call c cs m a n =
    let s = a.register in
    let o : called c m ≡ after (act c s).answer (encode (act c s).left) = ap (called c) a.bytes ∙ called-encode s a.sum.valid c in
    record {
      register = (act c s).left;
      bytes = ap (λ (x : After (List ℕ)). x.left) o;
      sum = step c cs s a.sum (sym (ap (λ (x : After (List ℕ)). eqb x.answer 5) o) ∙ n);
    }

-- after a join
pub stands-join : (cs ds : List Call) (m n : List ℕ) → Stands cs m → Stands ds n → eqb (join_memory n m).answer 5 ≡ false → Stands (ds ++ cs) (join_memory n m).left
stands-join cs ds m n a b k =
    let s = a.register in
    let t = b.register in
    let o : join_memory n m ≡ cond (overfull (joined t s)) (after 5 (encode s)) (after 0 (encode (joined t s))) = rw (a.bytes, b.bytes) (join-encoded t s b.sum.valid a.sum.valid) in
    by (overfull (joined t s))
    (λ f. absurd (grind arith))
    (λ f. record {
      register = joined t s;
      bytes = ap (λ (x : After (List ℕ)). x.left) o ∙ rw f refl;
      sum = sum-of (ds ++ cs) (joined t s) (has-both ds cs t s (of-sum ds t b.sum) (of-sum cs s a.sum)) f;
    })

-- a call that is refused leaves the bytes, and so does a join
still-call : (c : Call) (cs : List Call) (m : List ℕ) → Stands cs m → eqb (called c m).answer 5 ≡ true → (called c m).left ≡ m
unfolding on_memory
still-call c cs m a n =
    let w : well_formed m ≡ true = rw a.bytes (formed-encode a.register a.sum.valid) in
    let o = called-is c m w in
    by (eqb (act c (decode m)).answer 0) (λ z. absurd (grind (arith, o))) (λ z. rw o (rw (w, z) refl))

still-join : (n m : List ℕ) → eqb (join_memory n m).answer 5 ≡ true → (join_memory n m).left ≡ m
unfolding join_memory on_memory
still-join n m h = grind arith

-- after a packet, made where the room knew of no more than it does now
pub stands-packet : (cs ds gs : List Call) (m n o : List ℕ) → Stands cs m → Stands ds n → Stands gs o → SameCalls (gs ++ cs) cs → eqb (join_memory (lacked n o) m).answer 5 ≡ false
    → Stands (ds ++ cs) (join_memory (lacked n o) m).left
stands-packet cs ds gs m n o a b g q k =
    let x = a.register in
    let t = b.register in
    let s = g.register in
    let has : joined s x ≡ x = has-same (gs ++ cs) cs (joined s x) x (has-both gs cs s x (of-sum gs s g.sum) (of-sum cs x a.sum)) (of-sum cs x a.sum) q in
    let e : join_memory (lacked n o) m ≡ join_memory n m = rw (a.bytes, b.bytes, g.bytes) (late-encoded t s x b.sum.valid g.sum.valid a.sum.valid has) in
    rw e (stands-join cs ds m n a b (sym (ap (λ (y : After (List ℕ)). eqb y.answer 5) e) ∙ k))

any-both : (P : Call → Bool) (cs ds : List Call) → list_any P (cs ++ ds) ≡ (list_any P cs || list_any P ds)
any-both P [] ds = refl
any-both P (c ∷ cs) ds = grind (arith, any-both P cs ds)

-- a room knows of what it knew of
module _ (P : Call → Bool) where
  after-one : (e : Event) (es : List Event) (i : ℕ) → list_any P (known es i) ≡ true → list_any P (known (e ∷ es) i) ≡ true
  unfolding known_ago
  after-one (call k c) es i h = grind (arith, eqb-true i k)
  after-one (join j k) es i h = grind (arith, eqb-true i k, any-both P (known es j) (known es k))
  after-one (packet j n k m) es i h = grind (arith, eqb-true i k, any-both P (known_ago es n j) (known es k))

  still-known : (es : List Event) (n i : ℕ) → list_any P (known_ago es n i) ≡ true → list_any P (known es i) ≡ true
  unfolding known_ago
  still-known [] n i h = h
  still-known (e ∷ es) zero i h = h
  still-known (call k c ∷ es) (suc n) i h = after-one (call k c) es i (still-known es n i h)
  still-known (join j k ∷ es) (suc n) i h = after-one (join j k) es i (still-known es n i h)
  still-known (packet j o k m ∷ es) (suc n) i h = after-one (packet j o k m) es i (still-known es n i h)

  knows-again : (es : List Event) (n i : ℕ) → list_any P (known_ago es n i ++ known es i) ≡ list_any P (known es i)
  knows-again es n i = grind (arith, any-both P (known_ago es n i) (known es i), still-known es n i)

abbrev is_summary : List ℕ → Call → Bool
is_summary p (report k q) = false
is_summary p (summary k model spec inputs) = same (summary_of k model spec inputs) p
is_summary p (conviction d k) = false

any-summary : (p : List ℕ) (cs : List Call) → elem p (summaries_of cs) ≡ list_any (is_summary p) cs
unfolding elem summaries_of
any-summary p [] = refl
any-summary p (report k q ∷ cs) = any-summary p cs
any-summary p (summary k model spec inputs ∷ cs) = grind (arith, any-summary p cs)
any-summary p (conviction d k ∷ cs) = any-summary p cs

-- two lists of which any has what any of the other has are the same calls
same-any : (cs ds : List Call) → ((P : Call → Bool) → list_any P cs ≡ list_any P ds) → SameCalls cs ds
same-any cs ds h = record {
  convicted = λ e. unfold convicts in h (is_conviction_of e);
  reported = λ e r. unfold reports in h (is_report_of e r);
  summarized = λ p. any-summary p cs ∙ h (is_summary p) ∙ sym (any-summary p ds);
}

pub stands : (es : List Event) (n i : ℕ) → Stands (known_ago es n i) (rooms_ago es n i)
unfolding known_ago rooms_ago
stands [] n i = stands-fresh
stands (call k c ∷ es) zero i =
    by (eqb i k)
    (λ e. by (eqb (called c (rooms es k)).answer 5)
    (λ r. let q = eqb-true i k e in rw (e, r, still-call c (known es k) (rooms es k) (stands es 0 k) r) (subst (λ (n : ℕ). Stands (known es n) (rooms es k)) (sym q) (stands es 0 k)))
    (λ r. rw (e, r) (stands-call c (known es k) (rooms es k) (stands es 0 k) r)))
    (λ e. rw e (stands es 0 i))
stands (call k c ∷ es) (suc n) i = stands es n i
stands (join j k ∷ es) zero i =
    by (eqb i k)
    (λ e. by (eqb (join_memory (rooms es j) (rooms es k)).answer 5)
    (λ r. let q = eqb-true i k e in rw (e, r, still-join (rooms es j) (rooms es k) r) (subst (λ (n : ℕ). Stands (known es n) (rooms es k)) (sym q) (stands es 0 k)))
    (λ r. rw (e, r) (stands-join (known es k) (known es j) (rooms es k) (rooms es j) (stands es 0 k) (stands es 0 j) r)))
    (λ e. rw e (stands es 0 i))
stands (join j k ∷ es) (suc n) i = stands es n i
stands (packet j o k m ∷ es) zero i =
    let parcel = lacked (rooms_ago es o j) (rooms_ago es m k) in
    by (eqb i k)
    (λ e. by (eqb (join_memory parcel (rooms es k)).answer 5)
    (λ r. let q = eqb-true i k e in rw (e, r, still-join parcel (rooms es k) r) (subst (λ (n : ℕ). Stands (known es n) (rooms es k)) (sym q) (stands es 0 k)))
    (λ r. rw (e, r) (stands-packet (known es k) (known_ago es o j) (known_ago es m k) (rooms es k) (rooms_ago es o j) (rooms_ago es m k) (stands es 0 k) (stands es o j) (stands es m k)
    (same-any (known_ago es m k ++ known es k) (known es k) (λ P. knows-again P es m k)) r)))
    (λ e. rw e (stands es 0 i))
stands (packet j o k m ∷ es) (suc n) i = stands es n i

-- ---- the claim

pub stands-same : (cs ds : List Call) (m n : List ℕ) → Stands cs m → Stands ds n → SameCalls cs ds → m ≡ n
stands-same cs ds m n a b q =
    a.bytes ∙ ap encode (has-same cs ds a.register b.register (of-sum cs a.register a.sum) (of-sum ds b.register b.sum) q) ∙ sym b.bytes

pub stands-holds : (cs : List Call) (m : List ℕ) → Stands cs m → HoldsExactly cs m
stands-holds cs m a = rw a.bytes (exactly cs a.register (of-sum cs a.register a.sum) (valid-fits a.register a.sum.valid))

-- what was some events ago
rooms-then : (es : List Event) (n i : ℕ) → rooms_ago es n i ≡ rooms (drop n es) i
unfolding rooms_ago
rooms-then [] zero i = refl
rooms-then [] (suc n) i = refl
rooms-then (e ∷ es) zero i = refl
rooms-then (call k c ∷ es) (suc n) i = rooms-then es n i
rooms-then (join j k ∷ es) (suc n) i = rooms-then es n i
rooms-then (packet j o k m ∷ es) (suc n) i = rooms-then es n i

known-then : (es : List Event) (n i : ℕ) → known_ago es n i ≡ known (drop n es) i
unfolding known_ago
known-then [] zero i = refl
known-then [] (suc n) i = refl
known-then (e ∷ es) zero i = refl
known-then (call k c ∷ es) (suc n) i = known-then es n i
known-then (join j k ∷ es) (suc n) i = known-then es n i
known-then (packet j o k m ∷ es) (suc n) i = known-then es n i

pub exchange : Exchange
exchange es = record {
  rooms_then = rooms-then es;
  known_then = known-then es;
  holds = λ i. stands-holds (known es i) (rooms es i) (stands es 0 i);
  same = λ i j q. stands-same (known es i) (known es j) (rooms es i) (rooms es j) (stands es 0 i) (stands es 0 j) q;
  alone = λ i cs q f.
      let a = stands es 0 i in
      a.bytes ∙ ap encode (has-same (known es i) cs a.register (last cs f) (of-sum (known es i) a.register a.sum) (has-list cs f) q) ∙ sym (both cs f).0;
}

-- ---- rooms that have got from every room

-- the calls of one room
unfoldable calls_at : List Event → ℕ → List Call
calls_at [] j = []
calls_at (call k c ∷ es) j = cond (eqb j k && not (refused (call k c) es)) (c ∷ calls_at es j) (calls_at es j)
calls_at (join l k ∷ es) j = calls_at es j
calls_at (packet l n k m ∷ es) j = calls_at es j

module _ (P : Call → Bool) where
  -- what a room was called, a room that has got from it knows of
  gotten : (es : List Event) (n i j : ℕ) → got_ago es n i j ≡ true → list_any P (calls_at es j) ≡ true → list_any P (known_ago es n i) ≡ true
  unfolding got_ago calls_at known_ago
  gotten [] n i j g h = h
  gotten (call k c ∷ es) zero i j g h = grind (arith, gotten es 0 i j, gotten es 0 k k, eqb-true i k, eqb-true j k)
  gotten (call k c ∷ es) (suc n) i j g h =
      let r = eqb j k && not (refused (call k c) es) in
      let none : not r ≡ true = and_left (not r) (got_ago es n i j) g in
      let had : got_ago es n i j ≡ true = and_right (not r) (got_ago es n i j) g in
      grind (arith, gotten es n i j had, none)
  gotten (join l k ∷ es) zero i j g h = grind (arith, gotten es 0 i j, gotten es 0 k j, gotten es 0 l j, any-both P (known es l) (known es k))
  gotten (join l k ∷ es) (suc n) i j g h = gotten es n i j g h
  gotten (packet l o k m ∷ es) zero i j g h = grind (arith, gotten es 0 i j, gotten es 0 k j, gotten es o l j, any-both P (known_ago es o l) (known es k))
  gotten (packet l o k m ∷ es) (suc n) i j g h = gotten es n i j g h

  -- what a room knew of was made
  known-made : (es : List Event) (n i : ℕ) → list_any P (known_ago es n i) ≡ true → list_any P (made es) ≡ true
  unfolding made known_ago
  known-made [] n i h = h
  known-made (call k c ∷ es) zero i h = grind (arith, known-made es 0 i, known-made es 0 k)
  known-made (call k c ∷ es) (suc n) i h = grind (arith, known-made es n i)
  known-made (join l k ∷ es) zero i h = grind (arith, known-made es 0 i, known-made es 0 k, known-made es 0 l, any-both P (known es l) (known es k))
  known-made (join l k ∷ es) (suc n) i h = known-made es n i h
  known-made (packet l o k m ∷ es) zero i h = grind (arith, known-made es 0 i, known-made es 0 k, known-made es o l, any-both P (known_ago es o l) (known es k))
  known-made (packet l o k m ∷ es) (suc n) i h = known-made es n i h

  -- what was made, was made at a room
  made_at : (es : List Event) → list_any P (made es) ≡ true → (j : ℕ) × (list_any P (calls_at es j) ≡ true)
  unfolding made calls_at
  made_at [] h = absurd (grind arith)
  made_at (call k c ∷ es) h =
      by (refused (call k c) es)
      (λ r. let w = made_at es (sym (rw r refl) ∙ h) in (w.0, grind (arith, w.1, r)))
      (λ r. by (P c)
      (λ b. (k, rw (eq-eqb k k refl, r, b) refl))
      (λ b. let w = made_at es (sym (rw (r, b) refl) ∙ h) in (w.0, grind (arith, w.1, r))))
  made_at (join l k ∷ es) h = made_at es h
  made_at (packet l n k m ∷ es) h = made_at es h

  all-known : (es : List Event) (i : ℕ) → ((j : ℕ) → got es i j ≡ true) → list_any P (known es i) ≡ list_any P (made es)
  all-known es i g = same_test (list_any P (known es i)) (list_any P (made es)) (known-made es 0 i) (λ h. let w = made_at es h in gotten es 0 i w.0 (g w.0) w.1)

all-calls : (es : List Event) (i : ℕ) → ((j : ℕ) → got es i j ≡ true) → SameCalls (known es i) (made es)
all-calls es i g = same-any (known es i) (made es) (λ P. all-known P es i g)

same-sym : (cs ds : List Call) → SameCalls cs ds → SameCalls ds cs
same-sym cs ds q = record { convicted = λ e. sym (q.convicted e); reported = λ e r. sym (q.reported e r); summarized = λ p. sym (q.summarized p) }

same-trans : (cs ds bs : List Call) → SameCalls cs ds → SameCalls ds bs → SameCalls cs bs
same-trans cs ds bs q w = record { convicted = λ e. q.convicted e ∙ w.convicted e; reported = λ e r. q.reported e r ∙ w.reported e r; summarized = λ p. q.summarized p ∙ w.summarized p }

pub convergence : Convergence
convergence es = record {
  same = λ i k g f. stands-same (known es i) (known es k) (rooms es i) (rooms es k) (stands es 0 i) (stands es 0 k)
      (same-trans (known es i) (made es) (known es k) (all-calls es i g) (same-sym (known es k) (made es) (all-calls es k f)));
  holds = λ i g.
      let a = stands es 0 i in
      stands-holds (made es) (rooms es i) (record {
        register = a.register;
        bytes = a.bytes;
        sum = sum-of (made es) a.register (has-as (known es i) (made es) a.register (all-calls es i g) (of-sum (known es i) a.register a.sum)) (valid-fits a.register a.sum.valid);
      });
  alone = λ i cs g q f. (exchange es).alone i cs (same-trans (known es i) (made es) cs (all-calls es i g) q) f;
}

-- a room that has got from every room holds what all calls that were taken have
pub stands-made : (es : List Event) (i : ℕ) → ((j : ℕ) → got es i j ≡ true) → Stands (made es) (rooms es i)
stands-made es i g =
    let a = stands es 0 i in
    record {
      register = a.register;
      bytes = a.bytes;
      sum = sum-of (made es) a.register (has-as (known es i) (made es) a.register (all-calls es i g) (of-sum (known es i) a.register a.sum)) (valid-fits a.register a.sum.valid);
    }
