-- A call after a join is the join after that call; and the calls of what a register lacks of another, given to it, leave the join.
use Rattle.std.proofs.Common.{ℕ, ◌+◌, ◌≤◌, ◌≡◌, refl, sym, ap, ap₂, ◌∙◌, Bool, true, false, cond, ◌&&◌, List, [], ◌∷◌, ◌++◌, append-nil, arith, eqb, ltb, length, take, drop, replicate, ◌-◌, length-take-le}
use lib.ListN.{replicate-append-replicate}
use borrow.Author.Tests.{eqb-false}
use Rattle.lists.proofs.Bools.{by}
use Rattle.octets.specs.Bytes.{Bytes}
use Rattle.octets.specs.Masks.{bit}
use Rattle.octets.specs.Order.{same}
use Rattle.octets.proofs.Comparison.{same-eq, same_refl, before-irrefl, before-asym}
use Rattle.octets.proofs.Lookup.{bit-zero}
use Rattle.octets.specs.Words.{word, word_bytes}
use Rattle.octets.proofs.Numbers.{bytes_take, bytes_drop, bytes-of-word}
use Rattle.tables.specs.Places.{ascending, holds, keep_places, flat}
use Rattle.tables.proofs.Keeping.{kept-length}
use Rattle.tables.proofs.Keys.{from-ascending, none_below}
use Rattle.models.specs.Summary.{summary_size, engine_of}
use Rattle.record.specs.Layout.{record_size}
use Rattle.errors.specs.After.{After, after}
use Rattle.models.specs.Limits.{summaries_size}
use Rattle.models.specs.Summaries.{no_value}
use Rattle.register.specs.Layout.{summary_count_at, summaries_at, records_size, register_size}
use Rattle.register.proofs.Opened.{opened}
use Rattle.register.specs.Register.{Register}
use Rattle.register.specs.Memory.{well_formed, decode, encode, fresh, on_memory, summary_count, summary_table}
use Rattle.register.specs.Calls.{Call, called, report, summary, conviction, runs, none_full, convicts, reports, summaries_of, elem, fits}
use Rattle.register.proofs.Acting.{act, convicted-by}
use Rattle.register.specs.Claims.{signers_of}
use Rattle.register_join.specs.Join.{overfull, joined, join_memory, united, is_of_free, has_free_signer, drop_signers}
use Rattle.register_join.specs.Lacks.{calls_of, is_lacking, lacking, engines_in, conviction_calls, summary_calls, record_calls, only_convictions, lacks_memory}
use Rattle.register_join.specs.Claims.{SameIfTaken, SameCalls, CallAndJoin, CallAfterJoin, Lacks, WhatIsLacking, convictions_alone, ConvictionsPass, ConvictionsAlone, ConvictionsMakeNoRoom}
use Rattle.register.proofs.Valid.{Valid, decode-encode, formed-encode}
use Rattle.register.proofs.History.{start, run, roomy, Sum, history}
use Rattle.register_join.proofs.Stepping.{step}
use Rattle.register.proofs.Whole.{some-bit, called-encode, fresh-is}
use Rattle.register.proofs.Room.{conviction-roomy}
use Rattle.desks.specs.declared.Desk.TheVariants.{Manager}
use Rattle.desks.specs.Desks.{number_of}
use Rattle.register_join.proofs.Stepping.{fits-next}
use Rattle.register_join.proofs.Loose.{loose, with-room, valid-fits, held-signed, registers-same, none-convicted, summary-passes}
use Rattle.register_join.proofs.Joined.{joined-loose, joined-convicted, joined-holds, joined-signers}
use Rattle.register_join.proofs.JoinLaws.{empty, nothing-held, nothing-signed}
use Rattle.register_join.proofs.JoinBytes.{join-of, taken, valid, loosely, back, nothing-new}
use Rattle.register_join.proofs.JoinLists.{Has, of-sum, sum-of, has-both, has-as, has-same, fits-is, join-encoded, reports-both, summaries-both, convicts-both}
use Rattle.register_join.proofs.Exchanging.{Stands, stands-call, stands-join, stands-same}
use Rattle.register_join.proofs.Packets.{least, no-room}
use Rattle.register_join.proofs.Calling.{AllBytes, places-bytes, has-calls, summaries-convict, records-convict}
use Rattle.register_join.proofs.Lacked.{lacking-loose, lacking-convicted, lacking-holds, lacking-signers, lacking-joined, lacking-valid}

-- ---- every register is that of some list

module _ (m : List ℕ) (b : Bytes m) (h : well_formed m ≡ true) where
  summary-bytes : AllBytes (decode m).summaries
  unfolding decode
  summary-bytes = places-bytes summary_size (summary_count m) (summary_table m) (bytes_take summaries_size _ (bytes_drop summaries_at m b))

  its-sum : Sum (calls_of (decode m)) (decode m)
  its-sum = sum-of (calls_of (decode m)) (decode m) (has-calls (decode m) (loosely m b h) summary-bytes) (valid-fits (decode m) (valid m b h))

  pub of-some : Stands (calls_of (decode m)) m
  of-some = record {
    register = decode m;
    bytes = sym (back m b h);
    sum = its-sum;
  }

-- ---- a call moved past a list

moved : (c : Call) (gs hs : List Call) → SameCalls (gs ++ (c ∷ hs)) (c ∷ (gs ++ hs))
moved c gs hs =
    let one : List Call = c ∷ [] in
    record {
      convicted = λ e. grind (arith, convicts-both gs (one ++ hs) e, convicts-both one hs e, convicts-both one (gs ++ hs) e, convicts-both gs hs e);
      reported = λ e r. grind (arith, reports-both gs (one ++ hs) e r, reports-both one hs e r, reports-both one (gs ++ hs) e r, reports-both gs hs e r);
      summarized = λ p. grind (arith, summaries-both gs (one ++ hs) p, summaries-both one hs p, summaries-both one (gs ++ hs) p, summaries-both gs hs p);
    }

stands-as : (cs ds : List Call) (m : List ℕ) → SameCalls cs ds → Stands cs m → Stands ds m
stands-as cs ds m q a = record {
  register = a.register;
  bytes = a.bytes;
  sum = sum-of ds a.register (has-as cs ds a.register q (of-sum cs a.register a.sum)) (valid-fits a.register a.sum.valid);
}

-- ---- a call after a join

module _ (c : Call) (hs gs : List Call) (n m : List ℕ) (a : Stands hs m) (b : Stands gs n) (z : eqb (join_memory n m).answer 5 ≡ false) (f : eqb (called c m).answer 5 ≡ false) where
  j : Stands (gs ++ hs) (join_memory n m).left
  j = stands-join hs gs m n a b z

  d : Stands (c ∷ hs) (called c m).left
  d = stands-call c hs m a f

  abbrev both : Register
  both = joined b.register d.register

  has-all : Has (c ∷ (gs ++ hs)) both
  has-all = has-as (gs ++ (c ∷ hs)) (c ∷ (gs ++ hs)) both (moved c gs hs) (has-both gs (c ∷ hs) b.register d.register (of-sum gs b.register b.sum) (of-sum (c ∷ hs) d.register d.sum))

  first-full : eqb (called c (join_memory n m).left).answer 5 ≡ overfull both
  first-full =
      let s = j.register in
      let o : called c (join_memory n m).left ≡ after (act c s).answer (encode (act c s).left) = ap (called c) j.bytes ∙ called-encode s j.sum.valid c in
      ap (λ (x : After (List ℕ)). eqb x.answer 5) o ∙ grind (arith, fits-next c (gs ++ hs) s j.sum, fits-is (c ∷ (gs ++ hs)) both has-all)

  second-full : eqb (join_memory n (called c m).left).answer 5 ≡ overfull both
  second-full =
      let o : join_memory n (called c m).left ≡ cond (overfull both) (after 5 (encode d.register)) (after 0 (encode both)) = ap₂ join_memory b.bytes d.bytes ∙ join-encoded b.register d.register b.sum.valid d.sum.valid in
      grind arith

  pub call-and-join : CallAndJoin c n m
  call-and-join = record {
    full = first-full ∙ sym second-full;
    left = λ k.
        stands-same (c ∷ (gs ++ hs)) (c ∷ (gs ++ hs)) (called c (join_memory n m).left).left (join_memory n (called c m).left).left
        (stands-call c (gs ++ hs) (join_memory n m).left j k)
        (stands-as (gs ++ (c ∷ hs)) (c ∷ (gs ++ hs)) (join_memory n (called c m).left).left (moved c gs hs) (stands-join (c ∷ hs) gs (called c m).left n d b (second-full ∙ sym first-full ∙ k)))
        (record { convicted = λ e. refl; reported = λ e r. refl; summarized = λ p. refl });
  }

pub call-after-join : CallAfterJoin
call-after-join c n m b d z f =
    let t = taken n m z in
    call-and-join c (calls_of (decode m)) (calls_of (decode n)) n m (of-some m d t.second) (of-some n b t.first) (rw z refl) f

-- ---- fewer places where fewer are held

fewer : (k : ℕ) (qs ps : List (List ℕ)) → ascending k ps ≡ true → ascending k qs ≡ true → ((key : List ℕ) → holds k key ps ≡ true → holds k key qs ≡ true) → length ps ≤ length qs
unfolding holds ascending
fewer k [] [] a b h = omega arith
fewer k [] (p ∷ ps) a b h = grind (arith, h (take k p), same_refl (take k p))
fewer k (q ∷ qs) [] a b h = omega arith
fewer k (q ∷ qs) (p ∷ ps) a b h =
    by (same (take k q) (take k p))
    (λ x. let e = same-eq (take k q) (take k p) x in
    let ih = fewer k qs ps (from-ascending k (take k p) ps a) (from-ascending k (take k q) qs b)
    (λ key g. grind (arith, h key, e, same-eq (take k q) key, before-irrefl key, none_below k key (take k p) ps)) in
    omega arith)
    (λ x. let ih = fewer k qs (p ∷ ps) a (from-ascending k (take k q) qs b) (λ key g. other key g x) in omega arith)
  where
    -- the first of qs is not held among ps: it would stand after the first of ps, which stands after it
    other : (key : List ℕ) → holds k key (p ∷ ps) ≡ true → same (take k q) (take k p) ≡ false → holds k key qs ≡ true
    other key g x = grind (arith, h key, h (take k p), same_refl (take k p), same-eq (take k q) key, same-eq (take k p) key, none_below k key (take k p) ps, none_below k (take k p) (take k q) qs, before-asym (take k q) (take k p))

-- a register that holds no more than another has room where that has
module _ (cs ds : List Call) (u v : Register) (a : Has cs u) (b : Has ds v)
    (p : (e : ℕ) → convicts cs e ≡ convicts ds e) (q : (e : ℕ) (r : List ℕ) → reports cs e r ≡ true → reports ds e r ≡ true)
    (w : (x : List ℕ) → elem x (summaries_of cs) ≡ true → elem x (summaries_of ds) ≡ true) where
  summaries-fewer : length u.summaries ≤ length v.summaries
  summaries-fewer = fewer summary_size v.summaries u.summaries a.loose.summaries_ascend b.loose.summaries_ascend (λ x h. grind (arith, a.held x, b.held x, p (engine_of x), w x))

  bits-fewer : (e : ℕ) (r : List ℕ) → bit (signers_of r u) e ≡ true → bit (signers_of r v) e ≡ true
  bits-fewer e r h = grind (arith, a.signed_by e r, b.signed_by e r, p e, q e r)

  some-signer : (r : List ℕ) → eqb (signers_of r u) 0 ≡ false → eqb (signers_of r v) 0 ≡ false
  some-signer r h =
      let n = some-bit (signers_of r u) (eqb-false (signers_of r u) 0 h) in
      let o = bits-fewer n.0 r n.1 in
      by (eqb (signers_of r v) 0) (λ z. grind (arith, bit-zero n.0, o, z)) (λ z. z)

  records-fewer : length u.records ≤ length v.records
  records-fewer = fewer record_size v.records u.records a.loose.records_ascend b.loose.records_ascend (λ r h. grind (arith, held-signed u a.loose r, held-signed v b.loose r, some-signer r))

  pub room-too : overfull v ≡ false → overfull u ≡ false
  room-too h = grind (arith, summaries-fewer, records-fewer)

-- ---- calls with no conviction among them are not refused where all of them have room

never-full : (c : Call) → eqb (act c start).answer 5 ≡ false
unfolding holds
never-full (report e r) = grind arith
never-full (summary e model spec inputs) = grind arith
never-full (conviction d e) = conviction-roomy d e start

alone : (c : Call) → Has (c ∷ []) (act c start).left
alone c = of-sum (c ∷ []) (act c start).left (step c [] start (unfold run in history [] (unfold roomy in refl)) (never-full c))

-- the next call of a list, of which all have room
next-fits : (c : Call) (cs hs : List Call) (s j : Register) → Has hs s → Has ((c ∷ cs) ++ hs) j → overfull j ≡ false → ((e : ℕ) → convicts (c ∷ cs) e ≡ false) → fits (c ∷ hs) ≡ true
next-fits c cs hs s j a b o n =
    let one : List Call = c ∷ [] in
    let u = joined (act c start).left s in
    let h : Has (c ∷ hs) u = has-both one hs (act c start).left s (alone c) a in
    let r : overfull u ≡ false =
    room-too (c ∷ hs) ((c ∷ cs) ++ hs) u j h b
    (λ e. grind (arith, n e, convicts-both one hs e, convicts-both (one ++ cs) hs e, convicts-both one cs e))
    (λ e r g. grind (arith, reports-both one hs e r, reports-both (one ++ cs) hs e r, reports-both one cs e r))
    (λ p g. grind (arith, summaries-both one hs p, summaries-both (one ++ cs) hs p, summaries-both one cs p)) o in
    fits-is (c ∷ hs) u h ∙ rw r refl

no-later : (c : Call) (cs : List Call) → ((e : ℕ) → convicts (c ∷ cs) e ≡ false) → (e : ℕ) → convicts cs e ≡ false
no-later c cs n e = let one : List Call = c ∷ [] in grind (arith, n e, convicts-both one cs e)

-- what is given to a register one call after another
pub record Given (cs hs : List Call) (m : List ℕ) : Type 0 where
  pub not_full : none_full m cs ≡ true
  pub left : Stands (cs ++ hs) (runs m cs)

given : (cs hs : List Call) (m : List ℕ) (j : Register) → Stands hs m → Has (cs ++ hs) j → overfull j ≡ false → ((e : ℕ) → convicts cs e ≡ false) → Given cs hs m
unfolding none_full runs
given [] hs m j a b o n = record { not_full = refl; left = a }
given (c ∷ cs) hs m j a b o n =
    let s = a.register in
    let k : called c m ≡ after (act c s).answer (encode (act c s).left) = ap (called c) a.bytes ∙ called-encode s a.sum.valid c in
    let f : eqb (called c m).answer 5 ≡ false =
    ap (λ (x : After (List ℕ)). eqb x.answer 5) k ∙ grind (arith, fits-next c hs s a.sum, next-fits c cs hs s j (of-sum hs s a.sum) b o n) in
    let ih = given cs (c ∷ hs) (called c m).left j (stands-call c hs m a f) (has-as ((c ∷ cs) ++ hs) (cs ++ (c ∷ hs)) j (back-moved c cs hs) b) o (no-later c cs n) in
    record { not_full = rw (f, ih.not_full) refl; left = stands-as (cs ++ (c ∷ hs)) (c ∷ (cs ++ hs)) (runs (called c m).left cs) (moved c cs hs) ih.left }
  where
    back-moved : (c : Call) (gs hs : List Call) → SameCalls (c ∷ (gs ++ hs)) (gs ++ (c ∷ hs))
    back-moved c gs hs = let q = moved c gs hs in record { convicted = λ e. sym (q.convicted e); reported = λ e r. sym (q.reported e r); summarized = λ p. sym (q.summarized p) }

-- convictions are never refused as full
conviction-taken : (e : ℕ) (m : List ℕ) → eqb (called (conviction (number_of Manager) e) m).answer 5 ≡ false
unfolding on_memory
conviction-taken e m = grind (arith, convicted-by Manager e m)

convictions-given : (es : List ℕ) (hs : List Call) (m : List ℕ) → Stands hs m → Given (conviction_calls es) hs m
unfolding none_full runs conviction_calls
convictions-given [] hs m a = record { not_full = refl; left = a }
convictions-given (e ∷ es) hs m a =
    let c = conviction (number_of Manager) e in
    let f = conviction-taken e m in
    let ih = convictions-given es (c ∷ hs) (called c m).left (stands-call c hs m a f) in
    record { not_full = rw (f, ih.not_full) refl; left = stands-as (conviction_calls es ++ (c ∷ hs)) (c ∷ (conviction_calls es ++ hs)) (runs (called c m).left (conviction_calls es)) (moved c (conviction_calls es) hs) ih.left }

runs-both : (m : List ℕ) (cs ds : List Call) → runs m (cs ++ ds) ≡ runs (runs m cs) ds
unfolding runs
runs-both m [] ds = refl
runs-both m (c ∷ cs) ds = runs-both (called c m).left cs ds

none-both : (m : List ℕ) (cs ds : List Call) → none_full m (cs ++ ds) ≡ (none_full m cs && none_full (runs m cs) ds)
unfolding none_full runs
none-both m [] ds = refl
none-both m (c ∷ cs) ds = grind (arith, none-both (called c m).left cs ds)

-- ---- what is lacking, given

-- the places that stay are bytes
kept-bytes : (test : List ℕ → Bool) (ps : List (List ℕ)) → AllBytes ps → AllBytes (keep_places summary_size test no_value ps)
unfolding keep_places
kept-bytes test [] b = tt
kept-bytes test (p ∷ ps) b = by (test p) (λ h. rw h (rw append-nil (bytes_take summary_size p b.0), kept-bytes test ps b.1)) (λ h. rw h (kept-bytes test ps b.1))

module _ (n m : List ℕ) (b : Bytes n) (a : Bytes m) (g : well_formed n ≡ true) (h : well_formed m ≡ true) where
  abbrev t : Register
  t = decode n

  abbrev s : Register
  s = decode m

  abbrev delta : Register
  delta = lacking t s

  delta-valid : Valid delta
  delta-valid = lacking-valid t s (valid n b g) (loosely m a h)

  joins-it : join_memory (encode delta) m ≡ join_memory n m
  joins-it =
      join-of (encode delta) m (formed-encode delta delta-valid) h
      ∙ rw (decode-encode delta delta-valid, lacking-joined s (loosely m a h) t (loosely n b g)) refl
      ∙ sym (join-of n m g h)

  -- a fresh register is lacking exactly where joining changes nothing
  nothing-new-then : encode delta ≡ fresh → join_memory n m ≡ after 0 m
  nothing-new-then e = sym joins-it ∙ ap (λ (o : List ℕ). join_memory o m) e ∙ (nothing-new m a h).fresh_to

  unchanged : join_memory n m ≡ after 0 m → joined t s ≡ s
  unchanged z =
      let k = taken n m (ap (λ (x : After (List ℕ)). x.answer) z) in
      let v = with-room (joined t s) (joined-loose t s (loosely n b g) (loosely m a h)) k.room in
      sym (decode-encode (joined t s) v) ∙ ap decode (ap (λ (x : After (List ℕ)). x.left) (sym k.is ∙ z))

  nothing-lacking : join_memory n m ≡ after 0 m → encode delta ≡ fresh
  nothing-lacking z =
      let q = unchanged z in
      let u = loosely n b g in
      let v = loosely m a h in
      ap encode
      (registers-same delta start (lacking-loose s v t u) (empty s v)
      (λ e. grind (arith, lacking-convicted s v t u e, joined-convicted t s u v e, ap (λ (x : Register). bit x.convicted e) q, bit-zero e))
      (λ p. grind (arith, lacking-holds s v t u p, joined-holds t s u v p, ap (λ (x : Register). holds summary_size p x.summaries) q, nothing-held s v p, λ (o : holds summary_size p t.summaries ≡ true). summary-passes t u p o))
      (λ e r. grind (arith, lacking-signers s v t u e r, joined-signers t s u v e r, ap (λ (x : Register). bit (signers_of r x) e) q, nothing-signed s v e r, none-convicted t u r e)))
      ∙ fresh-is

  lacked-written : (out : List ℕ) → register_size ≤ length out → lacks_memory n m out ≡ after 0 (encode delta ++ drop register_size out)
  unfolding lacks_memory
  lacked-written out l = let o : ltb (length out) register_size ≡ false = grind (arith, l) in rw (h, g, o) refl

  module _ (z : (join_memory n m).answer ≡ 0) where
    abbrev hs : List Call
    hs = calls_of s

    abbrev first : List Call
    first = conviction_calls (engines_in delta.convicted)

    abbrev second : List Call
    second = summary_calls delta.summaries ++ record_calls delta.records

    lacking-bytes : AllBytes delta.summaries
    unfolding lacking
    lacking-bytes = kept-bytes (is_lacking s.convicted s.summaries) t.summaries (summary-bytes n b g)

    delta-has : Has (first ++ second) delta
    delta-has = has-calls delta (loose delta delta-valid) lacking-bytes

    whole : Has ((first ++ second) ++ hs) (joined delta s)
    whole = has-both (first ++ second) hs delta s delta-has (of-sum hs s (its-sum m a h))

    room : overfull (joined delta s) ≡ false
    room = rw (lacking-joined s (loosely m a h) t (loosely n b g)) (taken n m z).room

    one : Given first hs m
    one = convictions-given (engines_in delta.convicted) hs m (of-some m a h)

    turned : SameCalls ((first ++ second) ++ hs) (second ++ (first ++ hs))
    turned = record {
      convicted = λ e. grind (arith, convicts-both (first ++ second) hs e, convicts-both first second e, convicts-both second (first ++ hs) e, convicts-both first hs e);
      reported = λ e r. grind (arith, reports-both (first ++ second) hs e r, reports-both first second e r, reports-both second (first ++ hs) e r, reports-both first hs e r);
      summarized = λ p. grind (arith, summaries-both (first ++ second) hs p, summaries-both first second p, summaries-both second (first ++ hs) p, summaries-both first hs p);
    }

    no-convictions : (e : ℕ) → convicts second e ≡ false
    no-convictions e = grind (arith, convicts-both (summary_calls delta.summaries) (record_calls delta.records) e, summaries-convict delta.summaries e, records-convict delta.records e)

    two : Given second (first ++ hs) (runs m first)
    two = given second (first ++ hs) (runs m first) (joined delta s) one.left (has-as ((first ++ second) ++ hs) (second ++ (first ++ hs)) (joined delta s) turned whole) room no-convictions

    not-full : none_full m (calls_of delta) ≡ true
    not-full = none-both m first second ∙ rw (one.not_full, two.not_full) refl

    given-all : runs m (calls_of delta) ≡ (join_memory n m).left
    given-all =
        let w = two.left in
        runs-both m first second
        ∙ w.bytes
        ∙ ap encode (has-same (second ++ (first ++ hs)) (second ++ (first ++ hs)) w.register (joined delta s)
        (of-sum (second ++ (first ++ hs)) w.register w.sum) (has-as ((first ++ second) ++ hs) (second ++ (first ++ hs)) (joined delta s) turned whole)
        (record { convicted = λ e. refl; reported = λ e r. refl; summarized = λ p. refl }))
        ∙ ap encode (lacking-joined s (loosely m a h) t (loosely n b g))
        ∙ sym (ap (λ (x : After (List ℕ)). x.left) (taken n m z).is)

  -- what else makes the same join has all that is lacking
  least-of : (k : List ℕ) → Bytes k → (join_memory n m).answer ≡ 0 → join_memory k m ≡ join_memory n m → join_memory (encode delta) k ≡ after 0 k
  least-of k d z e =
      let w = taken n m z in
      let u = taken k m (ap (λ (x : After (List ℕ)). x.answer) e ∙ z) in
      let lt = loosely n b g in
      let ls = loosely m a h in
      let lk = loosely k d u.first in
      let v = with-room (joined t s) (joined-loose t s lt ls) w.room in
      let y = with-room (joined (decode k) s) (joined-loose (decode k) s lk ls) u.room in
      let same : joined (decode k) s ≡ joined t s =
      sym (decode-encode (joined (decode k) s) y)
      ∙ ap decode (ap (λ (x : After (List ℕ)). x.left) (sym u.is ∙ e ∙ w.is))
      ∙ decode-encode (joined t s) v in
      join-of (encode delta) k (formed-encode delta delta-valid) u.first
      ∙ rw (decode-encode delta delta-valid, least t s (decode k) lt ls lk same, valid-fits (decode k) (valid k d u.first), back k d u.first) refl

  pub lacks : Lacks n m
  lacks =
      let o = decode-encode delta delta-valid in
      let u = loosely n b g in
      let v = loosely m a h in
      record {
        written = lacked-written;
        formed = formed-encode delta delta-valid;
        convicted = λ e. ap (λ (x : Register). bit x.convicted e) o ∙ lacking-convicted s v t u e;
        summaries = λ p. ap (λ (x : Register). holds summary_size p x.summaries) o ∙ lacking-holds s v t u p;
        signers = λ e r. ap (λ (x : Register). bit (signers_of r x) e) o ∙ grind (arith, lacking-signers s v t u e r);
        nothing_new = nothing-new-then;
        nothing_lacking = nothing-lacking;
        joined = joins-it;
        least = least-of;
        not_full = not-full;
        called = given-all;
      }

pub what-is-lacking : WhatIsLacking
what-is-lacking = lacks

-- ---- convictions alone

module _ (n m : List ℕ) (b : Bytes n) (a : Bytes m) (g : well_formed n ≡ true) (h : well_formed m ≡ true) where
  only-valid : Valid (only_convictions (decode n))
  only-valid = record {
    small = (valid n b g).small;
    few_summaries = omega arith;
    few_records = omega arith;
    summaries_wide = tt;
    records_wide = tt;
    summaries_ascend = unfold ascending in refl;
    records_ascend = unfold ascending in refl;
    summaries_formed = refl;
    records_held = refl;
  }

  only-room : overfull (joined (only_convictions (decode n)) (decode m)) ≡ false
  unfolding joined united keep_places
  only-room =
      let v = valid m a h in
      let c = (decode n).convicted in
      let x = kept-length summary_size (is_of_free c) no_value (decode m).summaries in
      let y = kept-length record_size (has_free_signer c) (drop_signers c) (decode m).records in
      grind (arith, x, y, v.few_summaries, v.few_records)

  -- four bytes, and zeros
  only-bytes : encode (only_convictions (decode n)) ≡ take summary_count_at n ++ replicate (register_size - summary_count_at) 0
  unfolding encode decode word_bytes flat
  only-bytes =
      let z : List ℕ = replicate 4 0 in
      let y : List ℕ = replicate summaries_size 0 ++ replicate records_size 0 in
      let l : length (take 4 n) ≡ 4 = length-take-le 4 n (let o = (opened n g).size in omega arith) in
      let e : word_bytes 4 (word (take 4 n)) ≡ take 4 n = ap (λ (i : ℕ). word_bytes i (word (take 4 n))) (sym l) ∙ bytes-of-word (take 4 n) (bytes_take 4 n b) in
      ap (λ (x : List ℕ). x ++ (z ++ y)) e
      ∙ ap (λ (x : List ℕ). take 4 n ++ x) (ap (λ (x : List ℕ). z ++ x) (replicate-append-replicate summaries_size records_size 0) ∙ replicate-append-replicate 4 (summaries_size + records_size) 0)

  pub convictions-pass : ConvictionsPass n m
  convictions-pass = record {
    bytes = only-bytes;
    formed = formed-encode (only_convictions (decode n)) only-valid;
    taken =
        ap (λ (x : After (List ℕ)). x.answer) (join-of (encode (only_convictions (decode n))) m (formed-encode (only_convictions (decode n)) only-valid) h)
        ∙ rw (decode-encode (only_convictions (decode n)) only-valid, only-room) refl;
  }

  -- which make no room
  makes-no-room : SameIfTaken (join_memory n (join_memory (convictions_alone n) m).left) (join_memory n m)
  makes-no-room =
      let o = formed-encode (only_convictions (decode n)) only-valid in
      let x = decode-encode (only_convictions (decode n)) only-valid in
      let l = loose (only_convictions (decode n)) only-valid in
      let y = taken (convictions_alone n) m convictions-pass.taken in
      let j = joined (only_convictions (decode n)) (decode m) in
      let v = with-room j (joined-loose (only_convictions (decode n)) (decode m) l (loosely m a h)) only-room in
      let k : (join_memory (convictions_alone n) m).left ≡ encode j = ap (λ (x : After (List ℕ)). x.left) y.is ∙ rw x refl in
      let p = join-of n (encode j) g (formed-encode j v) in
      let q = join-of n m g h in
      rw (k, p, q, decode-encode j v, no-room (decode n) (decode m) (loosely n b g) (loosely m a h) l)
      (by (overfull (joined (decode n) (decode m)))
      (λ f. rw f (record { answer = refl; left = λ z. absurd (grind arith) }))
      (λ f. rw f (record { answer = refl; left = λ z. refl })))

pub convictions-pass-alone : ConvictionsAlone
convictions-pass-alone = convictions-pass

pub no-room-made : ConvictionsMakeNoRoom
no-room-made = makes-no-room
