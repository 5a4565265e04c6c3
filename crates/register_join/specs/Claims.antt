-- What is claimed of joins (docs/REFERENCE.md, 'Join'): a room that joins what another holds holds what remains of the calls of both, byte for byte what one room
-- would that had got them all. A reader who believes this file, and the definitions it names, needs none of the proofs.
use Rattle.std.specs.Prelude.{ℕ, zero, suc, ◌≡◌, Bool, true, false, cond, not, ◌&&◌, ◌||◌, List, [], ◌∷◌, ◌++◌, ◌-◌, ◌≤◌, eqb, length, take, drop, replicate}
use Rattle.octets.specs.Bytes.{Bytes}
use Rattle.octets.specs.Masks.{bit}
use Rattle.tables.specs.Places.{holds}
use Rattle.models.specs.Summary.{summary_size, engine_of}
use Rattle.errors.specs.After.{After, after}
use Rattle.register.specs.Layout.{summary_count_at, register_size}
use Rattle.register.specs.Memory.{well_formed, decode, encode, fresh}
use Rattle.register.specs.Calls.{Call, called, runs, none_full, convicts, reports, summaries_of, elem, fits}
use Rattle.register.specs.Claims.{HoldsExactly, SameRemains, signers_of}
use Rattle.register_join.specs.Join.{join_memory}
use Rattle.register_join.specs.Lacks.{calls_of, lacking, only_convictions, lacks_memory}

-- ---- joins and lists of calls

-- the join of what two lists leave, of which neither had a call refused as full
pub record JoinsLists (cs ds : List Call) (a : After (List ℕ)) : Type 0 where
  -- is refused as full exactly when more than 96 different records or 256 different summaries remain of both
  pub answer : a.answer ≡ cond (fits (cs ++ ds)) 0 5
  -- and else holds exactly what remains of both
  pub left : fits (cs ++ ds) ≡ true → HoldsExactly (cs ++ ds) a.left

abbrev pub JoinHoldsWhatRemains : Type 0
JoinHoldsWhatRemains = (cs ds : List Call) → none_full fresh cs ≡ true → none_full fresh ds ≡ true → JoinsLists cs ds (join_memory (runs fresh ds) (runs fresh cs))

-- where one room can take both lists one after the other, the join is that room, byte for byte
abbrev pub JoinIsTheRun : Type 0
JoinIsTheRun = (cs ds : List Call) → none_full fresh ds ≡ true → none_full fresh (cs ++ ds) ≡ true → join_memory (runs fresh ds) (runs fresh cs) ≡ after 0 (runs fresh (cs ++ ds))

-- ---- joins of any bytes

-- two joins have the same answer, and leave the same register where they are taken
pub record SameIfTaken (a b : After (List ℕ)) : Type 0 where
  pub answer : a.answer ≡ b.answer
  pub left : a.answer ≡ 0 → a.left ≡ b.left

-- whichever is joined to which
abbrev pub Commutative : Type 0
Commutative = (n m : List ℕ) → Bytes n → Bytes m → SameIfTaken (join_memory n m) (join_memory m n)

-- of three registers, in whichever order, if the first two that are joined have room
abbrev pub Associative : Type 0
Associative = (o n m : List ℕ) → Bytes o → Bytes n → Bytes m → (join_memory n m).answer ≡ 0 → (join_memory o n).answer ≡ 0
    → SameIfTaken (join_memory o (join_memory n m).left) (join_memory (join_memory o n).left m)

-- a register joined to itself, and a fresh one joined to it or it to that
pub record NothingNew (m : List ℕ) : Type 0 where
  pub itself : join_memory m m ≡ after 0 m
  pub fresh_to : join_memory fresh m ≡ after 0 m
  pub to_fresh : join_memory m fresh ≡ after 0 m

abbrev pub Idempotent : Type 0
Idempotent = (m : List ℕ) → Bytes m → well_formed m ≡ true → NothingNew m

-- ---- what one register lacks of another

-- the bytes of what m lacks of n
abbrev pub lacked : List ℕ → List ℕ → List ℕ
lacked n m = encode (lacking (decode n) (decode m))

-- what m lacks of n is written into every output that is large enough, and is a register
pub record Lacks (n m : List ℕ) : Type 0 where
  pub written : (out : List ℕ) → register_size ≤ length out → lacks_memory n m out ≡ after 0 (lacked n m ++ drop register_size out)
  pub formed : well_formed (lacked n m) ≡ true
  -- in which is exactly what n holds and m neither holds nor has convicted the engine of: convicted engines, summaries, and signers of a record
  pub convicted : (e : ℕ) → bit (decode (lacked n m)).convicted e ≡ (bit (decode n).convicted e && not (bit (decode m).convicted e))
  pub summaries : (p : List ℕ) → holds summary_size p (decode (lacked n m)).summaries
      ≡ (holds summary_size p (decode n).summaries && (not (holds summary_size p (decode m).summaries) && not (bit (decode m).convicted (engine_of p))))
  pub signers : (e : ℕ) (r : List ℕ) → bit (signers_of r (decode (lacked n m))) e
      ≡ (bit (signers_of r (decode n)) e && (not (bit (signers_of r (decode m)) e) && not (bit (decode m).convicted e)))
  -- it is a fresh register exactly where joining n changes nothing
  pub nothing_new : lacked n m ≡ fresh → join_memory n m ≡ after 0 m
  pub nothing_lacking : join_memory n m ≡ after 0 m → lacked n m ≡ fresh
  -- joining it is joining n, refusals too; and whatever else may be joined in the place of n has all of it
  pub joined : join_memory (lacked n m) m ≡ join_memory n m
  pub least : (k : List ℕ) → Bytes k → (join_memory n m).answer ≡ 0 → join_memory k m ≡ join_memory n m → join_memory (lacked n m) k ≡ after 0 k
  -- where that is not refused, its calls, given to a room that has no join, leave the join, and none of them is refused as full
  pub not_full : (join_memory n m).answer ≡ 0 → none_full m (calls_of (lacking (decode n) (decode m))) ≡ true
  pub called : (join_memory n m).answer ≡ 0 → runs m (calls_of (lacking (decode n) (decode m))) ≡ (join_memory n m).left

abbrev pub WhatIsLacking : Type 0
WhatIsLacking = (n m : List ℕ) → Bytes n → Bytes m → well_formed n ≡ true → well_formed m ≡ true → Lacks n m

-- rooms that swap what they lack hold the same then
abbrev pub Swapped : Type 0
Swapped = (n m : List ℕ) → Bytes n → Bytes m → well_formed n ≡ true → well_formed m ≡ true → SameIfTaken (join_memory (lacked n m) m) (join_memory (lacked m n) n)

-- what m lacked of n may be joined late, by whatever has all of m by then: that is joining n
abbrev pub LateAsWell : Type 0
LateAsWell = (n m k : List ℕ) → Bytes n → Bytes m → Bytes k → well_formed n ≡ true → well_formed m ≡ true → join_memory m k ≡ after 0 k
    → join_memory (lacked n m) k ≡ join_memory n k

-- every register is what its own calls leave of a fresh one
pub record ItsCalls (m : List ℕ) : Type 0 where
  pub not_full : none_full fresh (calls_of (decode m)) ≡ true
  pub called : runs fresh (calls_of (decode m)) ≡ m

abbrev pub RegisterIsItsCalls : Type 0
RegisterIsItsCalls = (m : List ℕ) → Bytes m → well_formed m ≡ true → ItsCalls m

-- ---- convictions alone

-- the convictions of n alone
abbrev pub convictions_alone : List ℕ → List ℕ
convictions_alone n = encode (only_convictions (decode n))

-- a join that is refused need not keep convictions back: the other's convictions alone, its first four bytes and zeros, are a register, and joining that is never refused
pub record ConvictionsPass (n m : List ℕ) : Type 0 where
  pub bytes : convictions_alone n ≡ take summary_count_at n ++ replicate (register_size - summary_count_at) 0
  pub formed : well_formed (convictions_alone n) ≡ true
  pub taken : (join_memory (convictions_alone n) m).answer ≡ 0

abbrev pub ConvictionsAlone : Type 0
ConvictionsAlone = (n m : List ℕ) → Bytes n → Bytes m → well_formed n ≡ true → well_formed m ≡ true → ConvictionsPass n m

-- but they make no room for n, of which the join leaves out already what either convicts
abbrev pub ConvictionsMakeNoRoom : Type 0
ConvictionsMakeNoRoom = (n m : List ℕ) → Bytes n → Bytes m → well_formed n ≡ true → well_formed m ≡ true
    → SameIfTaken (join_memory n (join_memory (convictions_alone n) m).left) (join_memory n m)

-- ---- an exchange between rooms

-- A room takes a call, joins what another room holds, or joins a packet.
--
-- A whole register on its way is a room too, that nobody calls: sent where it joins its sender, and delivered where its receiver joins it, later, more than once, or
-- never. A packet is what one room lacks of another, and no room. `packet j n k m` is its delivery to room k: it was made of what j held n events ago and k held m
-- events ago, and has what the one lacked of the other then. So it comes late, when both have taken other events since, more than once, in any order, or never.
pub data Event : Type 0 where
  call : ℕ → Call → Event
  join : ℕ → ℕ → Event
  packet : ℕ → ℕ → ℕ → ℕ → Event

-- the bytes of room i after events, the latest first, as they were n events ago
unfoldable pub rooms_ago : List Event → ℕ → ℕ → List ℕ
rooms_ago [] n i = fresh
rooms_ago (call k c ∷ es) zero i = cond (eqb i k) (called c (rooms_ago es 0 k)).left (rooms_ago es 0 i)
rooms_ago (join j k ∷ es) zero i = cond (eqb i k) (join_memory (rooms_ago es 0 j) (rooms_ago es 0 k)).left (rooms_ago es 0 i)
rooms_ago (packet j n k m ∷ es) zero i = cond (eqb i k) (join_memory (lacked (rooms_ago es n j) (rooms_ago es m k)) (rooms_ago es 0 k)).left (rooms_ago es 0 i)
rooms_ago (e ∷ es) (suc n) i = rooms_ago es n i

abbrev pub rooms : List Event → ℕ → List ℕ
rooms es i = rooms_ago es 0 i

-- whether an event is refused as full: then it changes nothing, and is as if it had not been
abbrev pub refused : Event → List Event → Bool
refused (call k c) es = eqb (called c (rooms es k)).answer 5
refused (join j k) es = eqb (join_memory (rooms es j) (rooms es k)).answer 5
refused (packet j n k m) es = eqb (join_memory (lacked (rooms_ago es n j) (rooms_ago es m k)) (rooms es k)).answer 5

-- the calls that room i knew of n events ago: those that it took, and those that a room knew of whose register it joined, or of which a packet was made that it joined
unfoldable pub known_ago : List Event → ℕ → ℕ → List Call
known_ago [] n i = []
known_ago (call k c ∷ es) zero i = cond (eqb i k && not (refused (call k c) es)) (c ∷ known_ago es 0 k) (known_ago es 0 i)
known_ago (join j k ∷ es) zero i = cond (eqb i k && not (refused (join j k) es)) (known_ago es 0 j ++ known_ago es 0 k) (known_ago es 0 i)
known_ago (packet j n k m ∷ es) zero i = cond (eqb i k && not (refused (packet j n k m) es)) (known_ago es n j ++ known_ago es 0 k) (known_ago es 0 i)
known_ago (e ∷ es) (suc n) i = known_ago es n i

abbrev pub known : List Event → ℕ → List Call
known es i = known_ago es 0 i

-- the calls that were taken, wherever
unfoldable pub made : List Event → List Call
made [] = []
made (call k c ∷ es) = cond (refused (call k c) es) (made es) (c ∷ made es)
made (join j k ∷ es) = made es
made (packet j n k m ∷ es) = made es

-- room i had got from room j, n events ago, all that j has taken itself by now, over whichever rooms it came
unfoldable pub got_ago : List Event → ℕ → ℕ → ℕ → Bool
got_ago [] n i j = true
got_ago (call k c ∷ es) zero i j = cond (eqb j k && not (refused (call k c) es)) (eqb i k && got_ago es 0 i j) (got_ago es 0 i j)
got_ago (call k c ∷ es) (suc n) i j = not (eqb j k && not (refused (call k c) es)) && got_ago es n i j
got_ago (join l k ∷ es) zero i j = cond (eqb i k && not (refused (join l k) es)) (got_ago es 0 k j || got_ago es 0 l j) (got_ago es 0 i j)
got_ago (join l k ∷ es) (suc n) i j = got_ago es n i j
got_ago (packet l n k m ∷ es) zero i j = cond (eqb i k && not (refused (packet l n k m) es)) (got_ago es 0 k j || got_ago es n l j) (got_ago es 0 i j)
got_ago (packet l o k m ∷ es) (suc n) i j = got_ago es n i j

abbrev pub got : List Event → ℕ → ℕ → Bool
got es i j = got_ago es 0 i j

-- the same calls, order and repeats aside
pub record SameCalls (cs ds : List Call) : Type 0 where
  pub convicted : (e : ℕ) → convicts cs e ≡ convicts ds e
  pub reported : (e : ℕ) (r : List ℕ) → reports cs e r ≡ reports ds e r
  pub summarized : (p : List ℕ) → elem p (summaries_of cs) ≡ elem p (summaries_of ds)

-- each room holds exactly what remains of the calls that it knows of, and rooms that know of the same calls hold the same bytes
pub record Exchanged (es : List Event) : Type 0 where
  -- what was some events ago is what was after the events before those
  pub rooms_then : (n i : ℕ) → rooms_ago es n i ≡ rooms (drop n es) i
  pub known_then : (n i : ℕ) → known_ago es n i ≡ known (drop n es) i
  pub holds : (i : ℕ) → HoldsExactly (known es i) (rooms es i)
  pub same : (i j : ℕ) → SameCalls (known es i) (known es j) → rooms es i ≡ rooms es j
  -- and so does one room that took those calls alone, in any order, if it could
  pub alone : (i : ℕ) (cs : List Call) → SameCalls (known es i) cs → none_full fresh cs ≡ true → rooms es i ≡ runs fresh cs

-- of whatever events
abbrev pub Exchange : Type 0
Exchange = (es : List Event) → Exchanged es

-- rooms of two exchanges, of which the same reports and summaries remain, hold the same bytes, but for the convicted set, which comes first
abbrev pub ButConvicted : Type 0
ButConvicted = (es fs : List Event) (i j : ℕ) → SameRemains (known es i) (known fs j) → drop summary_count_at (rooms es i) ≡ drop summary_count_at (rooms fs j)

-- rooms that have got from every room hold the same bytes, which hold exactly what remains of all calls that were taken
pub record Converged (es : List Event) : Type 0 where
  pub same : (i k : ℕ) → ((j : ℕ) → got es i j ≡ true) → ((j : ℕ) → got es k j ≡ true) → rooms es i ≡ rooms es k
  pub holds : (i : ℕ) → ((j : ℕ) → got es i j ≡ true) → HoldsExactly (made es) (rooms es i)
  -- what one room would that had been called all of it, in any order, if it could
  pub alone : (i : ℕ) (cs : List Call) → ((j : ℕ) → got es i j ≡ true) → SameCalls (made es) cs → none_full fresh cs ≡ true → rooms es i ≡ runs fresh cs

abbrev pub Convergence : Type 0
Convergence = (es : List Event) → Converged es

-- ---- a call after a join

-- a call after a join, and the join after that call, where the join was taken and the call alone is not refused as full: the one is refused as full exactly where the
-- other is, and else both leave the same bytes
pub record CallAndJoin (c : Call) (n m : List ℕ) : Type 0 where
  pub full : eqb (called c (join_memory n m).left).answer 5 ≡ eqb (join_memory n (called c m).left).answer 5
  pub left : eqb (called c (join_memory n m).left).answer 5 ≡ false → (called c (join_memory n m).left).left ≡ (join_memory n (called c m).left).left

abbrev pub CallAfterJoin : Type 0
CallAfterJoin = (c : Call) (n m : List ℕ) → Bytes n → Bytes m → (join_memory n m).answer ≡ 0 → eqb (called c m).answer 5 ≡ false → CallAndJoin c n m
