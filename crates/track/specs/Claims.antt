-- What is claimed of every track in memory with its shelf, and of every call on them (docs/REFERENCE.md, 'Track and listing'). Bytes are what a memory has. The
-- contracts of src/claims.rt name it; the proofs are in proofs/Kept, proofs/Counted and proofs/Ordered.
use Rattle.std.specs.Prelude.{◌≡◌, ◌↔◌, ℕ, ◌≤◌, true, false, List, None, length, nat_lt}
use mathlib.Core.List.{Memᴰ}
use Rattle.octets.specs.Bytes.{Bytes}
use Rattle.octets.specs.Masks.{bit}
use Rattle.record.specs.Formed.{well_formed}
use Rattle.models.specs.Models.{counts}
use Rattle.models.specs.Missing.{first_missing}
use Rattle.engines.specs.Limits.{max_engine}
use Rattle.fixes.specs.Fix.{Fix}
use Rattle.fixes.specs.Ages.{older}
use Rattle.track_transmission.specs.Held.{HeldTransmission}
use Rattle.track_arrange.specs.Claims.{InOrder}
use Rattle.track_memory.specs.Track.{Track, Transition, refused}
use Rattle.track_shelf.specs.Both.{Both, both_formed, decode_both, encode_both, on_both}
use Rattle.track.specs.Track.{track_report, left_by}
use Rattle.track.specs.Served.{kept_of, served}
use Rattle.track.specs.Calls.{Call, act, fresh, runs}

-- a track and its shelf in memory are the bytes of what they hold
abbrev pub EncodeDecode : Type 0
EncodeDecode = (m w : List ℕ) → Bytes m → both_formed m w ≡ true → encode_both (decode_both m w) ≡ (m, w)

-- a call on a track and its shelf leaves a track and its shelf
abbrev pub LeavesTrack : Type 0
LeavesTrack = (c : Call) (m w : List ℕ) → Bytes m → both_formed m w ≡ true → both_formed (on_both (act c) m w).left.0 (on_both (act c) m w).left.1 ≡ true

-- which hold what the call is defined to leave: nothing of it is lost in the bytes
abbrev pub HoldsLeft : Type 0
HoldsLeft = (c : Call) (m w : List ℕ) → Bytes m → both_formed m w ≡ true
    → decode_both (on_both (act c) m w).left.0 (on_both (act c) m w).left.1 ≡ left_by (decode_both m w) (act c (decode_both m w))

-- a call that is refused, or on bytes that are no track and its shelf, leaves the bytes of both
abbrev pub RefusalLeaves : Type 0
RefusalLeaves = (f : Both → Transition Both) (m w : List ℕ) (n : ℕ) → f (decode_both m w) ≡ refused n → (on_both f m w).left ≡ (m, w)

abbrev pub MalformedLeaves : Type 0
MalformedLeaves = (f : Both → Transition Both) (m w : List ℕ) → both_formed m w ≡ false → (on_both f m w).left ≡ (m, w)

-- a report is refused with 7 exactly where it is refused with no number before, each model that the record cites has a summary, and the record does not count
abbrev pub SevenExactlyWhere : Type 0
SevenExactlyWhere = (e : ℕ) (r : List ℕ) (b : Both)
    → (track_report e r b ≡ refused 7)
    ↔ ((nat_lt max_engine e ≡ false) × (well_formed r ≡ true) × (bit b.track.convicted e ≡ false) × (first_missing b.track.summaries r ≡ None) × (counts b.track.summaries r ≡ false))

-- ---- the order of the transmissions, and the fix that is served

abbrev pub StaysInOrder : Type 0
StaysInOrder = (c : Call) (b : Both) → InOrder b.track.transmissions → InOrder (left_by b (act c b)).track.transmissions

-- so every track that is reached from fresh bytes is in order
abbrev pub ReachedInOrder : Type 0
ReachedInOrder = (cs : List Call) → (both_formed (runs fresh cs).0 (runs fresh cs).1 ≡ true) × InOrder (decode_both (runs fresh cs).0 (runs fresh cs).1).track.transmissions

-- a track in order that has a transmission serves one fix
abbrev pub OneServed : Type 0
OneServed = (s : Track) → InOrder s.transmissions → 1 ≤ length s.transmissions → length (served s) ≡ 1

-- and that is the latest: the fix kept of no transmission is younger
abbrev pub LatestServed : Type 0
LatestServed = (s : Track) → InOrder s.transmissions
    → (t : HeldTransmission) (f g : Fix) → Memᴰ f (served s) → Memᴰ t s.transmissions → Memᴰ g (kept_of t) → older f g ≡ false
