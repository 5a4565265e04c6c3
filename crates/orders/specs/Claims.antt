-- Whether the order of calls matters. To a track it does: one that takes S, M, L serves L, and one that takes L, S, M serves M. To a board it does not: the same
-- calls in those two orders, or in any other two where nothing is refused as full, show the same board. A reader who believes this file, and the definitions it
-- names, needs none of the proofs; the contract of src/claims.rt names the claim, and the proof is in proofs/Claimed.
-- Source: docs/REFERENCE.md, 'Any order of calls' and 'Track and listing'.
use Rattle.std.specs.Prelude.{ℕ, ◌≤◌, ◌≡◌, true, length, Option, Some, None, if◌then◌else◌}
use Rattle.std.specs.List.{filter_map}
use mathlib.Core.List.{List, [], ◌∷◌, map, Permᴰ}
use Rattle.decision.specs.Positions.{S, M, L}
use Rattle.desks.specs.Desks.{may_convict, has_right}
use Rattle.register.specs.Layout.{max_records}
use Rattle.register.specs.Calls.{Call, report, summary, conviction, none_full}
use Rattle.register.specs.Memory as R
use Rattle.track_merge.specs.Merged.{merged_number}
use Rattle.track_merge.specs.declared.Merged.TheVariants.{Changed}
use Rattle.track_memory.specs.Track.{Track}
use Rattle.track_memory.specs.Memory as T
use Rattle.track_shelf.specs.Both.{on_both}
use Rattle.track.specs.Served.{served}
use Rattle.track.specs.Calls as C
use Rattle.board.specs.Claims.{SameInBothRooms}

-- ---- calls on a track

-- a track has the calls of a register, and no desk: a conviction that is refused for its desk is no call of a track
abbrev pub on_track : Call → Option C.Call
on_track (report e r) = Some (C.report e r)
on_track (summary e model spec inputs) = Some (C.summary e model spec inputs)
on_track (conviction desk e) = if has_right may_convict desk then Some (C.conviction e) else None

abbrev pub track_calls : List Call → List C.Call
track_calls cs = filter_map on_track cs

-- the bytes of a fresh track, and of the fresh shelf beside it, after the calls of a list
abbrev pub both_bytes : List Call → List ℕ × List ℕ
both_bytes cs = C.runs C.fresh (track_calls cs)

-- those of the track
abbrev pub track_bytes : List Call → List ℕ
track_bytes cs = (both_bytes cs).0

-- the track that they are
abbrev pub track_after : List Call → Track
track_after cs = T.decode (track_bytes cs)

-- what each call of a track is answered, first to last
unfoldable pub track_answers : List ℕ × List ℕ → List C.Call → List ℕ
track_answers p [] = []
track_answers p (c ∷ cs) = (on_both (C.act c) p.0 p.1).answer ∷ track_answers (on_both (C.act c) p.0 p.1).left cs

-- the record of the fix that a track serves, if it serves one
abbrev pub serves : Track → List (List ℕ)
serves s = map (λ f. f.record_bytes) (served s)

-- ---- three nested fixes of one transmission, reported by one engine in two orders

abbrev pub growing : List Call
growing = report 1 S ∷ report 1 M ∷ report 1 L ∷ []

abbrev pub largest_first : List Call
largest_first = report 1 L ∷ report 1 S ∷ report 1 M ∷ []

-- a track that takes S, M, L serves L, and one that takes L, S, M serves M
pub record Position9 : Type 0 where
  pub serves_l : serves (track_after growing) ≡ L ∷ []
  pub serves_m : serves (track_after largest_first) ≡ M ∷ []
  -- in the second order L was refused, against an S that is no longer held
  pub none_contested : (track_after growing).contested ≡ 0
  pub one_contested : (track_after largest_first).contested ≡ 1
  -- the answers do not tell: each is Changed
  pub growing_answers : track_answers C.fresh (track_calls growing) ≡ merged_number Changed ∷ merged_number Changed ∷ merged_number Changed ∷ []
  pub largest_first_answers : track_answers C.fresh (track_calls largest_first) ≡ merged_number Changed ∷ merged_number Changed ∷ merged_number Changed ∷ []

-- ---- the claim

-- any two orders of any list, where no call is refused as full, leave the same register and show the same board
abbrev pub OrderFreeBoard : Type 0
OrderFreeBoard =
    (north south : List Call) → Permᴰ north south → none_full R.fresh north ≡ true → none_full R.fresh south ≡ true → SameInBothRooms north south

-- of at most 96 calls none is
abbrev pub FewAlwaysFit : Type 0
FewAlwaysFit = (cs : List Call) → length cs ≤ max_records → none_full R.fresh cs ≡ true

pub record OrderMatters : Type 0 where
  pub position_9 : Position9
  -- the two lists are one list in two orders; the tracks differ, and the boards do not
  pub one_list : Permᴰ growing largest_first
  pub tracks_differ : track_bytes growing ≡ track_bytes largest_first → ⊥
  pub boards_agree : SameInBothRooms growing largest_first
  -- the boards do not, whatever the list
  pub board_in_any_order : OrderFreeBoard
  pub few_always_fit : FewAlwaysFit
