-- What is claimed of the limit in time that a link has: when two records link, which fixes are one transmission by it, and that a later burst
-- does not touch the transmissions of an earlier one, nor the earlier those of the later. The theorems are in proofs/Limits, proofs/Symmetry and proofs/Bursts.
-- Source: docs/REFERENCE.md, 'Register and board', step 2.
use Rattle.std.specs.Prelude.{ℕ, ◌+◌, ◌-◌, ◌^◌, ◌≤◌, ◌<◌, ◌≡◌, Bool, true, false, ◌⊎◌, ◌↔◌, ltb, leb}
use mathlib.Core.List.{List, [], ◌∷◌, map, Memᴰ}
use Rattle.record.specs.Fields.{time}
use Rattle.record.specs.Formed.{well_formed}
use Rattle.record.specs.Relations.{tied}
use Rattle.std.specs.List.{filter}
use Rattle.fixes.specs.Fix.{Fix}
use Rattle.fixes.specs.Ages.{time_of}
use Rattle.fixes.specs.Shown.{Transmission, shown}
use Rattle.board_transmissions.specs.Transmissions.{link_span, time_difference, records_link, linked, transmission_of, transmissions_of}
use Rattle.board_transmissions.specs.Claims.{Partition}
use Rattle.board_transmissions.specs.Positions.{sent}

-- ---- when two records link

-- message and a tag are common, and neither was sent more than link_span after the other
abbrev pub LinkExactlyWhen : Type 0
LinkExactlyWhen = (a b : List ℕ) → (records_link a b ≡ true) ↔ ((tied a b ≡ true) × (time a ≤ time b + link_span) × (time b ≤ time a + link_span))

abbrev pub LinkGoesBothWays : Type 0
LinkGoesBothWays = (a b : List ℕ) → records_link a b ≡ records_link b a

-- ---- by computation

-- whether two fixes of one tag, sent at these times, link, in both orders
pub record AtTimes (s t : ℕ) (link : Bool) : Type 0 where
  pub forwards : linked (sent 1 (1 ∷ []) s) (sent 2 (1 ∷ []) t) ≡ link
  pub backwards : linked (sent 2 (1 ∷ []) t) (sent 1 (1 ∷ []) s) ≡ link

-- at most 2,000,000,000: to the nanosecond, and without wrapping
pub record Limit : Type 0 where
  pub under : AtTimes 0 1_999_999_999 true
  pub exactly : AtTimes 0 2_000_000_000 true
  pub over : AtTimes 0 2_000_000_001 false
  pub ends : AtTimes 0 (2 ^ 64 - 1) false

-- fixes at 0, 2 and 4 seconds, the last with these tags
abbrev pub start : Fix
start = sent 1 (1 ∷ []) 0

abbrev pub middle : Fix
middle = sent 2 (1 ∷ 2 ∷ []) 2_000_000_000

abbrev pub end : List ℕ → Fix
end tags = sent 3 tags 4_000_000_000

-- they are one transmission, and the ends alone are two
pub record Joined (tags : List ℕ) : Type 0 where
  pub all : transmissions_of (start ∷ middle ∷ end tags ∷ []) ≡ (start ∷ middle ∷ end tags ∷ []) ∷ []
  pub ends : transmissions_of (start ∷ end tags ∷ []) ≡ (start ∷ []) ∷ (end tags ∷ []) ∷ []

-- chains join, so a transmission as a whole may be longer than a link
pub record ChainsJoin : Type 0 where
  -- where the last has a tag of the second alone
  pub by_tags : Joined (2 ∷ [])
  -- and where it has the tag of both others, and only the time is too far from the first
  pub by_times : Joined (1 ∷ 3 ∷ [])

-- ---- bursts

-- no fix was sent in the link_span after s: each was sent by then, or later than that
abbrev pub Pause : ℕ → List Fix → Type 0
Pause s fs = (f : Fix) → Memᴰ f fs → (time_of f ≤ s) ⊎ (s + link_span < time_of f)

-- the fixes sent by s, and those sent after it
abbrev pub sent_by : ℕ → List Fix → List Fix
sent_by s fs = filter (λ f. leb (time_of f) s) fs

abbrev pub sent_after : ℕ → List Fix → List Fix
sent_after s fs = filter (λ f. ltb s (time_of f)) fs

-- where there is such a pause
pub record BurstsApart (s : ℕ) (fs : List Fix) : Type 0 where
  -- no transmission has fixes from before it and from after it
  pub one_burst : (c : List Fix) → Memᴰ c (transmissions_of fs) → (f g : Fix) → Memᴰ f c → Memᴰ g c → time_of f ≤ s → time_of g ≤ s
  -- and the transmission of each fix is what it would be if the other burst had not been received
  pub before_alone : (f : Fix) → Memᴰ f fs → time_of f ≤ s → transmission_of fs f ≡ transmission_of (sent_by s fs) f
  pub after_alone : (f : Fix) → Memᴰ f fs → s < time_of f → transmission_of fs f ≡ transmission_of (sent_after s fs) f

-- of the fixes of every board, which are parted into transmissions and have well-formed records
abbrev pub BurstsStayApart : Type 0
BurstsStayApart =
    (fs : List Fix) → Partition fs → ((f : Fix) → Memᴰ f fs → well_formed f.record_bytes ≡ true)
    → (s : ℕ) → Pause s fs → BurstsApart s fs

-- what is shown of a fix alone: it is ranked, and nothing is dominated or refused
abbrev pub ranks_alone : Fix → Transmission
ranks_alone f = record { ranked = f ∷ []; dominated = []; refused = [] }

-- Of two fixes further apart than a link each ranks alone, whatever tags and positions they have: a subset an hour away is not dominated, and refuses nobody.
abbrev pub FarSubset : Type 0
FarSubset =
    (f g : Fix) → well_formed f.record_bytes ≡ true → well_formed g.record_bytes ≡ true → link_span < time_difference (time_of f) (time_of g)
    → map shown (transmissions_of (f ∷ g ∷ [])) ≡ ranks_alone f ∷ ranks_alone g ∷ []
