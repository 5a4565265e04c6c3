-- What is claimed of the transmissions of fixes: they part the fixes, and each is everything that a chain of links leads to. The theorem is `partition` in
-- proofs/Partition.
-- Source: docs/REFERENCE.md, 'Register and board', step 2.
use Rattle.std.specs.Prelude.{◌≡◌, ◌↔◌}
use mathlib.Core.List.{List, [], ◌∷◌, Memᴰ}
use Rattle.fixes.specs.Fix.{Fix}
use Rattle.board_transmissions.specs.Transmissions.{transmissions_of}
use Rattle.board_transmissions.specs.Chains.{Chain}
use Rattle.board_transmissions.specs.Positions.{one, two, both}

pub record Partition (fs : List Fix) : Type 0 where
  -- each fix is of a transmission
  pub each : (f : Fix) → Memᴰ f fs → (c : List Fix) × Memᴰ c (transmissions_of fs) × Memᴰ f c
  -- which is everything that a chain leads to from it
  pub whole : (c : List Fix) → Memᴰ c (transmissions_of fs) → (f : Fix) → Memᴰ f c → (g : Fix) → Memᴰ g c ↔ Chain fs f g
  -- and of no other
  pub one : (c d : List Fix) → Memᴰ c (transmissions_of fs) → Memᴰ d (transmissions_of fs) → (f : Fix) → Memᴰ f c → Memᴰ f d → c ≡ d

-- fixes of the tags {1}, {2} and {1,2} make one transmission
abbrev pub Position6 : Type 0
Position6 = transmissions_of (one ∷ two ∷ both ∷ []) ≡ (one ∷ two ∷ both ∷ []) ∷ []
