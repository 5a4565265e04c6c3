-- What is claimed of what a register shows after a list of calls: no fix is lost, none stands twice, and the oldest transmission comes first. The theorem is
-- `what-is-shown` in proofs/Shows.
-- Source: docs/REFERENCE.md, 'Register and board' and 'Any order of calls'.
use Rattle.std.specs.Prelude.{◌≡◌, true}
use mathlib.Core.List.{List, map, Memᴰ, Permᴰ}
use Rattle.lists.specs.Ordered.{Ascending}
use Rattle.decision.specs.Claims.{listed_in}
use Rattle.fixes.specs.Fix.{Fix}
use Rattle.board_fixes.specs.Fixes.{fixes_of}
use Rattle.board_transmissions.specs.Transmissions.{transmissions_of}
use Rattle.board_transmissions.specs.Claims.{Partition}
use Rattle.fixes.specs.Shown.{Transmission, shown}
use Rattle.board_picture.specs.Picture.{older_than, picture}
use Rattle.register.specs.Memory.{fresh}
use Rattle.register.specs.Calls.{Call, none_full, remaining}
use Rattle.register.specs.Remains.{summaries_held, records_held}

-- the fixes over what remains, and what they show
abbrev pub fixes_over : List Call → List Fix
fixes_over cs = fixes_of (summaries_held (remaining cs)) (records_held (remaining cs))

abbrev pub picture_over : List Call → List Transmission
picture_over cs = picture (summaries_held (remaining cs)) (records_held (remaining cs))

-- after a list of calls
pub record Shows (cs : List Call) : Type 0 where
  -- each fix is of exactly one transmission, which is everything that a chain of links leads to
  pub parted : Partition (fixes_over cs)
  -- each fix of a transmission is ranked, dominated or refused, exactly once: it has one line
  pub one_line : (c : List Fix) → Memᴰ c (transmissions_of (fixes_over cs)) → Permᴰ (listed_in (shown c)) c
  -- and some fix is ranked
  pub some_ranked : (c : List Fix) → Memᴰ c (transmissions_of (fixes_over cs)) → (f : Fix) × Memᴰ f (shown c).ranked
  -- the picture has all of them, and each is older than all that follow it: its last eight, which are written, are the latest
  pub all_shown : Permᴰ (picture_over cs) (map shown (transmissions_of (fixes_over cs)))
  pub oldest_first : Ascending older_than (picture_over cs)

-- of every list of which no call is refused as full
abbrev pub WhatIsShown : Type 0
WhatIsShown = (cs : List Call) → none_full fresh cs ≡ true → Shows cs
