-- What a track holds, and what an operation on it answers and leaves (docs/REFERENCE.md, 'Operations' and 'Track and listing').
use Rattle.std.specs.Prelude.{ℕ, List}
use Rattle.track_transmission.specs.Held.{HeldTransmission}

-- The convicted engines, bit n for engine n; how many fixes entered a list of refused; the summaries, each its 36 bytes, one for each engine and model, in
-- ascending order; the transmissions.
pub record Track : Type 0 where
  pub convicted : ℕ
  pub contested : ℕ
  pub summaries : List (List ℕ)
  pub transmissions : List HeldTransmission

-- an operation is refused with a number, or it answers one and leaves something
pub data Transition (A : Type 0) : Type 0 where
  refused : ℕ → Transition A
  done : ℕ → A → Transition A

abbrev pub with_transmissions : List HeldTransmission → Track → Track
with_transmissions ts s = record { convicted = s.convicted; contested = s.contested; summaries = s.summaries; transmissions = ts }

abbrev pub with_summaries : List (List ℕ) → Track → Track
with_summaries ss s = record { convicted = s.convicted; contested = s.contested; summaries = ss; transmissions = s.transmissions }
