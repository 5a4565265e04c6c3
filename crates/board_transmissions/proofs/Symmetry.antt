-- A link between two records goes both ways.
use Rattle.std.proofs.Common.{◌≡◌, ap₂, ◌&&◌, List, ℕ, arith}
use Rattle.octets.specs.Order.{same}
use Rattle.record.specs.Fields.{time, message}
use Rattle.record.specs.Relations.{tied}
use Rattle.record.proofs.Laws.{shares-sym}
use Rattle.board_transmissions.specs.Transmissions.{near_in_time, records_link}
use Rattle.board_transmissions.specs.Bursts.{LinkGoesBothWays}

same-turned : (a b : List ℕ) → same a b ≡ same b a
unfolding same
same-turned a b = grind arith

near-turned : (s t : ℕ) → near_in_time s t ≡ near_in_time t s
near-turned s t = grind arith

pub linked-turned : LinkGoesBothWays
unfolding records_link tied
linked-turned a b = ap₂ ◌&&◌ (ap₂ ◌&&◌ (same-turned (message a) (message b)) (shares-sym a b)) (near-turned (time a) (time b))
