-- A list of calls in several orders, each on a fresh register and on a fresh track with its shelf: how many different boards and how many different listings come
-- out, and in how many orders a call on the register is refused as full.
-- Source: docs/REFERENCE.md, 'Orders of a session'.
use Rattle.std.specs.Prelude.{ℕ, zero, suc, Bool, ◌≡◌, not, length, count_by, Vec, if◌then◌else◌}
use mathlib.Core.List.{List, [], ◌∷◌, ◌++◌, map, Memᴰ, Permᴰ}
use Rattle.rand_core.specs.Stream.{Stream}
use Rattle.rand_core.specs.Steps.{stream_of}
use Rattle.rand_xoshiro.specs.SplitMix64.{splitmix_steps}
use Rattle.rand.specs.Shuffle.{shuffled}
use Rattle.register.specs.Memory.{fresh, decode}
use Rattle.register.specs.Calls.{Call, runs, none_full, elem, nub}
use Rattle.board.specs.Full.{board_in}
use Rattle.track_memory.specs.Memory as T
use Rattle.track_listing.specs.Listing.{listing_of}
use Rattle.orders.specs.Claims.{track_bytes}
use Rattle.rooms_orders.specs.declared.trying.Outcome.{Outcome}

-- the board that calls leave, as a manager sees it
abbrev pub board_after : List Call → List ℕ
board_after cs = board_in (decode (runs fresh cs))

-- the listing of the track that they leave
abbrev pub listing_after : List Call → List ℕ
listing_after cs = listing_of (T.decode (track_bytes cs))

-- a call is refused as full
abbrev pub is_refused_as_full : List Call → Bool
is_refused_as_full cs = not (none_full fresh cs)

-- ---- texts that are held, each once

-- a call alone
abbrev pub one : Call → List Call
one c = c ∷ []

abbrev pub text_of : {A : Type 0} → Vec ℕ A → List ℕ
text_of v = v.items

abbrev pub texts_of : {A B : Type 0} → Vec (Vec ℕ A) B → List (List ℕ)
texts_of v = map text_of v.items

-- those held, with a text that may be among them
abbrev pub with_text : List ℕ → List (List ℕ) → List (List ℕ)
with_text t ts = if elem t ts then ts else ts ++ (t ∷ [])

-- ---- so many orders

-- what SplitMix64 draws from a seed
abbrev pub drawn_from : ℕ → Stream
drawn_from seed = stream_of splitmix_steps seed

-- calls after so many shuffles by Fisher and Yates, each of the order before, and what is left to draw
unfoldable pub shuffled_times : List Call → Stream → ℕ → List Call × Stream
shuffled_times cs s zero = (cs, s)
shuffled_times cs s (suc n) = let p = shuffled_times cs s n in shuffled p.0 0 p.1

-- the order after each of so many shuffles, the latest first
unfoldable pub orders_from : List Call → Stream → ℕ → List (List Call)
orders_from cs s zero = []
orders_from cs s (suc n) = (shuffled_times cs s (suc n)).0 ∷ orders_from cs s n

-- so many orders of calls, drawn from a seed
abbrev pub orders_of : List Call → ℕ → ℕ → List (List Call)
orders_of cs count seed = orders_from cs (drawn_from seed) count

-- what comes out of them; there are so many, and each is a rearrangement of the calls
pub record Tried (cs : List Call) (count seed : ℕ) (o : Outcome) : Type 0 where
  pub as_many : length (orders_of cs count seed) ≡ count
  pub rearranged : (ds : List Call) → Memᴰ ds (orders_of cs count seed) → Permᴰ cs ds
  pub boards : o.boards ≡ length (nub (map board_after (orders_of cs count seed)))
  pub listings : o.listings ≡ length (nub (map listing_after (orders_of cs count seed)))
  pub full : o.full ≡ count_by is_refused_as_full (orders_of cs count seed)
