-- The order of calls matters to a track, and not to a board.
use Prim.Native.Nat.{ℕ}
use mathlib.Core.Path.{◌≡◌, refl, ap, ◌∙◌}
use mathlib.Core.List.{List, Permᴰ}
use native.Mathlib.Omega.{arith}
use Rattle.track_memory.specs.Memory.{decode}
use Rattle.board.proofs.WholeLists.{whole-lists}
use Rattle.orders.specs.Claims.{track_bytes, growing, largest_first, OrderFreeBoard, OrderMatters}
use Rattle.orders.proofs.Positions.{position_9}
use Rattle.orders.proofs.Rearranged.{same-remains, few_always_fit}

-- S, M, L; S, L, M; L, S, M
one_list : Permᴰ growing largest_first
one_list = Permᴰ.trans (Permᴰ.cons refl (Permᴰ.swap refl refl)) (Permᴰ.swap refl refl)

zero-is-not-one : (n : ℕ) → n ≡ 0 → n ≡ 1 → ⊥
zero-is-not-one n p q = omega arith

-- one has contested a fix, the other has not
tracks_differ : track_bytes growing ≡ track_bytes largest_first → ⊥
tracks_differ e =
    let c : List ℕ → ℕ = λ m. (decode m).contested in
    zero-is-not-one (c (track_bytes growing)) position_9.none_contested (ap c e ∙ position_9.one_contested)

board_in_any_order : OrderFreeBoard
board_in_any_order north south p f g = whole-lists.same_in_both_rooms north south f g (same-remains p)

pub order-matters : OrderMatters
order-matters = record {
  position_9 = position_9;
  one_list = one_list;
  tracks_differ = tracks_differ;
  boards_agree = board_in_any_order growing largest_first one_list (few_always_fit growing (omega arith)) (few_always_fit largest_first (omega arith));
  board_in_any_order = board_in_any_order;
  few_always_fit = few_always_fit;
}
