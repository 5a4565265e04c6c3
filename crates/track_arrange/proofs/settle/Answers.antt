use Prim.Native.Nat.{ℕ, ◌+◌, ◌*◌, ◌-◌, ◌≤◌, ◌<◌}
use mathlib.Core.Path.{◌≡◌, refl, sym, ap, ap₂, ◌∙◌}
use mathlib.Core.List.Memᴰ
use mathlib.Core.List.{List, ◌++◌, map, map-append}
use native.Mathlib.Omega.{arith}
use borrow.Rule.Slice.PartMut.{put_mid}
use lib.ListN.{length, get_or, take, drop, replicate, length-append}
use Rattle.lists.proofs.Bools.{or}
use Rattle.tables.specs.Places.{flat}
use Rattle.track_transmission.specs.Layout.{transmission_size}
use Rattle.track_transmission.specs.Bytes.{transmission_in}
use Rattle.track_arrange.specs.Arranged.{arranged}
use Rattle.track_arrange.specs.Blocks.{blocks, held, block_of, block_table, latest_blocks, AllSteady, Filled}
use Rattle.track_arrange.specs.Leads.{order_of}
use Rattle.track_arrange.proofs.Tables.{count-is, all-wide, table_filled, latest-in, latest-few}
use Rattle.track_arrange.proofs.Values.{latest-values}
use Rattle.track_arrange.proofs.Entering.{order-are, order-count, order-within}
use Rattle.track_arrange.proofs.Placing.{left-more, left-fewer}
use Rattle.track_arrange.proofs.settle.Goals as goal

module _ (t₀ : List ℕ) (n : ℕ) (further : List (List ℕ)) (f : Filled t₀ n) (steady : AllSteady further) (order : List ℕ) (order-of : order ≡ order_of (held n t₀ ++ map transmission_in further)) where
  abbrev all : List (List ℕ)
  all = blocks n t₀ ++ further

  abbrev latest : List (List ℕ)
  latest = latest_blocks all

  order-is : order ≡ order_of (map transmission_in all)
  order-is = order-of ∙ ap order_of (sym (map-append transmission_in (blocks n t₀) further))

  within : (i : ℕ) → i < length order → get_or order i 0 < n + length further
  within i h =
      let e = length-append (blocks n t₀) further in
      let c = count-is t₀ n f in
      let l = rw order-is at h in
      let k : get_or order i 0 < length all = rw order-is (order-within all i l) in
      omega (arith, e, c, k)

  counted : length order ≡ length latest
  counted = ap length order-is ∙ order-count all

  latest-steady : AllSteady latest
  latest-steady b m = or (Memᴰ.append_cases (blocks n t₀) (latest-in all b m).0) (λ k. f.steady b k) (λ k. steady b k)

  few : length order ≤ 8
  few = omega (arith, counted, latest-few all)

  -- the table that is left
  left : (t : List ℕ) → t ≡ block_table latest → record { filled : Filled t (length order); held : held (length order) t ≡ arranged (held n t₀ ++ map transmission_in further) }
  left t e =
      let r = table_filled latest t (length order) latest-steady counted few e in
      record { filled = r.1; held = ap (map transmission_in) r.0 ∙ latest-values all ∙ ap arranged (map-append transmission_in (blocks n t₀) further) }

  module _ (t : List ℕ) (written : t ≡ flat (map (block_of n t₀ further) order) ++ drop (length order * transmission_size) t₀) where
    written-latest : t ≡ flat latest ++ drop (length latest * transmission_size) t₀
    written-latest =
        written ∙ ap₂ (λ (bs : List (List ℕ)) (k : ℕ). flat bs ++ drop (k * transmission_size) t₀)
        (ap (map (block_of n t₀ further)) order-is ∙ order-are all) counted

    as-many : n ≤ length order → t ≡ block_table latest
    as-many h = left-more t₀ n f latest (all-wide latest latest-steady) (latest-few all) t written-latest (rw counted at h)

    fewer : (m : ℕ) → m ≡ length order → m < n → (y : List ℕ) → y ≡ replicate (length (take (n * transmission_size - m * transmission_size) (drop (m * transmission_size) t))) 0
        → put_mid (m * transmission_size) (n * transmission_size - m * transmission_size) t y ≡ block_table latest
    fewer m q h y e =
        let c : m ≡ length latest = q ∙ counted in
        rw c (left-fewer t₀ n f latest (all-wide latest latest-steady) (latest-few all) t written-latest (rw c at h) y (rw c at e))

pub invariant_of-write-clause-few_left : goal.invariant_of-write-clause-few_left
invariant_of-write-clause-few_left c = few c.args.t.now c.args.n c.args.further.now c.requires.filled c.requires.steady c.args.order.now c.requires.order

pub invariant_of-write-clause-within : goal.invariant_of-write-clause-within
invariant_of-write-clause-within c = within c.args.t.now c.args.n c.args.further.now c.requires.filled c.requires.steady c.args.order.now c.requires.order

pub returns-then-left-n : goal.returns-then-left-n
returns-then-left-n c =
    let a = c.args in
    let same = (rw c.unwrap-table.ensures at c.as_mut_array.ensures.cases).same in
    left a.t.now a.n a.further.now c.requires.filled c.requires.steady a.order.now c.requires.order _
    (fewer a.t.now a.n a.further.now c.requires.filled c.requires.steady a.order.now c.requires.order c.write.new.t (rw same at c.write.ensures) _ refl c.if-left-n.true c.clear.new.s c.clear.ensures)

pub returns-else-left-n : goal.returns-else-left-n
returns-else-left-n c =
    let a = c.args in
    let same = (rw c.unwrap-table.ensures at c.as_mut_array.ensures.cases).same in
    left a.t.now a.n a.further.now c.requires.filled c.requires.steady a.order.now c.requires.order _
    (as-many a.t.now a.n a.further.now c.requires.filled c.requires.steady a.order.now c.requires.order c.write.new.t (rw same at c.write.ensures) c.if-left-n.false)
