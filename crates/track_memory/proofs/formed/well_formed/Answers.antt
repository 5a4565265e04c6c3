use Prim.Native.Nat.{ℕ, ◌≤◌, ◌<◌}
use mathlib.Core.Path.{◌≡◌, refl, sym, ap, ◌∙◌}
use mathlib.Core.Bool.{Bool, false, ◌&&◌}
use mathlib.Core.List.{List}
use lib.ListN.{length, get_or}
use borrow.Author.Tests.{le-leb, lt-leb, eq-eqb, ne_eqb}
use Rattle.std.specs.List.{list_all}
use Rattle.lists.proofs.Bools.{and_assoc}
use Rattle.tables.specs.Places.{places, is_table}
use Rattle.models.specs.Summary.{summary_size}
use Rattle.models.specs.Limits.{max_summaries}
use Rattle.models.specs.Summaries.{summary_formed}
use Rattle.signed_records.specs.Begins.{begin_formed}
use Rattle.track_transmission.specs.Layout.{transmission_size}
use Rattle.track_transmission.specs.Bytes.{filled_by, transmission_formed}
use Rattle.track_arrange.specs.Arranged.{max_transmissions}
use Rattle.track_memory.specs.Layout.{pair_size, zero_at, track_size}
use Rattle.track_memory.specs.Memory.{convicted_in, summary_count, transmission_count, summary_table, transmission_table, summaries_in, well_formed}
use Rattle.track_memory.proofs.formed.well_formed.Goals as goal

-- ---- the definition, by the checks of the function
abbrev summaries_formed : ℕ → ℕ → List ℕ → Bool
summaries_formed c n t = is_table pair_size summary_size n t && list_all (summary_formed c) (places summary_size n t)

abbrev transmissions_formed : ℕ → ℕ → List ℕ → Bool
transmissions_formed c n t = filled_by (transmission_formed (begin_formed c)) transmission_size n t

module _ (m : List ℕ) where
  module _ (size : length m ≡ track_size) where
    many-summaries : max_summaries < summary_count m → well_formed m ≡ false
    unfolding well_formed
    many-summaries h = rw (eq-eqb (length m) track_size size, lt-leb (summary_count m) max_summaries h) refl

    module _ (few_summaries : summary_count m ≤ max_summaries) where
      many-transmissions : max_transmissions < transmission_count m → well_formed m ≡ false
      unfolding well_formed
      many-transmissions h = rw (eq-eqb (length m) track_size size, le-leb (summary_count m) max_summaries few_summaries, lt-leb (transmission_count m) max_transmissions h) refl

      module _ (few : transmission_count m ≤ max_transmissions) where
        not-zero : (get_or m zero_at 0 ≡ 0 → ⊥) → well_formed m ≡ false
        unfolding well_formed
        not-zero h =
            rw (eq-eqb (length m) track_size size, le-leb (summary_count m) max_summaries few_summaries, le-leb (transmission_count m) max_transmissions few, ne_eqb (get_or m zero_at 0) 0 h) refl

        -- with what was read of the header
        by-tables : (c n : ℕ) → c ≡ convicted_in m → n ≡ summary_count m → get_or m zero_at 0 ≡ 0
            → well_formed m ≡ (summaries_formed c n (summary_table m) && transmissions_formed c (transmission_count m) (transmission_table m))
        unfolding well_formed
        by-tables c n c-is n-is z =
            rw (eq-eqb (length m) track_size size, le-leb (summary_count m) max_summaries few_summaries, le-leb (transmission_count m) max_transmissions few, eq-eqb (get_or m zero_at 0) 0 z, c-is, n-is)
            (sym (and_assoc (is_table pair_size summary_size (summary_count m) (summary_table m)) (list_all (summary_formed (convicted_in m)) (summaries_in m)) (transmissions_formed (convicted_in m) (transmission_count m) (transmission_table m))))

-- the same of the counts and words that are read, where the header is right
by-header : (m : List ℕ) → length m ≡ track_size → (n : ℕ) → n ≡ summary_count m → n ≤ max_summaries → transmission_count m ≤ max_transmissions → get_or m zero_at 0 ≡ 0 → (c : ℕ) → c ≡ convicted_in m
    → well_formed m ≡ (summaries_formed c n (summary_table m) && transmissions_formed c (transmission_count m) (transmission_table m))
by-header m size n n-is few_summaries few z c c-is =
    by-tables m size (rw n-is at few_summaries) few c n c-is n-is z

pub returns-then-n-gt-MAX_SUMMARIES : goal.returns-then-n-gt-MAX_SUMMARIES
returns-then-n-gt-MAX_SUMMARIES c =
    sym (many-summaries c.args.m.now c.told-m (rw c.u16_at-n.ensures at c.if-n-gt-MAX_SUMMARIES.true))

pub returns-then-k-gt-MAX_TRANSMISSIONS : goal.returns-then-k-gt-MAX_TRANSMISSIONS
returns-then-k-gt-MAX_TRANSMISSIONS c =
    sym (many-transmissions c.args.m.now c.told-m (rw c.u16_at-n.ensures at c.if-n-gt-MAX_SUMMARIES.false) c.if-k-gt-MAX_TRANSMISSIONS.true)

pub returns-then-m-ne0 : goal.returns-then-m-ne0
returns-then-m-ne0 c =
    sym (not-zero c.args.m.now c.told-m (rw c.u16_at-n.ensures at c.if-n-gt-MAX_SUMMARIES.false) c.if-k-gt-MAX_TRANSMISSIONS.false c.if-m-ne0.true)

pub returns-then-not-summary_table_formed : goal.returns-then-not-summary_table_formed
returns-then-not-summary_table_formed c =
    let refused-by = by-header c.args.m.now c.told-m _ c.u16_at-n.ensures c.if-n-gt-MAX_SUMMARIES.false c.if-k-gt-MAX_TRANSMISSIONS.false c.if-m-ne0.false _ (c.from_mask-convicted.ensures ∙ c.u32_at.ensures) in
    sym (refused-by ∙ rw (sym c.summary_table_formed.ensures ∙ c.if-not-summary_table_formed.true) refl)

pub returns : goal.returns
returns c =
    let is-formed = by-header c.args.m.now c.told-m _ c.u16_at-n.ensures c.if-n-gt-MAX_SUMMARIES.false c.if-k-gt-MAX_TRANSMISSIONS.false c.if-m-ne0.false _ (c.from_mask-convicted.ensures ∙ c.u32_at.ensures) in
    c.transmission_table_formed.ensures
    ∙ ap (transmissions_formed c.from_mask-convicted.result (transmission_count c.args.m.now)) c.split_at.ensures.back
    ∙ sym (is-formed ∙ rw (sym c.summary_table_formed.ensures ∙ c.if-not-summary_table_formed.false) refl)
