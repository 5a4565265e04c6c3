-- What a conviction leaves of a track's bytes: the bytes of the track without the engine.
use Prim.Native.Nat.{ℕ, zero, suc, ◌+◌, ◌*◌, ◌-◌, ◌≤◌}
use mathlib.Core.Path.{◌≡◌, refl, ap, ap₂, ◌∙◌}
use mathlib.Core.Bool.{true}
use mathlib.Core.List.{List, ◌∷◌, ◌++◌, map, append_assoc}
use native.Mathlib.Omega.{arith}
use lib.ListN.{length, take, drop, replicate, length-drop, replicate-append-replicate}
use lib.Seq.{take-take, length-take-le}
use Rattle.std.proofs.lemmas.List.{drop-take}
use Rattle.octets.specs.Masks.{with_bit}
use Rattle.octets.specs.Runs.{all_zero}
use Rattle.octets.proofs.Zeros.{zero-run}
use Rattle.tables.specs.Places.{places, flat, table_of, keep_places, ascending}
use Rattle.lists.proofs.Bools.{and_right}
use Rattle.tables.proofs.Keeping.{kept-length}
use Rattle.tables.proofs.Tables.{length-places}
use Rattle.models.specs.Summary.{summary_size}
use Rattle.models.specs.Limits.{max_summaries}
use Rattle.models.specs.Summaries.{no_value, is_of_another}
use Rattle.tables.specs.Strikes.{Struck}
use Rattle.tables.proofs.Striking.{struck-table}
use Rattle.track_arrange.specs.Arranged.{arranged}
use Rattle.track_arrange.specs.Blocks.{held, Filled}
use Rattle.track_arrange.proofs.Tables.{held-count, held-bytes}
use Rattle.track_memory.specs.Layout.{pair_size}
use Rattle.track_memory.specs.Memory.{convicted_in, summary_count, contested_in, summary_table, summaries_in, decode, encode}
use Rattle.track_memory.proofs.Frames.{frame}
use Rattle.track_memory.proofs.Opened.{Opened, summaries-length, summary-bytes-length}
use Rattle.track_recheck.specs.Recheck.{without_engine, strike_engine}

-- behind the summaries it is zero
pub summaries-behind : (m : List ℕ) → Opened m → all_zero (drop (summary_count m * summary_size) (summary_table m)) ≡ true
summaries-behind m o = and_right (ascending pair_size (summaries_in m)) (all_zero (drop (summary_count m * summary_size) (summary_table m))) o.summary-table

module _ (m : List ℕ) (o : Opened m) (e : ℕ) where
  abbrev ss : List (List ℕ)
  ss = keep_places summary_size (is_of_another e) no_value (summaries_in m)

  few-left : length ss ≤ max_summaries
  few-left = omega (arith, kept-length summary_size (is_of_another e) no_value (summaries_in m), summaries-length m o, o.few_summaries)

  -- the summaries that are left, in the table that n are read from
  module _ (n : ℕ) (n-is : n ≡ summary_count m) (t : List ℕ) (t-is : t ≡ summary_table m) (a : ℕ) (s : List ℕ)
      (p : Struck summary_size (keep_places summary_size (is_of_another e) no_value (places summary_size n t)) t a s) where
    p' : Struck summary_size ss (summary_table m) a s
    p' = rw (t-is, n-is) at p

    pub summaries-left : a ≤ max_summaries
    summaries-left = rw p'.count few-left

    table-left : s ≡ table_of summary_size max_summaries ss
    table-left = struck-table summary_size max_summaries ss (summary_table m) a s (summary-bytes-length m o) p'

    pub struck : (y r : ℕ) (u : List ℕ) → y ≡ with_bit (convicted_in m) e → Filled u r → held r u ≡ arranged (map (without_engine e) (decode m).transmissions) → frame y a r (contested_in m) s u ≡ encode (strike_engine e (decode m))
    unfolding encode decode strike_engine
    struck y r u ey f q = λ i. frame (ey i) (p'.count i) (held-count f q i) (contested_in m) (table-left i) (held-bytes f q i)

-- ---- the first n alone are gone through: behind them it is zero

front-places : (w n : ℕ) (t : List ℕ) → places w n (take (n * w) t) ≡ places w n t
unfolding places
front-places w zero t = refl
front-places w (suc n) t =
    let e : suc n * w ≡ w + n * w = omega arith in
    ap₂ ◌∷◌ (ap (λ (k : ℕ). take w (take k t)) e ∙ take-take w (w + n * w) t (omega arith))
    (ap (places w n) (ap (λ (k : ℕ). drop w (take k t)) e ∙ drop-take w (n * w) t) ∙ front-places w n (drop w t))

module _ (n e : ℕ) (t : List ℕ) (fits : n * summary_size ≤ length t) (zeros : all_zero (drop (n * summary_size) t) ≡ true) where
  abbrev kept : List (List ℕ) → List (List ℕ)
  kept ps = keep_places summary_size (is_of_another e) no_value ps

  pub struck-front : (f r : List ℕ) → f ≡ take (n * summary_size) t → r ≡ drop (n * summary_size) t → (a : ℕ) (x : List ℕ) → Struck summary_size (kept (places summary_size n f)) f a x
      → Struck summary_size (kept (places summary_size n t)) t a (x ++ r)
  struck-front f r p q a x s =
      let k = n * summary_size in
      let here : kept (places summary_size n f) ≡ kept (places summary_size n t) = ap kept (ap (places summary_size n) p ∙ front-places summary_size n t) in
      let l : length f ≡ k = ap length p ∙ length-take-le k t fits in
      let count : a ≡ length (kept (places summary_size n t)) = s.count ∙ ap length here in
      let few : length (kept (places summary_size n t)) ≤ n = let m = kept-length summary_size (is_of_another e) no_value (places summary_size n t) in omega (arith, m, length-places summary_size n t) in
      let rest : r ≡ replicate (length t - k) 0 = q ∙ zero-run (drop k t) zeros ∙ ap (λ (i : ℕ). replicate i 0) (length-drop k t) in
      let z : (length f - a * summary_size) + (length t - k) ≡ length t - a * summary_size = omega (arith, l, count, few, fits) in
      record {
        count = count;
        bytes =
            ap₂ (λ (u v : List ℕ). u ++ v) (s.bytes ∙ ap (λ (ps : List (List ℕ)). flat ps ++ replicate (length f - a * summary_size) 0) here) rest
            ∙ append_assoc (flat (kept (places summary_size n t))) (replicate (length f - a * summary_size) 0) (replicate (length t - k) 0)
            ∙ ap (λ (u : List ℕ). flat (kept (places summary_size n t)) ++ u)
            (replicate-append-replicate (length f - a * summary_size) (length t - k) 0 ∙ ap (λ (i : ℕ). replicate i 0) z);
      }
