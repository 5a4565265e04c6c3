-- What putting a summary by its engine and model into a track's bytes leaves: the bytes of the track with it.
use Prim.Native.Nat.{ℕ, ◌+◌}
use mathlib.Core.Path.{◌≡◌, refl, sym, ap, ap₂, ◌∙◌}
use mathlib.Core.Bool.{true, false, not, ◌&&◌, false≢true}
use Rattle.std.specs.Prelude.{Result, Ok, Err}
use mathlib.Core.List.{List, [], ◌++◌}
use native.Mathlib.Omega.{arith}
use lib.Dec.{leb}
use lib.ListN.{length, take, drop, length-drop, length-map, take-append-drop}
use lib.Seq.{length-take-le, take_at, drop-drop}
use borrow.Author.Tests.{leb-false}
use Rattle.lists.proofs.Bools.{by}
use Rattle.octets.specs.Bytes.{Bytes}
use Rattle.octets.specs.Writes.{put_word}
use Rattle.octets.specs.Words.{word, word_at}
use Rattle.tables.specs.Places.{places, table_of, holds, put_place}
use Rattle.tables.specs.Tables.{sought, full, put_in, Sorted}
use Rattle.tables.proofs.Walks.{part_in}
use Rattle.tables.proofs.Puts.{told_found, told_none}
use Rattle.tables.proofs.Putting.{new-length, put-length-held, put-ascending, put-wide, put_all}
use Rattle.models.specs.Summary.{summary_size}
use Rattle.errors.specs.After.{after}
use Rattle.models.specs.Limits.{max_summaries, summaries_size}
use Rattle.models.specs.Summaries.{summary_formed}
use Rattle.track_transmission.specs.Layout.{transmission_size}
use Rattle.track_transmission.specs.Bytes.{transmission_in}
use Rattle.track_arrange.specs.Arranged.{max_transmissions}
use Rattle.track_memory.specs.Layout.{pair_size, summary_count_at, summaries_at}
use Rattle.track_memory.specs.Track.{Track}
use Rattle.track_memory.specs.Memory.{convicted_in, summary_count, transmission_count, contested_in, summary_table, transmission_table, summaries_in, transmission_places, decode, encode, commit}
use Rattle.track_memory.specs.Steps.{with_pair, put_pair}
use Rattle.track_memory.proofs.Frames.{header, frame, frame_same, behind-header, header-length, put-count}
use Rattle.track_memory.proofs.Opened.{Opened, summaries-length, summary-bytes-length, framed, blocks-back, transmissions-length, transmissions-are}
use Rattle.track_memory.proofs.Valid.{Valid}

-- the bytes before the summaries, and the summaries and what is behind them, as they are split off one after another
pub record Split (m h r s t : List ℕ) : Type 0 where
  pub head : h ≡ take summaries_at m
  pub rest : r ≡ drop summaries_at m
  pub summaries : s ≡ take summaries_size r
  pub behind : t ≡ drop summaries_size r

module _ {m h r s t : List ℕ} (q : Split m h r s t) where
  pub count-is : word_at 2 summary_count_at h ≡ summary_count m
  count-is = ap (word_at 2 summary_count_at) q.head ∙ ap word (part_in 2 summary_count_at summaries_at m (omega arith))

  pub table-is : s ≡ summary_table m
  table-is = q.summaries ∙ ap (take summaries_size) q.rest

  transmissions-there : t ≡ transmission_table m
  transmissions-there = q.behind ∙ ap (drop summaries_size) q.rest ∙ drop-drop summaries_size summaries_at m

  all-again : h ++ (s ++ t) ≡ m
  all-again = rw (q.summaries, q.behind, take-append-drop summaries_size r, q.head, q.rest) (take-append-drop summaries_at m)

pub sorted : (m : List ℕ) → Opened m → (n : ℕ) (t : List ℕ) → n ≡ summary_count m → t ≡ summary_table m → Sorted summary_size pair_size max_summaries n t
sorted m o n t e q = rw (e, q) (record {
  width = omega arith;
  room = omega arith;
  key = omega arith;
  size = summary-bytes-length m o;
  few = o.few_summaries;
  table = o.summary-table;
})

module _ (p : List ℕ) (lp : length p ≡ summary_size) where
  abbrev key : List ℕ
  key = take pair_size p

  abbrev value : List ℕ → List ℕ
  value v = drop pair_size p

  key-length : length key ≡ pair_size
  key-length = length-take-le pair_size p (omega (arith, lp))

  whole : key ++ value [] ≡ p
  whole = take-append-drop pair_size p

  value-length : (v : List ℕ) → pair_size + length (value v) ≡ summary_size
  value-length v = rw length-drop (omega (arith, lp))

  -- ---- on bytes

  module _ (m : List ℕ) (o : Opened m) (b : Bytes m) where
    abbrev ss : List (List ℕ)
    ss = summaries_in m

    abbrev put : List (List ℕ)
    put = put_place pair_size value key ss

    -- the track with it
    left_is : (n : ℕ) → n ≡ length put → (t : List ℕ) → t ≡ table_of summary_size max_summaries put → frame (convicted_in m) n (transmission_count m) (contested_in m) t (transmission_table m) ≡ encode (with_pair p (decode m))
    unfolding encode decode
    left_is n e t q =
        frame_same (convicted_in m) (contested_in m) e (sym (length-map (transmission_places m) transmission_in ∙ transmissions-length m o)) q
        (transmissions-are m o ∙ ap (table_of transmission_size max_transmissions) (sym (blocks-back m o b)))

    -- there was no room
    refused-full : (f : Result ℕ ℕ) → f ≡ sought pair_size key ss → full max_summaries (summary_count m) f ≡ true → after 5 m ≡ commit m (put_pair p (decode m))
    unfolding decode
    refused-full (Ok i) h u = absurd (false≢true u)
    refused-full (Err i) h u = let t = told_none pair_size key ss i h in rw (t.0, summaries-length m o, u) refl

    -- there was
    taken : (f : Result ℕ ℕ) → f ≡ sought pair_size key ss → full max_summaries (summary_count m) f ≡ false → after 0 (encode (with_pair p (decode m))) ≡ commit m (put_pair p (decode m))
    unfolding decode
    taken (Ok i) h u = let t = told_found pair_size key ss i h in rw t.0 refl
    taken (Err i) h u = let t = told_none pair_size key ss i h in rw (t.0, summaries-length m o, u) refl

    -- what was found among n summaries of a table
    module _ {h r s t : List ℕ} (q : Split m h r s t) (n : ℕ) (n-is : n ≡ summary_count m) (u : List ℕ) (u-is : u ≡ summary_table m) (f : Result ℕ ℕ) (found : f ≡ sought pair_size key (places summary_size n u)) where
      held : places summary_size n u ≡ ss
      held = ap₂ (places summary_size) n-is u-is

      sought-is : f ≡ sought pair_size key ss
      sought-is = found ∙ ap (sought pair_size key) held

      -- the memory as it was
      pub left : full max_summaries n f ≡ true → (s' : List ℕ) → s' ≡ s → after 5 (h ++ (s' ++ t)) ≡ commit m (put_pair p (decode m))
      left e s' z = ap (λ (x : List ℕ). after 5 (h ++ (x ++ t))) z ∙ ap (after 5) (all-again q) ∙ refused-full f sought-is (rw n-is at e)

      -- the memory with the summary
      pub done : full max_summaries n f ≡ false → (k : ℕ) (h' s' : List ℕ) → k ≡ length (put_in pair_size p (places summary_size n u)) → h' ≡ put_word 2 summary_count_at k h
          → s' ≡ table_of summary_size max_summaries (put_in pair_size p (places summary_size n u)) → after 0 (h' ++ (s' ++ t)) ≡ commit m (put_pair p (decode m))
      done e k h' s' k-is h-is s-is =
          let c = convicted_in m in
          let i = transmission_count m in
          let x = contested_in m in
          let head : h ≡ header c (summary_count m) i x = q.head ∙ ap (take summaries_at) (framed m o b ∙ behind-header c (summary_count m) i x (summary_table m) (transmission_table m))
          ∙ take_at (header c (summary_count m) i x) (summary_table m ++ transmission_table m) summaries_at (header-length c (summary_count m) i x (summary_table m) (transmission_table m)) in
          let new : h' ≡ header c k i x = h-is ∙ ap (put_word 2 summary_count_at k) head ∙ put-count c (summary_count m) i x (summary_table m) (transmission_table m) k in
          ap (after 0)
          (ap₂ (λ (y l : List ℕ). y ++ (s' ++ l)) new (transmissions-there q) ∙ sym (behind-header c k i x s' (transmission_table m))
          ∙ left_is k (k-is ∙ ap (λ (l : List (List ℕ)). length (put_in pair_size p l)) held) s' (s-is ∙ ap (λ (l : List (List ℕ)). table_of summary_size max_summaries (put_in pair_size p l)) held))
          ∙ taken f sought-is (rw n-is at e)

  -- ---- the track that is left is valid

  pub pair-valid : (s : Track) → Valid s → summary_formed s.convicted p ≡ true → (not (holds pair_size key s.summaries) && leb max_summaries (length s.summaries)) ≡ false → Valid (with_pair p s)
  pair-valid s v f g = record {
    small = v.small;
    counted = v.counted;
    few_summaries = by (holds pair_size key s.summaries)
        (λ h. let l = put-length-held pair_size value key key-length s.summaries v.summaries-ascend h in omega (arith, l, v.few_summaries))
        (λ h. let l = new-length pair_size value key s.summaries h in let k = leb-false max_summaries (length s.summaries) (rw h at g) in omega (arith, l, k));
    few = v.few;
    summaries-wide = put-wide pair_size value key key-length summary_size (λ x e. value-length x) (λ x e. value-length x) s.summaries (omega arith) v.summaries-wide;
    summaries-ascend = put-ascending pair_size value key key-length s.summaries v.summaries-ascend;
    summaries-formed = put_all pair_size value key (summary_formed s.convicted) s.summaries (ap (summary_formed s.convicted) whole ∙ f) (λ q e h. ap (λ (l : List ℕ). summary_formed s.convicted (l ++ value (drop pair_size q))) e ∙ ap (summary_formed s.convicted) whole ∙ f) v.summaries-formed;
    held = v.held;
  }
