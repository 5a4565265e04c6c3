-- A record that is reported: what a merge leaves of a track's bytes.
use Rattle.std.proofs.Common.{◌≡◌, ℕ, ◌+◌, ◌-◌, ◌%◌, ◌^◌, ◌≤◌, true, List, ◌++◌, map, length, take, drop, set, sym, refl, ap, ◌∙◌, ap₂, arith}
use lib.ListN.{length-map}
use Rattle.octets.specs.Bytes.{Bytes}
use Rattle.octets.specs.Words.{word_at}
use Rattle.octets.specs.Writes.{put_word}
use Rattle.octets.proofs.Moves.{tail-lent, tail-back}
use Rattle.models.specs.Models.{counts}
use Rattle.errors.specs.After.{after}
use Rattle.octets.proofs.Framing.{word_small}
use Rattle.fixes.specs.Fix.{Fix}
use Rattle.track_transmission.specs.Bytes.{transmission_in, transmission_bytes}
use Rattle.track_arrange.specs.Arranged.{max_transmissions}
use Rattle.track_arrange.specs.Blocks.{block_table, held, Filled}
use Rattle.track_merge.specs.Merged.{Step, merged_number, merged}
use Rattle.track_memory.specs.Layout.{transmission_count_at, contested_at, transmissions_at}
use Rattle.track_memory.specs.Memory.{convicted_in, summary_count, transmission_count, contested_in, summary_table, transmission_table, summaries_in, transmission_places, decode, encode, commit}
use Rattle.track_memory.proofs.Frames.{frame, read-contested, set-transmission-count, put-contested, frame-transmissions-back}
use Rattle.track_memory.proofs.Opened.{Opened, summaries-length, summaries-are, summary-bytes-length, framed, filled, transmissions-length}
use Rattle.track.specs.Track.{reported_fix, stepped, take_cited}
use Rattle.track.proofs.Merging.{merged-few}

pub decoded-summaries : (m : List ℕ) → (decode m).summaries ≡ summaries_in m
unfolding decode
decoded-summaries m = refl

-- ---- a merge

module _ (m : List ℕ) (o : Opened m) (b : Bytes m) where
  abbrev lent : List ℕ
  lent = take (length m - transmissions_at) (drop transmissions_at m)

  lent_is : lent ≡ transmission_table m
  lent_is = tail-lent m transmissions_at

  pub lent-filled : Filled lent (transmission_count m)
  lent-filled = rw lent_is (filled m o b)

  module _ (e : ℕ) (r : List ℕ) (f : Fix) (q : f ≡ reported_fix e r (decode m)) where
    abbrev step : Step
    step = merged f (held (transmission_count m) lent)

    abbrev after-merge : Step
    after-merge = merged (reported_fix e r (decode m)) (map transmission_in (transmission_places m))

    step_is : step ≡ after-merge
    step_is = ap₂ (λ (g : Fix) (t : List ℕ). merged g (held (transmission_count m) t)) q lent_is

    pub step-few : length step.left ≤ max_transmissions
    step-few =
        rw step_is (merged-few (reported_fix e r (decode m)) (map transmission_in (transmission_places m)) (rw (length-map (transmission_places m) transmission_in, transmissions-length m o) o.few))

    -- the track that is left
    left_is : (y n : ℕ) → y ≡ (contested_in m + after-merge.entered) % 2 ^ 64 → n ≡ length after-merge.left
        → frame (convicted_in m) (summary_count m) n y (summary_table m) (block_table (map transmission_bytes after-merge.left)) ≡ encode (stepped (merged (reported_fix e r (decode m)) (decode m).transmissions) (decode m))
    unfolding encode decode
    left_is y n ey en = λ i. frame (convicted_in m) (sym (summaries-length m o) i) (en i) (ey i) (summaries-are m o i) (block_table (map transmission_bytes after-merge.left))

    answer-of : counts (summaries_in m) r ≡ true → (x : List ℕ) → x ≡ encode (stepped (merged (reported_fix e r (decode m)) (decode m).transmissions) (decode m)) → after (merged_number after-merge.answer) x ≡ commit m (take_cited e r (decode m))
    unfolding decode
    answer-of c x z = rw (c, z) refl

    module _ (t m₁ : List ℕ) (et : t ≡ block_table (map transmission_bytes step.left)) (q₁ : m₁ ≡ take transmissions_at m ++ (t ++ drop (length m - transmissions_at) (drop transmissions_at m))) where
      abbrev table : List ℕ
      table = block_table (map transmission_bytes after-merge.left)

      merged-frame : m₁ ≡ frame (convicted_in m) (summary_count m) (transmission_count m) (contested_in m) (summary_table m) table
      merged-frame =
          q₁ ∙ tail-back m t transmissions_at ∙ ap (λ (x : List ℕ). take transmissions_at m ++ x) (et ∙ ap (λ (x : Step). block_table (map transmission_bytes x.left)) step_is)
          ∙ ap (λ (x : List ℕ). take transmissions_at x ++ table) (framed m o b)
          ∙ frame-transmissions-back (convicted_in m) (summary_count m) (transmission_count m) (contested_in m) (summary_table m) (transmission_table m) (summary-bytes-length m o) table

      contested-same : word_at 8 contested_at m₁ ≡ contested_in m
      contested-same =
          ap (word_at 8 contested_at) merged-frame
          ∙ read-contested (convicted_in m) (summary_count m) (transmission_count m) (contested_in m) (summary_table m) table (let s = o.size in word_small m b contested_at 8 (omega arith))

      pub stepped-is : counts (summaries_in m) r ≡ true → (a : ℕ) → a ≡ merged_number step.answer → (n k : ℕ) → n ≡ length step.left → k ≡ step.entered → (x : List ℕ)
          → x ≡ put_word 8 contested_at ((word_at 8 contested_at m₁ + k) % 2 ^ 64) (set m₁ transmission_count_at n) → after a x ≡ commit m (take_cited e r (decode m))
      stepped-is c a ea n k en ek x z =
          let y = (word_at 8 contested_at m₁ + k) % 2 ^ 64 in
          ap (λ (u : ℕ). after u x) (ea ∙ ap (λ (s : Step). merged_number s.answer) step_is)
          ∙ answer-of c x
          (z ∙ ap (λ (l : List ℕ). put_word 8 contested_at y (set l transmission_count_at n)) merged-frame
          ∙ ap (put_word 8 contested_at y) (set-transmission-count (convicted_in m) (summary_count m) (transmission_count m) (contested_in m) (summary_table m) table n)
          ∙ put-contested (convicted_in m) (summary_count m) n (contested_in m) (summary_table m) table y
          ∙ left_is y n (ap₂ (λ (u v : ℕ). (u + v) % 2 ^ 64) contested-same (ek ∙ ap (λ (s : Step). s.entered) step_is)) (en ∙ ap (λ (s : Step). length s.left) step_is))
