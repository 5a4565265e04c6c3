-- What stands before a track's transmissions, as it is split off: what is read there, and what a write to it leaves.
use Rattle.std.proofs.Common.{◌≡◌, ℕ, ◌+◌, ◌-◌, List, ◌++◌, length, take, drop, get_or, refl, sym, ap, ap₂, ◌∙◌, arith, append_assoc, length-append}
use Rattle.std.proofs.lemmas.List.{get_or-take, drop-take}
use lib.ListN.{set}
use lib.Seq.{take_at}
use Rattle.octets.specs.Bytes.{Bytes}
use Rattle.octets.specs.Words.{word, word_bytes, word_at}
use Rattle.octets.specs.Writes.{put_word}
use Rattle.octets.proofs.Moves.{tail-lent, tail-back}
use Rattle.tables.proofs.Walks.{part_in}
use Rattle.models.specs.Limits.{summaries_size}
use Rattle.track_memory.specs.Layout.{convicted_at, summary_count_at, transmission_count_at, summaries_at, transmissions_at}
use Rattle.track_memory.specs.Memory.{convicted_in, summary_count, transmission_count, contested_in, summary_table}
use Rattle.track_memory.proofs.Frames.{header, frame, header-length, behind-header}
use Rattle.track_memory.proofs.Opened.{Opened, framed, summary-bytes-length}

module _ (m h : List ℕ) (e : h ≡ take transmissions_at m) where
  pub convicted-read : word_at 4 convicted_at h ≡ convicted_in m
  convicted-read = ap (word_at 4 convicted_at) e ∙ ap word (part_in 4 convicted_at transmissions_at m (omega arith))

  pub summaries-read : word_at 2 summary_count_at h ≡ summary_count m
  summaries-read = ap (word_at 2 summary_count_at) e ∙ ap word (part_in 2 summary_count_at transmissions_at m (omega arith))

  pub count-read : get_or h transmission_count_at 0 ≡ transmission_count m
  count-read = ap (λ (l : List ℕ). get_or l transmission_count_at 0) e ∙ get_or-take transmissions_at m transmission_count_at 0 (omega arith)

  table-is : drop summaries_at h ≡ summary_table m
  table-is = ap (drop summaries_at) e ∙ drop-take summaries_at summaries_size m

  pub table-read : take (length h - summaries_at) (drop summaries_at h) ≡ summary_table m
  table-read = tail-lent h summaries_at ∙ table-is

  module _ (o : Opened m) (b : Bytes m) where
    abbrev c : ℕ
    c = convicted_in m

    abbrev n : ℕ
    n = summary_count m

    abbrev k : ℕ
    k = transmission_count m

    abbrev x : ℕ
    x = contested_in m

    abbrev s : List ℕ
    s = summary_table m

    head-is : h ≡ header c n k x ++ s
    head-is =
        e ∙ ap (take transmissions_at) (framed m o b ∙ behind-header c n k x s (drop transmissions_at m) ∙ sym (append_assoc (header c n k x) s (drop transmissions_at m)))
        ∙ take_at (header c n k x ++ s) (drop transmissions_at m) transmissions_at (length-append (header c n k x) s ∙ ap₂ ◌+◌ (header-length c n k x s s) (summary-bytes-length m o))

    -- another number of transmissions
    pub head-counted : (r : ℕ) → set h transmission_count_at r ≡ header c n r x ++ s
    head-counted r = ap (λ (l : List ℕ). set l transmission_count_at r) head-is ∙ put r
      where
        put : (r : ℕ) → set (header c n k x ++ s) transmission_count_at r ≡ header c n r x ++ s
        put r = unfold word_bytes in refl

    -- other summaries, and all numbers
    pub head-rewritten : (y a r : ℕ) (s' l : List ℕ) → l ≡ take summaries_at h ++ (s' ++ drop (length h - summaries_at) (drop summaries_at h))
        → set (put_word 2 summary_count_at a (put_word 4 convicted_at y l)) transmission_count_at r ≡ header y a r x ++ s'
    head-rewritten y a r s' l q =
        ap (λ (z : List ℕ). set (put_word 2 summary_count_at a (put_word 4 convicted_at y z)) transmission_count_at r)
        (q ∙ tail-back h s' summaries_at ∙ ap (λ (z : List ℕ). take summaries_at z ++ s') head-is ∙ ap (λ (z : List ℕ). z ++ s') (take_at (header c n k x) s summaries_at (header-length c n k x s s)))
        ∙ put y a r s'
      where
        put : (y a r : ℕ) (s' : List ℕ) → set (put_word 2 summary_count_at a (put_word 4 convicted_at y (header c n k x ++ s'))) transmission_count_at r ≡ header y a r x ++ s'
        put y a r s' = unfold word_bytes in refl

-- and the transmissions behind it
pub with-table : (c n k x : ℕ) (s t : List ℕ) → (header c n k x ++ s) ++ t ≡ frame c n k x s t
with-table c n k x s t = append_assoc (header c n k x) s t ∙ sym (behind-header c n k x s t)
