-- What bytes that are a track show: its parts, its transmissions, and that they are the bytes of what they hold.
use Prim.Native.Nat.{ℕ, ◌+◌, ◌*◌, ◌≤◌}
use mathlib.Core.Path.{◌≡◌, refl, sym, ap, ◌∙◌}
use mathlib.Core.Bool.{true, false, ◌&&◌}
use mathlib.Core.List.{List, ◌∷◌, ◌++◌, map, Memᴰ}
use native.Mathlib.Omega.{arith}
use lib.Dec.{leb, eqb}
use lib.ListN.{length, get_or, drop, length-take, length-drop, length-map}
use lib.Seq.{drop-cons}
use borrow.Author.Tests.{eqb-true, leb-true, ne_eqb}
use Rattle.std.specs.List.{list_all}
use Rattle.lists.proofs.Bools.{and_left, and_right}
use Rattle.octets.specs.Bytes.{Bytes}
use Rattle.octets.specs.Runs.{all_zero}
use Rattle.octets.specs.Words.{word_bytes, word_at}
use Rattle.octets.proofs.Numbers.{bytes_drop}
use Rattle.tables.specs.Places.{table_of, is_table, ascending}
use Rattle.tables.proofs.Tables.{wide, places-wide, length-places, table_is, filled-table}
use Rattle.models.specs.Summary.{summary_size}
use Rattle.models.specs.Limits.{max_summaries, summaries_size}
use Rattle.models.specs.Summaries.{summary_formed}
use Rattle.signed_records.specs.Begins.{begin_formed}
use Rattle.octets.proofs.Framing.{cut, cut_word}
use Rattle.track_transmission.specs.Layout.{transmission_size}
use Rattle.track_transmission.specs.Held.{HeldTransmission}
use Rattle.track_transmission.specs.Bytes.{transmission_formed, transmission_in, transmission_bytes}
use Rattle.track_transmission.specs.Parts.{Sound, Steady}
use Rattle.track_transmission.proofs.Encoding.{bytes-of-places, wide-in}
use Rattle.track_transmission.proofs.Encoding as E
use Rattle.track_arrange.specs.Arranged.{max_transmissions}
use Rattle.track_arrange.specs.Blocks.{Filled}
use Rattle.track_arrange.proofs.Tables.{written}
use Rattle.track_memory.specs.Layout.{pair_size, summary_count_at, transmission_count_at, zero_at, contested_at, summaries_at, transmissions_at, transmissions_size, track_size}
use Rattle.track_memory.specs.Memory.{convicted_in, summary_count, transmission_count, contested_in, summary_table, transmission_table, summaries_in, transmission_places, well_formed, decode, encode}
use Rattle.track_memory.proofs.Frames.{frame, frame_same}
use Rattle.track_memory.proofs.Blocks.{passes, of_map, Held, Parts, parts, sound, canonical, block_held}

pub record Opened (m : List ℕ) : Type 0 where
  pub size : length m ≡ track_size
  pub few_summaries : summary_count m ≤ max_summaries
  pub few : transmission_count m ≤ max_transmissions
  pub nought : get_or m zero_at 0 ≡ 0
  pub summary-table : is_table pair_size summary_size (summary_count m) (summary_table m) ≡ true
  pub summaries-formed : list_all (summary_formed (convicted_in m)) (summaries_in m) ≡ true
  pub transmissions-formed : list_all (transmission_formed (begin_formed (convicted_in m))) (transmission_places m) ≡ true
  pub zeros : all_zero (drop (transmission_count m * transmission_size) (transmission_table m)) ≡ true

pub opened : (m : List ℕ) → well_formed m ≡ true → Opened m
unfolding well_formed
opened m h =
    let a₁ = eqb (length m) track_size in
    let a₂ = leb (summary_count m) max_summaries in
    let a₃ = leb (transmission_count m) max_transmissions in
    let a₄ = eqb (get_or m zero_at 0) 0 in
    let a₅ = is_table pair_size summary_size (summary_count m) (summary_table m) in
    let a₆ = list_all (summary_formed (convicted_in m)) (summaries_in m) in
    let a₇ = list_all (transmission_formed (begin_formed (convicted_in m))) (transmission_places m) in
    let a₈ = all_zero (drop (transmission_count m * transmission_size) (transmission_table m)) in
    let h₂ = and_right a₁ (a₂ && (a₃ && (a₄ && (a₅ && (a₆ && (a₇ && a₈)))))) h in
    let h₃ = and_right a₂ (a₃ && (a₄ && (a₅ && (a₆ && (a₇ && a₈))))) h₂ in
    let h₄ = and_right a₃ (a₄ && (a₅ && (a₆ && (a₇ && a₈)))) h₃ in
    let h₅ = and_right a₄ (a₅ && (a₆ && (a₇ && a₈))) h₄ in
    let h₆ = and_right a₅ (a₆ && (a₇ && a₈)) h₅ in
    let h₇ = and_right a₆ (a₇ && a₈) h₆ in
    record {
      size = eqb-true (length m) track_size (and_left a₁ (a₂ && (a₃ && (a₄ && (a₅ && (a₆ && (a₇ && a₈)))))) h);
      few_summaries = leb-true (summary_count m) max_summaries (and_left a₂ (a₃ && (a₄ && (a₅ && (a₆ && (a₇ && a₈))))) h₂);
      few = leb-true (transmission_count m) max_transmissions (and_left a₃ (a₄ && (a₅ && (a₆ && (a₇ && a₈)))) h₃);
      nought = eqb-true (get_or m zero_at 0) 0 (and_left a₄ (a₅ && (a₆ && (a₇ && a₈))) h₄);
      summary-table = and_left a₅ (a₆ && (a₇ && a₈)) h₅;
      summaries-formed = and_left a₆ (a₇ && a₈) h₆;
      transmissions-formed = and_left a₇ a₈ h₇;
      zeros = and_right a₇ a₈ h₇;
    }

pub other-size : (m : List ℕ) → (length m ≡ track_size → ⊥) → well_formed m ≡ false
unfolding well_formed
other-size m f = rw (ne_eqb (length m) track_size f) refl

module _ (m : List ℕ) (o : Opened m) where
  -- ---- the summaries

  pub summary-bytes-length : length (summary_table m) ≡ summaries_size
  summary-bytes-length = let s = o.size in simp (length-take, length-drop) (omega arith)

  pub summaries-length : length (summaries_in m) ≡ summary_count m
  summaries-length = length-places summary_size (summary_count m) (summary_table m)

  pub summaries-wide : wide summary_size (summaries_in m)
  summaries-wide = let f = o.few_summaries in places-wide summary_size (summary_count m) (summary_table m) (rw summary-bytes-length (omega arith))

  pub summaries-ascend : ascending pair_size (summaries_in m) ≡ true
  summaries-ascend = and_left (ascending pair_size (summaries_in m)) (all_zero (drop (summary_count m * summary_size) (summary_table m))) o.summary-table

  pub summaries-are : summary_table m ≡ table_of summary_size max_summaries (summaries_in m)
  summaries-are = table_is summary_size max_summaries (summary_count m) pair_size (summary_table m) summary-bytes-length o.few_summaries o.summary-table

  -- ---- the transmissions

  pub transmission-bytes-length : length (transmission_table m) ≡ transmissions_size
  transmission-bytes-length = let s = o.size in rw length-drop (omega arith)

  pub transmissions-length : length (transmission_places m) ≡ transmission_count m
  transmissions-length = length-places transmission_size (transmission_count m) (transmission_table m)

  pub transmissions-wide : wide transmission_size (transmission_places m)
  transmissions-wide = let f = o.few in places-wide transmission_size (transmission_count m) (transmission_table m) (rw transmission-bytes-length (omega arith))

  pub transmissions-are : transmission_table m ≡ table_of transmission_size max_transmissions (transmission_places m)
  transmissions-are = filled-table transmission_size max_transmissions (transmission_count m) (transmission_table m) transmission-bytes-length o.few o.zeros

  module _ (b : List ℕ) (i : Memᴰ b (transmission_places m)) where
    pub block-parts : Parts (convicted_in m) b
    block-parts = parts (convicted_in m) b (passes (transmission_formed (begin_formed (convicted_in m))) (transmission_places m) o.transmissions-formed b i)

    pub block_size : length b ≡ transmission_size
    block_size = wide-in transmission_size (transmission_places m) transmissions-wide b i

    pub block-sound : Sound b
    block-sound = sound (convicted_in m) b block-parts block_size

  module _ (bytes : Bytes m) where
    pub block-bytes : (b : List ℕ) → Memᴰ b (transmission_places m) → Bytes b
    block-bytes = bytes-of-places transmission_size (transmission_count m) (transmission_table m) (bytes_drop transmissions_at m bytes)

    block-steady : (b : List ℕ) → Memᴰ b (transmission_places m) → Steady b
    block-steady b i = record { sound = block-sound b i; same_bytes = E.encode-decode b (canonical (convicted_in m) b (block-parts b i) (block_size b i) (block-bytes b i)) }

    pub filled : Filled (transmission_table m) (transmission_count m)
    filled = record { few = o.few; size = transmission-bytes-length; is = transmissions-are; steady = block-steady }

    -- what each transmission's bytes hold is what a track may hold
    pub all_held : (t : HeldTransmission) → Memᴰ t (map transmission_in (transmission_places m)) → Held (convicted_in m) t
    all_held = of_map transmission_in (Held (convicted_in m)) (transmission_places m) (λ b i. block_held (convicted_in m) b (block-parts b i) (block_size b i) (block-bytes b i))

    pub blocks-back : map transmission_bytes (map transmission_in (transmission_places m)) ≡ transmission_places m
    blocks-back = written (transmission_places m) block-steady

    -- ---- the whole

    number : (at n : ℕ) → at + n ≤ track_size → drop at m ≡ word_bytes n (word_at n at m) ++ drop (at + n) m
    number at n h = let s = o.size in cut_word m bytes at n (omega arith)

    pub framed : m ≡ frame (convicted_in m) (summary_count m) (transmission_count m) (contested_in m) (summary_table m) (transmission_table m)
    framed =
        let s = o.size in
        let p₀ = number 0 4 (omega arith) in
        let p₁ = number summary_count_at 2 (omega arith) in
        let p₂ : drop transmission_count_at m ≡ transmission_count m ∷ drop zero_at m = drop-cons m transmission_count_at 0 (omega arith) in
        let p₃ : drop zero_at m ≡ 0 ∷ drop contested_at m = drop-cons m zero_at 0 (omega arith) ∙ ap (λ (y : ℕ). y ∷ drop contested_at m) o.nought in
        let p₄ = number contested_at 8 (omega arith) in
        let p₅ = cut m summaries_at summaries_size in
        p₀ ∙ ap (λ (t : List ℕ). word_bytes 4 (convicted_in m) ++ t)
        (p₁ ∙ ap (λ (t : List ℕ). word_bytes 2 (summary_count m) ++ t)
        (p₂ ∙ ap (λ (t : List ℕ). transmission_count m ∷ t)
        (p₃ ∙ ap (λ (t : List ℕ). 0 ∷ t) (p₄ ∙ ap (λ (t : List ℕ). word_bytes 8 (contested_in m) ++ t) p₅))))

    -- a well-formed memory is the encoding of what it decodes to
    pub encode-decode : encode (decode m) ≡ m
    unfolding encode decode
    encode-decode =
        let k : length (map transmission_in (transmission_places m)) ≡ transmission_count m = length-map (transmission_places m) transmission_in ∙ transmissions-length in
        let t : table_of transmission_size max_transmissions (map transmission_bytes (map transmission_in (transmission_places m))) ≡ transmission_table m = ap (table_of transmission_size max_transmissions) blocks-back ∙ sym transmissions-are in
        frame_same (convicted_in m) (contested_in m) summaries-length k (sym summaries-are) t ∙ sym framed
