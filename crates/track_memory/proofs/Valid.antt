-- Tracks that bytes can hold: their bytes are well-formed, and decode to them; what well-formed bytes decode to is one.
use Prim.Native.Nat.{ℕ, ◌^◌, ◌≤◌, ◌<◌}
use mathlib.Core.Path.{◌≡◌, refl, sym, ap, ap₂, ◌∙◌}
use mathlib.Core.Bool.{true, ◌&&◌}
use mathlib.Core.List.{List, [], ◌∷◌, map, Memᴰ}
use native.Mathlib.Omega.{arith}
use lib.Dec.{leb, eqb}
use lib.ListN.{length, get_or, length-map}
use borrow.Author.Tests.{eq-eqb, le-leb}
use Rattle.std.specs.List.{list_all}
use Rattle.lists.proofs.Bools.{and_both}
use Rattle.octets.specs.Bytes.{Bytes}
use Rattle.tables.specs.Places.{places, table_of, is_table, ascending}
use Rattle.tables.proofs.Tables.{wide, table-length, is-table-of, places-of-table}
use Rattle.models.specs.Summary.{summary_size}
use Rattle.models.specs.Limits.{max_summaries, summaries_size}
use Rattle.models.specs.Summaries.{summary_formed}
use Rattle.signed_records.specs.Begins.{begin_formed}
use Rattle.octets.proofs.Framing.{word_small}
use Rattle.track_transmission.specs.Layout.{transmission_size}
use Rattle.track_transmission.specs.Held.{HeldTransmission}
use Rattle.track_transmission.specs.Bytes.{filled_by, transmission_formed, transmission_in, transmission_bytes}
use Rattle.track_transmission.proofs.Encoding as E
use Rattle.track_arrange.specs.Arranged.{max_transmissions}
use Rattle.track_memory.specs.Layout.{pair_size, zero_at, contested_at, transmissions_size, track_size}
use Rattle.track_memory.specs.Track.{Track}
use Rattle.track_memory.specs.Memory.{convicted_in, summary_count, transmission_count, contested_in, summary_table, transmission_table, summaries_in, transmission_places, well_formed, decode, encode}
use Rattle.track_memory.proofs.Frames.{frame-length, read-convicted, read-summary-count, read-transmission-count, read-zero, read-contested, frame-summaries, frame-transmissions}
use Rattle.track_memory.proofs.Blocks.{all_pass, of_map, filled_of, Held, block-formed}
use Rattle.track_memory.proofs.Opened.{Opened, summaries-length, summaries-wide, summaries-ascend, transmissions-length, all_held}

pub record Valid (s : Track) : Type 0 where
  pub small : s.convicted < 256 ^ 4
  pub counted : s.contested < 256 ^ 8
  pub few_summaries : length s.summaries ≤ max_summaries
  pub few : length s.transmissions ≤ max_transmissions
  pub summaries-wide : wide summary_size s.summaries
  pub summaries-ascend : ascending pair_size s.summaries ≡ true
  pub summaries-formed : list_all (summary_formed s.convicted) s.summaries ≡ true
  pub held : (t : HeldTransmission) → Memᴰ t s.transmissions → Held s.convicted t

module _ (s : Track) (v : Valid s) where
  abbrev c : ℕ
  c = s.convicted

  abbrev ns : ℕ
  ns = length s.summaries

  abbrev nt : ℕ
  nt = length s.transmissions

  abbrev bs : List (List ℕ)
  bs = map transmission_bytes s.transmissions

  abbrev t₁ : List ℕ
  t₁ = table_of summary_size max_summaries s.summaries

  abbrev t₂ : List ℕ
  t₂ = table_of transmission_size max_transmissions bs

  bs-wide : wide transmission_size bs
  bs-wide = E.map-wide transmission_size transmission_bytes s.transmissions (λ t i. E.bytes-length t (v.held t i).kept.valid)

  bs-length : length bs ≡ nt
  bs-length = length-map s.transmissions transmission_bytes

  l₁ : length t₁ ≡ summaries_size
  l₁ = table-length summary_size max_summaries s.summaries v.summaries-wide v.few_summaries

  l₂ : length t₂ ≡ transmissions_size
  l₂ = table-length transmission_size max_transmissions bs bs-wide (rw bs-length v.few)

  convicted-back : convicted_in (encode s) ≡ c
  unfolding encode
  convicted-back = read-convicted c ns nt s.contested t₁ t₂ v.small

  summary-count-back : summary_count (encode s) ≡ ns
  unfolding encode
  summary-count-back = read-summary-count c ns nt s.contested t₁ t₂ (let f = v.few_summaries in omega arith)

  count-back : transmission_count (encode s) ≡ nt
  unfolding encode
  count-back = read-transmission-count c ns nt s.contested t₁ t₂

  zero-back : get_or (encode s) zero_at 0 ≡ 0
  unfolding encode
  zero-back = read-zero c ns nt s.contested t₁ t₂

  contested-back : contested_in (encode s) ≡ s.contested
  unfolding encode
  contested-back = read-contested c ns nt s.contested t₁ t₂ v.counted

  summary-bytes-back : summary_table (encode s) ≡ t₁
  unfolding encode
  summary-bytes-back = frame-summaries c ns nt s.contested t₁ t₂ l₁

  bytes_back : transmission_table (encode s) ≡ t₂
  unfolding encode
  bytes_back = frame-transmissions c ns nt s.contested t₁ t₂ l₁

  pub summaries-back : summaries_in (encode s) ≡ s.summaries
  summaries-back = ap₂ (places summary_size) summary-count-back summary-bytes-back ∙ places-of-table summary_size max_summaries s.summaries v.summaries-wide

  pub places-back : transmission_places (encode s) ≡ bs
  places-back = ap₂ (places transmission_size) (count-back ∙ sym bs-length) bytes_back ∙ places-of-table transmission_size max_transmissions bs bs-wide

  pub transmissions-back : map transmission_in (transmission_places (encode s)) ≡ s.transmissions
  transmissions-back = ap (map transmission_in) places-back ∙ go s.transmissions (λ t i. E.decode-encode t (v.held t i).kept.valid (v.held t i).kept.bounded)
    where
      go : (ts : List HeldTransmission) → ((t : HeldTransmission) → Memᴰ t ts → transmission_in (transmission_bytes t) ≡ t) → map transmission_in (map transmission_bytes ts) ≡ ts
      go [] f = refl
      go (t ∷ ts) f = ap₂ ◌∷◌ (f t (Memᴰ.head refl)) (go ts (λ u i. f u (Memᴰ.tail i)))

  pub decode-encode : decode (encode s) ≡ s
  unfolding decode
  decode-encode = λ j. record { convicted = convicted-back j; contested = contested-back j; summaries = summaries-back j; transmissions = transmissions-back j }

  size : length (encode s) ≡ track_size
  unfolding encode
  size = frame-length c ns nt s.contested t₁ t₂ ∙ omega (arith, l₁, l₂)

  summary-table : is_table pair_size summary_size (summary_count (encode s)) (summary_table (encode s)) ≡ true
  summary-table = rw (summary-count-back, summary-bytes-back) (is-table-of summary_size max_summaries pair_size s.summaries v.summaries-wide v.summaries-ascend)

  formed-summaries : list_all (summary_formed (convicted_in (encode s))) (summaries_in (encode s)) ≡ true
  formed-summaries = rw (convicted-back, summaries-back) v.summaries-formed

  formed-transmissions : filled_by (transmission_formed (begin_formed (convicted_in (encode s)))) transmission_size (transmission_count (encode s)) (transmission_table (encode s)) ≡ true
  formed-transmissions =
      ap₂ (λ (n : ℕ) (l : List ℕ). filled_by (transmission_formed (begin_formed (convicted_in (encode s)))) transmission_size n l) (count-back ∙ sym bs-length) bytes_back
      ∙ ap (λ (k : ℕ). filled_by (transmission_formed (begin_formed k)) transmission_size (length bs) t₂) convicted-back
      ∙ filled_of (transmission_formed (begin_formed c)) transmission_size max_transmissions bs bs-wide
      (all_pass (transmission_formed (begin_formed c)) bs (of_map transmission_bytes (λ b. transmission_formed (begin_formed c) b ≡ true) s.transmissions (λ t i. block-formed c t (v.held t i))))

  -- the bytes of a valid track are one
  pub formed-encode : well_formed (encode s) ≡ true
  unfolding well_formed
  formed-encode =
      let a₁ = eqb (length (encode s)) track_size in
      let a₂ = leb (summary_count (encode s)) max_summaries in
      let a₃ = leb (transmission_count (encode s)) max_transmissions in
      let a₄ = eqb (get_or (encode s) zero_at 0) 0 in
      let a₅ = is_table pair_size summary_size (summary_count (encode s)) (summary_table (encode s)) in
      let a₆ = list_all (summary_formed (convicted_in (encode s))) (summaries_in (encode s)) in
      let a₇ = filled_by (transmission_formed (begin_formed (convicted_in (encode s)))) transmission_size (transmission_count (encode s)) (transmission_table (encode s)) in
      let h₂ : a₂ ≡ true = le-leb (summary_count (encode s)) max_summaries (rw summary-count-back v.few_summaries) in
      let h₃ : a₃ ≡ true = le-leb (transmission_count (encode s)) max_transmissions (rw count-back v.few) in
      and_both a₁ (a₂ && (a₃ && (a₄ && (a₅ && (a₆ && a₇))))) (eq-eqb (length (encode s)) track_size size)
      (and_both a₂ (a₃ && (a₄ && (a₅ && (a₆ && a₇)))) h₂
      (and_both a₃ (a₄ && (a₅ && (a₆ && a₇))) h₃
      (and_both a₄ (a₅ && (a₆ && a₇)) (eq-eqb (get_or (encode s) zero_at 0) 0 zero-back) (and_both a₅ (a₆ && a₇) summary-table (and_both a₆ a₇ formed-summaries formed-transmissions)))))

-- what bytes decode to is valid
pub decode-valid : (m : List ℕ) → Opened m → Bytes m → Valid (decode m)
unfolding decode
decode-valid m o b = record {
  small = let s = o.size in word_small m b 0 4 (omega arith);
  counted = let s = o.size in word_small m b contested_at 8 (omega arith);
  few_summaries = rw (summaries-length m o) o.few_summaries;
  few = rw (length-map (transmission_places m) transmission_in, transmissions-length m o) o.few;
  summaries-wide = summaries-wide m o;
  summaries-ascend = summaries-ascend m o;
  summaries-formed = o.summaries-formed;
  held = all_held m o b;
}
