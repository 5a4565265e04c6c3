-- A track and its shelf, and the bytes of both, both ways.
use Prim.Native.Nat.{ℕ, ◌≤◌}
use mathlib.Core.Path.{◌≡◌, refl, sym, ap, ap₂, ◌∙◌}
use mathlib.Core.Bool.{Bool, true, ◌&&◌}
use mathlib.Core.List.{List}
use lib.ListN.{length}
use Rattle.std.specs.List.{list_all}
use Rattle.lists.proofs.Bools.{and_left, and_right, and_both}
use Rattle.octets.specs.Bytes.{Bytes}
use Rattle.track_memory.specs.Track.{Track, Transition}
use Rattle.track_memory.specs.Memory.{convicted_in, summaries_in, well_formed, decode, encode}
use Rattle.track_memory.proofs.Opened as O
use Rattle.track_memory.proofs.Valid as V
use Rattle.track_shelf.specs.Layout.{max_waiting}
use Rattle.track_shelf.specs.Waiting.{may_wait}
use Rattle.track_shelf.specs.Memory.{shelf_formed, decode_shelf, encode_shelf}
use Rattle.track_shelf.specs.Both.{Both, both_formed, decode_both, encode_both, commit_both, on_both}
use Rattle.track_shelf.specs.Steps.{Sound}
use Rattle.track_shelf.proofs.Shelves as S

-- a track and a shelf that bytes can hold: each fix may wait
pub record ValidBoth (b : Both) : Type 0 where
  pub track : V.Valid b.track
  pub few : length b.shelf ≤ max_waiting
  pub wait : list_all (may_wait b.track.convicted b.track.summaries) b.shelf ≡ true

-- what is known of a track's bytes by what they hold
pub convicted-held : (m : List ℕ) → convicted_in m ≡ (decode m).convicted
unfolding decode
convicted-held m = refl

pub summaries-held : (m : List ℕ) → summaries_in m ≡ (decode m).summaries
unfolding decode
summaries-held m = refl

-- where a track was read of the bytes
module _ (m w : List ℕ) (t : Track) (c : ℕ) (ss : List (List ℕ)) (k : well_formed m ≡ true) (e : decode m ≡ t) (p : c ≡ t.convicted) (q : ss ≡ t.summaries) where
  pub formed-beside : both_formed m w ≡ shelf_formed c ss w
  formed-beside =
      ap (λ (b : Bool). b && shelf_formed (convicted_in m) (summaries_in m) w) k
      ∙ ap₂ (λ (n : ℕ) (l : List (List ℕ)). shelf_formed n l w) (convicted-held m ∙ ap (λ (s : Track). s.convicted) e ∙ sym p) (summaries-held m ∙ ap (λ (s : Track). s.summaries) e ∙ sym q)

module _ (m w : List ℕ) (h : both_formed m w ≡ true) where
  abbrev c : ℕ
  c = convicted_in m

  abbrev ss : List (List ℕ)
  ss = summaries_in m

  pub is-track : well_formed m ≡ true
  is-track = and_left (well_formed m) (shelf_formed c ss w) h

  is-shelf : shelf_formed c ss w ≡ true
  is-shelf = and_right (well_formed m) (shelf_formed c ss w) h

  pub shelf-sound : Sound w
  shelf-sound = S.sound c ss w is-shelf

  -- each of its fixes may wait
  pub waiting-fixes : list_all (may_wait (decode m).convicted (decode m).summaries) (decode_shelf w) ≡ true
  waiting-fixes = ap₂ (λ (k : ℕ) (l : List (List ℕ)). list_all (may_wait k l) (decode_shelf w)) (sym (convicted-held m)) (sym (summaries-held m)) ∙ S.all-wait c ss w is-shelf

  module _ (b : Bytes m) where
    pub encode-decode : encode_both (decode_both m w) ≡ (m, w)
    encode-decode = ap₂ (λ (x y : List ℕ). (x, y)) (O.encode-decode m (O.opened m is-track) b) (S.encode-decode w shelf-sound)

    pub decode-valid : ValidBoth (decode_both m w)
    decode-valid = record {
      track = V.decode-valid m (O.opened m is-track) b;
      few = rw (S.decode-length w) shelf-sound.few;
      wait = waiting-fixes;
    }

module _ (b : Both) (v : ValidBoth b) where
  abbrev m : List ℕ
  m = encode b.track

  track-back : decode m ≡ b.track
  track-back = V.decode-encode b.track v.track

  pub decode-encode : decode_both m (encode_shelf b.shelf) ≡ b
  decode-encode = λ i. record { track = track-back i; shelf = S.decode-encode b.track.convicted b.track.summaries b.shelf v.few v.wait i }

  pub formed-encode : both_formed m (encode_shelf b.shelf) ≡ true
  formed-encode =
      let c-is : convicted_in m ≡ b.track.convicted = convicted-held m ∙ ap (λ (t : Track). t.convicted) track-back in
      let ss-is : summaries_in m ≡ b.track.summaries = summaries-held m ∙ ap (λ (t : Track). t.summaries) track-back in
      let s : shelf_formed (convicted_in m) (summaries_in m) (encode_shelf b.shelf) ≡ true =
      ap₂ (λ (k : ℕ) (l : List (List ℕ)). shelf_formed k l (encode_shelf b.shelf)) c-is ss-is ∙ S.formed-encode b.track.convicted b.track.summaries b.shelf v.few v.wait in
      and_both (well_formed m) (shelf_formed (convicted_in m) (summaries_in m) (encode_shelf b.shelf)) (V.formed-encode b.track v.track) s

  -- an operation on their bytes is the operation on them
  pub on-encode : (f : Both → Transition Both) → on_both f m (encode_shelf b.shelf) ≡ commit_both m (encode_shelf b.shelf) (f b)
  unfolding on_both
  on-encode f = rw (formed-encode, decode-encode) refl
