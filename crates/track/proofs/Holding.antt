-- The whole of a summary that is held: what is answered and left where it is put in, with a recheck and without.
use Rattle.std.proofs.Common.{◌≡◌, ℕ, Bool, true, false, not, ◌&&◌, leb, List, length, take, sym, refl, ap, ◌∙◌, arith}
use Rattle.lists.proofs.Bools.{by, no_true}
use Rattle.tables.specs.Places.{holds}
use Rattle.errors.specs.After.{After, after}
use Rattle.models.specs.Limits.{max_summaries}
use Rattle.track_memory.specs.Layout.{pair_size}
use Rattle.track_memory.specs.Track.{Track}
use Rattle.track_memory.specs.Memory.{decode, encode, commit}
use Rattle.track_memory.specs.Steps.{with_pair, put_pair}
use Rattle.track_recheck.specs.Recheck.{recheck}
use Rattle.track.specs.Track.{becomes_disputed, hold_pair}

module _ (m : List ℕ) (model : ℕ) (p : List ℕ) where
  abbrev s : Track
  s = decode m

  abbrev full : Bool
  full = not (holds pair_size (take pair_size p) s.summaries) && leb max_summaries (length s.summaries)

  put_full : full ≡ true → commit m (put_pair p s) ≡ after 5 m
  put_full t = rw t refl

  put-room : full ≡ false → commit m (put_pair p s) ≡ after 0 (encode (with_pair p s))
  put-room t = rw t refl

  module _ (a : ℕ) (x : List ℕ) (q : after a x ≡ commit m (put_pair p s)) where
    answer-is : (n : ℕ) (l : List ℕ) → commit m (put_pair p s) ≡ after n l → a ≡ n
    answer-is n l e = ap (λ (y : After (List ℕ)). y.answer) (q ∙ e)

    -- it is refused
    pub pair-refused : (a ≡ 0 → ⊥) → after a x ≡ commit m (hold_pair model p s)
    pair-refused z = by full (λ t. q ∙ put_full t ∙ sym (rw t refl)) (λ t. absurd (z (answer-is 0 (encode (with_pair p s)) (put-room t))))

    module _ (z : a ≡ 0) where
      pub pair-room : full ≡ false
      pair-room = no_true full (λ t. let e : a ≡ 5 = answer-is 5 m (put_full t) in omega (arith, e, z))

      pub pair_left : x ≡ encode (with_pair p s)
      pair_left = ap (λ (y : After (List ℕ)). y.left) (q ∙ put-room pair-room)

      -- no recheck
      pub pair-plain : becomes_disputed model s.summaries (with_pair p s).summaries ≡ false → after 0 x ≡ commit m (hold_pair model p s)
      pair-plain d = ap (after 0) pair_left ∙ sym (rw (pair-room, d) refl)

      pub pair-rechecked : becomes_disputed model s.summaries (with_pair p s).summaries ≡ true → (y : List ℕ) → y ≡ encode (recheck (with_pair p s)) → after 0 y ≡ commit m (hold_pair model p s)
      pair-rechecked d y e = ap (after 0) e ∙ sym (rw (pair-room, d) refl)
