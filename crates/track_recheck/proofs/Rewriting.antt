-- The transmissions of a table decided again, one after another.
use Prim.Native.Nat.{ℕ, ◌+◌, ◌*◌, ◌-◌, ◌≤◌, ◌<◌}
use mathlib.Core.Path.{◌≡◌, ap, ◌∙◌}
use mathlib.Core.List.{List, [], map}
use lib.ListN.{get_or, take, drop, set}
use borrow.Rule.Slice.PartMut.{put_mid}
use Rattle.track_transmission.specs.Layout.{transmission_size}
use Rattle.track_transmission.specs.Held.{HeldTransmission}
use Rattle.track_transmission.specs.Bytes.{transmission_in}
use Rattle.track_transmission.specs.Parts.{Steady}
use Rattle.track_arrange.specs.Blocks.{held, Filled}
use Rattle.track_arrange.proofs.Tables.{held-length, lent-steady, lent-held, put-filled, put-held}
use Rattle.track_recheck.proofs.Changing.{Changed, changed-none, changed-here, changed-all, changed-set}

-- of the n transmissions of t₀ the first i are decided again in t
pub record Renewed (f : HeldTransmission → HeldTransmission) (n i : ℕ) (t₀ t : List ℕ) : Type 0 where
  pub filled : Filled t n
  pub changed : Changed f (held n t₀) i (held n t)

pub renewed-none : (f : HeldTransmission → HeldTransmission) (n : ℕ) (t : List ℕ) → Filled t n → Renewed f n 0 t t
renewed-none f n t e = record { filled = e; changed = changed-none f (held n t) }

module _ {f : HeldTransmission → HeldTransmission} {n i : ℕ} {t₀ t : List ℕ} (r : Renewed f n i t₀ t) where
  pub renewed-all : n ≤ i → held n t ≡ map f (held n t₀)
  renewed-all h = changed-all r.changed (rw (held-length n t₀) h)

  module _ (h : i < n) where
    abbrev at : ℕ
    at = i * transmission_size

    abbrev w : ℕ
    w = at + transmission_size - at

    -- the next as it is lent
    pub next-steady : Steady (take w (drop at t))
    next-steady = lent-steady t n i r.filled h

    pub next-held : transmission_in (take w (drop at t)) ≡ get_or (held n t₀) i (transmission_in [])
    next-held = lent-held t n i r.filled h ∙ changed-here r.changed (transmission_in []) (rw (held-length n t₀) h)

    pub renewed-next : (y : List ℕ) → Steady y → transmission_in y ≡ f (transmission_in (take w (drop at t))) → Renewed f n (i + 1) t₀ (put_mid at w t y)
    renewed-next y s e = record {
      filled = put-filled t n i r.filled h y s;
      changed =
          changed-set r.changed (transmission_in []) (rw (held-length n t₀) h) (held n (put_mid at w t y))
          (put-held t n i r.filled h y s ∙ ap (set (held n t) i) (e ∙ ap f (lent-held t n i r.filled h)));
    }
