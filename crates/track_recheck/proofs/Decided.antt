-- The fixes that bytes hold, decided again, can be written back.
use Prim.Native.Nat.{ℕ}
use mathlib.Core.Path.{◌≡◌, subst}
use mathlib.Core.List.Memᴰ
use mathlib.Core.List.{List, map, Memᴰ}
use Rattle.std.specs.List.{filter}
use Rattle.lists.proofs.Lists.{filter-in}
use Rattle.octets.specs.Bytes.{Bytes}
use Rattle.engines.proofs.Masks.{without-small}
use Rattle.fixes.specs.Fix.{Fix}
use Rattle.track_transmission.specs.Held.{HeldTransmission, held_in}
use Rattle.track_transmission.specs.Bytes.{transmission_in, transmission_bytes}
use Rattle.track_transmission.specs.Parts.{Sound, Steady}
use Rattle.track_normalize.specs.Signed.{is_signed}
use Rattle.track_normalize.proofs.Validity.{Holdable, held-holdable, normalized-read, normalized-steady}
use Rattle.track_recheck.specs.Recheck.{stands, standing, unsigned, without_engine}

-- u in these bytes
pub record Decided (u : HeldTransmission) (b : List ℕ) : Type 0 where
  pub steady : Steady b
  pub held : transmission_in b ≡ u

module _ (b : List ℕ) (y : Bytes b) (s : Sound b) where
  abbrev fs : List Fix
  fs = held_in (transmission_in b)

  module _ (ss : List (List ℕ)) where
    stay : (f : Fix) → Memᴰ f (filter (stands ss) fs) → Holdable f
    stay f m = held-holdable b y s f (filter-in (stands ss) fs f m).0

    pub standing-decided : (x : List ℕ) → x ≡ transmission_bytes (standing ss (transmission_in b)) → Decided (standing ss (transmission_in b)) x
    standing-decided x e = rw e (record { steady = normalized-steady (filter (stands ss) fs) stay; held = normalized-read (filter (stands ss) fs) stay })

  module _ (e : ℕ) where
    left : (f : Fix) → Memᴰ f (filter is_signed (map (unsigned e) fs)) → Holdable f
    left f m =
        let r = Memᴰ.of_map (unsigned e) fs (filter-in is_signed (map (unsigned e) fs) f m).0 in
        let h = held-holdable b y s r.0 r.1 in
        subst Holdable r.2
        (record {
          valid = record { record-size = h.valid.record-size; inputs-size = h.valid.inputs-size; signed = without-small r.0.signers e h.valid.signed; identified = h.valid.identified };
          form = h.form;
        })

    pub without-decided : (x : List ℕ) → x ≡ transmission_bytes (without_engine e (transmission_in b)) → Decided (without_engine e (transmission_in b)) x
    without-decided x q = rw q (record { steady = normalized-steady (filter is_signed (map (unsigned e) fs)) left; held = normalized-read (filter is_signed (map (unsigned e) fs)) left })
