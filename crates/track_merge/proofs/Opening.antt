-- A fix that opens a transmission of its own: what is left is what the bytes hold.
use Prim.Native.Nat.{ℕ}
use mathlib.Core.Path.{◌≡◌, refl, sym, ap, ◌∙◌, subst}
use mathlib.Core.Bool.{Bool, cond}
use mathlib.Core.List.Memᴰ
use mathlib.Core.List.{List, [], ◌∷◌, ◌++◌, Memᴰ}
use Rattle.std.specs.List.{list_any}
use Rattle.fixes.specs.Fix.{Fix}
use Rattle.track_transmission.specs.Held.{HeldTransmission}
use Rattle.track_transmission.specs.Bytes.{transmission_in, transmission_bytes}
use Rattle.track_transmission.specs.Parts.{Steady}
use Rattle.track_normalize.proofs.Claimed.{alone-stands}
use Rattle.track_normalize.proofs.Validity.{Holdable, normalized-read, normalized-steady}
use Rattle.track_arrange.specs.Arranged.{arranged}
use Rattle.track_arrange.specs.Blocks.{held, Filled}
use Rattle.track_arrange.proofs.Tables.{held-count, held-bytes}
use Rattle.track_merge.specs.declared.Merged.TheVariants.{Changed, Dropped}
use Rattle.track_merge.specs.Merged.{keeps, opened}
use Rattle.track_merge.specs.Searching.{single, Leaves}

module _ (f : Fix) (h : Holdable f) where
  one-holdable : (g : Fix) → Memᴰ g (f ∷ []) → Holdable g
  one-holdable g m = subst Holdable (sym (Memᴰ.eq_of_singleton m)) h

  pub single-steady : Steady (transmission_bytes (single f))
  single-steady = subst (λ (t : HeldTransmission). Steady (transmission_bytes t)) (alone-stands f) (normalized-steady (f ∷ []) one-holdable)

  pub single-read : transmission_in (transmission_bytes (single f)) ≡ single f
  single-read = ap (λ (t : HeldTransmission). transmission_in (transmission_bytes t)) (sym (alone-stands f)) ∙ normalized-read (f ∷ []) one-holdable ∙ alone-stands f

-- the table that is left, with such a transmission beside others
pub leaves : (f : Fix) (ts : List HeldTransmission) (b t : List ℕ) (n : ℕ) (k : Bool) → transmission_in b ≡ single f → Filled t n → held n t ≡ arranged (ts ++ (transmission_in b ∷ [])) → k ≡ list_any (keeps f) (held n t)
    → Leaves (opened f ts) (record { answer = cond k Changed Dropped; entered = 0; count = n }) t
unfolding opened
leaves f ts b t n k one filled left kept =
    let e = left ∙ ap (λ (u : HeldTransmission). arranged (ts ++ (u ∷ []))) (one ∙ sym (alone-stands f)) in
    record { answer = ap (λ (c : Bool). cond c Changed Dropped) (kept ∙ ap (list_any (keeps f)) e); entered = refl; count = held-count filled e; bytes = held-bytes filled e }
