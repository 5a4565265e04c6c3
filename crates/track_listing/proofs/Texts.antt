-- Transmissions one after another, as a loop writes them.
use Rattle.std.proofs.Common.{◌≡◌, ℕ, ◌+◌, ◌≤◌, ◌<◌, List, length, drop, get_or, refl, sym, ap, ◌∙◌, add-one, drop-cons, drop_of_length-le}
use Rattle.text.specs.declared.Text.{Text}
use Rattle.text.specs.Texts.{append}
use Rattle.text.proofs.Appending.{append-append, append-nil}
use Rattle.track_transmission.specs.Held.{HeldTransmission}
use Rattle.track_listing.specs.Listing.{held_text, held_from}

module _ (a b : Text) (ts : List HeldTransmission) (i : ℕ) where
  -- the next is written, and those behind it are left
  pub turn : (d : HeldTransmission) → b ≡ append a (held_text (i + 1) (get_or ts i d)) → i < length ts → append b (held_from (i + 1 + 1) (drop (i + 1) ts)) ≡ append a (held_from (i + 1) (drop i ts))
  unfolding held_from
  turn d e h =
      let t : List ℕ = held_text (i + 1) (get_or ts i d) in
      ap (λ (x : Text). append x (held_from (i + 1 + 1) (drop (i + 1) ts))) e
      ∙ append-append a t (held_from (i + 1 + 1) (drop (i + 1) ts))
      ∙ ap (append a) (rw (drop-cons ts i d h, add-one (i + 1), add-one i) refl)

  -- nothing is left
  pub end : length ts ≤ i → append b (held_from (i + 1) (drop i ts)) ≡ a → b ≡ a
  unfolding held_from
  end h e = sym (append-nil b) ∙ sym (ap (λ (us : List HeldTransmission). append b (held_from (i + 1) us)) (drop_of_length-le ts h)) ∙ e
