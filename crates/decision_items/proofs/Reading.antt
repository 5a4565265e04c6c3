-- What is read of an item is read of its bytes.
use mathlib.Core.Path.{◌≡◌, sym, ap, ◌∙◌, refl}
use mathlib.Core.List.{List, [], ◌∷◌}
use Prim.Native.Nat.{ℕ, zero, suc, ◌+◌, ◌*◌, ◌≤◌, ◌<◌}
use native.Mathlib.Omega.{arith}
use lib.ListN.{get_or, take, drop}
use lib.Seq.{take-take, drop-drop, get_or-take, get_or-drop}
use Rattle.octets.specs.Words.{word}
use Rattle.record.specs.Layout.{record_size}
use Rattle.decision_items.specs.Layout.{hash_size, item_inputs_at, item_identity_at, standing_at, consistent_at, preferred_at, verified_at, item_size}
use Rattle.decision_items.specs.Items.{item_record, item_inputs, item_identity, item_standing, item_consistent, item_preferred, item_verified, verified_case, candidate_of}
use Rattle.decision_items.specs.Values.{IsItem}
use Rattle.decision_items.specs.declared.item.Item.{Item}

part_in : (k j w : ℕ) (l : List ℕ) → j + k ≤ w → take k (drop j (take w l)) ≡ take k (drop j l)
part_in k zero w l h = take-take k w l (omega arith)
part_in k (suc j) zero l h = absurd (omega arith)
part_in k (suc j) (suc w) [] h = refl
part_in k (suc j) (suc w) (x ∷ l) h = part_in k j w l (omega arith)

-- the bytes of item i
abbrev item_at : List ℕ → ℕ → List ℕ
item_at s i = take item_size (drop (i * item_size) s)

module _ (s : List ℕ) (i : ℕ) where
  part_at : (k j : ℕ) → j + k ≤ item_size → take k (drop (i * item_size + j) s) ≡ take k (drop j (item_at s i))
  part_at k j h = sym (part_in k j item_size (drop (i * item_size) s) h ∙ ap (take k) (drop-drop j (i * item_size) s))

  record-at : item_record s i ≡ take record_size (item_at s i)
  record-at = sym (take-take record_size item_size (drop (i * item_size) s) (omega arith))

  byte_at : (j : ℕ) → j < item_size → get_or s (i * item_size + j) 0 ≡ get_or (item_at s i) j 0
  byte_at j h = sym (get_or-take item_size (drop (i * item_size) s) j 0 h ∙ get_or-drop (i * item_size) s j 0)

-- two items of the same bytes
module _ (s t : List ℕ) (i j : ℕ) (e : item_at t j ≡ item_at s i) where
  pub same-record : item_record t j ≡ item_record s i
  same-record = record-at t j ∙ ap (take record_size) e ∙ sym (record-at s i)

  same-part : (k at : ℕ) → at + k ≤ item_size → take k (drop (j * item_size + at) t) ≡ take k (drop (i * item_size + at) s)
  same-part k at h = part_at t j k at h ∙ ap (λ (x : List ℕ). take k (drop at x)) e ∙ sym (part_at s i k at h)

  same_byte : (at : ℕ) → at < item_size → get_or t (j * item_size + at) 0 ≡ get_or s (i * item_size + at) 0
  same_byte at h = byte_at t j at h ∙ ap (λ (x : List ℕ). get_or x at 0) e ∙ sym (byte_at s i at h)

  pub same_inputs : item_inputs t j ≡ item_inputs s i
  same_inputs = same-part hash_size item_inputs_at (omega arith)

  pub same-identity : item_identity t j ≡ item_identity s i
  same-identity = same-part hash_size item_identity_at (omega arith)

  pub same-standing : item_standing t j ≡ item_standing s i
  same-standing = ap word (same-part 8 standing_at (omega arith))

  pub same-consistent : item_consistent t j ≡ item_consistent s i
  same-consistent = rw (same_byte consistent_at (omega arith)) refl

  pub same-preferred : item_preferred t j ≡ item_preferred s i
  same-preferred = rw (same_byte preferred_at (omega arith)) refl

  pub same-verified : item_verified t j ≡ item_verified s i
  same-verified = ap verified_case (same_byte verified_at (omega arith))

  same-candidate : candidate_of t j ≡ candidate_of s i
  same-candidate = rw (same-standing, same-record, same-consistent, same-preferred, same-verified) refl

  -- and a value that is one of them is the other
  pub same-item : (x : Item) → IsItem t j x → IsItem s i x
  same-item x h = record { report = h.report ∙ same-record; inputs = h.inputs ∙ same_inputs; identity = h.identity ∙ same-identity; candidate = h.candidate ∙ same-candidate }

-- the record of the bytes of item i alone
pub same-alone : (s bytes : List ℕ) (i : ℕ) → bytes ≡ item_at s i → item_record bytes 0 ≡ item_record s i
same-alone s bytes i e = same-record s bytes i 0 (ap (λ (l : List ℕ). take item_size (drop (0 * item_size) l)) e ∙ take-take item_size item_size (drop (i * item_size) s) (omega arith))

-- a value that was read of them is item i
pub read-alone : (s bytes : List ℕ) (i : ℕ) (x : Item) → bytes ≡ item_at s i → IsItem bytes 0 x → IsItem s i x
read-alone s bytes i x e = same-item s bytes i 0 (ap (λ (l : List ℕ). take item_size (drop (0 * item_size) l)) e ∙ take-take item_size item_size (drop (i * item_size) s) (omega arith)) x
