-- Fixes with the same message, tags and model inputs have one identity.
use Prim.Native.Nat.{ℕ, ◌*◌}
use mathlib.Core.Path.{◌≡◌, sym, ap, ap₂, ◌∙◌}
use mathlib.Core.Bool.{true, ◌&&◌}
use mathlib.Core.List.{List, ◌∷◌, ◌++◌}
use native.Mathlib.Omega.{arith}
use lib.ListN.{length}
use Rattle.octets.specs.Order.{same}
use Rattle.octets.proofs.Comparison.{same-eq, same_refl}
use Rattle.lists.proofs.Bools.{and_left, and_right}
use Rattle.hashing.specs.Blake2s.{blake2s256}
use Rattle.decision_items.proofs.Pairing.{taken}
use Rattle.record.specs.Layout.{tags_at}
use Rattle.record.specs.Fields.{message_length, message, tag_count}
use Rattle.record.specs.Relations.{same_message}
use Rattle.record.specs.Formed.{well_formed}
use Rattle.record.proofs.Parts.{formed, message-has}
use Rattle.models.specs.Identity.{tag_bytes, set_hash, identity_from}
use Rattle.fixes.specs.Fix.{Fix}
use Rattle.track_transmission.specs.Held.{is_of}
use Rattle.fixes.specs.Made.{fix_from}
use Rattle.track_transmission.specs.Values.{same_set}

tags-length : (r : List ℕ) → well_formed r ≡ true → length (tag_bytes r) ≡ 8 * tag_count r
tags-length r w = let f = formed r w in taken (8 * tag_count r) tags_at r (omega (arith, f.size, f.few))

same_hash : (r s : List ℕ) → well_formed r ≡ true → well_formed s ≡ true → message r ≡ message s → tag_bytes r ≡ tag_bytes s → set_hash r ≡ set_hash s
unfolding set_hash
same_hash r s w v m t =
    let n : message_length r ≡ message_length s = sym (message-has r (formed r w)) ∙ ap length m ∙ message-has s (formed s v) in
    let e : 8 * tag_count r ≡ 8 * tag_count s = sym (tags-length r w) ∙ ap length t ∙ tags-length s v in
    let k : tag_count r ≡ tag_count s = omega (arith, e) in
    ap blake2s256 (ap₂ ◌∷◌ n (ap₂ ◌++◌ m (ap₂ ◌∷◌ k t)))

pub same-set : (r s i j : List ℕ) (m n : ℕ) (f g : Fix)
    → well_formed r ≡ true → well_formed s ≡ true → fix_from r i m ≡ f → fix_from s j n ≡ g → same_set f g ≡ true → is_of g f ≡ true
same-set r s i j m n f g w v a b e =
    let x : same_set (fix_from r i m) (fix_from s j n) ≡ true = ap₂ same_set a b ∙ e in
    let p = and_left (same_message r s) (same (tag_bytes r) (tag_bytes s) && same i j) x in
    let q = and_right (same_message r s) (same (tag_bytes r) (tag_bytes s) && same i j) x in
    let t = same-eq (tag_bytes r) (tag_bytes s) (and_left (same (tag_bytes r) (tag_bytes s)) (same i j) q) in
    let c = same-eq i j (and_right (same (tag_bytes r) (tag_bytes s)) (same i j) q) in
    let d = ap₂ identity_from (same_hash r s w v (same-eq (message r) (message s) p) t) c in
    ap₂ (λ (x y : Fix). is_of y x) (sym a) (sym b) ∙ ap (λ (z : List ℕ). same z (identity_from (set_hash s) j)) d ∙ same_refl (identity_from (set_hash s) j)
