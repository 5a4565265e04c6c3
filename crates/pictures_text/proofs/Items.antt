-- A case's items are three items long and are not bad.
use Rattle.std.proofs.Common.{◌≡◌, refl, sym, ap, ◌∙◌, subst, arith, ℕ, ◌+◌, ◌*◌, ◌≤◌, Bool, true, false, List, [], ◌++◌, length, take, drop, length-append, append_assoc, append-nil, ◌-◌}
use Rattle.std.specs.Prelude.{not}
use Rattle.std.specs.List.{list_any}
use Rattle.std.proofs.Math.Seq.{take-append_seam, drop-append_seam}
use Rattle.std.proofs.lemmas.List.{drop-drop}
use mathlib.Core.List.{Memᴰ}
use Rattle.lists.specs.Ordered.{count_from, up_to}
use Rattle.lists.proofs.Bools.{by, not-false-t}
use Rattle.lists.proofs.Lists.{any-no}
use Rattle.octets.specs.Masks.{bit}
use Rattle.octets.specs.Words.{word, word_bytes}
use Rattle.octets.specs.Order.{is_before, same}
use Rattle.octets.specs.Runs.{all_zero}
use Rattle.record.specs.Layout.{record_size}
use Rattle.record.specs.Fields.{tags_from}
use Rattle.record.specs.Formed.{well_formed, ascends, ascends_from, all_up_to}
use Rattle.record.specs.Encoded.{bytes_of}
use Rattle.record.proofs.Encoded.{bytes-length}
use Rattle.decision_items.specs.Layout.{item_size, hash_size, item_identity_at}
use Rattle.decision_items.specs.Items.{item_record, item_identity, same_identity}
use Rattle.decision.specs.Answer.{is_bad, bad_at}
use Rattle.pictures_text.proofs.Pairs.{count-of}
use Rattle.pictures_text.specs.declared.Member.{Member}
use Rattle.pictures_text.specs.declared.Case.{Case}
use Rattle.pictures_text.specs.Cases.{masks, HasTags, IsCase}
use Rattle.pictures_text.specs.Items.{tag_in, tags_of, said_of, inputs, identity, stand, item_of, items_of}

-- ---- how long they are

tag-few : (mask tag : ℕ) → length (tag_in mask tag) ≤ 1
tag-few mask tag = by (bit mask (tag - 1)) (λ t. rw t (omega arith)) (λ t. rw t (omega arith))

pub tags-few : (mask : ℕ) → length (tags_of mask) ≤ 3
unfolding tags_of
tags-few mask = simp length-append (omega (arith, tag-few mask 1, tag-few mask 2, tag-few mask 3))

six : (m : Member) → length (said_of m).covariance ≡ 6
six m = by m.unit (λ t. rw t refl) (λ t. rw t refl)

record-long : (m : Member) → length (bytes_of (said_of m)) ≡ record_size
record-long m = bytes-length (said_of m) (omega arith) (let h = tags-few m.tags in omega arith) (omega arith) (six m)

pub item-long : (m : Member) (n : ℕ) → length (item_of m n) ≡ item_size
unfolding item_of
item-long m n = length-append (bytes_of (said_of m)) (inputs ++ (identity n ++ stand)) ∙ ap (λ (k : ℕ). k + 75) (record-long m)

pub items-long : (c : Case) → length (items_of c) ≡ 3 * item_size
items-long c = simp length-append (omega (arith, item-long c.first 1, item-long c.second 2, item-long c.third 3))

-- ---- what each field is

-- what is at the front
take-front : (n : ℕ) (x r : List ℕ) → length x ≡ n → take n (x ++ r) ≡ x
take-front n x r e = ap (λ (k : ℕ). take k (x ++ r)) (sym e) ∙ take-append_seam x r

-- what is behind it
drop-front : (n : ℕ) (x r : List ℕ) → length x ≡ n → drop n (x ++ r) ≡ r
drop-front n x r e = ap (λ (k : ℕ). drop k (x ++ r)) (sym e) ∙ drop-append_seam x r

-- an item that stands in bytes, with its number
record Stands (s : List ℕ) (i : ℕ) (m : Member) (n : ℕ) : Type 0 where
  pub rest : List ℕ
  pub here : drop (i * item_size) s ≡ item_of m n ++ rest

module _ (s : List ℕ) (i : ℕ) (m : Member) (n : ℕ) (w : Stands s i m n) where
  record-here : item_record s i ≡ bytes_of (said_of m)
  unfolding item_of
  record-here =
      ap (take record_size) (w.here ∙ append_assoc (bytes_of (said_of m)) (inputs ++ (identity n ++ stand)) w.rest)
      ∙ take-front record_size (bytes_of (said_of m)) _ (record-long m)

  identity-here : item_identity s i ≡ identity n
  unfolding item_of
  identity-here =
      let b = bytes_of (said_of m) in
      ap (take hash_size)
      (sym (drop-drop item_identity_at (i * item_size) s)
      ∙ ap (drop item_identity_at) (w.here ∙ append_assoc b (inputs ++ (identity n ++ stand)) w.rest)
      ∙ sym (drop-drop hash_size record_size (b ++ ((inputs ++ (identity n ++ stand)) ++ w.rest)))
      ∙ ap (drop hash_size) (drop-front record_size b _ (record-long m)))

-- ---- they are not bad

formed-each : (u : Bool) → list_any (λ (k : ℕ). not (well_formed (bytes_of (said_of (record { tags = k; unit = u }))))) masks ≡ false
unfolding well_formed bytes_of word_bytes word tags_of bit count_from all_zero ascends ascends_from all_up_to tags_from
formed-each true = refl
formed-each false = refl

pub in-masks : (k : ℕ) → 1 ≤ k → k ≤ 7 → Memᴰ k masks
in-masks k a b = let e : 1 + (k - 1) ≡ k = omega arith in subst (λ (j : ℕ). Memᴰ j masks) e (count-of 1 7 (k - 1) (omega arith))

formed : (m : Member) → HasTags m → well_formed (bytes_of (said_of m)) ≡ true
formed m (a, b) = not-false-t _ (any-no (λ (k : ℕ). not (well_formed (bytes_of (said_of (record { tags = k; unit = m.unit }))))) masks m.tags (formed-each m.unit) (in-masks m.tags a b))

not_bad : (s : List ℕ) (i : ℕ) (m : Member) (n : ℕ) → Stands s i m n → HasTags m → list_any (same_identity s i) (up_to i) ≡ false → bad_at s i ≡ false
unfolding bad_at
not_bad s i m n w h e = rw (ap well_formed (record-here s i m n w) ∙ formed m h, e) refl

all-good : (s : List ℕ) → length s ≡ 3 * item_size → bad_at s 0 ≡ false → bad_at s 1 ≡ false → bad_at s 2 ≡ false → is_bad s ≡ false
unfolding is_bad count_from
all-good s e a b d = rw (e, a, b, d) refl

pub none-bad : (c : Case) → IsCase c → is_bad (items_of c) ≡ false
unfolding count_from is_before same
none-bad c w =
    let s = items_of c in
    let x = item_of c.first 1 in
    let y = item_of c.second 2 in
    let z = item_of c.third 3 in
    let behind : drop item_size s ≡ y ++ z = drop-front item_size x (y ++ z) (item-long c.first 1) in
    let first : Stands s 0 c.first 1 = record { rest = y ++ z; here = refl } in
    let second : Stands s 1 c.second 2 = record { rest = z; here = behind } in
    let third : Stands s 2 c.third 3 = record { rest = []; here = sym (drop-drop item_size item_size s) ∙ ap (drop item_size) behind ∙ drop-front item_size y z (item-long c.second 2) ∙ sym (append-nil z) } in
    let one = identity-here s 0 c.first 1 first in
    let two = identity-here s 1 c.second 2 second in
    let three = identity-here s 2 c.third 3 third in
    all-good s (items-long c)
    (not_bad s 0 c.first 1 first w.first refl)
    (not_bad s 1 c.second 2 second w.second (rw (one, two) refl))
    (not_bad s 2 c.third 3 third w.third (rw (one, two, three) refl))
