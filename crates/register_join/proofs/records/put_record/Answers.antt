-- The place is copied, and its signers are put anew.
use Rattle.std.proofs.Common.{ℕ, ◌+◌, ◌-◌, ◌*◌, ◌≤◌, ◌≡◌, sym, ap, ap₂, ◌∙◌, List, ◌++◌, append_assoc, arith, length, take, drop, length-append, length-drop, drop-drop, take-append-drop, length-take-le}
use borrow.Rule.Slice.PartMut.{put_mid}
use Rattle.octets.specs.Words.{word_bytes}
use Rattle.octets.specs.Writes.{put_word}
use Rattle.record.specs.Layout.{record_size}
use Rattle.signed_records.specs.Signed.{place_size}
use Rattle.octets.proofs.Framing.{mid-put}
use Rattle.register_join.proofs.records.put_record.Goals as goal

put : (t p : List ℕ) (at v : ℕ) → at + place_size ≤ length t → length p ≡ place_size
    → put_word 4 (at + record_size) v (take at t ++ (p ++ drop place_size (drop at t))) ≡ take at t ++ ((take record_size p ++ word_bytes 4 v) ++ drop (at + place_size) t)
put t p at v h l =
    let a = take at t in
    let r = take record_size p in
    let q = drop record_size p in
    let z = drop (at + place_size) t in
    let al : length a ≡ at = length-take-le at t (omega arith) in
    let rl : length r ≡ record_size = length-take-le record_size p (omega arith) in
    let ql : length q ≡ 4 = rw length-drop (omega arith) in
    let e : a ++ (p ++ drop place_size (drop at t)) ≡ (a ++ r) ++ (q ++ z) =
    ap₂ (λ (x y : List ℕ). a ++ (x ++ y)) (sym (take-append-drop record_size p)) (drop-drop place_size at t) ∙ ap (λ (x : List ℕ). a ++ x) (append_assoc r q z) ∙ sym (append_assoc a r (q ++ z)) in
    let arl : length (a ++ r) ≡ at + record_size = length-append a r ∙ ap₂ (λ (x y : ℕ). x + y) al rl in
    ap (put_word 4 (at + record_size) v) e ∙ mid-put (a ++ r) q z (at + record_size) 4 arl ql v
    ∙ append_assoc a r (word_bytes 4 v ++ z) ∙ ap (λ (x : List ℕ). a ++ x) (sym (append_assoc r (word_bytes 4 v) z))

pub returns-clause-bytes : goal.returns-clause-bytes
returns-clause-bytes c =
    let t = c.args.t.now in
    let p = c.args.place.now in
    let at = c.args.n * place_size in
    let e : at + place_size - at ≡ place_size = omega arith in
    c.put_u32.ensures
    ∙ rw c.mask.ensures
    (ap (put_word 4 (at + record_size) c.args.signers)
    (ap (λ (y : List ℕ). put_mid at (at + place_size - at) t y) c.copy_from_slice.ensures.after ∙ ap (λ (j : ℕ). take at t ++ (p ++ drop j (drop at t))) e)
    ∙ put t p at c.args.signers c.requires c.told-place)
