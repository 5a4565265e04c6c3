-- What holds of each slot, and stays where two fixes are united, holds of all fixes; so the times and the signers of a register's fixes are numbers of 64 and 32 bits.
use Rattle.std.proofs.Common.{ℕ, zero, suc, ◌*◌, ◌^◌, ◌≤◌, ◌<◌, ◌≡◌, refl, sym, subst, List, [], ◌∷◌, map, length, take, drop, arith, length-take, length-drop}
use Rattle.std.proofs.Math.Nat.{one-le-pow, pow-suc}
use Rattle.std.proofs.lemmas.Nat.{or_of_32}
use Rattle.std.specs.List.{filter}
use mathlib.Core.List.Memᴰ
use mathlib.Core.List.{Memᴰ}
use Rattle.octets.specs.Bytes.{Bytes}
use Rattle.octets.specs.Words.{word}
use Rattle.octets.specs.Order.{is_before}
use Rattle.octets.proofs.Numbers.{bytes_take, bytes_drop}
use Rattle.lists.proofs.Lists.{filter-in, map-from}
use Rattle.lists.proofs.Bools.{by, or}
use Rattle.tables.specs.Places.{places}
use Rattle.record.specs.Layout.{record_size}
use Rattle.signed_records.specs.Signed.{place_size}
use Rattle.fixes.specs.Fix.{Fix}
use Rattle.fixes.specs.Shown.{lower}
use Rattle.fixes.specs.Ages.{time_of}
use Rattle.models.specs.Models.{counts}
use Rattle.board_fixes.specs.Fixes.{record_in, fix_of_place, unite, enter, enter_all, fixes_of}
use Rattle.register.specs.Memory.{decode, record_count, record_table}
use Rattle.register.specs.Layout.{records_at}

module _ (P : Fix → Type 0) (united : (g f : Fix) → P g → P f → P (unite g f)) where
  abbrev All : List Fix → Type 0
  All fs = (f : Fix) → Memᴰ f fs → P f

  first-too : (f : Fix) (fs : List Fix) → P f → All fs → All (f ∷ fs)
  first-too f fs h w y m = or (Memᴰ.cases_cons m) (λ e. subst P (sym e) h) (λ k. w y k)

  entered : (f : Fix) (gs : List Fix) → P f → All gs → All (enter f gs)
  unfolding enter
  entered f [] h w = first-too f [] h w
  entered f (g ∷ gs) h w =
      let first = w g (Memᴰ.head refl) in
      let others : All gs = λ y m. w y (Memᴰ.tail m) in
      by (lower g f)
      (λ u. rw u (first-too g (enter f gs) first (entered f gs h others)))
      (λ u. by (lower f g)
      (λ v. rw (u, v) (first-too f (g ∷ gs) h w))
      (λ v. rw (u, v) (first-too (unite g f) gs (united g f first h) others)))

  pub all-entered : (fs gs : List Fix) → All fs → All gs → All (enter_all fs gs)
  unfolding enter_all
  all-entered fs [] w h = w
  all-entered fs (f ∷ gs) w h = all-entered (enter f fs) gs (entered f fs (h f (Memᴰ.head refl)) w) (λ y m. h y (Memᴰ.tail m))

-- ---- times and signers

word-below : (n : ℕ) (s : List ℕ) → Bytes s → length s ≤ n → word s < 256 ^ n
unfolding word
word-below n [] b h = let p = one-le-pow n 256 (omega arith) in omega arith
word-below zero (x ∷ s) b h = absurd (omega arith)
word-below (suc n) (x ∷ s) b h = let r = word-below n s b.1 (omega arith) in let p = pow-suc 256 n in let l = b.0 in omega arith

-- the time and the signers are numbers of 64 and 32 bits
pub record Small (f : Fix) : Type 0 where
  pub time : time_of f < 2 ^ 64
  pub signers : f.signers < 2 ^ 32

united-small : (g f : Fix) → Small g → Small f → Small (unite g f)
united-small g f u v =
    let s = or_of_32 g.signers f.signers u.signers v.signers in
    by (is_before f.record_bytes g.record_bytes) (λ h. rw h (record { time = v.time; signers = s })) (λ h. rw h (record { time = u.time; signers = s }))

slot-small : (ss : List (List ℕ)) (p : List ℕ) → Bytes p → length p ≤ place_size → Small (fix_of_place ss p)
slot-small ss p b h = record {
  time = word-below 8 (take 8 (drop 0 (record_in p))) (bytes_take 8 (record_in p) (bytes_take record_size p b)) (let l = length-take 8 (record_in p) in omega arith);
  signers = word-below 4 (drop record_size p) (bytes_drop record_size p b) (let l = length-drop record_size p in omega arith);
}

-- places of bytes are bytes, and no longer than a place
place-in : (n : ℕ) (t p : List ℕ) → Bytes t → Memᴰ p (places place_size n t) → Bytes p × (length p ≤ place_size)
unfolding places
place-in zero t p b m = absurd (Memᴰ.not-nil m)
place-in (suc n) t p b m =
    or (Memᴰ.cases_cons m)
    (λ e. rw e (bytes_take place_size t b, (let l = length-take place_size t in omega arith)))
    (λ k. place-in n (drop place_size t) p (bytes_drop place_size t b) k)

pub small : (m : List ℕ) → Bytes m → (f : Fix) → Memᴰ f (fixes_of (decode m).summaries (decode m).records) → Small f
unfolding fixes_of decode
small m b =
    let ss = (decode m).summaries in
    let ps = (decode m).records in
    all-entered Small united-small [] (map (fix_of_place ss) (filter (λ p. counts ss (record_in p)) ps)) (λ f k. absurd (Memᴰ.not-nil k))
    (λ f k.
    let r = map-from (fix_of_place ss) (filter (λ p. counts ss (record_in p)) ps) f k in
    let q = place-in (record_count m) (record_table m) r.0 (bytes_drop records_at m b) (filter-in (λ p. counts ss (record_in p)) ps r.0 r.1).0 in
    subst Small (sym r.2) (slot-small ss r.0 q.0 q.1))
