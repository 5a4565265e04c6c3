-- The bytes of an entry are read back as the entry.
use Rattle.std.proofs.Common.{ℕ, zero, suc, ◌+◌, ◌-◌, ◌*◌, ◌%◌, ◌^◌, ◌≤◌, ◌<◌, ◌≡◌, refl, sym, ap, ap₂, subst, ◌∙◌, true, false, cond, eqb, List, [], ◌∷◌, ◌++◌, append_assoc, flat_map, map, length, length-append, take, take_all, drop, drop-drop, get_or, get_or-drop, arith}
use Rattle.std.proofs.Math.Seq.{drop-append_seam, take-append_seam}
use Rattle.std.proofs.lemmas.Grind.{flat_map-append}
use Rattle.std.specs.Float.{Float, binary64}
use Rattle.std.specs.Float.Ieee.{to_bits, of_bits}
use mathlib.Core.List.Memᴰ
use mathlib.Core.List.{Memᴰ}
use Rattle.lists.proofs.Bools.{by, or}
use Rattle.octets.specs.Bytes.{Bytes}
use Rattle.octets.specs.Order.{same}
use Rattle.octets.specs.Words.{word, word_bytes, word_at}
use Rattle.octets.proofs.Numbers.{word-of-bytes}
use Rattle.arithmetic.specs.Agree.{agreement_of, chi_square_in}
use Rattle.arithmetic.specs.Bits.{infinity, stored_bits, stored_chi_square}
use Rattle.arithmetic.specs.declared.standing.ChiSquare.{ChiSquare}
use Rattle.arithmetic.specs.declared.standing.ChiSquare.TheVariants.{Measured, Unmeasured}
use Rattle.arithmetic.proofs.Outcomes.{stored-read-back, stored-bounded, read-infinity}
use Rattle.arithmetic.specs.declared.standing.Claimed.{Claimed}
use Rattle.decision_items.specs.Claimed.{claim_of}
use Rattle.decision_items.specs.Layout.{hash_size}
use Rattle.record.specs.Layout.{record_size}
use Rattle.decision_bytes.specs.Answer.{chi_square_bytes}
use Rattle.fix_lines.specs.declared.Standing.{Standing}
use Rattle.fix_lines.specs.declared.Standing.TheVariants.{Ranked, Dominated, Refused}
use Rattle.decision_rule.specs.Outcome.{Refused as RefusedFix}
use Rattle.fixes.specs.Fix.{Fix}
use Rattle.fixes.specs.Items.{no_fix}
use Rattle.fixes.specs.Shown.{Transmission}
use Rattle.fixes.proofs.Indexed.{at_in, in-at}
use Rattle.board_fixes.specs.Fixes.{fixes_of}
use Rattle.board_picture.specs.Picture.{picture}
use Rattle.board.proofs.Held.{small}
use Rattle.register.specs.Register.{Register}
use Rattle.register.specs.Memory.{well_formed, decode}
use Rattle.register.proofs.Opened.{opened}
use Rattle.register.proofs.Valid.{Valid}
use Rattle.register.proofs.Kept.{decode-valid}
use Rattle.board_values.specs.Entries.{Entry, place_of, index_of, fixes_shown, entries_of, entries_from, entries_shown}
use Rattle.board_values.specs.Written.{entry_size, role_number, chi_square_of, entry_bytes, fixes_in}
use Rattle.board_values.specs.Reading.{chi_square_read, standing_read, entry_read}
use Rattle.board_values.specs.Claims.{entries, on_board, no_entry, entry_at, bytes_at, EntriesReadBack}
use Rattle.board_values.proofs.Counted.{counted, most, fix-of, whole-entry, whole-identity}
use Rattle.board_values.proofs.Room.{of-length}
use Rattle.board_values.proofs.Whom.{Settled, settled, Of, own, refused, number-of, place-is, signers-of, each, as-many}

-- a chi-square with bits that say it
pub record Said (x : ChiSquare) : Type 0 where
  pub small : stored_bits x < 2 ^ 64
  pub back : stored_chi_square (stored_bits x) ≡ x

none-said : Said Unmeasured
unfolding stored_bits
none-said = record { small = omega arith; back = read-infinity }

said-between : (f g : Claimed) → Said (chi_square_in (agreement_of f g))
said-between f g = record { small = stored-bounded f g; back = stored-read-back f g }

-- what an entry may have, so that its bytes say it
pub record Narrow (e : Entry) : Type 0 where
  pub number : e.number < 256
  pub place : e.place < 256
  pub against : e.against < 256
  pub signers : e.signers < 2 ^ 32
  pub identity : length e.identity ≡ hash_size
  pub said : Said (chi_square_of e.standing)

bits-back : (x : Float) → Said (Measured x) → of_bits binary64 (to_bits binary64 x) ≡ x
unfolding stored_bits stored_chi_square
bits-back x w =
    let e = w.back in
    by (eqb (to_bits binary64 x) infinity)
    (λ t. let u : Unmeasured ≡ Measured x = rw t at e in cc)
    (λ t. let u : Measured (of_bits binary64 (to_bits binary64 x)) ≡ Measured x = rw t at e in cc)

-- the nine bytes of a chi-square, which are all that is left
last-read : (b : List ℕ) (x : ChiSquare) → Said x → drop 40 b ≡ chi_square_bytes x → chi_square_read b ≡ x
unfolding chi_square_bytes word_bytes stored_bits
last-read b (Measured x) w e =
    let flag : get_or b 40 0 ≡ 1 = sym (get_or-drop 40 b 0 0) ∙ ap (λ (l : List ℕ). get_or l 0 0) e in
    let rest : drop 41 b ≡ word_bytes 8 (to_bits binary64 x) = sym (drop-drop 1 40 b) ∙ ap (drop 1) e in
    let bits : word_at 8 41 b ≡ to_bits binary64 x = ap (λ (l : List ℕ). word (take 8 l)) rest ∙ word-of-bytes 8 (to_bits binary64 x) w.small in
    rw (flag, bits) (ap (λ (y : Float). Measured y) (bits-back x w))
last-read b Unmeasured w e =
    let flag : get_or b 40 0 ≡ 0 = sym (get_or-drop 40 b 0 0) ∙ ap (λ (l : List ℕ). get_or l 0 0) e in
    rw flag refl

module _ (e : Entry) (w : Narrow e) where
  abbrev b : List ℕ
  b = entry_bytes e

  abbrev key : List ℕ
  key = take hash_size e.identity

  key-is : key ≡ e.identity
  key-is = take_all hash_size e.identity (let l = w.identity in omega (arith, l))

  key-long : length key ≡ hash_size
  key-long = ap (λ (l : List ℕ). length l) key-is ∙ w.identity

  behind : drop 8 b ≡ key ++ chi_square_bytes (chi_square_of e.standing)
  unfolding entry_bytes word_bytes
  behind = refl

  last : drop 40 b ≡ chi_square_bytes (chi_square_of e.standing)
  last =
      let k = key-long in
      sym (drop-drop 32 8 b) ∙ ap (drop 32) behind
      ∙ ap (λ (n : ℕ). drop n (key ++ chi_square_bytes (chi_square_of e.standing))) (sym k) ∙ drop-append_seam key (chi_square_bytes (chi_square_of e.standing))

  identity-read : take 32 (drop 8 b) ≡ e.identity
  identity-read =
      let k = key-long in
      ap (take 32) behind
      ∙ ap (λ (n : ℕ). take n (key ++ chi_square_bytes (chi_square_of e.standing))) (sym k) ∙ take-append_seam key (chi_square_bytes (chi_square_of e.standing)) ∙ key-is

  first : get_or b 0 0 ≡ e.number
  unfolding entry_bytes word_bytes
  first = let l = w.number in let k : e.number % 256 ≡ e.number = omega arith in k

  third : get_or b 2 0 ≡ e.place
  unfolding entry_bytes word_bytes
  third = let l = w.place in let k : e.place % 256 ≡ e.place = omega arith in k

  fourth : get_or b 3 0 ≡ e.against
  unfolding entry_bytes word_bytes
  fourth = let l = w.against in let k : e.against % 256 ≡ e.against = omega arith in k

  role-read : get_or b 1 0 ≡ role_number e.standing
  unfolding entry_bytes word_bytes
  role-read = role e.standing
    where
      role : (s : Standing) → role_number s % 256 ≡ role_number s
      role Ranked = refl
      role Dominated = refl
      role (Refused x) = refl

  four : word_at 4 4 b ≡ word (word_bytes 4 e.signers)
  unfolding entry_bytes word_bytes
  four = refl

  signers-read : word_at 4 4 b ≡ e.signers
  signers-read = four ∙ word-of-bytes 4 e.signers w.signers

  standing-is : standing_read b ≡ e.standing
  standing-is = go e.standing role-read (last-read b (chi_square_of e.standing) w.said last)
    where
      go : (s : Standing) → get_or b 1 0 ≡ role_number s → chi_square_read b ≡ chi_square_of s → standing_read b ≡ s
      go Ranked r x = rw r refl
      go Dominated r x = rw r refl
      go (Refused c) r x = rw r (ap (λ (y : ChiSquare). Refused y) x)

  pub read-back : entry_read b ≡ e
  read-back = λ i. record { number = first i; standing = standing-is i; place = third i; against = fourth i; signers = signers-read i; identity = identity-read i }

-- ---- one after another

pub there : (es : List Entry) → ((e : Entry) → Memᴰ e es → length e.identity ≡ hash_size) → (i : ℕ) → i < length es → bytes_at (flat_map entry_bytes es) i ≡ entry_bytes (entry_at es i)
there [] w i h = absurd (omega arith)
there (e ∷ es) w zero h =
    let l : entry_size ≡ length (entry_bytes e) = sym (whole-entry e (w e (Memᴰ.head refl))) in
    ap (λ (n : ℕ). take n (entry_bytes e ++ flat_map entry_bytes es)) l ∙ take-append_seam (entry_bytes e) (flat_map entry_bytes es)
there (e ∷ es) w (suc i) h =
    let l = whole-entry e (w e (Memᴰ.head refl)) in
    let k : suc i * entry_size ≡ length (entry_bytes e) + i * entry_size = omega (arith, l) in
    ap (λ (n : ℕ). take entry_size (drop n (entry_bytes e ++ flat_map entry_bytes es))) k
    ∙ ap (take entry_size) (sym (drop-drop (i * entry_size) (length (entry_bytes e)) (entry_bytes e ++ flat_map entry_bytes es)) ∙ ap (drop (i * entry_size)) (drop-append_seam (entry_bytes e) (flat_map entry_bytes es)))
    ∙ there es (λ x m. w x (Memᴰ.tail m)) i (omega arith)

-- ---- the entries of a register

index-few : (fs : List Fix) (x : List ℕ) → index_of fs x ≤ length fs
unfolding index_of
index-few [] x = omega arith
index-few (f ∷ fs) x = let r = index-few fs x in by (same f.identity x) (λ t. rw t (omega arith)) (λ t. rw t (omega arith))

place-few : (ps : List (List ℕ)) (r : List ℕ) → place_of ps r ≤ length ps
unfolding place_of
place-few [] r = omega arith
place-few (p ∷ ps) r = let k = place-few ps r in by (same (take record_size p) r) (λ t. rw t (omega arith)) (λ t. rw t (omega arith))

-- whose an entry is
record From (ps : List (List ℕ)) (n b : ℕ) (ts : List Transmission) (e : Entry) : Type 0 where
  number : ℕ
  before : ℕ
  transmission : Transmission
  fix : Fix
  there : Memᴰ transmission ts
  inside : Memᴰ fix (fixes_shown transmission)
  of : Of ps number before transmission e fix
  few : number < n + length ts
  room : before + length (entries_of ps number before transmission) ≤ b + length (entries_from ps n b ts)

from : (ps : List (List ℕ)) (ts : List Transmission) (n b : ℕ) (e : Entry) → Memᴰ e (entries_from ps n b ts) → From ps n b ts e
unfolding entries_from
from ps [] n b e m = absurd (Memᴰ.not-nil m)
from ps (t ∷ ts) n b e m =
    let es = entries_of ps n b t in
    let next = b + (length t.ranked + (length t.dominated + length t.refused)) in
    let rest = entries_from ps (suc n) next ts in
    let l = length-append es rest in
    let o = of-length ps n b t in
    or (Memᴰ.append_cases es m)
    (λ k.
    let i = in-at no_entry es e k in
    let h : i.0 < length es = i.1 in
    let a = as-many ps n b t in
    record {
      number = n;
      before = b;
      transmission = t;
      fix = get_or (fixes_shown t) i.0 no_fix;
      there = Memᴰ.head refl;
      inside = at_in no_fix (fixes_shown t) i.0 (omega (arith, h, a));
      of = subst (λ (x : Entry). Of ps n b t x (get_or (fixes_shown t) i.0 no_fix)) i.2 (each ps n b t i.0 h);
      few = omega arith;
      room = omega (arith, l);
    })
    (λ k.
    let r = from ps ts (suc n) next e k in
    let f = r.few in
    let u = r.room in
    record { number = r.number; before = r.before; transmission = r.transmission; fix = r.fix; there = Memᴰ.tail r.there; inside = r.inside; of = r.of; few = omega (arith, f); room = omega (arith, l, o, u) })

module _ (ps : List (List ℕ)) (n b : ℕ) (t : Transmission) (e : Entry) (f : Fix) where
  against-few : Of ps n b t e f → e.against ≤ b + length (fixes_shown t)
  against-few (own k q) = let i = index-few (fixes_shown t) f.identity in let a : e.against ≡ b + index_of (fixes_shown t) f.identity = ap (λ (x : Entry). x.against) q in omega (arith, i, a)
  against-few (refused r m q p) = let i = index-few (fixes_shown t) r.against.identity in let a : e.against ≡ b + index_of (fixes_shown t) r.against.identity = ap (λ (x : Entry). x.against) q in omega (arith, i, a)

  said-of : Settled t → Of ps n b t e f → Said (chi_square_of e.standing)
  said-of z (own k q) = go e.standing k
    where
      go : (s : Standing) → role_number s < 2 → Said (chi_square_of s)
      go Ranked k = none-said
      go Dominated k = none-said
      go (Refused c) k = absurd (omega arith)
  said-of z (refused r m q p) =
      let c : chi_square_of e.standing ≡ chi_square_in (agreement_of (claim_of r.against.record_bytes) (claim_of r.item.record_bytes)) = ap (λ (x : Entry). chi_square_of x.standing) q ∙ (z.names r m).2 in
      subst Said (sym c) (said-between (claim_of r.against.record_bytes) (claim_of r.item.record_bytes))

module _ (m : List ℕ) (bytes : Bytes m) (formed : well_formed m ≡ true) where
  abbrev s : Register
  s = decode m

  v : Valid s
  v = decode-valid m (opened m formed) bytes

  narrow : (e : Entry) → Memᴰ e (entries s) → Narrow e
  unfolding entries_shown picture
  narrow e k =
      let r = from s.records (on_board s) 1 0 e k in
      let n = number-of s.records r.number r.before r.transmission r.of in
      let p = place-is s.records r.number r.before r.transmission r.of in
      let g = signers-of s.records r.number r.before r.transmission r.of in
      let i = place-few s.records r.fix.record_bytes in
      let few = v.few_records in
      let a = against-few s.records r.number r.before r.transmission e r.fix r.of in
      let l = as-many s.records r.number r.before r.transmission in
      let u = r.room in
      let x = most s v in
      let y = r.few in
      let w = counted.transmissions s in
      let h = (small m bytes r.fix (fix-of (fixes_of s.summaries s.records) r.transmission r.fix r.there r.inside)).signers in
      record {
        number = omega (arith, n, y, w);
        place = omega (arith, p, i, few);
        against = omega (arith, a, l, u, x);
        signers = omega (arith, g, h);
        identity = whole-identity s v e k;
        said = said-of s.records r.number r.before r.transmission e r.fix (settled s v r.transmission r.there) r.of;
      }

  back : (i : ℕ) → i < length (entries s) → entry_read (bytes_at (fixes_in s) i) ≡ entry_at (entries s) i
  back i h =
      ap entry_read (there (entries s) (λ e k. whole-identity s v e k) i h)
      ∙ read-back (entry_at (entries s) i) (narrow (entry_at (entries s) i) (at_in no_entry (entries s) i h))

pub entries-read-back : EntriesReadBack
entries-read-back m b w i h = back m b w i h
