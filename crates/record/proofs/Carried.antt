-- A record of the layout before, widened: what is read in it, that it is a record, and that two stand as they did.
use Rattle.std.proofs.Common.{◌≡◌, ◌∙◌, sym, ap, ap₂, refl, ℕ, zero, suc, ◌+◌, ◌*◌, ◌^◌, ◌-◌, ◌≤◌, ◌<◌, ◌++◌, Bool, true, false, cond, ◌&&◌, append_assoc, List, [], ◌∷◌, length, take, drop, replicate, arith, ltb, leb, eqb, length-append}
use Rattle.std.proofs.lemmas.List.{drop-drop, drop-take, take-append-le, drop-append-le, take-append-drop, length-take-le, length-drop, length-replicate}
use Rattle.std.proofs.lemmas.List.Folds.{list_all-append}
use Rattle.std.proofs.Math.Seq.{drop-append-add, take-append-add, take-append_seam, take-length}
use Rattle.lists.proofs.Bools.{and_both}
use Rattle.octets.specs.Words.{word}
use Rattle.octets.specs.Masks.{bit_count}
use Rattle.octets.specs.Order.{is_before}
use Rattle.octets.specs.Runs.{all_zero}
use Rattle.octets.proofs.Numbers.{word-append, word-one}
use Rattle.octets.proofs.Lookup.{count_ones}
use Rattle.octets.proofs.Zeros.{run-zero}
use Rattle.record.specs.Layout as L
use Rattle.record.specs.Fields as F
use Rattle.record.specs.Formed.{ascends, height_formed, message_formed, models_formed, well_formed}
use Rattle.record.specs.Value.{value_of}
use Rattle.record.specs.Before as B
use Rattle.record.specs.Carried.{CarriedOver}
use Rattle.record.proofs.Parts.{all_five}
use Rattle.std.proofs.Math.Nat.{pow-le-pow_right}
use Rattle.std.proofs.lemmas.Bool.{lt-ltb}
use borrow.Author.Tests.{ltb-true, leb-true, eqb-true, le-leb}

-- ---- parts of two lists, one behind the other

within : (at n : ℕ) (x y : List ℕ) → at + n ≤ length x → take n (drop at (x ++ y)) ≡ take n (drop at x)
within at n x y h =
    ap (take n) (drop-append-le at x y (omega arith))
    ∙ take-append-le n (drop at x) y (let l = length-drop at x in omega (arith, l))

beyond : (k j : ℕ) (x y : List ℕ) → length x ≡ k → drop (k + j) (x ++ y) ≡ drop j y
beyond k j x y e = ap (λ (n : ℕ). drop (n + j) (x ++ y)) (sym e) ∙ drop-append-add x y j

zeros-append : (s t : List ℕ) → all_zero (s ++ t) ≡ (all_zero s && all_zero t)
unfolding all_zero
zeros-append s t = list_all-append (λ (b : ℕ). eqb b 0) s t

-- what stands behind is compared alone where what is before it has one length
behind : (x x' y y' u u' : List ℕ) → length x ≡ length x' → is_before y y' ≡ is_before u u' → is_before (x ++ y) (x' ++ y') ≡ is_before (x ++ u) (x' ++ u')
unfolding is_before
behind [] [] y y' u u' l e = e
behind [] (d ∷ x') y y' u u' l e = absurd (omega arith)
behind (c ∷ x) [] y y' u u' l e = absurd (omega arith)
behind (c ∷ x) (d ∷ x') y y' u u' l e = ap (λ (b : Bool). cond (ltb c d) true (cond (ltb d c) false b)) (behind x x' y y' u u' (omega arith) e)

-- zeros before both change nothing
zeros-before : (n : ℕ) (y y' : List ℕ) → is_before (replicate n 0 ++ y) (replicate n 0 ++ y') ≡ is_before y y'
unfolding is_before
zeros-before zero y y' = refl
zeros-before (suc n) y y' = zeros-before n y y'

-- ---- what is read in a record that is widened

module _ (r : List ℕ) (size : length r ≡ B.record_size) where
  abbrev front : List ℕ
  front = take B.tags_at r

  abbrev held : List ℕ
  held = take (8 * B.max_tags) (drop B.tags_at r)

  abbrev rest : List ℕ
  rest = drop B.model_count_at r

  abbrev two : List ℕ
  two = replicate (L.used_size - B.used_size) 0

  abbrev room : List ℕ
  room = replicate (8 * (L.max_tags - B.max_tags)) 0

  abbrev w : List ℕ
  w = B.widened r

  front-long : length front ≡ B.tags_at
  front-long = length-take-le B.tags_at r (omega (arith, size))

  held-long : length held ≡ 8 * B.max_tags
  held-long = length-take-le (8 * B.max_tags) (drop B.tags_at r) (let l = length-drop B.tags_at r in omega (arith, size, l))

  rest-long : length rest ≡ 55
  rest-long = length-drop B.model_count_at r ∙ omega (arith, size)

  -- the record in its three parts
  parts : r ≡ front ++ (held ++ rest)
  parts =
      sym (take-append-drop B.tags_at r)
      ∙ ap (λ (l : List ℕ). front ++ l)
      (sym (take-append-drop (8 * B.max_tags) (drop B.tags_at r)) ∙ ap (λ (l : List ℕ). held ++ l) (drop-drop (8 * B.max_tags) B.tags_at r))

  wide : length w ≡ L.record_size
  wide = simp length-append (omega (arith, front-long, held-long, rest-long, length-replicate {A = ℕ} 2 0, length-replicate {A = ℕ} 64 0))

  -- before the tags of old: where it was, but that the mask is longer
  pub early : (at n : ℕ) → at + n ≤ B.tags_at → take n (drop at w) ≡ take n (drop at r)
  early at n h =
      within at n front (two ++ (held ++ (room ++ rest))) (omega (arith, front-long))
      ∙ sym (within at n front (held ++ rest) (omega (arith, front-long)))
      ∙ ap (λ (l : List ℕ). take n (drop at l)) (sym parts)

  -- the tags: two bytes further
  pub among : (j n : ℕ) → j + n ≤ 8 * B.max_tags → take n (drop (L.tags_at + j) w) ≡ take n (drop (B.tags_at + j) r)
  among j n h =
      let before : length (front ++ two) ≡ L.tags_at = length-append front two ∙ omega (arith, front-long) in
      ap (λ (l : List ℕ). take n (drop (L.tags_at + j) l)) (sym (append_assoc front two (held ++ (room ++ rest))))
      ∙ ap (take n) (beyond L.tags_at j (front ++ two) (held ++ (room ++ rest)) before)
      ∙ within j n held (room ++ rest) (omega (arith, held-long))
      ∙ sym (within j n held rest (omega (arith, held-long)))
      ∙ ap (take n) (sym (beyond B.tags_at j front (held ++ rest) front-long))
      ∙ ap (λ (l : List ℕ). take n (drop (B.tags_at + j) l)) (sym parts)

  -- behind the tags: as much further as there is more room
  late : (j : ℕ) → drop (L.model_count_at + j) w ≡ drop (B.model_count_at + j) r
  late j =
      let before : length (front ++ (two ++ (held ++ room))) ≡ L.model_count_at = simp length-append (omega (arith, front-long, held-long, length-replicate {A = ℕ} 2 0, length-replicate {A = ℕ} 64 0)) in
      ap (drop (L.model_count_at + j))
      (sym (append_assoc front (two ++ (held ++ room)) rest ∙ ap (λ (l : List ℕ). front ++ l) (append_assoc two (held ++ room) rest ∙ ap (λ (l : List ℕ). two ++ l) (append_assoc held room rest))))
      ∙ beyond L.model_count_at j (front ++ (two ++ (held ++ room))) rest before
      ∙ drop-drop j B.model_count_at r

  pub early-byte : (at : ℕ) → at < B.tags_at → F.byte_at at w ≡ F.byte_at at r
  early-byte at h = sym (word-one at w (omega (arith, wide))) ∙ ap word (early at 1 (omega arith)) ∙ word-one at r (omega (arith, size))

  -- the mask, and two bytes of zeros behind it
  mask : F.used w ≡ B.used r
  mask =
      let low : List ℕ = drop L.used_at front in
      let short : length low ≡ B.used_size = length-drop L.used_at front ∙ omega (arith, front-long) in
      let at : take L.used_size (drop L.used_at w) ≡ low ++ two
      = ap (take L.used_size) (drop-append-le L.used_at front (two ++ (held ++ (room ++ rest))) (omega (arith, front-long)))
      ∙ ap (λ (n : ℕ). take (n + 2) (low ++ (two ++ (held ++ (room ++ rest))))) (sym short)
      ∙ take-append-add low (two ++ (held ++ (room ++ rest))) 2 in
      let nothing : word two ≡ 0 = unfold word in refl in
      ap word at ∙ word-append low two ∙ rw nothing (let z : word low + 0 * 256 ^ length low ≡ word low = omega arith in z)
      ∙ ap word (drop-take L.used_at B.used_size r)

  tags-from : (i n : ℕ) → i + n ≤ B.max_tags → F.tags_from w i n ≡ B.tags_from r i n
  unfolding F.tags_from B.tags_from
  tags-from i zero h = refl
  tags-from i (suc n) h = ap₂ (λ (x : ℕ) (l : List ℕ). x ∷ l) (ap word (among (8 * i) 8 (omega arith))) (tags-from (i + 1) n (omega arith))

  late-byte : F.model_count w ≡ B.model_count r
  late-byte = sym (word-one L.model_count_at w (omega (arith, wide))) ∙ ap (λ (l : List ℕ). word (take 1 l)) (late 0) ∙ word-one B.model_count_at r (omega (arith, size))

  pub count : F.tag_count w ≡ F.tag_count r
  count = early-byte L.tag_count_at (omega arith)

  pub models-carried : F.models w ≡ B.models r
  models-carried = ap₂ (λ (n : ℕ) (l : List ℕ). take n l) late-byte (late 1)

  height-carried : F.height w ≡ F.height r
  height-carried = rw (early-byte L.height_flag_at (omega arith), early L.height_at 4 (omega arith)) refl

  value : F.message_length r ≤ L.long_message → F.tag_count r ≤ B.max_tags → value_of w ≡ B.value_of r
  value m t =
      rw (
        early L.time_at 8 (omega arith),
        early L.lat_at 4 (omega arith),
        early L.lon_at 4 (omega arith),
        height-carried,
        early-byte L.message_length_at (omega arith),
        early L.message_at (F.message_length r) (omega (arith, m)),
        count,
        tags-from 0 (F.tag_count r) (omega (arith, t)),
        mask,
        models-carried,
        late 5,
        late 7,
        late 15,
        late 23,
        late 31,
        late 39,
        late 47,
      ) refl

  -- ---- it is a record

  heights-formed : height_formed w ≡ height_formed r
  heights-formed = rw (early-byte L.height_flag_at (omega arith), early L.height_at 4 (omega arith)) refl

  messages-formed : F.message_length r ≤ L.long_message → message_formed w ≡ message_formed r
  messages-formed m =
      rw (early-byte L.message_length_at (omega arith), early (L.message_at + F.message_length r) (L.long_message - F.message_length r) (omega (arith, m))) refl

  models-formed : models_formed w ≡ B.models_formed r
  models-formed =
      let n = B.model_count r in
      let here : L.models_at + n ≡ L.model_count_at + (1 + n) = omega arith in
      let then : B.model_count_at + (1 + n) ≡ B.models_at + n = omega arith in
      let blank : drop (L.models_at + n) w ≡ drop (B.models_at + n) r = ap (λ (k : ℕ). drop k w) here ∙ late (1 + n) ∙ ap (λ (k : ℕ). drop k r) then in
      rw (late-byte, late 1, blank) refl

  -- what no tag takes is zero
  spare : (n : ℕ) → n ≤ B.max_tags → all_zero (take (8 * (B.max_tags - n)) (drop (B.tags_at + 8 * n) r)) ≡ true
      → all_zero (take (8 * (L.max_tags - n)) (drop (L.tags_at + 8 * n) w)) ≡ true
  spare n h z =
      let before : length (front ++ two) ≡ L.tags_at = length-append front two ∙ omega (arith, front-long) in
      let left : List ℕ = drop (8 * n) held in
      let long : length left ≡ 8 * (B.max_tags - n) = length-drop (8 * n) held ∙ omega (arith, held-long) in
      let there : drop (L.tags_at + 8 * n) w ≡ left ++ (room ++ rest)
      = ap (drop (L.tags_at + 8 * n)) (sym (append_assoc front two (held ++ (room ++ rest))))
      ∙ beyond L.tags_at (8 * n) (front ++ two) (held ++ (room ++ rest)) before
      ∙ drop-append-le (8 * n) held (room ++ rest) (omega (arith, held-long)) in
      let sum : 8 * (L.max_tags - n) ≡ length (left ++ room) = sym (length-append left room ∙ omega (arith, long, length-replicate {A = ℕ} 64 0)) in
      let taken : take (8 * (L.max_tags - n)) (drop (L.tags_at + 8 * n) w) ≡ left ++ room
      = ap (take (8 * (L.max_tags - n))) (there ∙ sym (append_assoc left room rest))
      ∙ ap (λ (k : ℕ). take k ((left ++ room) ++ rest)) sum ∙ take-append_seam (left ++ room) rest in
      let same : left ≡ take (8 * (B.max_tags - n)) (drop (B.tags_at + 8 * n) r)
      = sym (take-length left) ∙ ap (λ (k : ℕ). take k left) long
      ∙ sym (within (8 * n) (8 * (B.max_tags - n)) held rest (omega (arith, held-long, h)))
      ∙ ap (take (8 * (B.max_tags - n))) (sym (beyond B.tags_at (8 * n) front (held ++ rest) front-long))
      ∙ ap (λ (l : List ℕ). take (8 * (B.max_tags - n)) (drop (B.tags_at + 8 * n) l)) (sym parts) in
      ap all_zero taken ∙ zeros-append left room ∙ and_both (all_zero left) (all_zero room) (ap all_zero same ∙ z) (run-zero 64)

-- what a record of the layout before shows
pub record Formed (r : List ℕ) : Type 0 where
  pub size : length r ≡ B.record_size
  pub heights : height_formed r ≡ true
  pub messages : message_formed r ≡ true
  pub fits : F.message_length r ≤ L.long_message
  pub some : leb 1 (F.tag_count r) ≡ true
  pub few : F.tag_count r ≤ B.max_tags
  pub mask_below : B.used r < 2 ^ F.tag_count r
  pub ordered : ascends (B.tags r) ≡ true
  pub unused : all_zero (take (8 * (B.max_tags - F.tag_count r)) (drop (B.tags_at + 8 * F.tag_count r) r)) ≡ true
  pub cited : B.models_formed r ≡ true

short : (r : List ℕ) → message_formed r ≡ true → F.message_length r ≤ L.long_message
short r h = grind (arith, h)

pub formed : (r : List ℕ) → B.well_formed r ≡ true → Formed r
unfolding B.well_formed
formed r h =
    let p = all_five _ _ _ _ _ h in
    let t = all_five _ _ _ _ _ p.3 in
    record {
      size = eqb-true _ _ p.0;
      heights = p.1;
      messages = p.2;
      fits = short r p.2;
      some = t.0;
      few = leb-true _ _ t.1;
      mask_below = ltb-true _ _ t.2;
      ordered = t.3;
      unused = t.4;
      cited = p.4;
    }

valid : (r : List ℕ) → Formed r → well_formed (B.widened r) ≡ true
unfolding well_formed
valid r f =
    let n = F.tag_count r in
    let few : leb n L.max_tags ≡ true = le-leb n L.max_tags (omega (arith, f.few)) in
    let below : ltb (B.used r) (2 ^ n) ≡ true = lt-ltb (B.used r) (2 ^ n) f.mask_below in
    rw (
      wide r f.size,
      heights-formed r f.size,
      messages-formed r f.size f.fits,
      models-formed r f.size,
      count r f.size,
      mask r f.size,
      tags-from r f.size 0 n (omega (arith, f.few)),
      spare r f.size n f.few f.unused,
      f.heights,
      f.messages,
      f.some,
      few,
      below,
      f.ordered,
      f.cited,
    ) refl

weight : (r : List ℕ) → Formed r → F.weight (B.widened r) ≡ B.weight r
weight r f =
    let power : 2 ^ F.tag_count r ≤ 2 ^ 16 = pow-le-pow_right (let z : 0 < 2 = omega arith in z) f.few in
    let small : B.used r < 2 ^ 16 = let m = f.mask_below in omega (arith, power, m) in
    let wider : B.used r < 2 ^ 32 = omega (arith, small) in
    ap (bit_count 32) (mask r f.size) ∙ sym (count_ones 32 (B.used r) wider) ∙ count_ones 16 (B.used r) small

order : (a b : List ℕ) → length a ≡ B.record_size → length b ≡ B.record_size → is_before (B.widened a) (B.widened b) ≡ is_before a b
order a b p q =
    behind (front a p) (front b q) _ _ (held a p ++ rest a p) (held b q ++ rest b q) (front-long a p ∙ sym (front-long b q))
    (zeros-before 2 (held a p ++ (room a p ++ rest a p)) (held b q ++ (room b q ++ rest b q))
    ∙ behind (held a p) (held b q) _ _ (rest a p) (rest b q) (held-long a p ∙ sym (held-long b q)) (zeros-before 64 (rest a p) (rest b q)))
    ∙ ap₂ is_before (sym (parts a p)) (sym (parts b q))

pub carried_over : CarriedOver
carried_over =
    record {
      valid = λ r h. valid r (formed r h);
      value = λ r h. let f = formed r h in value r f.size f.fits f.few;
      weight = λ r h. weight r (formed r h);
      order = order;
    }
