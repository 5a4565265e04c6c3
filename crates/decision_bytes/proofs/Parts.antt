-- Laws of a decision's bytes: how wide each part is, where it stands, and how one refusal more is written.
use mathlib.Core.Path.{◌≡◌, refl, sym, ap, ap₂, ◌∙◌, subst}
use mathlib.Core.Bool.{false}
use mathlib.Core.List.Permᴰ
use mathlib.Core.List.{List, [], ◌∷◌, ◌++◌, map, append_assoc, append-nil, Permᴰ}
use Prim.Native.Nat.{ℕ, zero, suc, ◌+◌, ◌-◌, ◌*◌, ◌/◌, ◌≤◌, ◌<◌}
use native.Mathlib.Nat.{sub-zero}
use native.Mathlib.Omega.{arith}
use lib.Ieee.{Float, binary64, to_bits}
use lib.ListN.{length, length-map, get_or, take, drop, set, length-set, length-append, length-replicate, length-take, replicate}
use lib.Seq.{take_at, drop_at}
use Rattle.octets.specs.Words.{word_bytes}
use Rattle.octets.specs.Writes.{put_word}
use Rattle.octets.proofs.Numbers.{length-word-bytes}
use Rattle.octets.specs.Put.{Put}
use Rattle.octets.proofs.Puts.{put-put, put_one, put_as, put_whole, word-put}
use Rattle.arithmetic.specs.declared.standing.ChiSquare.{ChiSquare}
use Rattle.arithmetic.specs.declared.standing.ChiSquare.TheVariants.{Measured, Unmeasured}
use Rattle.decision_items.specs.Layout.{max_items, item_size}
use Rattle.decision_rule.specs.Outcome.{Refused, Outcome}
use Rattle.decision.specs.declared.Refusal.{Refusal}
use Rattle.decision.specs.Arrays.{Refusals, Indices, DecisionArrays}
use Rattle.decision.specs.Answer.{is_bad, outcome, indices, refusal, no_refusal, refusals, arrays_of, refused_decision, decided_arrays}
use Rattle.decision.specs.Claims.{listed_in}
use Rattle.decision.specs.Sorted.{by_identity, sorted_outcome, sorted_arrays}
use Rattle.decision.proofs.Laws.{listed-once}
use Rattle.decision.proofs.Sorted.{same-items}
use Rattle.decision.proofs.Passed.{few-items}
use Rattle.lists.specs.Ordered.{up_to}
use Rattle.lists.proofs.Bools.{by}
use Rattle.lists.proofs.Lists.{count-length}
use Rattle.lists.proofs.Orders.{perm-length}
use Rattle.decision_rule.specs.Related.{item_relations}
use Rattle.decision_rule.specs.Standing.{decide}
use Rattle.decision.specs.Working.{plain_decision}
use Rattle.decision_bytes.specs.Layout.{chi_square_size, refusal_size}
use Rattle.decision_bytes.specs.Offsets.{indices_size, refusals_size, ranked_at, dominated_at, refusals_at, answer_size, list_bytes}
use Rattle.decision_bytes.specs.Claims.{HasAllPlaces, PartsOf, PartsStand}
use Rattle.decision_bytes.specs.Answer.{indices_bytes, chi_square_bytes, refusal_bytes, each_bytes, counted_bytes, refusals_bytes, answer_bytes}

-- a byte before a number that is put after it
pub measured-put : (l : List ℕ) (at b x : ℕ) → at + chi_square_size ≤ length l → Put l at (b ∷ word_bytes 8 x) (at + chi_square_size) (put_word 8 (at + 1) x (set l at b))
measured-put l at b x h =
    let n = length-word-bytes 8 x in
    let p = put-put (put_one l at b) (word-put 8 (at + 1) x (set l at b) refl (simp length-set (omega arith))) in
    record { next = omega arith; bytes = p.bytes }

-- a byte and bits that were written are those of a chi-square, a number or none
pub number_put : {l l' : List ℕ} {at r b n : ℕ} {c : ChiSquare} {x : Float} → Put l at (b ∷ word_bytes 8 n) r l' → c ≡ Measured x → b ≡ 1 → n ≡ to_bits binary64 x → Put l at (chi_square_bytes c) r l'
unfolding chi_square_bytes
number_put p e f g = put_as (ap₂ (λ (b n : ℕ). b ∷ word_bytes 8 n) f g ∙ sym (ap chi_square_bytes e)) p

pub none-put : {l l' : List ℕ} {at r b n : ℕ} {c : ChiSquare} → Put l at (b ∷ word_bytes 8 n) r l' → c ≡ Unmeasured → b ≡ 0 → n ≡ 0 → Put l at (chi_square_bytes c) r l'
unfolding chi_square_bytes
none-put p e f g = put_as (ap₂ (λ (b n : ℕ). b ∷ word_bytes 8 n) f g ∙ sym (ap chi_square_bytes e)) p

length-chi-square : (c : ChiSquare) → length (chi_square_bytes c) ≡ chi_square_size
unfolding chi_square_bytes
length-chi-square (Measured x) = rw (length-word-bytes 8) refl
length-chi-square Unmeasured = rw (length-word-bytes 8) refl

pub length-refusal : (x : Refusal) → length (refusal_bytes x) ≡ refusal_size
length-refusal x = rw (length-chi-square x.chi2) refl

pub drop-zeros : (k n : ℕ) → drop k (replicate {A = ℕ} n 0) ≡ replicate (n - k) 0
drop-zeros zero n = ap (λ (m : ℕ). replicate m 0) (sym (sub-zero n))
drop-zeros (suc k) zero = let e : 0 ≡ 0 - suc k = omega arith in ap (λ (m : ℕ). replicate m 0) e
drop-zeros (suc k) (suc n) = let e : suc n - suc k ≡ n - k = omega arith in drop-zeros k n ∙ ap (λ (m : ℕ). replicate m 0) (sym e)

-- three texts, one after another, into n zeros: the rest stays zero
put-zeros : (n : ℕ) {l₁ l₂ l₃ t u v : List ℕ} {r₁ r₂ r₃ : ℕ} → Put (replicate n 0) 0 t r₁ l₁ → Put l₁ r₁ u r₂ l₂ → Put l₂ r₂ v r₃ l₃ → r₃ ≤ n → l₃ ≡ t ++ (u ++ (v ++ replicate (n - r₃) 0))
put-zeros n {l₁} {l₂} {l₃} {t} {u} {v} {r₁} {r₂} {r₃} p q r h =
    let a = t ++ (u ++ v) in
    let w = put-put p (put-put q r) in
    let z : List ℕ = replicate n 0 in
    let m : length z ≡ n = length-replicate n 0 in
    let e : r₃ ≡ 0 + length a = w.next in
    put_whole w (omega arith)
    ∙ ap (λ (k : ℕ). a ++ drop k z) (sym e)
    ∙ ap (λ (d : List ℕ). a ++ d) (drop-zeros r₃ n)
    ∙ append_assoc t (u ++ v) (replicate (n - r₃) 0)
    ∙ ap (λ (d : List ℕ). t ++ d) (append_assoc u v (replicate (n - r₃) 0))

pub length-each : (l : List Refusal) → length (each_bytes l) ≡ length l * refusal_size
unfolding each_bytes
length-each [] = refl
length-each (x ∷ l) = length-append (refusal_bytes x) (each_bytes l) ∙ rw (length-refusal x, length-each l) (omega arith)

-- one refusal more
pub each-more : (l : List Refusal) (i : ℕ) (d : Refusal) → i < length l → each_bytes (take i l) ++ refusal_bytes (get_or l i d) ≡ each_bytes (take (i + 1) l)
unfolding each_bytes
each-more [] i d h = absurd (omega arith)
each-more (x ∷ l) zero d h = sym (append-nil (refusal_bytes x))
each-more (x ∷ l) (suc i) d h =
    let e : suc i + 1 ≡ suc (i + 1) = omega arith in
    rw e
    (append_assoc (refusal_bytes x) (each_bytes (take i l)) (refusal_bytes (get_or l i d)) ∙ ap (λ (t : List ℕ). refusal_bytes x ++ t) (each-more l i d (omega arith)))

-- ---- the bytes of a decision that was made

all-counted : (l : List Refusal) → counted_bytes (refusals l) ≡ each_bytes l
unfolding refusals
all-counted l = ap each_bytes (take_at l (replicate (max_items - length l) no_refusal) (length l) refl)

-- its three parts, and zeros after them
answer-of : (o : Outcome ℕ ChiSquare) (k : ℕ) → k ≡ max_items * refusal_size - length (each_bytes (map refusal o.refused))
    → indices_bytes (indices o.ranked) ++ (indices_bytes (indices o.dominated) ++ (list_bytes (map refusal o.refused) ++ replicate k 0)) ≡ answer_bytes (arrays_of o)
unfolding answer_bytes arrays_of refusals
answer-of o k e =
    let l = map refusal o.refused in
    ap (λ (t : List ℕ). indices_bytes (indices o.ranked) ++ (indices_bytes (indices o.dominated) ++ (length l ∷ t)))
    (ap (λ (j : ℕ). each_bytes l ++ replicate j 0) e ∙ ap (λ (t : List ℕ). t ++ replicate (max_items * refusal_size - length t) 0) (sym (all-counted l)))

-- as they are written into zeros one after another
pub answer-put : (o : Outcome ℕ ChiSquare) {z l₁ l₂ l₃ : List ℕ} {a b : Indices} {r₁ r₂ r₃ : ℕ} → z ≡ replicate answer_size 0 → a ≡ indices o.ranked → b ≡ indices o.dominated
    → Put z 0 (indices_bytes a) r₁ l₁ → Put l₁ r₁ (indices_bytes b) r₂ l₂ → Put l₂ r₂ (list_bytes (map refusal o.refused)) r₃ l₃ → r₂ ≡ refusals_at → r₃ ≤ answer_size → l₃ ≡ answer_bytes (arrays_of o)
answer-put o {z} {l₁} {l₂} {l₃} {a} {b} {r₁} {r₂} {r₃} e f g p q r h k =
    let n = r.next in
    put-zeros answer_size (subst (λ (t : List ℕ). Put t 0 (indices_bytes a) r₁ l₁) e p) q r k
    ∙ ap₂ (λ (x y : Indices). indices_bytes x ++ (indices_bytes y ++ (list_bytes (map refusal o.refused) ++ replicate (answer_size - r₃) 0))) f g
    ∙ answer-of o (answer_size - r₃) (omega arith)

-- of one item, or of none, all is zero but the count of the ranked
pub answer-alone : (n : ℕ) → set (replicate answer_size 0) 0 n ≡ answer_bytes (plain_decision 0 n)
unfolding answer_bytes plain_decision indices refusals each_bytes
answer-alone n = refl

-- they fit
pub counted-fits : (l : List Refusal) (n : ℕ) → length (each_bytes (take n l)) ≤ length l * refusal_size
counted-fits l n = omega (arith, length-each (take n l), length-take n l)

-- ---- where each part stands, in a decision whose lists have room for all items, as each has that `decide` returns

refusals-long : (x : Refusals) → length x.list ≡ max_items → length (refusals_bytes x) ≡ refusals_size
refusals-long x h =
    let f = counted-fits x.list x.count in
    let n = max_items * refusal_size - length (counted_bytes x) in
    let e : length (counted_bytes x ++ replicate n 0) ≡ length (counted_bytes x) + n = length-append (counted_bytes x) (replicate n 0) ∙ ap (λ (k : ℕ). length (counted_bytes x) + k) (length-replicate n 0) in
    omega arith

answer-long : (d : DecisionArrays) → HasAllPlaces d → length (answer_bytes d) ≡ answer_size
unfolding answer_bytes
answer-long d r =
    let a = r.ranked in
    let b = r.dominated in
    let c = refusals-long d.refusals r.refusals in
    omega (arith, length-append (indices_bytes d.ranked) (indices_bytes d.dominated ++ refusals_bytes d.refusals), length-append (indices_bytes d.dominated) (refusals_bytes d.refusals))

ranked-stands : (d : DecisionArrays) → HasAllPlaces d → take indices_size (drop ranked_at (answer_bytes d)) ≡ indices_bytes d.ranked
unfolding answer_bytes
ranked-stands d r = take_at (indices_bytes d.ranked) (indices_bytes d.dominated ++ refusals_bytes d.refusals) indices_size (ap suc r.ranked)

dominated-stands : (d : DecisionArrays) → HasAllPlaces d → take indices_size (drop dominated_at (answer_bytes d)) ≡ indices_bytes d.dominated
unfolding answer_bytes
dominated-stands d r =
    ap (take indices_size) (drop_at (indices_bytes d.ranked) (indices_bytes d.dominated ++ refusals_bytes d.refusals) dominated_at (ap suc r.ranked))
    ∙ take_at (indices_bytes d.dominated) (refusals_bytes d.refusals) indices_size (ap suc r.dominated)

refusals-stand : (d : DecisionArrays) → HasAllPlaces d → drop refusals_at (answer_bytes d) ≡ refusals_bytes d.refusals
unfolding answer_bytes
refusals-stand d r =
    let a = indices_bytes d.ranked in
    let b = indices_bytes d.dominated in
    let p = r.ranked in
    let q = r.dominated in
    ap (drop refusals_at) (sym (append_assoc a b (refusals_bytes d.refusals))) ∙ drop_at (a ++ b) (refusals_bytes d.refusals) refusals_at (omega (arith, length-append a b))

parts-of : (d : DecisionArrays) → HasAllPlaces d → PartsOf d
parts-of d r = record { long = answer-long d r; ranked = ranked-stands d r; dominated = dominated-stands d r; refusals = refusals-stand d r }

-- of a decision the lists are no longer than there are items, and padded to a place for each

padded : {A : Type 0} (l : List A) (d : A) → length l ≤ max_items → length (l ++ replicate (max_items - length l) d) ≡ max_items
padded l d h =
    let e = length-append l (replicate (max_items - length l) d) in
    let f = length-replicate (max_items - length l) d in
    omega (arith, h)

arrays-roomy : (o : Outcome ℕ ChiSquare) → length (listed_in o) ≤ max_items → HasAllPlaces (arrays_of o)
unfolding arrays_of indices refusals
arrays-roomy o few =
    let e = length-append o.ranked (o.dominated ++ map (λ (x : Refused ℕ ChiSquare). x.item) o.refused) in
    let f = length-append o.dominated (map (λ (x : Refused ℕ ChiSquare). x.item) o.refused) in
    let g = length-map o.refused (λ (x : Refused ℕ ChiSquare). x.item) in
    let h = length-map o.refused refusal in
    let a : length o.ranked ≤ max_items = omega arith in
    let b : length o.dominated ≤ max_items = omega arith in
    let c : length (map refusal o.refused) ≤ max_items = omega arith in
    record { ranked = padded o.ranked 0 a; dominated = padded o.dominated 0 b; refusals = padded (map refusal o.refused) no_refusal c }

-- what is decided of the items in some order lists no more than there are
listed-few : (s : List ℕ) → is_bad s ≡ false → (l : List ℕ) → Permᴰ l (up_to (length s / item_size)) → length (listed_in (decide (item_relations s) l)) ≤ max_items
listed-few s good l p =
    let q = perm-length (listed-once (item_relations s) l) in
    let r = perm-length p in
    let n = count-length 0 (length s / item_size) in
    omega (arith, few-items s good)

bad-roomy : HasAllPlaces refused_decision
unfolding refused_decision indices refusals
bad-roomy = record { ranked = padded {A = ℕ} [] 0 (omega arith); dominated = padded {A = ℕ} [] 0 (omega arith); refusals = padded [] no_refusal (omega arith) }

roomy : (s : List ℕ) → HasAllPlaces (decided_arrays s)
unfolding decided_arrays
roomy s = by (is_bad s) (λ e. rw e bad-roomy) (λ e. rw e (arrays-roomy (outcome s) (listed-few s e (up_to (length s / item_size)) (Permᴰ.refl (up_to (length s / item_size))))))

sorted-roomy : (s : List ℕ) → HasAllPlaces (sorted_arrays s)
unfolding sorted_arrays
sorted-roomy s = by (is_bad s) (λ e. rw e bad-roomy) (λ e. rw e (arrays-roomy (sorted_outcome s) (listed-few s e (by_identity s) (same-items s e))))

pub parts-stand : PartsStand decided_arrays
parts-stand s = (roomy s, parts-of (decided_arrays s) (roomy s))

pub sorted-stand : PartsStand sorted_arrays
sorted-stand s = (sorted-roomy s, parts-of (sorted_arrays s) (sorted-roomy s))

-- a list that is padded with zeros, after its count
pub indices-put : (l k xs : List ℕ) (at : ℕ) {r : ℕ} {k' : List ℕ} → length l ≤ max_items → xs ≡ l ++ drop (length l) (replicate max_items 0)
    → Put (set k at (length l)) (at + 1) xs r k' → (r ≡ at + indices_size) × Put k at (indices_bytes (indices l)) r k'
unfolding indices
indices-put l k xs at h e p =
    let q = e ∙ ap (λ (z : List ℕ). l ++ z) (drop-zeros (length l) max_items) in
    let n = p.next in
    let m = ap (λ (z : List ℕ). length z) q ∙ length-append l (replicate (max_items - length l) 0) ∙ ap (λ (j : ℕ). length l + j) (length-replicate (max_items - length l) 0) in
    (omega arith, put_as (ap (λ (z : List ℕ). length l ∷ z) q) (put-put (put_one k at (length l)) p))
