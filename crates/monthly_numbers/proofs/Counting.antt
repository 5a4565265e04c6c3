-- The numbers of an engine: how they grow by one more record, and that the five add up.
use Rattle.std.proofs.Common.{ℕ, suc, ◌+◌, ◌<◌, ◌≡◌, refl, sym, ap, ◌∙◌, true, false, cond, arith, length, length-append, get_or, take}
use Rattle.std.proofs.lemmas.List.{take_more}
use Rattle.std.proofs.lemmas.List.Elements.{filter-append}
use mathlib.Core.List.{List, [], ◌∷◌, ◌++◌, map, append-nil}
use lib.ListN.{length-map}
use Rattle.std.specs.List.{filter}
use Rattle.octets.specs.Masks.{bit}
use Rattle.lists.proofs.Bools.{by}
use Rattle.lists.proofs.Lists.{filter-few, filter_map}
use Rattle.signed_records.specs.Signed.{signers_in}
use Rattle.register.specs.Register.{Register}
use Rattle.monthly_numbers.specs.declared.endings.Ending.{Ending}
use Rattle.monthly_numbers.specs.declared.endings.Ending.TheVariants.{Ranked, Dominated, Refused, Other, Uncounted}
use Rattle.monthly_numbers.specs.declared.endings.Ended.{Ended}
use Rattle.monthly_numbers.specs.declared.numbers.Numbers.{Numbers}
use Rattle.monthly_numbers.specs.Endings.{ending}
use Rattle.monthly_numbers.specs.Numbers.{same_ending, signed_by, numbers_of}
use Rattle.monthly_numbers.specs.Kept.{ended_in, one_more, Below, count, tally, numbers_in}

-- ---- the five add up

module _ {X : Type 0} (f : X → Ending) where
  -- the members that end so
  abbrev with : Ending → List X → List X
  with a l = filter (λ x. same_ending a (f x)) l

  abbrev pub five : List X → ℕ
  five l = length (with Ranked l) + (length (with Dominated l) + (length (with Refused l) + (length (with Other l) + length (with Uncounted l))))

  one : (e : Ending) (x : X) (a b c d g : List X) (n : ℕ) → length a + (length b + (length c + (length d + length g))) ≡ n
      → length (cond (same_ending Ranked e) (x ∷ a) a)
      + (length (cond (same_ending Dominated e) (x ∷ b) b)
      + (length (cond (same_ending Refused e) (x ∷ c) c) + (length (cond (same_ending Other e) (x ∷ d) d) + length (cond (same_ending Uncounted e) (x ∷ g) g)))) ≡ suc n
  one Ranked x a b c d g n h = omega arith
  one Dominated x a b c d g n h = omega arith
  one Refused x a b c d g n h = omega arith
  one Other x a b c d g n h = omega arith
  one Uncounted x a b c d g n h = omega arith

  pub add-up : (l : List X) → five l ≡ length l
  add-up [] = refl
  add-up (x ∷ l) = one (f x) x (with Ranked l) (with Dominated l) (with Refused l) (with Other l) (with Uncounted l) (length l) (add-up l)

-- ---- one more record

count-more : (a : Ending) (l : List Ended) (x : Ended) → count (l ++ x ∷ []) a ≡ cond (same_ending a x.ending) (count l a + 1) (count l a)
count-more a l x =
    ap (λ (z : List Ended). length z) (filter-append (λ y. same_ending a y.ending) l (x ∷ []))
    ∙ by (same_ending a x.ending)
    (λ t. rw t (length-append (filter (λ y. same_ending a y.ending) l) (x ∷ [])))
    (λ t. rw t (ap (λ (z : List Ended). length z) (append-nil (filter (λ y. same_ending a y.ending) l))))

numbers : ℕ → ℕ → ℕ → ℕ → ℕ → ℕ → Numbers
numbers h r d x o u = record { held = h; ranked = r; dominated = d; refused = x; other = o; uncounted = u }

more : (e : Ending) (h r d x o u : ℕ)
    → ◌≡◌ {A = Numbers}
    (record {
      held = h + 1;
      ranked = cond (same_ending Ranked e) (r + 1) r;
      dominated = cond (same_ending Dominated e) (d + 1) d;
      refused = cond (same_ending Refused e) (x + 1) x;
      other = cond (same_ending Other e) (o + 1) o;
      uncounted = cond (same_ending Uncounted e) (u + 1) u;
    })
    (one_more e (record { held = h; ranked = r; dominated = d; refused = x; other = o; uncounted = u }))
more Ranked h r d x o u = refl
more Dominated h r d x o u = refl
more Refused h r d x o u = refl
more Other h r d x o u = refl
more Uncounted h r d x o u = refl

tally-more : (l : List Ended) (x : Ended) → tally (l ++ x ∷ []) ≡ one_more x.ending (tally l)
tally-more l x =
    rw (length-append l (x ∷ []), count-more Ranked l x, count-more Dominated l x, count-more Refused l x, count-more Other l x, count-more Uncounted l x)
    (more x.ending (length l) (count l Ranked) (count l Dominated) (count l Refused) (count l Other) (count l Uncounted))

module _ (e : ℕ) (l : List Ended) (i : ℕ) (d : Ended) (h : i < length l) where
  own-more : filter (λ x. bit x.signers e) (take (i + 1) l) ≡ filter (λ x. bit x.signers e) (take i l) ++ filter (λ x. bit x.signers e) (get_or l i d ∷ [])
  own-more = ap (filter (λ x. bit x.signers e)) (take_more l i d h) ∙ filter-append (λ x. bit x.signers e) (take i l) (get_or l i d ∷ [])

  -- it is signed
  pub numbers-more : bit (get_or l i d).signers e ≡ true → one_more (get_or l i d).ending (numbers_in e (take i l)) ≡ numbers_in e (take (i + 1) l)
  unfolding numbers_in
  numbers-more t = sym (ap tally (own-more ∙ rw t refl) ∙ tally-more (filter (λ x. bit x.signers e) (take i l)) (get_or l i d))

  -- it is not
  pub numbers-same : bit (get_or l i d).signers e ≡ false → numbers_in e (take i l) ≡ numbers_in e (take (i + 1) l)
  unfolding numbers_in
  numbers-same t = sym (ap tally (own-more ∙ rw t (append-nil (filter (λ x. bit x.signers e) (take i l)))))

pub no-numbers : (e : ℕ) (n : Numbers) → n.held ≡ 0 → n.ranked ≡ 0 → n.dominated ≡ 0 → n.refused ≡ 0 → n.other ≡ 0 → n.uncounted ≡ 0 → n ≡ numbers_in e []
unfolding numbers_in
no-numbers e n h r d x o u = λ i. record { held = h i; ranked = r i; dominated = d i; refused = x i; other = o i; uncounted = u i }

-- a turn of a loop over them: x is the member, n the numbers before it, m those after it
module _ (e : ℕ) (l : List Ended) (i : ℕ) (x : Ended) (h : i < length l) (is : x ≡ get_or l i x) (n : Numbers) (before : n ≡ numbers_in e (take i l)) where
  pub turn-in : bit x.signers e ≡ true → (m : Numbers) → m ≡ one_more x.ending n → m ≡ numbers_in e (take (i + 1) l)
  turn-in t m g =
      g ∙ ap (one_more x.ending) before ∙ ap (λ (y : Ended). one_more y.ending (numbers_in e (take i l))) is
      ∙ numbers-more e l i x h (ap (λ (y : Ended). bit y.signers e) (sym is) ∙ t)

  pub turn-by : bit x.signers e ≡ false → n ≡ numbers_in e (take (i + 1) l)
  turn-by t = before ∙ numbers-same e l i x h (ap (λ (y : Ended). bit y.signers e) (sym is) ∙ t)

-- ---- no number is greater than the number of records

pub numbers-few : (e : ℕ) (l : List Ended) (k : ℕ) → length l < k → Below k (numbers_in e l)
unfolding numbers_in
numbers-few e l k h =
    let o = filter (λ x. bit x.signers e) l in
    let f = filter-few (λ x. bit x.signers e) l in
    let g = λ (a : Ending). filter-few (λ (x : Ended). same_ending a x.ending) o in
    let r = g Ranked in
    let d = g Dominated in
    let x = g Refused in
    let t = g Other in
    let u = g Uncounted in
    record { held = omega arith; ranked = omega arith; dominated = omega arith; refused = omega arith; other = omega arith; uncounted = omega arith }

-- ---- of a register's records

module _ (s : Register) (e : ℕ) where
  count-mapped : (ps : List (List ℕ)) (a : Ending) → count (map (ended_in s) ps) a ≡ length (filter (λ p. same_ending a (ending s p)) ps)
  count-mapped ps a =
      ap (λ (z : List Ended). length z) (filter_map (ended_in s) (λ p. same_ending a (ending s p)) (λ x. same_ending a x.ending) ps (λ x m. refl))
      ∙ length-map (filter (λ p. same_ending a (ending s p)) ps) (ended_in s)

  pub numbers-are : numbers_in e (map (ended_in s) s.records) ≡ numbers_of s e
  unfolding numbers_in
  numbers-are =
      let o = signed_by s e in
      ap tally (filter_map (ended_in s) (λ p. bit (signers_in p) e) (λ x. bit x.signers e) s.records (λ x m. refl))
      ∙ rw (length-map o (ended_in s), count-mapped o Ranked, count-mapped o Dominated, count-mapped o Refused, count-mapped o Other, count-mapped o Uncounted) refl
