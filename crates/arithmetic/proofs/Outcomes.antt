-- Which outcome an agreement has, with which number, and how it stands to agreement as it was before.
use mathlib.Core.Path.{◌≡◌, refl, sym, ap, subst, ◌∙◌}
use mathlib.Core.Bool.{Bool, true, false, not, true≢false}
use mathlib.Core.List.{List}
use Rattle.std.specs.Prelude.{Option, Some, None}
use Prim.Native.Nat.{ℕ, suc, ◌<◌, ◌^◌}
use lib.Dec.{T}
use native.Mathlib.Omega.{arith}
use borrow.Author.Tests.{ne_eqb}
use lib.Ieee.{Float, nan, inf, fin, binary64, is_nan, le, lt, of_bits, to_bits, round, fits}
use lib.Ieee.Scale.{finite}
use lib.Ieee.Fits.{add-fits}
use lib.Ieee.Bits.{of_bits-to_bits, to_bits-lt}
use Rattle.geometry.specs.Numbers.{◌⊗◌, from_decimal, not_above}
use Rattle.geometry.specs.Linalg.{element, minus_each, rows_below, columns, cholesky_of, solve_of, sum_to}
use Rattle.geometry.proofs.Comparing.{at-most-not-above}
use Rattle.arithmetic.specs.Agree.{limit_of, rows_of, matrix_of, sum_under, finitely, length_under, chi_square_of, difference_of, three_of, agreement_under, agreement_of, agrees_of, chi_square_in}
use Rattle.arithmetic.specs.Answers.{measure_in}
use Rattle.arithmetic.specs.Bits.{infinity, stored_bits, stored_chi_square}
use Rattle.arithmetic.specs.Before.{length_before, chi_square_before, finite_or, agreement_before, agreed_before}
use Rattle.arithmetic.specs.Claims.{factor_under, sum_with, NothingMeasured, refused, overflows, FiniteNumbers, InsideExactlyWhen, OutsideExactlyWhen, UnmeasurableExactlyWhen, ElseTheSum, UnmeasurableWasInfinite, NumbersAsBefore, AgreesAsBefore, BitsAsBefore, StoredReadBack}
use Rattle.geometry.specs.declared.linalg.Covariance.{Covariance}
use Rattle.arithmetic.specs.declared.standing.Claimed.{Claimed}
use Rattle.arithmetic.specs.declared.standing.Measure.{Measure}
use Rattle.arithmetic.specs.declared.standing.Agreement.{Agreement}
use Rattle.arithmetic.specs.declared.standing.Agreement.TheVariants.{Inside, Outside, Unmeasurable}
use Rattle.arithmetic.specs.declared.standing.ChiSquare.{ChiSquare}
use Rattle.arithmetic.specs.declared.standing.ChiSquare.TheVariants.{Measured, Unmeasured}
use Rattle.arithmetic.proofs.Comparing.{by}

-- ---- an outcome under a limit

some_inj : {A : Type 0} {x y : A} → Some x ≡ Some y → x ≡ y
some_inj e = cc

never : {A : Type 0} {n : A} → None ≡ Some n → ⊥
never e = absurd (let z : true ≡ false = cc in true≢false z)

finite-no-nan : (x : Float) → finite x ≡ true → is_nan x ≡ false
unfolding is_nan
finite-no-nan nan e = absurd (true≢false (sym e))
finite-no-nan (inf s) e = refl
finite-no-nan (fin s m d) e = refl

limit-no-nan : (three : Bool) → is_nan (limit_of three) ≡ false
unfolding limit_of from_decimal round is_nan
limit-no-nan true = refl
limit-no-nan false = refl

module _ (limit x : Float) where
  -- a number with its limit
  abbrev numbers : Measure
  numbers = record { chi2 = x; limit = limit }

  inside : le x limit ≡ true → agreement_under limit (Measured x) ≡ Inside numbers
  unfolding agreement_under
  inside e = rw e

  outside : le x limit ≡ false → agreement_under limit (Measured x) ≡ Outside numbers
  unfolding agreement_under
  outside e = rw e

  measured-out : measure_in (agreement_under limit (Measured x)) ≡ Some numbers
  unfolding measure_in
  measured-out = by (le x limit) (λ e. rw (inside e)) (λ e. rw (outside e))

  agrees-out : agrees_of (agreement_under limit (Measured x)) ≡ le x limit
  unfolding agrees_of
  agrees-out = by (le x limit) (λ e. rw (inside e, e)) (λ e. rw (outside e, e))

  bits_out : stored_bits (chi_square_in (agreement_under limit (Measured x))) ≡ to_bits binary64 x
  unfolding chi_square_in stored_bits
  bits_out = by (le x limit) (λ e. rw (inside e)) (λ e. rw (outside e))

  chi-out : chi_square_in (agreement_under limit (Measured x)) ≡ Measured x
  unfolding chi_square_in
  chi-out = by (le x limit) (λ e. rw (inside e)) (λ e. rw (outside e))

  not-unmeasurable : agreement_under limit (Measured x) ≡ Unmeasurable → ⊥
  unfolding measure_in
  not-unmeasurable e =
      let f : measure_in (agreement_under limit (Measured x)) ≡ None = ap measure_in e in
      never (sym f ∙ measured-out)

-- by its cases, an outcome that has these numbers is inside them or outside
module _ (limit : Float) (m : Measure) where
  inside-at-most : (o : ChiSquare) → agreement_under limit o ≡ Inside m → le m.chi2 m.limit ≡ true
  unfolding agreement_under
  inside-at-most Unmeasured e = cc
  inside-at-most (Measured x) e =
      by (le x limit)
      (λ t.
      let f : Inside (numbers limit x) ≡ Inside m = sym (inside limit x t) ∙ e in
      let g : numbers limit x ≡ m = cc in
      subst (λ (n : Measure). le n.chi2 n.limit ≡ true) g t)
      (λ t.
      let f : Outside (numbers limit x) ≡ Inside m = sym (outside limit x t) ∙ e in
      cc)

  outside-not-at-most : (o : ChiSquare) → agreement_under limit o ≡ Outside m → le m.chi2 m.limit ≡ false
  unfolding agreement_under
  outside-not-at-most Unmeasured e = cc
  outside-not-at-most (Measured x) e =
      by (le x limit)
      (λ t.
      let f : Inside (numbers limit x) ≡ Outside m = sym (inside limit x t) ∙ e in
      cc)
      (λ t.
      let f : Outside (numbers limit x) ≡ Outside m = sym (outside limit x t) ∙ e in
      let g : numbers limit x ≡ m = cc in
      subst (λ (n : Measure). le n.chi2 n.limit ≡ false) g t)

  same_numbers : (x : Float) → measure_in (agreement_under limit (Measured x)) ≡ Some m → numbers limit x ≡ m
  same_numbers x e = some_inj (sym (measured-out limit x) ∙ e)

  inside-if : (o : ChiSquare) → measure_in (agreement_under limit o) ≡ Some m → le m.chi2 m.limit ≡ true → agreement_under limit o ≡ Inside m
  unfolding agreement_under measure_in
  inside-if Unmeasured e t = cc
  inside-if (Measured x) e t =
      let g = same_numbers x e in
      inside limit x (subst (λ (n : Measure). le n.chi2 n.limit ≡ true) (sym g) t) ∙ ap (λ (n : Measure). Inside n) g

  outside-if : (o : ChiSquare) → measure_in (agreement_under limit o) ≡ Some m → le m.chi2 m.limit ≡ false → agreement_under limit o ≡ Outside m
  unfolding agreement_under measure_in
  outside-if Unmeasured e t = cc
  outside-if (Measured x) e t =
      let g = same_numbers x e in
      outside limit x (subst (λ (n : Measure). le n.chi2 n.limit ≡ false) (sym g) t) ∙ ap (λ (n : Measure). Outside n) g

-- ---- what there is to measure with

plus-fits : (p : ℕ → Float) (k : ℕ) → T (fits binary64 (sum_to p (suc k)))
unfolding sum_to
plus-fits p k = add-fits binary64 (sum_to p k) (p (suc k))

sum_fits : (three : Bool) (enu factor : List Float) → T (fits binary64 (sum_under (rows_of three) enu factor))
unfolding sum_under
sum_fits true enu factor = plus-fits (λ at. element enu at ⊗ element (solve_of 3 factor enu) at) 1
sum_fits false enu factor = plus-fits (λ at. element enu at ⊗ element (solve_of 2 factor enu) at) 0

module _ (smaller larger : Claimed) where
  abbrev three : Bool
  three = three_of smaller larger

  abbrev out : Agreement
  out = agreement_of smaller larger

  -- there is nothing, or a sum that is finite
  ways : (A : Type 0) → (NothingMeasured smaller larger → A)
      → ((factor : List Float) → factor_under smaller larger ≡ Some factor → finite (sum_with smaller larger factor) ≡ true → A) → A
  ways A n m = go (factor_under smaller larger) refl
    where
      go : (o : Option (List Float)) → factor_under smaller larger ≡ o → A
      go None e = n (refused e)
      go (Some f) e = by (finite (sum_with smaller larger f)) (λ t. m f e t) (λ t. n (overflows f e t))

  pub nothing : NothingMeasured smaller larger → out ≡ Unmeasurable
  unfolding agreement_of chi_square_of length_under finitely agreement_under
  nothing (refused e) = rw e
  nothing (overflows factor e f) = rw (e, f)

  nothing-before : NothingMeasured smaller larger → (agreement_before smaller larger).chi2 ≡ inf false
  unfolding agreement_before chi_square_before length_before finite_or
  nothing-before (refused e) = rw e
  nothing-before (overflows factor e f) = rw (e, f)

  module _ (factor : List Float) (e : factor_under smaller larger ≡ Some factor) (f : finite (sum_with smaller larger factor) ≡ true) where
    abbrev sum : Float
    sum = sum_with smaller larger factor

    summed : out ≡ agreement_under (limit_of three) (Measured sum)
    unfolding agreement_of chi_square_of length_under finitely
    summed = rw (e, f)

    summed-before : agreement_before smaller larger ≡ numbers (limit_of three) sum
    unfolding agreement_before chi_square_before length_before finite_or
    summed-before = rw (e, f)

    measured-sum : measure_in out ≡ Some (numbers (limit_of three) sum)
    measured-sum = ap measure_in summed ∙ measured-out (limit_of three) sum

    is_sum : (m : Measure) → measure_in out ≡ Some m → numbers (limit_of three) sum ≡ m
    is_sum m g = some_inj (sym measured-sum ∙ g)

  nothing_said : (m : Measure) → NothingMeasured smaller larger → measure_in out ≡ Some m → ⊥
  unfolding measure_in
  nothing_said m n g =
      never (sym (ap measure_in (nothing n)) ∙ g)

inside-measured : {a : Agreement} (m : Measure) → a ≡ Inside m → measure_in a ≡ Some m
unfolding measure_in
inside-measured m e = ap measure_in e

outside-measured : {a : Agreement} (m : Measure) → a ≡ Outside m → measure_in a ≡ Some m
unfolding measure_in
outside-measured m e = ap measure_in e

-- a number is above its limit exactly where it is not at most the limit
above : (m : Measure) → is_nan m.chi2 ≡ false → is_nan m.limit ≡ false → le m.chi2 m.limit ≡ not (lt m.limit m.chi2)
above m a b = at-most-not-above m.chi2 m.limit a b

-- ---- the claims

pub finite-numbers : FiniteNumbers
finite-numbers smaller larger m g =
    let number : finite m.chi2 ≡ true =
    ways smaller larger (finite m.chi2 ≡ true)
    (λ n. absurd (nothing_said smaller larger m n g))
    (λ factor e f. subst (λ (x : Measure). finite x.chi2 ≡ true) (is_sum smaller larger factor e f m g) f)
    in
    (finite-no-nan m.chi2 number, number)

pub inside-exactly-when : InsideExactlyWhen
unfolding agreement_of
inside-exactly-when smaller larger m =
    let three = three_of smaller larger in
    let o = chi_square_of three smaller.covariance (difference_of smaller larger) in (
      λ e. (inside-measured m e, inside-at-most (limit_of three) m o e),
      λ p. inside-if (limit_of three) m o p.0 p.1,
    )

-- the limit of what is measured is one of the two
limit-said : (smaller larger : Claimed) (m : Measure) → measure_in (agreement_of smaller larger) ≡ Some m → is_nan m.limit ≡ false
limit-said smaller larger m g =
    ways smaller larger (is_nan m.limit ≡ false)
    (λ n. absurd (nothing_said smaller larger m n g))
    (λ factor e f. subst (λ (x : Measure). is_nan x.limit ≡ false) (is_sum smaller larger factor e f m g) (limit-no-nan (three_of smaller larger)))

module _ (smaller larger : Claimed) (m : Measure) (g : measure_in (agreement_of smaller larger) ≡ Some m) where
  apart : le m.chi2 m.limit ≡ not (lt m.limit m.chi2)
  apart = above m (finite-numbers smaller larger m g).0 (limit-said smaller larger m g)

  is-above : le m.chi2 m.limit ≡ false → lt m.limit m.chi2 ≡ true
  is-above e = by (lt m.limit m.chi2) (λ t. t) (λ t. absurd (true≢false (sym (sym e ∙ apart ∙ ap not t))))

  not-at-most : lt m.limit m.chi2 ≡ true → le m.chi2 m.limit ≡ false
  not-at-most t = apart ∙ ap not t

pub outside-exactly-when : OutsideExactlyWhen
unfolding agreement_of
outside-exactly-when smaller larger m =
    let three = three_of smaller larger in
    let o = chi_square_of three smaller.covariance (difference_of smaller larger) in (
      λ e.
          let g = outside-measured m e in
          (g, is-above smaller larger m g (outside-not-at-most (limit_of three) m o e)),
      λ p. outside-if (limit_of three) m o p.0 (not-at-most smaller larger m p.0 p.1),
    )

-- where there is a sum that is finite, it is measured
measurable : (smaller larger : Claimed) (factor : List Float) → factor_under smaller larger ≡ Some factor → finite (sum_with smaller larger factor) ≡ true
    → agreement_of smaller larger ≡ Unmeasurable → ⊥
measurable smaller larger factor e f u =
    not-unmeasurable (limit_of (three_of smaller larger)) (sum_with smaller larger factor) (sym (summed smaller larger factor e f) ∙ u)

pub unmeasurable-exactly-when : UnmeasurableExactlyWhen
unmeasurable-exactly-when smaller larger = (
  λ u. ways smaller larger (NothingMeasured smaller larger) (λ n. n) (λ factor e f. absurd (measurable smaller larger factor e f u)),
  nothing smaller larger,
)

pub else-the-sum : ElseTheSum
else-the-sum smaller larger factor e f = measured-sum smaller larger factor e f

pub unmeasurable-was-infinite : UnmeasurableWasInfinite
unmeasurable-was-infinite smaller larger = (
  λ u. ways smaller larger _ (nothing-before smaller larger) (λ factor e f. absurd (measurable smaller larger factor e f u)),
  λ i. ways smaller larger _ (nothing smaller larger)
      (λ factor e f.
      let x : sum_with smaller larger factor ≡ inf false = sym (ap (λ (m : Measure). m.chi2) (summed-before smaller larger factor e f)) ∙ i in
      let g : finite (inf false) ≡ true = subst (λ (y : Float). finite y ≡ true) x f in
      absurd (true≢false (sym g))),
)

pub numbers-as-before : NumbersAsBefore
numbers-as-before smaller larger m g =
    ways smaller larger (agreement_before smaller larger ≡ m)
    (λ n. absurd (nothing_said smaller larger m n g))
    (λ factor e f. summed-before smaller larger factor e f ∙ is_sum smaller larger factor e f m g)

above-limit : (three : Bool) → le (inf false) (limit_of three) ≡ false
unfolding le limit_of from_decimal round
above-limit true = refl
above-limit false = refl

limit-before : (smaller larger : Claimed) → (agreement_before smaller larger).limit ≡ limit_of (three_of smaller larger)
unfolding agreement_before
limit-before smaller larger = refl

pub agrees-as-before : AgreesAsBefore
unfolding agrees_of agreed_before
agrees-as-before smaller larger =
    ways smaller larger _
    (λ n. ap agrees_of (nothing smaller larger n) ∙ sym (rw (nothing-before smaller larger n, limit-before smaller larger) (above-limit (three_of smaller larger))))
    (λ factor e f.
    let limit = limit_of (three_of smaller larger) in
    let x = sum_with smaller larger factor in
    ap agrees_of (summed smaller larger factor e f) ∙ agrees-out limit x ∙ sym (ap (λ (m : Measure). le m.chi2 m.limit) (summed-before smaller larger factor e f)))

infinite-bits : to_bits binary64 (inf false) ≡ infinity
unfolding to_bits
infinite-bits = refl

pub bits-as-before : BitsAsBefore
unfolding chi_square_in stored_bits
bits-as-before smaller larger =
    ways smaller larger _
    (λ n. ap (λ (a : Agreement). stored_bits (chi_square_in a)) (nothing smaller larger n) ∙ sym (ap (to_bits binary64) (nothing-before smaller larger n) ∙ infinite-bits))
    (λ factor e f.
    let limit = limit_of (three_of smaller larger) in
    let x = sum_with smaller larger factor in
    ap (λ (a : Agreement). stored_bits (chi_square_in a)) (summed smaller larger factor e f)
    ∙ bits_out limit x
    ∙ sym (ap (λ (m : Measure). to_bits binary64 m.chi2) (summed-before smaller larger factor e f)))

-- a number that is finite does not have the bits of the infinity
finite-bits : (x : Float) → T (fits binary64 x) → finite x ≡ true → to_bits binary64 x ≡ infinity → ⊥
unfolding of_bits
finite-bits x w f e =
    let i : of_bits binary64 infinity ≡ inf false = refl in
    let y : x ≡ inf false = sym (of_bits-to_bits binary64 x w) ∙ ap (of_bits binary64) e ∙ i in
    true≢false (sym (subst (λ (z : Float). finite z ≡ true) y f))

read_number : (x : Float) → T (fits binary64 x) → finite x ≡ true → stored_chi_square (to_bits binary64 x) ≡ Measured x
unfolding stored_chi_square
read_number x w f = rw (ne_eqb (to_bits binary64 x) infinity (finite-bits x w f), of_bits-to_bits binary64 x w)

pub read-infinity : stored_chi_square infinity ≡ Unmeasured
unfolding stored_chi_square
read-infinity = refl

pub stored-read-back : StoredReadBack
unfolding chi_square_in stored_bits
stored-read-back smaller larger =
    ways smaller larger _
    (λ n. rw (nothing smaller larger n) read-infinity)
    (λ factor e f.
    let limit = limit_of (three_of smaller larger) in
    let x = sum_with smaller larger factor in
    let w = sum_fits (three_of smaller larger) (difference_of smaller larger) factor in
    rw (summed smaller larger factor e f, bits_out limit x, chi-out limit x) (read_number x w f))

-- what is stored has 64 bits
pub stored-bounded : (smaller larger : Claimed) → stored_bits (chi_square_in (agreement_of smaller larger)) < 2 ^ 64
unfolding chi_square_in stored_bits
stored-bounded smaller larger =
    ways smaller larger _
    (λ n. rw (nothing smaller larger n) (omega arith))
    (λ factor e f.
    let x = sum_with smaller larger factor in
    rw (summed smaller larger factor e f, bits_out (limit_of (three_of smaller larger)) x)
    (to_bits-lt binary64 x (sum_fits (three_of smaller larger) (difference_of smaller larger) factor)))

-- a covariance whose first entry is a NaN, zero or negative is refused
first-none : (three : Bool) (c : Covariance) → not_above c.xx ≡ true → cholesky_of (rows_of three) (matrix_of three c) ≡ None
unfolding cholesky_of columns minus_each rows_below matrix_of
first-none true c e = rw e
first-none false c e = rw e

pub refused-first : (smaller larger : Claimed) → not_above smaller.covariance.xx ≡ true → agreement_of smaller larger ≡ Unmeasurable
refused-first smaller larger e = nothing smaller larger (refused (first-none (three_of smaller larger) smaller.covariance e))
