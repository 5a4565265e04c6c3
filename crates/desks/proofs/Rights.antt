-- A desk and its number go together; and what is answered with a right and without it.
use Rattle.std.proofs.Common.{ℕ, ◌<◌, ◌≡◌, refl, sym, ap, subst, Bool, true, false, cond, ◌⊎◌, inl, inr, arith, eqb, eqb-true, Option, Some, None}
use borrow.Author.Tests.{eqb-false}
use mathlib.Core.Bool.{false≢true}
use Rattle.lists.proofs.Bools.{by}
use Rattle.errors.specs.After.{After, after}
use Rattle.desks.specs.declared.Desk.{Desk}
use Rattle.desks.specs.declared.Desk.TheVariants.{Crew, Analyst, Manager}
use Rattle.desks.specs.Desks.{number_of, desk_of, right_of, has_right, answered, at_desk, with_right}

pub desk-of-number : (desk : Desk) → desk_of (number_of desk) ≡ Some desk
desk-of-number Crew = refl
desk-of-number Analyst = refl
desk-of-number Manager = refl

pub number-of-desk : (n : ℕ) (desk : Desk) → desk_of n ≡ Some desk → number_of desk ≡ n
number-of-desk n Crew e = grind arith
number-of-desk n Analyst e = grind arith
number-of-desk n Manager e = grind arith

-- what holds of the three numbers, and of those that are no desk's, holds of all
pub each-number : (P : ℕ → Type 0) → P 0 → P 1 → P 2 → ((n : ℕ) → 2 < n → desk_of n ≡ None → P n) → (n : ℕ) → P n
each-number P crew analyst manager other n =
    by (eqb n 0) (λ a. subst P (sym (eqb-true n 0 a)) crew)
    (λ a. by (eqb n 1) (λ b. subst P (sym (eqb-true n 1 b)) analyst)
    (λ b. by (eqb n 2) (λ d. subst P (sym (eqb-true n 2 d)) manager)
    (λ d. let x = eqb-false n 0 a in let y = eqb-false n 1 b in let z = eqb-false n 2 d in other n (omega arith) (rw (a, b, d) refl))))

pub at-no-desk : {A : Type 0} (n : ℕ) (left : A) (answer : Desk → After A) → desk_of n ≡ None → at_desk n left answer ≡ after 15 left
at-no-desk n left answer h = ap (answered left answer) h

-- what is refused for its desk: one of two numbers, and nothing has changed
pub record Refused {A : Type 0} (left : A) (a : After A) : Type 0 where
  pub number : (a.answer ≡ 15) ⊎ (a.answer ≡ 16)
  pub unchanged : a.left ≡ left

module _ {A : Type 0} (right : Desk → Bool) (n : ℕ) (left : A) (done : After A) where
  abbrev answer : Desk → After A
  answer desk = cond (right desk) done (after 16 left)

  pub with-the-right : has_right right n ≡ true → with_right right n left done ≡ done
  unfolding has_right
  with-the-right h = go (desk_of n) h
    where
      go : (o : Option Desk) → right_of right o ≡ true → answered left answer o ≡ done
      go None h = absurd (false≢true h)
      go (Some desk) h = rw h refl

  pub without-the-right : has_right right n ≡ false → Refused left (with_right right n left done)
  unfolding has_right
  without-the-right h = go (desk_of n) h
    where
      go : (o : Option Desk) → right_of right o ≡ false → Refused left (answered left answer o)
      go None h = record { number = inl refl; unchanged = refl }
      go (Some desk) h = rw h (record { number = inr refl; unchanged = refl })

  -- what holds of both refusals and of what is done
  pub either-way : (P : After A → Type 0) → P done → P (after 15 left) → P (after 16 left) → P (with_right right n left done)
  either-way P p q r = go (desk_of n)
    where
      go : (o : Option Desk) → P (answered left answer o)
      go None = q
      go (Some desk) = by (right desk) (λ h. rw h p) (λ h. rw h r)
