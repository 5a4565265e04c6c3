-- The first place of two tables in their order, for every width and key: what comes after it, and what is left behind it.
use Rattle.std.proofs.Common.{ℕ, suc, ◌≡◌, refl, ap, subst, Bool, true, cond, not, List, [], ◌∷◌, arith, length, take}
use Rattle.lists.proofs.Bools.{by}
use Rattle.octets.specs.Order.{is_before}
use Rattle.tables.specs.Places.{ascending_from, ascending}
use Rattle.tables.proofs.Keys.{from-ascending}
use Rattle.tables.proofs.Tables.{wide}
use Rattle.register_join.specs.Merged.{Behind, EachWide}

pub turned-test : {A : Type 0} (b : Bool) (x y : A) → cond (not b) x y ≡ cond b y x
turned-test b x y = by b (λ h. rw h refl) (λ h. rw h refl)

module _ (k : ℕ) (key : List ℕ) where
  -- no place comes before a key where there is none
  pub none-after : (ps : List (List ℕ)) → length ps ≡ 0 → ascending_from k key ps ≡ true
  unfolding ascending_from
  none-after [] e = refl
  none-after (p ∷ ps) e = absurd (omega arith)

  -- all come after a key that comes before the first
  pub all-after : (ps : List (List ℕ)) (q : List ℕ) (qs : List (List ℕ)) → ps ≡ q ∷ qs → ascending k ps ≡ true → is_before key (take k q) ≡ true → ascending_from k key ps ≡ true
  unfolding ascending_from ascending
  all-after ps q qs e a b = grind arith

-- those behind the first ascend from it
pub behind-first : (k : ℕ) (ps : List (List ℕ)) (q : List ℕ) (qs : List (List ℕ)) → ps ≡ q ∷ qs → ascending k ps ≡ true → ascending_from k (take k q) qs ≡ true
unfolding ascending
behind-first k ps q qs e a = grind arith

pub rest-ascends : (k : ℕ) (ps : List (List ℕ)) (q : List ℕ) (qs : List (List ℕ)) → ps ≡ q ∷ qs → ascending k ps ≡ true → ascending k qs ≡ true
rest-ascends k ps q qs e a = from-ascending k (take k q) qs (behind-first k ps q qs e a)

pub split-wide : (w : ℕ) (ps : List (List ℕ)) (q : List ℕ) (qs : List (List ℕ)) → ps ≡ q ∷ qs → wide w ps → (length q ≡ w) × wide w qs
split-wide w ps q qs e x = subst (wide w) e x

pub rest-wide : (w : ℕ) (ps : List (List ℕ)) (q : List ℕ) (qs : List (List ℕ)) → ps ≡ q ∷ qs → EachWide w ps → EachWide w qs
rest-wide w ps q qs e x = let y : EachWide w (q ∷ qs) = subst (EachWide w) e x in λ i h. y (suc i) (omega arith)

-- what is behind the first of mine, of theirs, or of both
module _ (k w : ℕ) (mine theirs : List (List ℕ)) (a : ascending k mine ≡ true) (b : ascending k theirs ≡ true) (x : EachWide w mine) (y : EachWide w theirs) where
  pub behind-mine : (p : List ℕ) (ps : List (List ℕ)) → mine ≡ p ∷ ps → Behind k w mine theirs ps theirs
  behind-mine p ps e =
      record { mine_ascend = rest-ascends k mine p ps e a; theirs_ascend = b; mine_wide = rest-wide w mine p ps e x; theirs_wide = y; fewer = let l = ap length e in omega arith }

  pub behind-theirs : (q : List ℕ) (qs : List (List ℕ)) → theirs ≡ q ∷ qs → Behind k w mine theirs mine qs
  behind-theirs q qs e =
      record { mine_ascend = a; theirs_ascend = rest-ascends k theirs q qs e b; mine_wide = x; theirs_wide = rest-wide w theirs q qs e y; fewer = let l = ap length e in omega arith }

  pub behind-both : (p q : List ℕ) (ps qs : List (List ℕ)) → mine ≡ p ∷ ps → theirs ≡ q ∷ qs → Behind k w mine theirs ps qs
  behind-both p q ps qs e f =
      record {
        mine_ascend = rest-ascends k mine p ps e a;
        theirs_ascend = rest-ascends k theirs q qs f b;
        mine_wide = rest-wide w mine p ps e x;
        theirs_wide = rest-wide w theirs q qs f y;
        fewer = let l = ap length e in let r = ap length f in omega arith;
      }
