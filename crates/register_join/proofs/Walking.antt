-- Two tables walked from their first places, for every width, key and test: what is united of them begins with what is kept of the first place.
use Rattle.std.proofs.Common.{ℕ, suc, ◌+◌, ◌≤◌, ◌<◌, ◌≡◌, refl, sym, ap, ◌∙◌, Bool, true, cond, List, [], ◌∷◌, ◌++◌, arith, length, get_or, take, drop, take_at, length-take-le}
use Rattle.lists.proofs.Bools.{by}
use Rattle.octets.proofs.Comparison.{before-irrefl, before-asym}
use Rattle.tables.specs.Places.{ascending_from, put_place, keep_places}
use Rattle.tables.proofs.Keys.{from-weaken}
use Rattle.tables.proofs.Keeping.{changed-key, changed-rest}
use Rattle.tables.proofs.Tables.{wide}
use Rattle.register_join.specs.Join.{united}

-- places that are each as wide
pub wide-each : (w : ℕ) (ps : List (List ℕ)) → ((i : ℕ) → i < length ps → length (get_or ps i []) ≡ w) → wide w ps
wide-each w [] f = tt
wide-each w (p ∷ ps) f = (f 0 (omega arith), wide-each w ps (λ i h. f (suc i) (omega arith)))

-- ---- the first place of two tables

module _ (k : ℕ) (f : List ℕ → List ℕ → List ℕ) where
  -- it is of the second, and comes before all of the first
  pub front-second : (x : List ℕ) (ps qs : List (List ℕ)) → ascending_from k (take k x) ps ≡ true → united k f ps (x ∷ qs) ≡ x ∷ united k f ps qs
  unfolding united ascending_from put_place
  front-second x [] qs a = refl
  front-second x (p ∷ ps) qs a = grind (arith, front-second x ps, from-weaken k (take k x) (take k p) ps)

  module _ (p : List ℕ) (ps : List (List ℕ)) (l : length (take k p) ≡ k) (a : ascending_from k (take k p) ps ≡ true) where
    -- what is put in for it
    begun : (v : List ℕ) (qs : List (List ℕ)) → united k f ps ((take k p ++ v) ∷ qs) ≡ (take k p ++ v) ∷ united k f ps qs
    begun v qs = front-second (take k p ++ v) ps qs (ap (λ (key : List ℕ). ascending_from k key ps) (take_at (take k p) v k l) ∙ a)

    -- it is of the first, and comes before all of the second
    pub front-first : (qs : List (List ℕ)) → ascending_from k (take k p) qs ≡ true → united k f (p ∷ ps) qs ≡ (take k p ++ f (drop k p) []) ∷ united k f ps qs
    unfolding united ascending_from put_place
    front-first [] b = begun (f (drop k p) []) []
    front-first (q ∷ qs) b = grind (arith, begun (f (drop k p) []) (q ∷ qs), before-asym (take k p) (take k q))

    -- both have it
    pub front-both : (q : List ℕ) (qs : List (List ℕ)) → take k q ≡ take k p → united k f (p ∷ ps) (q ∷ qs) ≡ (take k p ++ f (drop k p) (drop k q)) ∷ united k f ps qs
    unfolding united put_place
    front-both q qs e = grind (arith, begun (f (drop k p) (drop k q)) qs, before-irrefl (take k p), e)

-- ---- with places that are kept and changed

module _ (k w : ℕ) (m : k ≤ w) (test : List ℕ → Bool) (change : List ℕ → List ℕ) (fit : (v : List ℕ) → k + length v ≡ w → k + length (change v) ≡ w) where
  -- they come after whatever all came after
  kept-after : (key : List ℕ) (ps : List (List ℕ)) → wide w ps → ascending_from k key ps ≡ true → ascending_from k key (keep_places k test change ps) ≡ true
  unfolding keep_places ascending_from
  kept-after key [] x a = refl
  kept-after key (p ∷ ps) x a =
      grind (arith, kept-after (take k p) ps, changed-key k test change w m fit p, from-weaken k key (take k p) (keep_places k test change ps))

module _ (k w : ℕ) (m : k ≤ w) (f : List ℕ → List ℕ → List ℕ) (stays_of_theirs : List ℕ → Bool) (theirs_changed : List ℕ → List ℕ) (stays_of_mine : List ℕ → Bool) (mine_changed : List ℕ → List ℕ)
    (fit_theirs : (v : List ℕ) → k + length v ≡ w → k + length (theirs_changed v) ≡ w) (fit_mine : (v : List ℕ) → k + length v ≡ w → k + length (mine_changed v) ≡ w) where
  abbrev theirs : List (List ℕ) → List (List ℕ)
  theirs qs = keep_places k stays_of_theirs theirs_changed qs

  abbrev mine : List (List ℕ) → List (List ℕ)
  mine ps = keep_places k stays_of_mine mine_changed ps

  abbrev both : List (List ℕ) → List (List ℕ) → List (List ℕ)
  both ps qs = united k f (theirs qs) (mine ps)

  module _ (ps qs : List (List ℕ)) (x : wide w ps) (y : wide w qs) where
    pub turn-mine : (p : List ℕ) → length p ≡ w → ascending_from k (take k p) qs ≡ true → both (p ∷ ps) qs ≡ cond (stays_of_mine p) ((take k p ++ mine_changed (drop k p)) ∷ both ps qs) (both ps qs)
    unfolding keep_places
    turn-mine p e b =
        by (stays_of_mine p)
        (λ h. rw h (front-second k f (take k p ++ mine_changed (drop k p)) (theirs qs) (mine ps)
        (ap (λ (key : List ℕ). ascending_from k key (theirs qs)) (changed-key k stays_of_mine mine_changed w m fit_mine p e) ∙ kept-after k w m stays_of_theirs theirs_changed fit_theirs (take k p) qs y b)))
        (λ h. rw h refl)

    module _ (q : List ℕ) (e : length q ≡ w) (c : ascending_from k (take k q) qs ≡ true) where
      abbrev q' : List ℕ
      q' = take k q ++ theirs_changed (drop k q)

      key-is : take k q' ≡ take k q
      key-is = changed-key k stays_of_theirs theirs_changed w m fit_theirs q e

      rest-is : drop k q' ≡ theirs_changed (drop k q)
      rest-is = changed-rest k stays_of_theirs theirs_changed w m fit_theirs q e

      key-long : length (take k q') ≡ k
      key-long = ap length key-is ∙ length-take-le k q (omega arith)

      theirs-after : ascending_from k (take k q') (theirs qs) ≡ true
      theirs-after = ap (λ (key : List ℕ). ascending_from k key (theirs qs)) key-is ∙ kept-after k w m stays_of_theirs theirs_changed fit_theirs (take k q) qs y c

      pub turn-theirs : ascending_from k (take k q) ps ≡ true → both ps (q ∷ qs) ≡ cond (stays_of_theirs q) ((take k q ++ f (theirs_changed (drop k q)) []) ∷ both ps qs) (both ps qs)
      unfolding keep_places
      turn-theirs b =
          let mine-after : ascending_from k (take k q') (mine ps) ≡ true =
          ap (λ (key : List ℕ). ascending_from k key (mine ps)) key-is ∙ kept-after k w m stays_of_mine mine_changed fit_mine (take k q) ps x b in
          by (stays_of_theirs q)
          (λ h. rw h (front-first k f q' (theirs qs) key-long theirs-after (mine ps) mine-after ∙ rw (key-is, rest-is) refl))
          (λ h. rw h refl)

      pub turn-both : (p : List ℕ) → length p ≡ w → take k p ≡ take k q → ascending_from k (take k p) ps ≡ true
          → both (p ∷ ps) (q ∷ qs)
          ≡ cond (stays_of_theirs q)
          (cond (stays_of_mine p) ((take k p ++ f (theirs_changed (drop k q)) (mine_changed (drop k p))) ∷ both ps qs) ((take k p ++ f (theirs_changed (drop k q)) []) ∷ both ps qs))
          (cond (stays_of_mine p) ((take k p ++ mine_changed (drop k p)) ∷ both ps qs) (both ps qs))
      unfolding keep_places
      turn-both p d s b =
          let a : ascending_from k (take k q) ps ≡ true = ap (λ (key : List ℕ). ascending_from k key ps) (sym s) ∙ b in
          let mine-after : ascending_from k (take k q') (mine ps) ≡ true =
          ap (λ (key : List ℕ). ascending_from k key (mine ps)) key-is ∙ kept-after k w m stays_of_mine mine_changed fit_mine (take k q) ps x a in
          let p' = take k p ++ mine_changed (drop k p) in
          let p-key : take k p' ≡ take k p = changed-key k stays_of_mine mine_changed w m fit_mine p d in
          let p-rest : drop k p' ≡ mine_changed (drop k p) = changed-rest k stays_of_mine mine_changed w m fit_mine p d in
          by (stays_of_theirs q)
          (λ h. by (stays_of_mine p)
          (λ g. rw (h, g) (front-both k f q' (theirs qs) key-long theirs-after p' (mine ps) (p-key ∙ s ∙ sym key-is) ∙ rw (key-is, rest-is, p-rest, s) refl))
          (λ g. rw (h, g) (front-first k f q' (theirs qs) key-long theirs-after (mine ps) mine-after ∙ rw (key-is, rest-is, s) refl)))
          (λ h. by (stays_of_mine p)
          (λ g. rw (h, g) (front-second k f p' (theirs qs) (mine ps) (ap (λ (key : List ℕ). ascending_from k key (theirs qs)) (p-key ∙ s) ∙ kept-after k w m stays_of_theirs theirs_changed fit_theirs (take k q) qs y c)))
          (λ g. rw (h, g) refl))
