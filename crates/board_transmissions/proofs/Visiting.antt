-- What a visit marks: all that a chain of links leads to from it, where these have no mark.
use Rattle.std.proofs.Common.{◌≡◌, sym, ap, ap₂, ◌∙◌, subst, Bool, true, false, ◌⊎◌, inl, inr, List, ℕ, zero, suc, ◌+◌, ◌≤◌, ◌<◌, arith, length, set, length-set, get_or-set_same}
use Rattle.lists.proofs.Bools.{by, or, clash}
use Rattle.lists.specs.Tables.{marked}
use Rattle.fixes.specs.Fix.{Fix}
use Rattle.fixes.specs.Items.{no_fix, fix_at, Apart}
use Rattle.fixes.proofs.Indexed.{at_in, in-at}
use Rattle.board_transmissions.specs.Transmissions.{linked}
use Rattle.board_transmissions.specs.Chains.{here, more, Chain}
use Rattle.board_transmissions.specs.Links.{link_at}
use Rattle.board_transmissions.specs.Walk.{unmarked, each, visit}
use Rattle.board_transmissions.proofs.Symmetry.{linked-turned}
use Rattle.board_transmissions.proofs.Reaching.{chain-in, chain-joined}
use Rattle.board_transmissions.proofs.Marks.{unmarked-set, set-marks, Grown, next, next-old, next-apart, next-new, next-grown, visit-grown}

-- a link between the fixes at two places, turned round
turned : (fs : List Fix) (i j : ℕ) → link_at fs i j ≡ link_at fs j i
turned fs i j = linked-turned (fix_at fs i).record_bytes (fix_at fs j).record_bytes

-- what a visit of i makes of the marks m
pub record Visited (fs : List Fix) (i : ℕ) (m r : List Bool) : Type 0 where
  pub start : marked r i ≡ true
  pub sound : (k : ℕ) → marked r k ≡ true → (marked m k ≡ true) ⊎ Chain fs (fix_at fs i) (fix_at fs k)
  pub closed : (k l : ℕ) → marked m k ≡ false → marked r k ≡ true → l < length fs → link_at fs k l ≡ true → marked r l ≡ true

-- and what it has made of them before index j
record Visiting (fs : List Fix) (i : ℕ) (m r : List Bool) (j : ℕ) : Type 0 where
  start : marked r i ≡ true
  sound : (k : ℕ) → marked r k ≡ true → (marked m k ≡ true) ⊎ Chain fs (fix_at fs i) (fix_at fs k)
  closed : (k l : ℕ) → marked m k ≡ false → marked r k ≡ true → l < length fs → link_at fs k l ≡ true → (k ≡ i → l < j) → marked r l ≡ true

module _ (fs : List Fix) where
  abbrev n : ℕ
  n = length fs

  abbrev link : ℕ → ℕ → Bool
  link = link_at fs

  module _ (i : ℕ) (h : i < n) (m : List Bool) where
    -- nothing to visit at j
    old : (r : List Bool) (j : ℕ) → Visiting fs i m r j → (link i j ≡ true → marked r j ≡ true) → Visiting fs i m r (suc j)
    old r j w f = record {
      start = w.start;
      sound = w.sound;
      closed = λ k l a b c e d. grind (arith, f, w.closed k l a b c e, d);
    }

    -- j is visited
    new : (r q : List Bool) (j : ℕ) → j < n → link i j ≡ true → Grown r q → Visited fs j r q → Visiting fs i m r j → Visiting fs i m q (suc j)
    new r q j b e g v w = record {
      start = g.kept i w.start;
      sound = λ k p. or (v.sound k p) (λ z. w.sound k z) (λ c. inr (chain-joined (more (here (at_in no_fix fs i h)) (at_in no_fix fs j b) (turned fs j i ∙ e)) c));
      closed = λ k l a p c t d. grind (arith, g.kept l, v.start, v.closed k l, w.closed k l a, d);
    }

    module _ (v : ℕ → List Bool → List Bool) (grows : (j : ℕ) (r : List Bool) → Grown r (v j r)) (s u : ℕ)
        (visits : (j : ℕ) (r : List Bool) → length r ≡ s → j < n → marked r j ≡ false → unmarked r ≤ u → Visited fs j r (v j r)) where
      turn : (r : List Bool) (j : ℕ) → length r ≡ s → j < n → unmarked r ≤ u → Visiting fs i m r j → Visiting fs i m (next v (link i) r j) (suc j)
      turn r j a b c w =
          by (marked r j)
          (λ p. rw (next-old v (link i) r j p) (old r j w (λ _. p)))
          (λ p. by (link i j)
          (λ q. rw (next-new v (link i) r j p q) (new r (v j r) j b q (grows j r) (visits j r a b p c) w))
          (λ q. rw (next-apart v (link i) r j p q) (old r j w (λ z. clash z q))))

      turns : (k : ℕ) (r : List Bool) (j : ℕ) → length r ≡ s → j + k ≡ n → unmarked r ≤ u → Visiting fs i m r j → Visiting fs i m (each v (link i) r j k) n
      unfolding each
      turns zero r j a b c w = let z : j ≡ n = omega arith in subst (Visiting fs i m r) z w
      turns (suc k) r j a b c w =
          let g = next-grown v (link i) grows r j in
          let f = g.fewer in
          turns k (next v (link i) r j) (suc j) (g.same ∙ a) (omega arith) (omega arith) (turn r j a (omega arith) c w)

  pub visit-visited : (f i : ℕ) (m : List Bool) → n ≤ length m → i < n → marked m i ≡ false → unmarked m ≤ f → Visited fs i m (visit link n f i m)
  unfolding visit
  visit-visited zero i m w h e u = let z = unmarked-set m i (omega arith) e in absurd (omega arith)
  visit-visited (suc f) i m w h e u =
      let z = unmarked-set m i (omega arith) e in
      let b : Visiting fs i m (set m i true) 0 = record {
        start = get_or-set_same m i true false (omega arith);
        sound = λ k p. or (set-marks m k i true p) (λ q. inr (subst (λ (x : ℕ). Chain fs (fix_at fs i) (fix_at fs x)) (sym q.0) (here (at_in no_fix fs i h)))) (λ q. inl q);
        closed = λ k l a p c t d. or (set-marks m k i true p) (λ q. let y = d q.0 in absurd (omega arith)) (λ q. clash q a);
      } in
      let r = turns i h m (visit link n f) (visit-grown link n f) (length m) f
      (λ j q a c p d. visit-visited f j q (omega arith) c p d)
      n (set m i true) 0 (length-set m i true) (omega arith) (omega arith) b in
      record { start = r.start; sound = r.sound; closed = λ k l a p c t. r.closed k l a p c t (λ _. c) }

  -- where all that a chain leads to had no mark, it has one now
  pub complete : Apart fs → (s : ℕ) → s < n → (m r : List Bool) → ((j : ℕ) → j < n → Chain fs (fix_at fs s) (fix_at fs j) → marked m j ≡ false) → Visited fs s m r
      → {x : Fix} → Chain fs (fix_at fs s) x → (j : ℕ) → j < n → fix_at fs j ≡ x → marked r j ≡ true
  complete apart s h m r f w (here k) j b e = ap (marked r) (apart j s b h (ap (λ (g : Fix). g.identity) e)) ∙ w.start
  complete apart s h m r f w (more {f = a} {g} c k t) j b e =
      let q = in-at no_fix fs a (chain-in c) in
      w.closed q.0 j (f q.0 q.1 (subst (Chain fs (fix_at fs s)) (sym q.2) c)) (complete apart s h m r f w c q.0 q.1 q.2) b (turned fs q.0 j ∙ ap₂ linked e q.2 ∙ t)
