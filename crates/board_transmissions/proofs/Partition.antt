-- The transmissions part the fixes: each fix is in exactly one, which is everything that a chain leads to from it.
use Rattle.std.proofs.Common.{◌≡◌, true, refl, sym, ap, ◌∙◌, subst, List, [], ◌∷◌}
use mathlib.Core.List.Memᴰ
use mathlib.Core.List.{Memᴰ}
use Rattle.octets.proofs.Comparison.{same_refl}
use Rattle.std.specs.List.{filter}
use Rattle.lists.proofs.Lists.{filter-in, filter-of, map-from}
use Rattle.fixes.specs.Fix.{Fix}
use Rattle.board_transmissions.specs.Transmissions.{transmission_of, leads, is_first, transmissions_of}
use Rattle.board_transmissions.specs.Chains.{here, Chain}
use Rattle.board_transmissions.specs.Claims.{Partition}
use Rattle.board_transmissions.proofs.Reaching.{SelfLinked, chain-in, chain-joined, chain-turned, transmission-is, same-transmission}

cons-of : {A : Type 0} (l : List A) (x : A) → Memᴰ x l → (y : A) × (rest : List A) × (l ≡ y ∷ rest)
cons-of [] x m = absurd (Memᴰ.not-nil m)
cons-of (y ∷ l) x m = (y, l, refl)

module _ (fs : List Fix) (self : SelfLinked fs) where
  -- the members of a transmission are what a chain leads to from the fix that it is of, which is its first
  of-first : (c : List Fix) → Memᴰ c (transmissions_of fs) → (a : Fix) × Memᴰ a fs × (c ≡ transmission_of fs a)
  unfolding transmissions_of
  of-first c m = let r = map-from (transmission_of fs) (filter (is_first fs) fs) c m in (r.0, (filter-in (is_first fs) fs r.0 r.1).0, r.2)

  chain-of : (c : List Fix) (a : Fix) → Memᴰ a fs → c ≡ transmission_of fs a → (f : Fix) → Memᴰ f c → Chain fs a f
  chain-of c a m e f k = (transmission-is fs a m self f).0 (rw e at k)

  -- that of a fix is that of its first fix
  listed : (f : Fix) → Memᴰ f fs → Memᴰ (transmission_of fs f) (transmissions_of fs)
  unfolding transmissions_of
  listed f m =
      let r = cons-of (transmission_of fs f) f ((transmission-is fs f m self f).1 (here m)) in
      let c = chain-of (transmission_of fs f) f m refl r.0 (subst (λ (l : List Fix). Memᴰ r.0 l) (sym r.2) (Memᴰ.head refl)) in
      let e = same-transmission fs self c in
      let one : is_first fs r.0 ≡ true = ap (leads r.0) (sym e ∙ r.2) ∙ same_refl r.0.identity in
      rw e (Memᴰ.map (transmission_of fs) (filter-of (is_first fs) fs r.0 (chain-in c) one))

  pub partition : Partition fs
  partition = record {
    each = λ f m. (transmission_of fs f, listed f m, (transmission-is fs f m self f).1 (here m));
    whole = λ c m f k g.
        let r = of-first c m in
        let p = chain-of c r.0 r.1 r.2 f k in (
          λ x. chain-joined (chain-turned p) (chain-of c r.0 r.1 r.2 g x),
          λ q. rw r.2 ((transmission-is fs r.0 r.1 self g).1 (chain-joined p q)),
        );
    one = λ c d m k f u v.
        let r = of-first c m in
        let q = of-first d k in
        r.2 ∙ same-transmission fs self (chain-joined (chain-of c r.0 r.1 r.2 f u) (chain-turned (chain-of d q.0 q.1 q.2 f v))) ∙ sym q.2;
  }
