-- Bursts with a pause between them: no chain leads from one to the other, and each has the transmissions that it has alone.
use Rattle.std.proofs.Common.{ℕ, ◌≡◌, refl, sym, ◌∙◌, Bool, true, ◌&&◌, List, [], ◌∷◌, arith, ltb, leb, leb-true, le-leb, lt-ltb}
use mathlib.Core.List.{Memᴰ}
use Rattle.std.specs.List.{filter}
use Rattle.lists.proofs.Lists.{filter-in, filter-of, filter_same}
use Rattle.lists.proofs.Bools.{and_left, and_right, and_both, same_test}
use Rattle.fixes.specs.Fix.{Fix}
use Rattle.fixes.specs.Ages.{time_of}
use Rattle.board_transmissions.specs.Transmissions.{linked, transmission_of}
use Rattle.board_transmissions.specs.Chains.{here, more, Chain}
use Rattle.board_transmissions.specs.Bursts.{Pause, BurstsStayApart}
use Rattle.board_transmissions.proofs.Reaching.{SelfLinked, chain-in, together, together-is, transmission-tested}
use Rattle.board_transmissions.proofs.Fitness.{self-linked}
use Rattle.board_transmissions.proofs.Limits.{link-exactly-when}

twice : {A : Type 0} (p q : A → Bool) (l : List A) → filter q (filter p l) ≡ filter (λ x. p x && q x) l
twice p q [] = refl
twice p q (x ∷ l) = grind (arith, twice p q l)

-- ---- a burst: all that a test holds of, where a link leads from none of these to another

module _ (fs : List Fix) (self : SelfLinked fs) (p : Fix → Bool)
    (closed : (f g : Fix) → Memᴰ f fs → Memᴰ g fs → linked g f ≡ true → p f ≡ true → p g ≡ true) where
  chain-inside : {a x : Fix} → p a ≡ true → Chain fs a x → (p x ≡ true) × Chain (filter p fs) a x
  chain-inside h (here m) = (h, here (filter-of p fs _ m h))
  chain-inside h (more {f} {g} c m e) =
      let r = chain-inside h c in
      let k = closed f g (chain-in c) m e r.0 in
      (k, more r.1 (filter-of p fs g m k) e)

  chain-outside : {a x : Fix} → Chain (filter p fs) a x → Chain fs a x
  chain-outside (here m) = here (filter-in p fs _ m).0
  chain-outside (more {f} {g} c m e) = more (chain-outside c) (filter-in p fs g m).0 e

  self-inside : SelfLinked (filter p fs)
  self-inside f m = self f (filter-in p fs f m).0

  as-alone : (a : Fix) → Memᴰ a fs → p a ≡ true → transmission_of fs a ≡ transmission_of (filter p fs) a
  as-alone a m h =
      let k = filter-of p fs a m h in
      let q = together fs in
      let r = together (filter p fs) in
      transmission-tested fs a m
      ∙ filter_same (q a) (λ x. p x && r a x) fs (λ x n. same_test (q a x) (p x && r a x)
      (λ t. let i = chain-inside h ((together-is fs self a x m n).0 t) in and_both (p x) (r a x) i.0 ((together-is (filter p fs) self-inside a x k (chain-in i.1)).1 i.1))
      (λ t. (together-is fs self a x m n).1 (chain-outside ((together-is (filter p fs) self-inside a x k (filter-of p fs x n (and_left _ _ t))).0 (and_right (p x) (r a x) t)))))
      ∙ sym (twice p (r a) fs) ∙ sym (transmission-tested (filter p fs) a k)

-- ---- before and after a pause

module _ (s : ℕ) (fs : List Fix) (pause : Pause s fs) where
  stays-before : (f g : Fix) → Memᴰ f fs → Memᴰ g fs → linked g f ≡ true → leb (time_of f) s ≡ true → leb (time_of g) s ≡ true
  stays-before f g m n e h = grind (arith, pause g n, ((link-exactly-when g.record_bytes f.record_bytes).0 e).1)

  stays_after : (f g : Fix) → Memᴰ f fs → Memᴰ g fs → linked g f ≡ true → ltb s (time_of f) ≡ true → ltb s (time_of g) ≡ true
  stays_after f g m n e h = grind (arith, pause f m, ((link-exactly-when g.record_bytes f.record_bytes).0 e).2)

pub bursts-stay-apart : BurstsStayApart
bursts-stay-apart fs parted formed s pause = record {
  one_burst = λ c m f g u v h.
      leb-true (time_of g) s (chain-inside fs self early (stays-before s fs pause) (le-leb (time_of f) s h) ((parted.whole c m f u g).0 v)).0;
  before_alone = λ f m h. as-alone fs self early (stays-before s fs pause) f m (le-leb (time_of f) s h);
  after_alone = λ f m h. as-alone fs self late (stays_after s fs pause) f m (lt-ltb s (time_of f) h);
}
  where
    self : SelfLinked fs
    self f m = self-linked f.record_bytes (formed f m)

    early : Fix → Bool
    early f = leb (time_of f) s

    late : Fix → Bool
    late f = ltb s (time_of f)
