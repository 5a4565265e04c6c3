-- A transmission is everything that a chain of links leads to: `reach` by as many links as there are fixes misses none.
use Rattle.std.proofs.Common.{ℕ, zero, suc, ◌-◌, ◌∙◌, ◌≤◌, ◌≡◌, refl, sym, ap, subst, Bool, true, ◌⊎◌, ◌↔◌, inl, inr, List, [], ◌∷◌, arith, ltb, length, ltb-true, ltb-false}
use mathlib.Core.List.Memᴰ
use mathlib.Core.List.{Memᴰ}
use Rattle.lists.proofs.Bools.{by, or, same_test}
use Rattle.std.specs.List.{filter, list_any}
use Rattle.fixes.specs.Fix.{Fix}
use Rattle.board_transmissions.specs.Transmissions.{linked, reach, transmission_of}
use Rattle.board_transmissions.specs.Chains.{here, more, Chain}
use Rattle.lists.proofs.Lists.{any-in, any-of, filter-in, filter-of, filter_same}
use Rattle.board_transmissions.proofs.Symmetry.{linked-turned}
use Rattle.board_transmissions.proofs.Listing.{filter-no-wider, filter-all}

-- each fix links to itself
abbrev pub SelfLinked : List Fix → Type 0
SelfLinked fs = (f : Fix) → Memᴰ f fs → linked f f ≡ true

pub some_in : {A : Type 0} (x : A) (l : List A) → Memᴰ x l → 1 ≤ length l
some_in x [] m = absurd (Memᴰ.not-nil m)
some_in x (y ∷ l) m = omega arith

-- ---- chains: what they lead from and to is in the list; they can be joined, and turned round

module _ {fs : List Fix} where
  pub chain-from : {a x : Fix} → Chain fs a x → Memᴰ a fs
  chain-from (here m) = m
  chain-from (more c m e) = chain-from c

  pub chain-in : {a x : Fix} → Chain fs a x → Memᴰ x fs
  chain-in (here m) = m
  chain-in (more c m e) = m

  pub chain-joined : {a b x : Fix} → Chain fs a b → Chain fs b x → Chain fs a x
  chain-joined p (here m) = p
  chain-joined p (more c m e) = more (chain-joined p c) m e

  pub chain-turned : {a x : Fix} → Chain fs a x → Chain fs x a
  chain-turned (here m) = here m
  chain-turned (more {f} {g} c m e) = chain-joined (more (here m) (chain-in c) (linked-turned f.record_bytes g.record_bytes ∙ e)) (chain-turned c)

module _ (fs : List Fix) (a : Fix) (a_in : Memᴰ a fs) (self : SelfLinked fs) where
  -- g links to one that n links lead to
  abbrev near : ℕ → Fix → Bool
  near n g = list_any (linked g) (reach fs n a)

  -- ---- a chain leads to each

  sound : (n : ℕ) (x : Fix) → Memᴰ x (reach fs n a) → Chain fs a x
  unfolding reach
  sound zero x m = or (Memᴰ.cases_cons m) (λ e. subst (Chain fs a) (sym e) (here a_in)) (λ k. absurd (Memᴰ.not-nil k))
  sound (suc n) x m =
      let r = filter-in (near n) fs x m in
      let s = any-in (linked x) (reach fs n a) r.1 in
      more (sound n s.0 s.1) r.0 s.2

  -- ---- and each that a chain leads to is there

  a-there : (n : ℕ) → Memᴰ a (reach fs n a)
  unfolding reach
  a-there zero = Memᴰ.head refl
  a-there (suc n) = filter-of (near n) fs a a_in (any-of (linked a) (reach fs n a) a (a-there n) (self a a_in))

  -- a further link loses none
  wider : (n : ℕ) (x : Fix) → Memᴰ x fs → near n x ≡ true → near (suc n) x ≡ true
  unfolding reach
  wider n x m t = any-of (linked x) (reach fs (suc n) a) x (filter-of (near n) fs x m t) (self x m)

  -- where one link gains none, a further one gains none; else each has gained one
  next : (k : ℕ) → reach fs (suc (suc k)) a ≡ reach fs (suc k) a → reach fs (suc (suc (suc k))) a ≡ reach fs (suc (suc k)) a
  unfolding reach
  next k e = ap (λ (l : List Fix). filter (λ (g : Fix). list_any (linked g) l) fs) e

  still : (k : ℕ) → length (reach fs (suc (suc k)) a) ≤ length (reach fs (suc k) a) → reach fs (suc (suc k)) a ≡ reach fs (suc k) a
  unfolding reach
  still k h = filter-no-wider (near k) (near (suc k)) fs (wider k) h

  stable-or-long : (k : ℕ) → (reach fs (suc (suc k)) a ≡ reach fs (suc k) a) ⊎ (suc k ≤ length (reach fs (suc k) a))
  stable-or-long zero = inr (some_in a (reach fs 1 a) (a-there 1))
  stable-or-long (suc k) =
      or (stable-or-long k) (λ e. inl (next k e))
      (λ h. by (ltb (length (reach fs (suc k) a)) (length (reach fs (suc (suc k)) a)))
      (λ t. let l = ltb-true (length (reach fs (suc k) a)) (length (reach fs (suc (suc k)) a)) t in inr (omega arith))
      (λ t. inl (next k (still k (ltb-false (length (reach fs (suc k) a)) (length (reach fs (suc (suc k)) a)) t)))))

  -- as many links as there are fixes gain all that one more would
  at_once : (m : ℕ) (x : Fix) → reach fs (suc (suc m)) a ≡ reach fs (suc m) a → Memᴰ x fs → near (suc m) x ≡ true → near m x ≡ true
  unfolding reach
  at_once m x s x-in t = (filter-in (near m) fs x (subst (λ (l : List Fix). Memᴰ x l) s (filter-of (near (suc m)) fs x x-in t))).1

  all_near : (m : ℕ) → length fs ≤ length (reach fs (suc m) a) → (x : Fix) → Memᴰ x fs → near m x ≡ true
  unfolding reach
  all_near m h x x-in = filter-all (near m) fs h x x-in

  closed : (m : ℕ) → length fs ≡ suc m → (x : Fix) → Memᴰ x fs → near (suc m) x ≡ true → near m x ≡ true
  closed m e x x-in t = or (stable-or-long m) (λ s. at_once m x s x-in t) (λ h. all_near m (omega arith) x x-in)

  complete : (m : ℕ) → length fs ≡ suc m → (x : Fix) → Chain fs a x → Memᴰ x (reach fs (suc m) a)
  unfolding reach
  complete m e _ (here h) = a-there (suc m)
  complete m e _ (more {f} {g} c h t) =
      filter-of (near m) fs g h (closed m e g h (any-of (linked g) (reach fs (suc m) a) f (complete m e f c) t))

  pub transmission-is : (x : Fix) → Memᴰ x (transmission_of fs a) ↔ Chain fs a x
  transmission-is x = (sound (length fs) x, λ c. go (length fs) refl c)
    where
      go : (n : ℕ) → length fs ≡ n → Chain fs a x → Memᴰ x (reach fs n a)
      go zero e c = absurd (let s = some_in a fs a_in in omega arith)
      go (suc m) e c = complete m e x c

-- ---- so it is all that pass a test, and that of each of its fixes

-- a chain leads from a to x
abbrev pub together : List Fix → Fix → Fix → Bool
together fs a x = list_any (linked x) (reach fs (length fs - 1) a)

pub transmission-tested : (fs : List Fix) (a : Fix) → Memᴰ a fs → transmission_of fs a ≡ filter (together fs a) fs
unfolding reach
transmission-tested fs a m = let z : length fs ≡ suc (length fs - 1) = let s = some_in a fs m in omega arith in ap (λ (n : ℕ). reach fs n a) z

module _ (fs : List Fix) (self : SelfLinked fs) where
  pub together-is : (a x : Fix) → Memᴰ a fs → Memᴰ x fs → (together fs a x ≡ true) ↔ Chain fs a x
  together-is a x m n =
      let e = transmission-tested fs a m in
      let i = transmission-is fs a m self x in
      (λ t. i.0 (rw e (filter-of (together fs a) fs x n t)), λ c. (filter-in (together fs a) fs x (rw e at (i.1 c))).1)

  pub same-transmission : {a b : Fix} → Chain fs a b → transmission_of fs a ≡ transmission_of fs b
  same-transmission {a} {b} c =
      let m = chain-from c in
      let n = chain-in c in
      transmission-tested fs a m
      ∙ filter_same (together fs a) (together fs b) fs (λ x k. same_test (together fs a x) (together fs b x)
      (λ t. (together-is b x n k).1 (chain-joined (chain-turned c) ((together-is a x m k).0 t)))
      (λ t. (together-is a x m k).1 (chain-joined c ((together-is b x n k).0 t))))
      ∙ sym (transmission-tested fs b n)
