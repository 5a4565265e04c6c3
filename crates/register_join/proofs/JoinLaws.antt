-- Laws of the join of registers of any size: it is commutative, associative and idempotent, and a fresh register is neutral.
use Rattle.std.proofs.Common.{ℕ, ◌≡◌, refl, true, false, List, arith}
use Rattle.octets.specs.Masks.{bit}
use Rattle.octets.proofs.Lookup.{bit-zero}
use Rattle.octets.specs.Words.{word}
use Rattle.tables.specs.Places.{holds, lookup}
use Rattle.models.specs.Summary.{summary_size, engine_of}
use Rattle.register.specs.Register.{Register}
use Rattle.register.specs.Claims.{signers_of}
use Rattle.register_join.specs.Join.{joined}
use Rattle.register.proofs.History.{start, start-valid}
use Rattle.register_join.proofs.Loose.{Loose, loose, registers-same, none-convicted, summary-passes}
use Rattle.register_join.proofs.Joined.{joined-loose, joined-convicted, joined-holds, joined-signers}

-- ---- commutative

module _ (t s : Register) (b : Loose t) (a : Loose s) where
  pub commutative : joined t s ≡ joined s t
  commutative =
      registers-same (joined t s) (joined s t) (joined-loose t s b a) (joined-loose s t a b)
      (λ e. grind (arith, joined-convicted t s b a e, joined-convicted s t a b e))
      (λ p. grind (arith, joined-holds t s b a p, joined-holds s t a b p))
      (λ e r. grind (arith, joined-signers t s b a e r, joined-signers s t a b e r))

-- ---- associative

module _ (u t s : Register) (c : Loose u) (b : Loose t) (a : Loose s) where
  pub associative : joined u (joined t s) ≡ joined (joined u t) s
  associative =
      let ts = joined-loose t s b a in
      let ut = joined-loose u t c b in
      registers-same (joined u (joined t s)) (joined (joined u t) s) (joined-loose u (joined t s) c ts) (joined-loose (joined u t) s ut a)
      (λ e. grind (arith, joined-convicted u (joined t s) c ts e, joined-convicted t s b a e, joined-convicted (joined u t) s ut a e, joined-convicted u t c b e))
      (λ p. grind (arith, joined-holds u (joined t s) c ts p, joined-holds t s b a p, joined-holds (joined u t) s ut a p, joined-holds u t c b p, joined-convicted t s b a (engine_of p), joined-convicted u t c b (engine_of p)))
      (λ e r. grind (arith, joined-signers u (joined t s) c ts e r, joined-signers t s b a e r, joined-signers (joined u t) s ut a e r, joined-signers u t c b e r, joined-convicted t s b a e, joined-convicted u t c b e))

-- ---- idempotent, and neutral

module _ (s : Register) (a : Loose s) where
  pub idempotent : joined s s ≡ s
  idempotent =
      registers-same (joined s s) s (joined-loose s s a a) a
      (λ e. grind (arith, joined-convicted s s a a e))
      (λ p. grind (arith, joined-holds s s a a p, λ (h : holds summary_size p s.summaries ≡ true). summary-passes s a p h))
      (λ e r. grind (arith, joined-signers s s a a e r, none-convicted s a r e))

  pub empty : Loose start
  empty = loose start start-valid

  pub nothing-signed : (e : ℕ) (r : List ℕ) → bit (signers_of r start) e ≡ false
  unfolding lookup word
  nothing-signed e r = bit-zero e

  pub nothing-held : (p : List ℕ) → holds summary_size p start.summaries ≡ false
  unfolding holds
  nothing-held p = refl

  pub neutral : joined start s ≡ s
  neutral =
      registers-same (joined start s) s (joined-loose start s empty a) a
      (λ e. grind (arith, joined-convicted start s empty a e, bit-zero e))
      (λ p. grind (arith, joined-holds start s empty a p, nothing-held p, bit-zero (engine_of p), λ (h : holds summary_size p s.summaries ≡ true). summary-passes s a p h))
      (λ e r. grind (arith, joined-signers start s empty a e r, nothing-signed e r, bit-zero e, none-convicted s a r e))
