use Rattle.std.proofs.Common.{◌≡◌, ℕ, List, true, false, refl, sym, ap₂, ◌∙◌}
use Rattle.std.specs.declared.cmp.Ordering.TheVariants.{Less, Equal}
use Rattle.octets.specs.Order.{is_before}
use Rattle.models.specs.Compared.{byte_order}
use Rattle.models.proofs.hashes.IdentityOrd.cmp.Goals as goal

first : (a b : List ℕ) → is_before a b ≡ true → Less ≡ byte_order a b
first a b h = rw h refl

tied : (a b : List ℕ) → is_before a b ≡ false → is_before b a ≡ false → Equal ≡ byte_order a b
tied a b h g = rw (h, g) refl

pub returns-then-precedes : goal.returns-then-precedes
returns-then-precedes c = first c.args.self.now c.args.other.now (sym (c.precedes.ensures ∙ ap₂ is_before c.bytes.ensures c.bytes-2.ensures) ∙ c.if-precedes.true)

pub returns : goal.returns
returns c =
    tied c.args.self.now c.args.other.now
    (sym (c.precedes.ensures ∙ ap₂ is_before c.bytes.ensures c.bytes-2.ensures) ∙ c.if-precedes.false)
    (sym (c.precedes-2.ensures ∙ ap₂ is_before c.bytes-3.ensures c.bytes-4.ensures) ∙ c.if-precedes-2.false)
