use Rattle.std.proofs.Common.{length, ◌≡◌, ◌+◌, ◌-◌, ◌≤◌, ℕ, List, false, arith, ap, sym, ◌∙◌}
use lib.Dec.{eqb}
use Rattle.lists.proofs.Bools.{by}
use Rattle.octets.specs.Alike.{alike}
use Rattle.octets.specs.Words.{word_at}
use Rattle.octets.specs.Order.{same}
use Rattle.octets.proofs.Alike.{alike-le, word-alike, same-whole}
use Rattle.octets.proofs.Comparison.{not_same}
use Rattle.octets.proofs.Numbers.{all-bytes}
use Rattle.octets.proofs.order.equal_ends.Goals as goal

-- words that differ at a place are not of the same bytes
apart : (i x y : ℕ) (a b : List ℕ) → x ≡ word_at 8 i a → y ≡ word_at 8 i b → (x ≡ y → ⊥) → same a b ≡ false
apart i x y a b p q f = not_same a b (λ e. f (p ∙ ap (word_at 8 i) e ∙ sym q))

-- behind eight bytes alike, the last eight
pub returns-then-u64_at : goal.returns-then-u64_at
returns-then-u64_at c =
    let a = c.args.a.now in
    let b = c.args.b.now in
    let last = length a - 8 in
    let s = all-bytes a (λ j. (c.type_inv.a j).fits) in
    let t = all-bytes b (λ j. (c.type_inv.b j).fits) in
    let x = c.u64_at-then-u64_at in
    let y = c.u64_at-then-u64_at-2 in
    let front : 8 ≤ alike a b = word-alike 0 a b s t (omega arith) (omega arith) (omega arith) (sym c.u64_at.ensures ∙ c.if-u64_at.true ∙ c.u64_at-2.ensures) in
    by (eqb x.result y.result)
    (λ h. let e : x.result ≡ y.result = grind arith in
    let whole : last + 8 ≤ alike a b = word-alike last a b s t (omega arith) (omega arith) (omega arith) (sym x.ensures ∙ e ∙ y.ensures) in
    grind (arith, whole, alike-le a b, same-whole a b))
    (λ h. let f = apart last x.result y.result a b x.ensures y.ensures (λ e. grind arith) in
    grind (arith, f))

pub returns-else-u64_at : goal.returns-else-u64_at
returns-else-u64_at c =
    let f = apart 0 c.u64_at.result c.u64_at-2.result c.args.a.now c.args.b.now c.u64_at.ensures c.u64_at-2.ensures c.if-u64_at.false in
    let g = c.if-u64_at.false in
    grind (arith, f)
