use Rattle.std.proofs.Common.{◌≡◌, List, rules, ap, sym, ◌∙◌, subst, length, drop}
use lib.Seq.{take_at}
use Rattle.std.proofs.lemmas.Fn.{always_returns_same}
use Rattle.std.specs.List.{refill}
use Rattle.std.specs.List.Sorted.{IsPermutation}
use Rattle.decision.proofs.Sorted.{lower-of, ranked-stay, identities-compare, dominated-sorted, refused-sorted}
use Rattle.decision.proofs.Decision.sort_by_identity.Goals as goal

-- a list that is written back as long as it was
refilled : {X : Type 0} (l k : List X) → length k ≡ length l → refill (length l) l k ≡ k
refilled l k e = take_at k (drop (length k) l) (length l) e

pub returns : goal.returns
returns g c w =
    let s = c.args.items.now.bytes.now in
    let good = c.args.items.now.good in
    let a = c.sort_unstable_by.ensures in
    let b = c.sort_unstable_by-2.ensures in
    let v = c.as_mut_slice.ensures.value in
    let u = c.as_mut_slice-2.ensures.value in
    let p = subst (λ l. IsPermutation l c.sort_unstable_by.new.self) (v ∙ w.dominated) a.permutation in
    let q = subst (λ l. IsPermutation l c.sort_unstable_by-2.new.self) (u ∙ w.refusals) b.permutation in
    let d = a.sorted (lower-of s good (λ i. i)) (identities-compare s good (λ i. i)) (always_returns_same _ _ _ (λ x r h t. search rules)) in
    let e = b.sorted (lower-of s good (λ x. x.refused)) (identities-compare s good (λ x. x.refused)) (always_returns_same _ _ _ (λ x r h t. search rules)) in
    record {
      ranked = w.ranked ∙ sym (ranked-stay s good);
      dominated = refilled _ _ (a.len ∙ ap length v) ∙ dominated-sorted s good p d;
      refusals = refilled _ _ (b.len ∙ ap length u) ∙ refused-sorted s good q e;
    }
