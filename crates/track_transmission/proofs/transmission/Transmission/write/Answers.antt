use mathlib.Core.Path.{ap, ap₂, ◌∙◌}
use mathlib.Core.List.{List, ◌∷◌, ◌++◌}
use Prim.Native.Nat.{ℕ}
use lib.ListN.{length}
use Rattle.track_transmission.specs.Bytes.{transmission_bytes}
use Rattle.track_transmission.proofs.Writing.{counted}
use Rattle.track_transmission.proofs.transmission.Transmission.write.Goals as goal

pub returns : goal.returns
unfolding transmission_bytes
returns c =
    let f = c.write_fixes.new.out in
    let r = c.write_refused.new.out in
    let fs = c.self.inside.fixes.items in
    let rs = c.self.inside.refused.items in
    ap (λ (x : List ℕ). x ++ (f ++ r)) (counted c.split_at_mut-counts.result.0.now c.len.result c.len-2.result c.split_at_mut-counts.ensures.front_len)
    ∙ ap₂ (λ (n m : ℕ). n ∷ (m ∷ (f ++ r))) c.len.ensures.value c.len-2.ensures.value
    ∙ ap₂ (λ (x y : List ℕ). length fs ∷ (length rs ∷ (x ++ y)))
    c.write_fixes.ensures c.write_refused.ensures
    ∙ ap transmission_bytes c.self.view_is
