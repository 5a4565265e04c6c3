use Rattle.std.proofs.Common.{ℕ, ◌^◌, ◌<◌, ◌≡◌, refl, false, arith}
use Rattle.lists.proofs.Bools.{by}
use Rattle.octets.specs.Masks.{bit}
use Rattle.octets.proofs.Lookup.{bit_below}
use Rattle.models.specs.Summary.{engine_of}
use Rattle.register_join.proofs.summaries.is_of_free.Goals as goal

above : (m e : ℕ) → m < 2 ^ 32 → 31 < e → bit m e ≡ false
above m e h l = by (bit m e) (λ z. let b = bit_below 32 m e h z in absurd (omega arith)) (λ z. z)

pub returns-then-engine-gt-MAX_ENGINE : goal.returns-then-engine-gt-MAX_ENGINE
returns-then-engine-gt-MAX_ENGINE c =
    let m = c.mask-convicted.result in
    let e : m ≡ c.args.convicted = c.mask-convicted.ensures in
    let f : bit m (engine_of c.args.place.now) ≡ false = above m (engine_of c.args.place.now) (omega arith) (omega arith) in
    rw (← e, f) refl
