use Rattle.std.proofs.Common.{ℕ, ◌+◌, ◌-◌, ◌*◌, ◌≡◌, ap, ◌∙◌, List, ◌++◌, arith, take, drop, drop-drop}
use borrow.Rule.Slice.PartMut.{put_mid}
use Rattle.models.specs.Summary.{summary_size}
use Rattle.register_join.proofs.summaries.put_summary.Goals as goal

pub returns-clause-bytes : goal.returns-clause-bytes
returns-clause-bytes c =
    let t = c.args.t.now in
    let p = c.args.place.now in
    let at = c.args.n * summary_size in
    let e : at + summary_size - at ≡ summary_size = omega arith in
    ap (λ (y : List ℕ). put_mid at (at + summary_size - at) t y) c.copy_from_slice.ensures.after
    ∙ ap (λ (j : ℕ). take at t ++ (p ++ drop j (drop at t))) e
    ∙ ap (λ (z : List ℕ). take at t ++ (p ++ z)) (drop-drop summary_size at t)
