use Prim.Native.Nat.{ℕ}
use mathlib.Core.Path.{sym, ap, ◌∙◌}
use mathlib.Core.Bool.{not}
use mathlib.Core.List.{List}
use native.Mathlib.Omega.{arith}
use lib.ListN.{take}
use Rattle.std.specs.List.{insert, position}
use Rattle.std.specs.Option.{unwrap_or}
use Rattle.track_transmission.specs.Layout.{max_refused}
use Rattle.track_transmission.specs.Held.{RefusedFix}
use Rattle.track_normalize.specs.Deciding.{lower_held}
use Rattle.track_normalize.proofs.Lowest.{put-short, put-behind, sought}
use Rattle.track_normalize.proofs.deciding.enter.Goals as goal

pub returns-then-place-lt-MAX_REFUSED : goal.returns-then-place-lt-MAX_REFUSED
returns-then-place-lt-MAX_REFUSED c =
    let x = c.args.x in
    let l = c.args.refused.now.items in
    let s = sought lower_held x l c.place_of.result (c.place_of.ensures ∙ ap (position (λ y. not (lower_held y x))) c.deref.ensures.0) in
    let at = c.unwrap_or-place.ensures ∙ ap (unwrap_or c.place_of.result) c.len.ensures.value in
    let p = c.unwrap_or-place.result in
    let here = c.if-place-lt-MAX_REFUSED.true in
    c.insert.ensures.items
    ∙ ap (λ (m : List RefusedFix). insert m p x) c.truncate.ensures.items
    ∙ put-short 3 l p x (omega arith)
    ∙ ap (take max_refused) (ap (λ (i : ℕ). insert l i x) at ∙ sym s.0)

pub returns-else-place-lt-MAX_REFUSED : goal.returns-else-place-lt-MAX_REFUSED
returns-else-place-lt-MAX_REFUSED c =
    let x = c.args.x in
    let l = c.args.refused.now.items in
    let s = sought lower_held x l c.place_of.result (c.place_of.ensures ∙ ap (position (λ y. not (lower_held y x))) c.deref.ensures.0) in
    let at = c.unwrap_or-place.ensures ∙ ap (unwrap_or c.place_of.result) c.len.ensures.value in
    let p = c.unwrap_or-place.result in
    put-behind max_refused l p x (omega (arith, c.len.ensures.fits, c.len.ensures.value)) (omega (arith, c.if-place-lt-MAX_REFUSED.false)) (omega (arith, at, s.1))
    ∙ ap (take max_refused) (ap (λ (i : ℕ). insert l i x) at ∙ sym s.0)
