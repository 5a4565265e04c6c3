use Rattle.std.proofs.Common.{◌≡◌, ◌+◌, ◌*◌, ◌-◌, ◌≤◌, refl, arith, ap, ap₂, sym, ◌∙◌, take, drop, length, length-take, length-drop}
use mathlib.Core.List.{◌++◌, flat_map}
use Rattle.std.proofs.lemmas.Slice.{take-put_mid}
use Rattle.std.proofs.lemmas.List.{take_all}
use Rattle.std.proofs.Math.Nat.{mul-le-mul_right}
use Rattle.lists.specs.Ordered.{count_from, up_to}
use Rattle.register_columns.specs.Transposed.{column, transposed}
use Rattle.register_columns.proofs.Turning.{column-long, column-more}
use Rattle.register_columns.proofs.transpose.Goals as goal

pub loop-j-init : goal.loop-j-init
unfolding flat_map count_from
loop-j-init c = let e : 0 * c.args.rows ≡ 0 = omega arith in rw e refl

pub loop-j-preserved : goal.loop-j-preserved
loop-j-preserved c =
    let rows = c.args.rows in
    let j = c.loop-j.j in
    let to = c.loop-j.to in
    let ys = c.gather.new.out in
    let within = mul-le-mul_right rows c.loop-j-test.true in
    let long = c.loop-j.auto.to in
    let room : j * rows + rows ≤ length to = omega (arith, within, long, c.requires.to) in
    let m : length (take (j * rows + rows - j * rows) (drop (j * rows) to)) ≡ rows = length-take _ _ ∙ omega (arith, length-drop (j * rows) to, room) in
    let e = c.gather.ensures ∙ ap (λ n. column n c.args.width c.args.from.now j) m in
    let l : length ys ≡ rows = ap (λ k. length k) e ∙ column-long rows c.args.width c.args.from.now j in
    take-put_mid (j * rows) (j * rows + rows - j * rows) to ys ((j + 1) * rows) (omega (arith, l)) (omega (arith, room))
    ∙ ap₂ (λ a b. a ++ b) c.loop-j.invariant e
    ∙ sym (column-more rows c.args.width c.args.from.now j)

pub returns : goal.returns
unfolding flat_map count_from
returns c =
    let e : c.loop-j.j ≡ c.args.width = omega (arith, c.loop-j.auto.j-end, c.loop-j-test.false) in
    let long = c.loop-j.auto.to in
    sym (take_all (c.loop-j.j * c.args.rows) c.loop-j.to (rw e (omega (arith, long, c.requires.to))))
    ∙ c.loop-j.invariant
    ∙ ap (λ n. flat_map (column c.args.rows c.args.width c.args.from.now) (up_to n)) e
