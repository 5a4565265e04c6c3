use Rattle.std.proofs.Common.{◌≡◌, ◌∙◌, sym, ap, ℕ, [], ◌∷◌, ◌-◌, ◌<◌, ◌++◌, Some, option_map, arith}
use Rattle.arrayvec.specs.ArrayVec.{array_vec_len}
use Rattle.session_lines.specs.Numbers.{read_list}
use Rattle.session_lines.proofs.Texts.{list_full, list_bad, list-more, last_bad, list-last}
use Rattle.session_lines.proofs.values.list.Goals as goal

pub returns-in_err-read-in-Some : goal.returns-in_err-read-in-Some
returns-in_err-read-in-Some g c =
    let n : ℕ = g.row.ROOM - array_vec_len c.loop-rest.values in
    let left : 0 < n = grind arith in
    rw c.from_residual.ensures (sym (c.loop-rest.invariant ∙ list_bad g.T.Value.reading c.loop-rest.values.items c.loop-rest.rest.now n c.in-Some.first.now c.in-Some.others.now left
    (sym c.in-Some.ensures.value) (sym c.in_err-read-in-Some.ensures)))

pub loop-rest-preserved : goal.loop-rest-preserved
loop-rest-preserved g c =
    let n : ℕ = g.row.ROOM - array_vec_len c.loop-rest.values in
    let left : 0 < n = grind arith in
    let fewer : n - 1 ≡ g.row.ROOM - array_vec_len c.push.new.self = omega (arith, c.push.ensures.len) in
    c.loop-rest.invariant
    ∙ list-more g.T.Value.reading c.loop-rest.values.items c.loop-rest.rest.now n c.in-Some.first.now c.in-Some.others.now c.in_ok-read-in-Some.field-0 left
    (sym c.in-Some.ensures.value) (sym c.in_ok-read-in-Some.ensures)
    ∙ ap (λ (k : ℕ). option_map (λ m. (c.loop-rest.values.items ++ c.in_ok-read-in-Some.field-0 ∷ []) ++ m) (read_list g.T.Value.reading k c.in-Some.others.now)) fewer
    ∙ ap (λ p. option_map (λ m. p ++ m) (read_list g.T.Value.reading (g.row.ROOM - array_vec_len c.push.new.self) c.in-Some.others.now)) (sym c.push.ensures.items)

pub returns-in_err-read-in-None : goal.returns-in_err-read-in-None
returns-in_err-read-in-None g c =
    let n : ℕ = g.row.ROOM - array_vec_len c.loop-rest.values in
    let left : 0 < n = grind arith in
    rw c.from_residual-in_err-read-in-None.ensures (sym (c.loop-rest.invariant ∙ last_bad g.T.Value.reading c.loop-rest.values.items c.loop-rest.rest.now n left
    (sym c.in-None.ensures.value) (sym c.in_err-read-in-None.ensures)))

pub returns-in-None : goal.returns-in-None
returns-in-None g c =
    let n : ℕ = g.row.ROOM - array_vec_len c.loop-rest.values in
    let left : 0 < n = grind arith in
    ap Some c.push-in-None.ensures.items
    ∙ sym (c.loop-rest.invariant ∙ list-last g.T.Value.reading c.loop-rest.values.items c.loop-rest.rest.now n c.in_ok-read-in-None.field-0 left
    (sym c.in-None.ensures.value) (sym c.in_ok-read-in-None.ensures))

pub returns : goal.returns
returns g c =
    let n : ℕ = g.row.ROOM - array_vec_len c.loop-rest.values in
    let none : n ≡ 0 = grind arith in
    sym (c.loop-rest.invariant ∙ list_full g.T.Value.reading c.loop-rest.values.items c.loop-rest.rest.now n none)
