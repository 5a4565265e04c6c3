-- `show_map` is safe: every map fits.
use Rattle.std.proofs.Common.{◌≡◌, ℕ, ◌≤◌, List, rules, arith, length, sym, ap, ◌∙◌, length-take-le}
use Rattle.board_map.specs.Map.{map_size, draw_map}
use Rattle.board_map.proofs.Lengths.{answer-fits}
use Rattle.test_maps.proofs.show_map.Goals as goal

-- the output has room for every map, and keeps its length
within : (a : ℕ) (m o o' : List ℕ) → map_size ≡ length o → length o' ≡ length o → a ≡ (draw_map m o).answer → a ≤ length o'
within a m o o' l k p = let f = answer-fits m o (omega (arith, l)) in omega (arith, f, k, p)

pub slice_bounds-out-end : goal.slice_bounds-out-end
slice_bounds-out-end g c =
    within _ c.args.memory.now _ _
    (search rules)
    c.map.auto.out
    (c.value_or_number-answer.ensures ∙ ap (λ x. x.answer) c.map.ensures.map)

pub slice_bounds-write_all-end : goal.slice_bounds-write_all-end
slice_bounds-write_all-end g c =
    let fits =
    within _ c.args.memory.now _ _
    (search rules)
    c.map.auto.out
    (c.value_or_number-answer.ensures ∙ ap (λ x. x.answer) c.map.ensures.map) in
    sym (length-take-le _ _ fits)
