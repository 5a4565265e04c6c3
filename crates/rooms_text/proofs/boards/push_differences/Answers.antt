use Rattle.std.proofs.Common.{◌≡◌, ◌∙◌, ap, ap₂, ℕ, ◌+◌, ◌++◌, flat_map, max, arith}
use Rattle.lists.specs.Ordered.{up_to}
use Rattle.rooms_text.specs.Boards.{line_count, difference, differences}
use Rattle.rooms_text.proofs.Heap.{none-yet, one-more}
use Rattle.rooms_text.proofs.boards.push_differences.Goals as goal

pub loop-index-init : goal.loop-index-init
loop-index-init c = none-yet _ _

pub loop-index-preserved : goal.loop-index-preserved
loop-index-preserved c = one-more (λ index. difference c.args.a.now c.args.b.now (index + 1)) _ _ _ _ c.loop-index.invariant c.in_ok-push_difference.ensures

pub returns : goal.returns
unfolding differences
returns c =
    let a = c.args.a.now in
    let b = c.args.b.now in
    let most : c.max-count.result ≡ max (line_count a) (line_count b) = c.max-count.ensures ∙ ap₂ max c.line_count.ensures c.line_count-2.ensures in
    let all : c.loop-index.index ≡ c.max-count.result = omega arith in
    c.loop-index.invariant ∙ ap (λ (k : ℕ). c.args.out.now.items ++ flat_map (λ index. difference a b (index + 1)) (up_to k)) (all ∙ most)
