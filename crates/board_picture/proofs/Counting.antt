-- How many lines there are: one for each fix.
use Rattle.std.proofs.Common.{◌+◌, ◌≡◌, ◌∙◌, sym, subst, List, ◌++◌, map, arith, length, length-append}
use mathlib.Core.List.{Permᴰ}
use lib.ListN.{length-map}
use Rattle.lists.proofs.Orders.{perm-length}
use Rattle.arithmetic.specs.declared.standing.ChiSquare.{ChiSquare}
use Rattle.decision_rule.specs.Outcome.{Refused, Outcome}
use Rattle.decision.specs.Claims.{listed_in}
use Rattle.decision.proofs.Laws.{listed-once}
use Rattle.fixes.specs.Fix.{Fix}
use Rattle.fixes.specs.Shown.{shown}
use Rattle.fixes.specs.Claims.{fix_relations}
use Rattle.fixes.proofs.Plainly.{shown-is-decided}
use Rattle.board_picture.specs.Lines.{lines_of, counts_of, all_counted}

-- each fix is ranked, dominated or refused
pub shown-all : (gs : List Fix) → length (shown gs).ranked + (length (shown gs).dominated + length (shown gs).refused) ≡ length gs
shown-all gs =
    let o = shown gs in
    let p = perm-length (subst (λ (t : Outcome Fix ChiSquare). Permᴰ (listed_in t) gs) (sym (shown-is-decided gs)) (listed-once fix_relations gs)) in
    let e = length-append o.ranked (o.dominated ++ map (λ (x : Refused Fix ChiSquare). x.item) o.refused) in
    let f = length-append o.dominated (map (λ (x : Refused Fix ChiSquare). x.item) o.refused) in
    let g = length-map o.refused (λ (x : Refused Fix ChiSquare). x.item) in
    omega arith

-- and has a line
pub length-lines : (gs : List Fix) → length (lines_of (shown gs)) ≡ length gs
length-lines gs =
    let o = shown gs in
    let e = shown-all gs in
    simp (length-append, length-map) e

-- of one standing each
pub counted-lines : (gs : List Fix) → all_counted (counts_of (shown gs)) ≡ length (lines_of (shown gs))
counted-lines gs = shown-all gs ∙ sym (length-lines gs)
