use Rattle.std.proofs.Common.{◌≤◌, refl, sym, ap, ◌∙◌, subst, arith, length, length-set, get_or, set, take_all}
use mathlib.Core.List.{flat_map}
use Rattle.fix_lines.specs.declared.Standing.TheVariants.{Ranked}
use Rattle.board_picture.specs.declared.line.Line.{Line}
use Rattle.monthly_numbers.specs.declared.endings.Ending.{Ending}
use Rattle.monthly_numbers.specs.Kept.{all_lines, Told}
use Rattle.monthly_numbers.proofs.Telling.{told-none, until-none, until-all, turn}
use Rattle.monthly_numbers.proofs.endings.tell.Goals as goal

pub loop-k-init : goal.loop-k-init
unfolding flat_map
loop-k-init c = record { size = refl; told = told-none c.args.picture.now.fixes (all_lines c.args.picture.now.parts) 96 c.requires.few }

pub loop-line-init : goal.loop-line-init
loop-line-init c =
    let fs = c.args.picture.now.fixes in
    let ps = c.args.picture.now.parts in
    record {
      size = c.loop-k.invariant.size;
      told = subst (Told fs (all_lines ps) c.loop-k.table) (sym (until-none fs ps c.loop-k.k c.lines-line-items.result.now)) c.loop-k.invariant.told;
    }

pub loop-line-preserved : goal.loop-line-preserved
loop-line-preserved c =
    let d : Line = record { fix = 0; standing = Ranked; against = 0 } in
    let ls = c.lines-line-items.result.now in
    let i = c.loop-line.line-index in
    let room : length c.args.picture.now.fixes ≤ length c.loop-line.table = omega (arith, c.requires.few, c.loop-line.invariant.size) in
    record {
      size = length-set c.loop-line.table (get_or ls i d).fix _ ∙ c.loop-line.invariant.size;
      told =
          turn c.args.picture.now.fixes c.args.picture.now.parts c.requires.in_order c.loop-line.table c.loop-k.k ls i d room (omega (arith, c.loop-k-test.true, c.len-k-end.ensures)) c.loop-line-test.true c.lines-line-items.ensures.lines
          (c.lines-line-items.ensures.known i d c.loop-line-test.true) c.loop-line.invariant.told _ (ap (λ (z : Ending). set c.loop-line.table (get_or ls i d).fix z) c.ending_of.ensures);
    }

pub loop-k-preserved : goal.loop-k-preserved
loop-k-preserved c =
    let fs = c.args.picture.now.fixes in
    let ps = c.args.picture.now.parts in
    record {
      size = c.loop-line.invariant.size;
      told =
          subst (Told fs (all_lines ps) c.loop-line.table)
          (until-all fs ps c.loop-k.k c.lines-line-items.result.now c.loop-line.line-index (omega (arith, c.loop-k-test.true, c.len-k-end.ensures)) (omega (arith, c.loop-line-test.false)) c.lines-line-items.ensures.lines)
          c.loop-line.invariant.told;
    }

pub returns : goal.returns
returns c =
    let fs = c.args.picture.now.fixes in
    let ps = c.args.picture.now.parts in
    subst (λ l. Told fs (all_lines ps) c.loop-k.table (all_lines l)) (take_all c.loop-k.k ps (omega (arith, c.loop-k-test.false, c.len-k-end.ensures))) c.loop-k.invariant.told
