use Rattle.std.proofs.Common.{◌≡◌, ◌<◌, length, refl, le_refl, sym, ap, ◌∙◌, Bool, arith}
use Rattle.fixes.specs.Fix.{Fix}
use Rattle.text.specs.Texts.{append}
use Rattle.board_picture.specs.Lines.{first_of, part_at}
use Rattle.board_map.specs.Points.{point_of, lies_within}
use Rattle.board_map.specs.Text.{point_text}
use Rattle.board_map.proofs.Writing.{one-more, none-more, end}
use Rattle.board_map.proofs.texts.push_points.Goals as goal
use Rattle.board_map.proofs.texts.push_points.Goals.{then-lies_within, else-lies_within}

-- nothing is written yet, so what is left is the whole
pub loop-k-init : goal.loop-k-init
loop-k-init c =
    record { from = le_refl c.args.start; whole = refl }

pub loop-k-preserved : goal.loop-k-preserved
loop-k-preserved c =
    let ps = c.args.picture.now.parts in
    let k = c.loop-k.k in
    let below : k < length ps = omega (arith, c.loop-k-test.true, c.len-k-end.ensures) in
    let within : (b : Bool) → c.lies_within.result ≡ b → lies_within (point_of (first_of (part_at ps k))) ≡ b = λ b e. ap (λ (f : Fix). lies_within (point_of f)) (sym c.first-fix.ensures) ∙ sym c.lies_within.ensures ∙ e in
    record {
      from = omega (arith, c.loop-k.invariant.from);
      whole =
          elim c.if-lies_within.branch [
            | then-lies_within w ↦ one-more ps k below c.loop-k.out _ _ _ c.loop-k.any _ (within _ w.if-lies_within.true) w.push_separator.ensures (w.push_point.ensures ∙ ap (λ (f : Fix). append w.push_separator.new.out (point_text (point_of f))) c.first-fix.ensures) w.out-is w.any-is
            | else-lies_within w ↦ none-more ps k below c.loop-k.out _ c.loop-k.any _ (within _ w.if-lies_within.false) w.out-is w.any-is
          ]
          ∙ c.loop-k.invariant.whole;
    }

pub returns : goal.returns
returns c = end _ c.loop-k.out c.loop-k.any c.args.picture.now.parts c.loop-k.k (omega (arith, c.loop-k-test.false, c.len-k-end.ensures)) c.loop-k.invariant.whole
