use Rattle.std.proofs.Common.{ap, ◌∙◌, ◌+◌}
use Rattle.text.specs.Texts.{append}
use Rattle.track_listing.specs.Listing.{held_text}
use Rattle.track_listing.proofs.Texts.{turn, end}
use Rattle.track_listing.proofs.push_all.Goals as goal

pub loop-i-preserved : goal.loop-i-preserved
loop-i-preserved c =
    turn c.loop-i.out c.push_held.new.out c.args.blocks.now c.loop-i.i c.index-blocks-i.result (c.push_held.ensures ∙ ap (λ t. append c.loop-i.out (held_text (c.loop-i.i + 1) t)) c.index-blocks-i.is) c.loop-i-test.true
    ∙ c.loop-i.invariant

pub returns : goal.returns
returns c = end (append c.args.out.now _) c.loop-i.out c.args.blocks.now c.loop-i.i c.loop-i-test.false c.loop-i.invariant
