use Rattle.std.proofs.Common.{◌+◌, ◌-◌, ◌*◌, ◌≡◌, refl, ap, ◌∙◌, not, take, drop}
use Rattle.tables.proofs.Walks.{step-at}
use Rattle.signed_records.specs.Signed.{place_size, place_formed}
use Rattle.signed_records.specs.Begins.{begin_formed}
use Rattle.tables.proofs.Testing.{passed-not, passed-next, passed-all, begin-lent}
use Rattle.signed_records.proofs.formed.places_formed.Goals as goal
use Rattle.signed_records.proofs.formed.places_formed.Goals.{After-place_formed}

-- the place that is lent is the beginning of the next of the table
told : (c : After-place_formed) → let at = c.loop-i.i * c.args.w in c.place_formed.result ≡ begin_formed c.args.convicted (take (at + c.args.w - at) (drop at c.args.t.now))
told c = let at = c.loop-i.i * c.args.w in c.place_formed.ensures ∙ ap (place_formed c.args.convicted) (begin-lent place_size c.args.w at c.args.t.now c.requires.place_size_le_w)

pub returns-then-not-place_formed : goal.returns-then-not-place_formed
returns-then-not-place_formed c = passed-not c.loop-i.invariant c.loop-i-test.true _ (told (goal.at.returns-then-not-place_formed c).After-place_formed) (ap not c.if-not-place_formed.true)

pub loop-i-preserved : goal.loop-i-preserved
loop-i-preserved c =
    rw (← step-at c.loop-i.i c.args.w (c.loop-i.i * c.args.w) refl) (passed-next c.loop-i.invariant c.loop-i-test.true _ (told (goal.at.loop-i-preserved c).After-place_formed) (ap not c.if-not-place_formed.false))

pub returns : goal.returns
returns c = passed-all c.loop-i.invariant c.loop-i-test.false
