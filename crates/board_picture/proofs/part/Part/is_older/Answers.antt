use Rattle.std.proofs.Common.{refl, lt-ltb, le-ltb}
use Rattle.board_picture.specs.Parts.{before}
use Rattle.board_picture.proofs.part.Part.is_older.Goals as goal

pub returns-then-self-other : goal.returns-then-self-other
unfolding before
returns-then-self-other c = rw (lt-ltb _ _ c.if-self-other.true) refl

pub returns-then-other-self : goal.returns-then-other-self
unfolding before
returns-then-other-self c = rw (le-ltb _ _ c.if-self-other.false, lt-ltb _ _ c.if-other-self.true) refl

pub returns : goal.returns
unfolding before
returns c = rw (le-ltb _ _ c.if-self-other.false, le-ltb _ _ c.if-other-self.false) refl
