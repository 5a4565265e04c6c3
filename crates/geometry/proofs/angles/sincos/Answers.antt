use mir.Syntax.{w32}
use mir.Facts.{to_z-of_z}
use Rattle.geometry.specs.Angles.{sincos_of}
use borrow.Author.Rules.{sfits_of}
use Rattle.geometry.proofs.angles.sincos.Goals as goal

pub returns : goal.returns
unfolding sincos_of
returns c =
    rw (
      c.turned.ensures,
      c.cosine_series.ensures,
      c.sine_series.ensures,
      c.radians-t.ensures,
      to_z-of_z {w = w32} {z = c.rest.result} (sfits_of c.rest.type_inv),
      c.rest.ensures,
      to_z-of_z {w = w32} {z = c.args.v} c.ranges.v,
      c.quadrant_of-q.ensures,
      to_z-of_z {w = w32} {z = c.args.v} c.ranges.v,
    )
