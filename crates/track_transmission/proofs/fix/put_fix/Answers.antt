use mathlib.Core.Path.{ap}
use Rattle.octets.proofs.Puts.{put_as}
use Rattle.track_transmission.specs.Bytes.{fix_bytes}
use Rattle.track_transmission.proofs.fix.put_fix.Goals as goal

pub returns : goal.returns
returns c = (c.put_parts.ensures.0, put_as (ap fix_bytes c.fix.view_is) c.put_parts.ensures.1)
