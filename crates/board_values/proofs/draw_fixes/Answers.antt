-- `draw_fixes` meets its contract: what is written is the entries of the fixes.
use Rattle.std.proofs.Common.{ap}
use Rattle.octets.proofs.Puts.{put_as}
use Rattle.board_transmissions.specs.Links.{Parted}
use Rattle.board_picture.specs.Parts.{Shows}
use Rattle.board_values.proofs.Drawing.{latest-drawn}
use Rattle.board_values.proofs.draw_fixes.Goals as goal

pub write_latest-requires-clause-room : goal.write_latest-requires-clause-room
write_latest-requires-clause-room c = rw (latest-drawn c.args.register.now.records c.args.fixes.now _ (ap (λ (p : Parted). p.parts) c.of-transmissions.ensures) _ (ap (λ (s : Shows). s.parts) c.fill.ensures) c.saturating_sub-start.result (rw c.len.ensures at c.saturating_sub-start.ensures)) c.requires.room

pub returns : goal.returns
returns c = put_as (latest-drawn c.args.register.now.records c.args.fixes.now _ (ap (λ (p : Parted). p.parts) c.of-transmissions.ensures) _ (ap (λ (s : Shows). s.parts) c.fill.ensures) c.saturating_sub-start.result (rw c.len.ensures at c.saturating_sub-start.ensures)) c.write_latest.ensures
