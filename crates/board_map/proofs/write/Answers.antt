use Rattle.std.proofs.Common.{◌≡◌, ◌≤◌, le_trans, sym, ap, ◌∙◌, [], length, eqb-true}
use Rattle.octets.proofs.Puts.{put_as}
use Rattle.board_picture.specs.Picture.{picture}
use Rattle.board_map.specs.Text.{map_text}
use Rattle.board_map.specs.Map.{map_of, map_size}
use Rattle.board_map.specs.Written.{map_over}
use Rattle.board_map.proofs.Lengths.{map-fits, over-fits, none-over, none-fits}
use Rattle.board_map.proofs.write.Goals as goal

pub draw_fixes-requires-clause-room : goal.draw_fixes-requires-clause-room
draw_fixes-requires-clause-room c = le_trans (over-fits c.deref.result.now) c.requires.room

pub returns-clause-map : goal.returns-clause-map
unfolding map_of picture
returns-clause-map c = put_as (ap map_over (c.deref.ensures.0 ∙ c.represent.ensures.fixes)) c.draw_fixes.ensures

pub returns-clause-fits : goal.returns-clause-fits
unfolding map_of
returns-clause-fits c = map-fits (picture c.args.register.now.summaries c.args.register.now.records)

pub write_none-requires : goal.write_none-requires
write_none-requires c = le_trans none-fits c.requires.room

pub returns-then-is_empty-clause-map : goal.returns-then-is_empty-clause-map
unfolding map_of picture
returns-then-is_empty-clause-map c =
    let none : length c.represent.new.fixes.items ≡ 0 = eqb-true _ _ (sym c.is_empty.ensures ∙ c.if-is_empty.true) in
    put_as (sym (none-over c.represent.new.fixes.items none) ∙ ap map_over c.represent.ensures.fixes) c.write_none.ensures

pub returns-then-is_empty-clause-fits : goal.returns-then-is_empty-clause-fits
unfolding map_of
returns-then-is_empty-clause-fits c = map-fits (picture c.args.register.now.summaries c.args.register.now.records)
