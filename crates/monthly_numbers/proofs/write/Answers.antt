use Rattle.std.proofs.Common.{◌∙◌}
use Rattle.octets.proofs.Puts.{put_as}
use Rattle.monthly_numbers.proofs.Lines.{lines-are}
use Rattle.monthly_numbers.proofs.write.Goals as goal

pub returns-clause-text : goal.returns-clause-text
returns-clause-text c = put_as (lines-are c.args.register.now _ (c.deref.ensures.0 ∙ c.end.ensures)) c.write_lines.ensures.text
