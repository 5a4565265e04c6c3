use Rattle.text.proofs.Appending.{append-then}
use Rattle.octets.specs.Ascii.{ascii}
use Rattle.fix_lines.specs.Crew.{crew_header}
use Rattle.fix_lines.proofs.push_crew_header.Goals as goal

pub returns : goal.returns
unfolding crew_header ascii
returns c = append-then c.args.out.now _ _ _ _ c.push_field.ensures c.push_str.ensures
