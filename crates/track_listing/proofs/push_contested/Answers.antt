use Rattle.std.proofs.Common.{ap, ◌∙◌, append_assoc}
use Rattle.octets.specs.Ascii.{ascii}
use Rattle.text.specs.Numbers.{decimal}
use Rattle.text.specs.Texts.{append}
use Rattle.text.proofs.Appending.{append-then}
use Rattle.track_listing.specs.Listing.{contested_line}
use Rattle.track_listing.proofs.push_contested.Goals as goal

pub returns : goal.returns
unfolding contested_line ascii
returns c =
    append-then c.args.out.now _ _ _ _ c.push_field.ensures c.push_str.ensures
    ∙ ap (append c.args.out.now) (append_assoc (ascii "contested=") (decimal c.args.contested) (ascii "\n"))
