use Rattle.std.proofs.Common.{ℕ, ap, ◌∙◌}
use Rattle.text.specs.Texts.{append}
use Rattle.text.proofs.Appending.{append-then}
use Rattle.track_listing.specs.Listing.{contested_line, held_from, listing_of}
use Rattle.track_listing.proofs.push_listing.Goals as goal

pub returns : goal.returns
unfolding listing_of
returns c =
    append-then c.args.out.now _ _ _ _ (c.push_contested.ensures ∙ ap (λ (n : ℕ). append c.args.out.now (contested_line n)) c.contested.ensures)
    (c.push_all.ensures ∙ ap (λ ts. append c.push_contested.new.out (held_from 1 ts)) (c.deref.ensures.0 ∙ c.transmissions.ensures))
