use borrow.Author.Rules.{rules}
use Rattle.text.proofs.Appending.{put_whole}
use Rattle.track_listing.proofs.write.Goals as goal

pub returns : goal.returns
returns c = put_whole _ _ _ _ _ (rw c.new-text.ensures at c.push_listing.ensures) c.len.ensures (λ e. search rules) c.requires
