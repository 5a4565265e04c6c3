use Rattle.std.proofs.Common.{List, ap, sym, ◌∙◌, length}
use Rattle.track_shelf.specs.Waiting.{Waiting}
use Rattle.track_shelf.proofs.Shelves.{decode-length}
use Rattle.track_shelf.proofs.view.Shelf.len.Goals as goal

pub returns-clause-count : goal.returns-clause-count
returns-clause-count c = sym (decode-length c.self.inside.bytes.now) ∙ ap (λ (l : List Waiting). length l) c.self.view_is
