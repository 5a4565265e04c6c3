use Rattle.std.proofs.Common.{ℕ, List, ◌∷◌, ◌++◌, ap, ◌∙◌, length}
use Rattle.track_shelf.specs.Memory.{encode_shelf}
use Rattle.track_shelf.proofs.Writing.{counted1}
use Rattle.track_shelf.proofs.write.Goals as goal

pub returns : goal.returns
unfolding encode_shelf
returns c =
    let n : ℕ = length c.args.fixes.now in
    ap (λ (x : List ℕ). x ++ c.write_places.new.places) (counted1 c.split_at_mut-count.result.0.now n c.split_at_mut-count.ensures.front_len)
    ∙ ap (λ (x : List ℕ). n ∷ x) c.write_places.ensures
