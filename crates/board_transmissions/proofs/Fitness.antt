-- A fix links to itself.
use Rattle.std.proofs.Common.{ℕ, zero, suc, ◌≤◌, ◌≡◌, true, List, arith}
use Rattle.octets.proofs.Comparison.{same_refl}
use Rattle.record.specs.Fields.{message, tag_count, tags_from}
use Rattle.record.specs.Formed.{well_formed}
use Rattle.record.specs.Relations.{shares_tag, any_in, member, tied}
use Rattle.record.proofs.Parts.{formed}
use Rattle.board_transmissions.specs.Transmissions.{records_link}

some-tag : (r : List ℕ) (n : ℕ) → 1 ≤ n → any_in (tags_from r 0 n) (tags_from r 0 n) ≡ true
unfolding any_in member tags_from
some-tag r zero p = absurd (omega arith)
some-tag r (suc n) p = grind arith

pub self-linked : (r : List ℕ) → well_formed r ≡ true → records_link r r ≡ true
unfolding records_link tied shares_tag
self-linked r h = grind (arith, same_refl (message r), some-tag r (tag_count r), (formed r h).some)
