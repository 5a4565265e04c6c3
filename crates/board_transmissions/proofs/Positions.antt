-- Tags {1}, {2}, {1,2} make one transmission; and {1}, {2}, {3} make three.
use Rattle.std.proofs.Common.{◌≡◌, refl, [], ◌∷◌}
use Rattle.octets.specs.Words.{word, word_bytes}
use Rattle.octets.specs.Order.{same, is_before}
use Rattle.record.specs.Fields.{tags_from}
use Rattle.record.specs.Relations.{shares_tag, any_in, member, tied}
use Rattle.board_transmissions.specs.Transmissions.{records_link, reach, transmissions_of}
use Rattle.board_transmissions.specs.Positions.{one, two, both, other}
use Rattle.board_transmissions.specs.Claims.{Position6}

pub position-6 : Position6
unfolding transmissions_of reach records_link tied shares_tag any_in member same is_before tags_from word word_bytes
position-6 = refl

pub apart : transmissions_of (one ∷ two ∷ other ∷ []) ≡ (one ∷ []) ∷ (two ∷ []) ∷ (other ∷ []) ∷ []
unfolding transmissions_of reach records_link tied shares_tag any_in member same is_before tags_from word word_bytes
apart = refl
