use Rattle.std.proofs.Common.{refl}
use Rattle.octets.specs.Ascii.{ascii}
use Rattle.models.specs.Identity.{identity_from}
use Rattle.models.proofs.identities.identity.Goals as goal

pub returns : goal.returns
unfolding identity_from ascii
returns c = rw (c.blake2s256.ensures, c.as_slice.ensures.value, c.join-3.ensures.items, c.join-2.ensures.items, c.join.ensures.items, c.new-b.ensures, c.bytes.ensures, c.bytes-2.ensures) refl
