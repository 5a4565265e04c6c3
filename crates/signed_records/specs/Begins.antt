-- What a place of a track begins with: a record that is one, with signers (docs/REFERENCE.md, 'Track' among the layouts).
use Rattle.std.specs.Prelude.{ℕ, Bool, List, take}
use Rattle.signed_records.specs.Signed.{place_size, place_formed}

-- bytes that begin with one, whatever follows
abbrev pub begin_formed : ℕ → List ℕ → Bool
begin_formed c p = place_formed c (take place_size p)
