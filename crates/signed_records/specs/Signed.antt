-- A record with its signers: which a memory may hold, and what becomes of the signers (docs/REFERENCE.md, 'Register' among the layouts, and 'Register and board').
use Rattle.std.specs.Prelude.{ℕ, ◌+◌, Bool, not, ◌&&◌, List, eqb, take, drop}
use Rattle.std.specs.Int.Bits.{bit_and}
use Rattle.octets.specs.Masks.{with_bit, without_bit}
use Rattle.octets.specs.Words.{word, word_bytes}
use Rattle.record.specs.Layout.{record_size}
use Rattle.record.specs.Formed.{well_formed}

-- a record's place: the record, and its signers, bit n for engine n
abbrev pub place_size : ℕ
place_size = record_size + 4

-- the signers of a record's place
abbrev pub signers_in : List ℕ → ℕ
signers_in p = word (drop record_size p)

-- signers with an engine, and without
abbrev pub add_signer : ℕ → List ℕ → List ℕ
add_signer e v = word_bytes 4 (with_bit (word v) e)

abbrev pub drop_signer : ℕ → List ℕ → List ℕ
drop_signer e v = word_bytes 4 (without_bit (word v) e)

-- a record with another signer
abbrev pub has_another_signer : ℕ → List ℕ → Bool
has_another_signer e p = not (eqb (without_bit (signers_in p) e) 0)

-- a record that is one, with signers, none of them convicted
abbrev pub place_formed : ℕ → List ℕ → Bool
place_formed c p = well_formed (take record_size p) && (not (eqb (signers_in p) 0) && eqb (bit_and (signers_in p) c) 0)
