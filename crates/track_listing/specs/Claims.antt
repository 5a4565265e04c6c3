-- What is claimed of the length of a listing and of the text of a stored chi-square (docs/REFERENCE.md, 'Track and listing'). The contracts of src/claims.rt name it;
-- the proofs are in proofs/Lengths and proofs/Stored.
use Rattle.std.specs.Prelude.{ℕ, ◌+◌, ◌*◌, ◌≤◌, ◌≡◌, true, ◌↔◌, List, length}
use Rattle.octets.specs.Ascii.{ascii}
use Rattle.arithmetic.specs.Bits.{stored_chi_square}
use Rattle.fix_lines.specs.Lines.{chi_square_text}
use Rattle.track_transmission.specs.Layout.{max_standing, max_refused}
use Rattle.track_arrange.specs.Arranged.{max_transmissions}
use Rattle.track_memory.specs.Memory.{well_formed, decode}
use Rattle.track_listing.specs.Listing.{listing_of}

-- ---- the widest text of each kind, in which every number takes as many digits as it can

abbrev pub widest_first : List ℕ
widest_first = ascii "contested=18446744073709551615\n"

abbrev pub widest_header : List ℕ
widest_header = ascii "transmission=8 ranked=5 dominated=0 refused=4\n"

abbrev pub widest_ranked : List ℕ
widest_ranked = ascii "role=ranked time=18446744073709551615 lat=-2147483648 lon=-2147483648 height=-2147484 weight=24 signers=ffffffff\n"

abbrev pub widest_refused : List ℕ
widest_refused =
    ascii "role=refused time=18446744073709551615 lat=-2147483648 lon=-2147483648 height=-2147484 weight=24 signers=ffffffff chi2=7ff8000000000000\n"

-- ---- a listing has 12 to 9,271 bytes: its first line, and a header and a line for each fix that eight transmissions can hold

-- a first line alone
abbrev pub shortest : ℕ
shortest = length (ascii "contested=0\n")

-- a transmission with as many fixes as it can have
abbrev pub longest_held : ℕ
longest_held = length widest_header + (max_standing * length widest_ranked + max_refused * length widest_refused)

abbrev pub longest : ℕ
longest = length widest_first + max_transmissions * longest_held

abbrev pub LengthNumbers : Type 0
LengthNumbers = (shortest ≡ 12) × (longest ≡ 9271)

-- every track that is well-formed has one of such a length, which is greater than 1 and 10, the numbers that refuse a listing
abbrev pub ListingLength : Type 0
ListingLength = (m : List ℕ) → well_formed m ≡ true → (shortest ≤ length (listing_of (decode m))) × (length (listing_of (decode m)) ≤ longest)

-- ---- a chi-square that is stored is listed as `none` exactly where its bits are those of the infinity
abbrev pub ListedNoneExactlyWhen : Type 0
ListedNoneExactlyWhen = (bits : ℕ) → (chi_square_text (stored_chi_square bits) ≡ ascii "none") ↔ (bits ≡ 0x7ff0_0000_0000_0000)
