-- The claims, of a register in memory.
use Rattle.std.proofs.Common.{ℕ, ◌≤◌, ◌≡◌, true, List, arith, length, take}
use Rattle.std.specs.List.{list_all}
use Rattle.lists.proofs.Bools.{and_left}
use Rattle.tables.proofs.Testing.{all-weaken}
use Rattle.record.specs.Layout.{record_size}
use Rattle.record.specs.Formed as R
use Rattle.signed_records.specs.Read.{record_formed}
use Rattle.signed_records.specs.Signed.{place_formed}
use Rattle.register.specs.Layout.{max_records}
use Rattle.register.specs.Memory.{well_formed, decode, convicted_in, records_in}
use Rattle.register.proofs.Opened.{opened, records-length, records-ascend}
use Rattle.monthly_numbers.specs.Endings.{ending}
use Rattle.monthly_numbers.specs.Numbers.{signed_by}
use Rattle.monthly_numbers.specs.Claims.{EndsExactlyWhere, EndsOnce, RepresentedOnce, AddUp, EachSignedEnds, LinesAreShort}
use Rattle.monthly_numbers.proofs.Ending.{exactly, once, by-one}
use Rattle.monthly_numbers.proofs.Counting.{add-up}
use Rattle.monthly_numbers.proofs.Lines.{line-short}

formed-place : (c : ℕ) (p : List ℕ) → place_formed c p ≡ true → record_formed p ≡ true
formed-place c p h = and_left (R.well_formed (take record_size p)) _ h

all-formed : (m : List ℕ) → well_formed m ≡ true → list_all record_formed (decode m).records ≡ true
unfolding decode
all-formed m w = all-weaken (place_formed (convicted_in m)) record_formed (formed-place (convicted_in m)) (records_in m) (opened m w).records_formed

few : (m : List ℕ) → well_formed m ≡ true → length (decode m).records ≤ max_records
unfolding decode
few m w = let n = records-length m (opened m w) in let f = (opened m w).few_records in omega arith

pub exactly-where : EndsExactlyWhere
exactly-where m w p h = exactly (decode m) (all-formed m w) p h

pub ends-once : EndsOnce
ends-once m w p h = once (decode m) (all-formed m w) p h

pub represented-once : RepresentedOnce
unfolding decode
represented-once m w f h = by-one (decode m) (all-formed m w) (records-ascend m (opened m w)) f h

pub adds-up : AddUp
adds-up m w e = add-up (ending (decode m)) (signed_by (decode m) e)

pub each-signed-ends : EachSignedEnds
each-signed-ends = adds-up

pub lines-are-short : LinesAreShort
lines-are-short m w e h = line-short (decode m) (few m w) e h
