-- No claim rests on these definitions: they say what a walk through two tables, each in its order, makes of them.
use Rattle.std.specs.Prelude.{ℕ, ◌≡◌, ◌+◌, ◌^◌, ◌≤◌, ◌<◌, Bool, true, cond, not, if◌then◌else◌, List, [], ◌∷◌, ◌++◌, ltb, eqb, length, take, drop, slice_index_or, Result, Ok, Err}
use Rattle.std.specs.Int.Bits.{bit_or}
use Rattle.octets.specs.Words.{word_bytes}
use Rattle.tables.specs.Places.{keep_places, ascending}
use Rattle.record.specs.Layout.{record_size}
use Rattle.models.specs.Summary.{summary_size}
use Rattle.models.specs.Summaries.{no_value}
use Rattle.signed_records.specs.Signed.{signers_in}
use Rattle.errors.specs.declared.Error.{Error}
use Rattle.errors.specs.declared.Error.TheVariants.{Full}
use Rattle.register_join.specs.Join.{united, without_bits, both_signers, drop_signers, has_free_signer, is_of_free}

-- the places of two tables, once the engines that the other side convicted are: which stay, what follows their keys then, and what follows a key of both
abbrev pub together : ℕ → (List ℕ → List ℕ → List ℕ) → (ℕ → List ℕ → Bool) → (ℕ → List ℕ → List ℕ) → ℕ → List (List ℕ) → ℕ → List (List ℕ) → List (List ℕ)
together k merge test change their_convicted mine my_convicted theirs =
    united k merge (keep_places k (test my_convicted) (change my_convicted) theirs) (keep_places k (test their_convicted) (change their_convicted) mine)

-- a place with what is left of it comes first, or goes where nothing is
abbrev pub left_before : ℕ → (List ℕ → ℕ → List ℕ) → List ℕ → ℕ → List (List ℕ) → List (List ℕ)
left_before k placed place left ps = cond (eqb left 0) ps (placed (take k place) left ∷ ps)

-- what is left of a place is a number, from which the place is written: what is written is what stays of one table, and what is united of two
pub record Lawful (k w : ℕ) (merge : List ℕ → List ℕ → List ℕ) (test : ℕ → List ℕ → Bool) (change : ℕ → List ℕ → List ℕ) (left : ℕ → List ℕ → ℕ) (placed : List ℕ → ℕ → List ℕ) : Type 0 where
  pub narrow : k ≤ w
  pub fits : (c : ℕ) (v : List ℕ) → k + length v ≡ w → k + length (change c v) ≡ w
  pub stays : (c : ℕ) (p : List ℕ) → test c p ≡ not (eqb (left c p) 0)
  pub as_wide : (p : List ℕ) (m : ℕ) → length p ≡ w → length (placed (take k p) m) ≡ w
  pub one : (c : ℕ) (p : List ℕ) → take k p ++ change c (drop k p) ≡ placed (take k p) (left c p)
  pub alone : (c : ℕ) (p : List ℕ) → left c p < 2 ^ 32 → take k p ++ merge (change c (drop k p)) [] ≡ placed (take k p) (left c p)
  pub both : (c d : ℕ) (q p : List ℕ) → left c q < 2 ^ 32 → left d p < 2 ^ 32
      → take k p ++ merge (change c (drop k q)) (change d (drop k p)) ≡ placed (take k p) (bit_or (left c q) (left d p))

-- the records of two tables, and what is left of one: its signers
abbrev pub records_together : ℕ → List (List ℕ) → ℕ → List (List ℕ) → List (List ℕ)
records_together their_convicted mine my_convicted theirs = together record_size both_signers has_free_signer drop_signers their_convicted mine my_convicted theirs

abbrev pub left_signers : ℕ → List ℕ → ℕ
left_signers c p = without_bits (signers_in p) c

abbrev pub placed_signers : List ℕ → ℕ → List ℕ
placed_signers key signers = key ++ word_bytes 4 signers

-- the summaries of two tables, which are all key, and what is left of one: whether it stays
abbrev pub nothing_more : List ℕ → List ℕ → List ℕ
nothing_more v w = []

abbrev pub no_values : ℕ → List ℕ → List ℕ
no_values c v = no_value v

abbrev pub summaries_together : ℕ → List (List ℕ) → ℕ → List (List ℕ) → List (List ℕ)
summaries_together their_convicted mine my_convicted theirs = together summary_size nothing_more is_of_free no_values their_convicted mine my_convicted theirs

abbrev pub stays_as_bit : ℕ → List ℕ → ℕ
stays_as_bit c p = if is_of_free c p then 1 else 0

abbrev pub placed_alone : List ℕ → ℕ → List ℕ
placed_alone key left = key

-- each place has so many bytes
abbrev pub EachWide : ℕ → List (List ℕ) → Type 0
EachWide w ps = (i : ℕ) → i < length ps → length (slice_index_or ps i []) ≡ w

-- two tables are left in their order, with fewer places
pub record Behind (k w : ℕ) (mine theirs ms ts : List (List ℕ)) : Type 0 where
  pub mine_ascend : ascending k ms ≡ true
  pub theirs_ascend : ascending k ts ≡ true
  pub mine_wide : EachWide w ms
  pub theirs_wide : EachWide w ts
  pub fewer : length ms + length ts < length mine + length theirs

-- a record with its signers comes first, or goes where it has none
abbrev pub signed_before : List ℕ → ℕ → List (List ℕ) → List (List ℕ)
signed_before place signers ps = cond (eqb signers 0) ps ((take record_size place ++ word_bytes 4 signers) ∷ ps)

-- a summary comes first, or goes where it does not stay
abbrev pub summary_before : List ℕ → Bool → List (List ℕ) → List (List ℕ)
summary_before place stays ps = cond stays (place ∷ ps) ps

-- as many places as there are, where there is room for them
abbrev pub counted_in : ℕ → List (List ℕ) → Result ℕ Error
counted_in cap ps = cond (ltb cap (length ps)) (Err Full) (Ok (length ps))

-- what stands before the tables of a register: the convicted engines, and how many summaries and records there are
abbrev pub header_of : ℕ → ℕ → ℕ → List ℕ
header_of convicted summaries records = word_bytes 4 convicted ++ (word_bytes 2 summaries ++ word_bytes 2 records)
