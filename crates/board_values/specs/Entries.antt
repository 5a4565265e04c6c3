-- The fixes of a board as values (docs/REFERENCE.md, 'Values'): one entry for each line of the full board, in the order of the lines.
use Rattle.std.specs.Prelude.{ℕ, suc, ◌+◌, cond, List, [], ◌∷◌, ◌++◌, map, take, length}
use Rattle.octets.specs.Order.{same}
use Rattle.record.specs.Layout.{record_size}
use Rattle.arithmetic.specs.declared.standing.ChiSquare.{ChiSquare}
use Rattle.decision_rule.specs.Outcome.{Refused as RefusedFix}
use Rattle.fixes.specs.Fix.{Fix}
use Rattle.fixes.specs.Shown.{Transmission}
use Rattle.fix_lines.specs.declared.Standing.{Standing}
use Rattle.fix_lines.specs.declared.Standing.TheVariants.{Ranked, Dominated, Refused}
use Rattle.board_picture.specs.Picture.{picture, latest_of}

pub record Entry : Type 0 where
  -- of its transmission, from 1, as on the board
  pub number : ℕ
  -- what became of it; a refused one has its chi-square
  pub standing : Standing
  -- of the record that represents it, among the records of the register, from 0
  pub place : ℕ
  -- the index, among all entries, of the one against which it is refused; its own where it is not refused
  pub against : ℕ
  -- the engines that signed a record of its identity, bit n for engine n
  pub signers : ℕ
  pub identity : List ℕ

-- how many records, which are the first bytes of their places, come before this one
unfoldable pub place_of : List (List ℕ) → List ℕ → ℕ
place_of [] r = 0
place_of (p ∷ ps) r = cond (same (take record_size p) r) 0 (suc (place_of ps r))

-- how many fixes come before the one of this identity
unfoldable pub index_of : List Fix → List ℕ → ℕ
index_of [] x = 0
index_of (f ∷ fs) x = cond (same f.identity x) 0 (suc (index_of fs x))

-- the fixes of a transmission in the order of its lines: the ranked, the dominated and the refused
abbrev pub fixes_shown : Transmission → List Fix
fixes_shown t = t.ranked ++ (t.dominated ++ map (λ (r : RefusedFix Fix ChiSquare). r.item) t.refused)

-- of a register's records ps and a transmission of the fixes fs, which has this number and before which there are so many entries
module _ (ps : List (List ℕ)) (number before : ℕ) (fs : List Fix) where
  -- of f, which is refused against k, or is k itself
  abbrev pub entry : Standing → Fix → Fix → Entry
  entry standing f k = record { number = number; standing = standing; place = place_of ps f.record_bytes; against = before + index_of fs k.identity; signers = f.signers; identity = f.identity }

  abbrev pub refused_entry : RefusedFix Fix ChiSquare → Entry
  refused_entry r = entry (Refused r.chi2) r.item r.against

-- of a transmission
abbrev pub entries_of : List (List ℕ) → ℕ → ℕ → Transmission → List Entry
entries_of ps number before t =
    let fs = fixes_shown t in
    map (λ (f : Fix). entry ps number before fs Ranked f f) t.ranked
    ++ (map (λ (f : Fix). entry ps number before fs Dominated f f) t.dominated ++ map (refused_entry ps number before fs) t.refused)

-- of transmissions, the first with this number
unfoldable pub entries_from : List (List ℕ) → ℕ → ℕ → List Transmission → List Entry
entries_from ps number before [] = []
entries_from ps number before (t ∷ ts) = entries_of ps number before t ++ entries_from ps (suc number) (before + (length t.ranked + (length t.dominated + length t.refused))) ts

-- of the board of summaries and of records with their signers: the first is numbered 1
unfoldable pub entries_shown : List (List ℕ) → List (List ℕ) → List Entry
entries_shown ss ps = entries_from ps 1 0 (latest_of (picture ss ps))
