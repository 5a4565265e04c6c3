-- The claims of a register that is turned, from the laws of a transposition.
use Rattle.std.proofs.Common.{◌≡◌, ℕ, ◌+◌, ◌*◌, ◌-◌, ◌<◌, ◌≤◌, Bool, true, false, refl, sym, ap, ap₂, ◌∙◌, arith, length, get_or, take, drop, length-append, length-take, length-drop, get_or-append-add}
use Rattle.std.specs.Prelude.{not, ◌&&◌}
use mathlib.Core.List.{List, ◌++◌}
use lib.Dec.{eqb}
use lib.Seq.{take_at, drop_at, get_or-take, get_or-drop}
use Rattle.std.proofs.lemmas.List.{take-append-drop}
use Rattle.std.proofs.Math.ListN.{get_or-append}
use Rattle.lists.proofs.Bools.{by}
use Rattle.signed_records.specs.Signed.{place_size}
use Rattle.register.specs.Layout.{max_records, records_at, records_size, register_size}
use Rattle.register_columns.specs.Transposed.{transposed}
use Rattle.register_columns.specs.Columns.{turned, columns, uncolumns, rearrange}
use Rattle.register_columns.specs.Claims.{UndoEachOther, StandsTogether, HeadStays, RefusedWhereOther}
use Rattle.register_columns.proofs.Turning.{transposed-long, transposed-at, turned-back}

module _ (s : List ℕ) (e : length s ≡ register_size) where
  head-long : length (take records_at s) ≡ records_at
  head-long = length-take records_at s ∙ omega (arith, e)

  places-long : length (drop records_at s) ≡ records_size
  places-long = length-drop records_at s ∙ omega (arith, e)

  -- turned and turned back
  undone : (rows width : ℕ) → rows * width ≡ records_size → turned width rows (turned rows width s) ≡ s
  undone rows width h =
      let t = transposed rows width (drop records_at s) in
      ap₂ (λ (a b : List ℕ). a ++ transposed width rows b)
      (take_at (take records_at s) t records_at head-long)
      (drop_at (take records_at s) t records_at head-long)
      ∙ ap (λ (b : List ℕ). take records_at s ++ b) (turned-back rows width (drop records_at s) (places-long ∙ sym h))
      ∙ take-append-drop records_at s

  head-stays : (k : ℕ) → k < records_at → get_or (columns s) k 0 ≡ get_or s k 0
  head-stays k h =
      get_or-append (take records_at s) (transposed max_records place_size (drop records_at s)) 0 k (omega (arith, h, head-long))
      ∙ get_or-take records_at s k 0 h

  stands : (i j : ℕ) → i < max_records → j < place_size → get_or (columns s) (records_at + (j * max_records + i)) 0 ≡ get_or s (records_at + (i * place_size + j)) 0
  stands i j h k =
      ap (λ n. get_or (columns s) (n + (j * max_records + i)) 0) (sym head-long)
      ∙ get_or-append-add (take records_at s) (transposed max_records place_size (drop records_at s)) (j * max_records + i) 0
      ∙ transposed-at max_records place_size (drop records_at s) i j h k
      ∙ get_or-drop records_at s (i * place_size + j) 0

pub undo-each-other : UndoEachOther
undo-each-other s e = (undone s e max_records place_size refl, undone s e place_size max_records refl)

pub stands-together : StandsTogether
stands-together s i j e h k = stands s e i j h k

pub head_stays : HeadStays
head_stays s k e h = head-stays s e k h

pub refused-where-other : RefusedWhereOther
refused-where-other f s found = by (eqb (length s) register_size && eqb (length found) register_size) (λ t. rw t refl) (λ t. rw t refl)
