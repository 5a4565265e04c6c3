-- Whether two fixes link, from the times of their records and what ties them.
use Rattle.std.proofs.lemmas.List.{get_or_default}
use Rattle.std.proofs.Common.{ℕ, ◌<◌, ◌≡◌, ap₂, ◌∙◌, Bool, true, false, List, arith, length, get_or}
use Rattle.record.specs.Fields.{time}
use Rattle.record.specs.Relations.{tied}
use Rattle.fixes.specs.Fix.{Fix}
use Rattle.fixes.specs.Items.{no_fix, fix_at}
use Rattle.board_transmissions.specs.Transmissions.{near_in_time, records_link, linked}
use Rattle.board_transmissions.specs.Links.{link_at}

module _ (f g : Fix) (a b : List ℕ) (x y : ℕ) (near : Bool) (of_f : a ≡ f.record_bytes) (of_g : b ≡ g.record_bytes) (x-is : x ≡ time a) (y-is : y ≡ time b) (near-is : near ≡ near_in_time x y) where
  pub linked-near : (t : Bool) → near ≡ true → t ≡ tied a b → t ≡ linked f g
  unfolding records_link
  linked-near t h e = grind arith

  pub linked-far : near ≡ false → near ≡ linked f g
  unfolding records_link
  linked-far h = grind arith

-- ---- fixes by their indices

pub at_is : (fs : List Fix) (i : ℕ) (x : Fix) → i < length fs → x ≡ get_or fs i x → x ≡ fix_at fs i
at_is fs i x h e = e ∙ get_or_default fs i x no_fix h

pub linked-there : (fs : List Fix) (i j : ℕ) (x y : Fix) (b : Bool) → i < length fs → j < length fs → x ≡ get_or fs i x → y ≡ get_or fs j y → b ≡ linked x y → b ≡ link_at fs i j
linked-there fs i j x y b h k e d p = p ∙ ap₂ linked (at_is fs i x h e) (at_is fs j y k d)
