-- No claim rests on these definitions: they say what the code keeps of a picture, and of a held record.
use Rattle.std.specs.Prelude.{ℕ, ◌+◌, ◌<◌, ◌≡◌, Bool, cond, Option, Some, None, length, get_or}
use mathlib.Core.List.{List, map, flat_map, Memᴰ}
use Rattle.lists.specs.Lists.{sort}
use Rattle.std.specs.List.{filter}
use Rattle.octets.specs.Masks.{bit}
use Rattle.signed_records.specs.Signed.{signers_in}
use Rattle.fixes.specs.Fix.{Fix}
use Rattle.fixes.specs.Items.{fix_at}
use Rattle.fixes.specs.Shown.{shown}
use Rattle.board_transmissions.specs.Transmissions.{transmissions_of}
use Rattle.board_picture.specs.Picture.{older_than}
use Rattle.board_picture.specs.Lines.{ShownLine, ShownPart, part_of}
use Rattle.fix_lines.specs.declared.Standing.{Standing}
use Rattle.fix_lines.specs.declared.Standing.TheVariants as standing
use Rattle.register.specs.Register.{Register}
use Rattle.monthly_numbers.specs.declared.endings.Ending.{Ending}
use Rattle.monthly_numbers.specs.declared.endings.Ending.TheVariants.{Ranked, Dominated, Refused, Other, Uncounted}
use Rattle.monthly_numbers.specs.declared.endings.Ended.{Ended}
use Rattle.monthly_numbers.specs.declared.numbers.Numbers.{Numbers}
use Rattle.monthly_numbers.specs.Endings.{ending}
use Rattle.monthly_numbers.specs.Numbers.{same_ending}

-- ---- of a picture

abbrev pub ending_of : Standing → Ending
ending_of standing.Ranked = Ranked
ending_of standing.Dominated = Dominated
ending_of (standing.Refused x) = Refused

abbrev pub all_lines : List ShownPart → List ShownLine
all_lines ps = flat_map (λ p. p.lines) ps

-- what fixes show, by its lines
abbrev pub parts_of : List Fix → List ShownPart
parts_of fs = map part_of (sort older_than (map shown (transmissions_of fs)))

-- a table of endings by the indices of fixes: what it says of a fix a line says, and it says something of each fix that has one of the lines that were gone through
pub record Told (fs : List Fix) (lines : List ShownLine) (es : List Ending) (done : List ShownLine) : Type 0 where
  pub sound : (j : ℕ) → j < length fs → (get_or es j Uncounted ≡ Uncounted → ⊥) → (l : ShownLine) × Memᴰ l lines × (l.fix ≡ fix_at fs j) × (get_or es j Uncounted ≡ ending_of l.standing)
  pub whole : (l : ShownLine) → Memᴰ l done → (j : ℕ) → j < length fs → fix_at fs j ≡ l.fix → get_or es j Uncounted ≡ Uncounted → ⊥

-- ---- of a held record

-- the ending of the fix that it represents; without one by whether it counts
abbrev pub ending_found : List Ending → Bool → Option ℕ → Ending
ending_found es counted (Some j) = get_or es j Uncounted
ending_found es counted None = cond counted Other Uncounted

-- its own signers, and what became of it
abbrev pub ended_in : Register → List ℕ → Ended
ended_in s p = record { signers = signers_in p; ending = ending s p }

-- ---- of an engine

-- one more that ends so
abbrev pub one_more : Ending → Numbers → Numbers
one_more Ranked n = record n { held = n.held + 1; ranked = n.ranked + 1 }
one_more Dominated n = record n { held = n.held + 1; dominated = n.dominated + 1 }
one_more Refused n = record n { held = n.held + 1; refused = n.refused + 1 }
one_more Other n = record n { held = n.held + 1; other = n.other + 1 }
one_more Uncounted n = record n { held = n.held + 1; uncounted = n.uncounted + 1 }

-- each is below k
pub record Below (k : ℕ) (n : Numbers) : Type 0 where
  pub held : n.held < k
  pub ranked : n.ranked < k
  pub dominated : n.dominated < k
  pub refused : n.refused < k
  pub other : n.other < k
  pub uncounted : n.uncounted < k

-- how many end so
abbrev pub count : List Ended → Ending → ℕ
count l a = length (filter (λ x. same_ending a x.ending) l)

abbrev pub tally : List Ended → Numbers
tally l = record {
  held = length l;
  ranked = count l Ranked;
  dominated = count l Dominated;
  refused = count l Refused;
  other = count l Other;
  uncounted = count l Uncounted;
}

-- of those that an engine signed
unfoldable pub numbers_in : ℕ → List Ended → Numbers
numbers_in e l = tally (filter (λ x. bit x.signers e) l)
