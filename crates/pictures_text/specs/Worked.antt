-- Three lines, worked out by hand.
-- Source: docs/REFERENCE.md, 'All small pictures'.
use Rattle.std.specs.Prelude.{◌≡◌, true, false}
use Rattle.octets.specs.Ascii.{ascii}
use Rattle.pictures_text.specs.Cases.{case_of}
use Rattle.pictures_text.specs.Lines.{line}

pub record LinesWorked : Type 0 where
  -- tag 1 alone of each, and zeros
  pub equal_tags : line (case_of (1, (1, (1, (false, (false, false)))))) ≡ ascii "case=1 ranked=1,2,3 dominated=none refused=none\n"
  -- the tags 1; 1 and 2; 1, 2 and 3: by zeros nothing can be measured
  pub nested_unmeasured : line (case_of (1, (3, (7, (false, (false, false)))))) ≡ ascii "case=161 ranked=1 dominated=none refused=2,3\n"
  -- by the identity all agree
  pub nested_agreeing : line (case_of (1, (3, (7, (true, (true, true)))))) ≡ ascii "case=168 ranked=3 dominated=1,2 refused=none\n"
