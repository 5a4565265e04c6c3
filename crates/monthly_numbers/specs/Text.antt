-- The text of the monthly numbers: a line for each engine, 0 to 31. Of bytes that are no register it is one line that says so.
-- Source: docs/REFERENCE.md, 'Monthly numbers'.
use Rattle.std.specs.Prelude.{ℕ, suc, ◌*◌, cond}
use mathlib.Core.List.{List, ◌++◌, flat_map}
use Rattle.octets.specs.Ascii.{ascii}
use Rattle.lists.specs.Ordered.{up_to}
use Rattle.text.specs.Numbers.{decimal}
use Rattle.engines.specs.Limits.{max_engine}
use Rattle.register.specs.Register.{Register}
use Rattle.register.specs.Memory.{well_formed, decode}
use Rattle.monthly_numbers.specs.Numbers.{numbers_of}
use Rattle.monthly_numbers.specs.declared.numbers.Numbers.{Numbers}

-- engine=1 held=3 ranked=1 dominated=0 refused=1 other=1 uncounted=0
unfoldable pub line : ℕ → Numbers → List ℕ
line e n =
    (ascii "engine=" ++ decimal e)
    ++ ((ascii " held=" ++ decimal n.held)
    ++ ((ascii " ranked=" ++ decimal n.ranked)
    ++ ((ascii " dominated=" ++ decimal n.dominated)
    ++ ((ascii " refused=" ++ decimal n.refused)
    ++ ((ascii " other=" ++ decimal n.other)
    ++ ((ascii " uncounted=" ++ decimal n.uncounted)
    ++ ascii "\n"))))))

-- the lines of all engines, of which these are the numbers
abbrev pub lines : (ℕ → Numbers) → List ℕ
lines n = flat_map (λ e. line e (n e)) (up_to (suc max_engine))

abbrev pub text_of : Register → List ℕ
text_of s = lines (numbers_of s)

abbrev pub refusal : List ℕ
refusal = ascii "refused=1\n"

-- what is printed of any bytes
abbrev pub printed : List ℕ → List ℕ
printed m = cond (well_formed m) (text_of (decode m)) refusal

-- the most bytes of a line, and of all
abbrev pub line_size : ℕ
line_size = 74

abbrev pub text_size : ℕ
text_size = suc max_engine * line_size
