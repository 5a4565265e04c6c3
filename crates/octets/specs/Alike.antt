-- No claim rests on this definition: it says how far a comparison of two strings has to look.
use Rattle.std.specs.Prelude.{ℕ, List, eqb}
use Rattle.std.specs.List.{common_prefix_len}

-- how many bytes at the front are alike
unfoldable pub alike : List ℕ → List ℕ → ℕ
alike a b = common_prefix_len eqb a b
