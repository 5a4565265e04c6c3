-- No claim rests on these definitions: they say which case has so many before it.
use Rattle.std.specs.Prelude.{ℕ, ◌+◌, ◌/◌, ◌%◌, Bool, eqb}
use Rattle.pictures_text.specs.declared.Case.{Case}
use Rattle.pictures_text.specs.Cases.{Choice, case_of}

-- the set of tags, and the covariance, that has so many before it
abbrev pub mask_at : ℕ → ℕ
mask_at i = 1 + i

abbrev pub covariance_at : ℕ → Bool
covariance_at i = eqb i 1

abbrev pub choice_at : ℕ → Choice
choice_at k =
    let second = k % 392 in
    let third = second % 56 in
    let units = third % 8 in
    (mask_at (k / 392), (mask_at (second / 56), (mask_at (third / 8), (covariance_at (units / 4), (covariance_at (units % 4 / 2), covariance_at (units % 4 % 2))))))

abbrev pub case_at : ℕ → Case
case_at k = case_of (choice_at k)
