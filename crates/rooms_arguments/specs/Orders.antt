-- What the words of a call ask for where the first is `--orders` (docs/REFERENCE.md, 'Orders of a session').
use Rattle.std.specs.Prelude.{ℕ, Bool, List, ◌&&◌, ◌==◌, length, codes, slice_index_or, Option, Some, None, if◌then◌else◌, nat_lt, []}
use Rattle.std.specs.Str.{bytes_eq}
use Rattle.rooms_arguments.specs.declared.orders.Orders.{Orders}

-- there is a word at this index, and it is this one
abbrev pub is_word : List (List ℕ) → ℕ → List ℕ → Bool
is_word words index text = nat_lt index (length words) && bytes_eq (slice_index_or words index []) text

-- --orders N FILE, or --orders N --seed S FILE
abbrev pub orders_of : List (List ℕ) → Option Orders
orders_of words =
    if is_word words 0 (codes "--orders") then
    (if length words == 3 then Some (record { count = 1; seed = None; session = 2 })
    else if (length words == 5) && is_word words 2 (codes "--seed") then Some (record { count = 1; seed = Some 3; session = 4 })
    else None)
    else None
