-- A counted table in bytes: the used places come first and ascend strictly in the byte order of their keys (a record's place by the record alone), and
-- the rest is zero. A place has w bytes, of which the first k are its key. w, k and the count are arguments: one layer serves every table.
-- Source: docs/REFERENCE.md, 'Register' among the layouts.
use Rattle.std.specs.Prelude.{ℕ, zero, suc, ◌*◌, ◌-◌, Bool, true, cond, ◌&&◌, List, [], ◌∷◌, ◌++◌, length, take, drop, replicate}
use Rattle.std.specs.List.{list_any}
use Rattle.octets.specs.Order.{is_before, same}
use Rattle.octets.specs.Runs.{all_zero}

-- ---- bytes and places

-- the first n places
unfoldable pub places : ℕ → ℕ → List ℕ → List (List ℕ)
places w zero t = []
places w (suc n) t = take w t ∷ places w n (drop w t)

-- the bytes of places, one place after another
unfoldable pub flat : List (List ℕ) → List ℕ
flat [] = []
flat (p ∷ ps) = p ++ flat ps

-- the bytes of a table with room for cap places
abbrev pub table_of : ℕ → ℕ → List (List ℕ) → List ℕ
table_of w cap ps = flat ps ++ replicate ((cap - length ps) * w) 0

-- ---- order

-- the keys ascend strictly, from one that comes before them all
unfoldable pub ascending_from : ℕ → List ℕ → List (List ℕ) → Bool
ascending_from k key [] = true
ascending_from k key (p ∷ ps) = is_before key (take k p) && ascending_from k (take k p) ps

-- the keys ascend strictly
unfoldable pub ascending : ℕ → List (List ℕ) → Bool
ascending k [] = true
ascending k (p ∷ ps) = ascending_from k (take k p) ps

-- n places whose keys ascend strictly, and then zeros
abbrev pub is_table : ℕ → ℕ → ℕ → List ℕ → Bool
is_table k w n t = ascending k (places w n t) && all_zero (drop (n * w) t)

-- some place has this key
unfoldable pub holds : ℕ → List ℕ → List (List ℕ) → Bool
holds k key ps = list_any (λ p. same (take k p) key) ps

-- what follows the key in the first place that has it; nothing where none has
unfoldable pub lookup : ℕ → List ℕ → List (List ℕ) → List ℕ
lookup k key [] = []
lookup k key (p ∷ ps) = cond (same (take k p) key) (drop k p) (lookup k key ps)

-- ---- a table as a map from keys to what follows them

-- what follows a key is changed by f, where nothing stood at a key that was not held
unfoldable pub put_place : ℕ → (List ℕ → List ℕ) → List ℕ → List (List ℕ) → List (List ℕ)
put_place k f key [] = (key ++ f []) ∷ []
put_place k f key (p ∷ ps) =
    cond (is_before (take k p) key) (p ∷ put_place k f key ps)
    (cond (is_before key (take k p)) ((key ++ f []) ∷ (p ∷ ps)) ((take k p ++ f (drop k p)) ∷ ps))

-- the places that pass a test, what follows their keys changed by f
unfoldable pub keep_places : ℕ → (List ℕ → Bool) → (List ℕ → List ℕ) → List (List ℕ) → List (List ℕ)
keep_places k test f [] = []
keep_places k test f (p ∷ ps) = cond (test p) ((take k p ++ f (drop k p)) ∷ keep_places k test f ps) (keep_places k test f ps)
