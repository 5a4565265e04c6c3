-- Laws of put_place, for every key width: where the place goes, what is held and what follows each key afterwards.
use Rattle.std.proofs.Common.{ℕ, suc, ◌+◌, ◌≤◌, ◌<◌, ◌≡◌, refl, Bool, true, false, ◌||◌, List, [], ◌∷◌, ◌++◌, arith, length, get_or, take, drop, set, take_at, drop_at}
use Rattle.std.proofs.lemmas.Grind.{common_steps}
use Rattle.octets.specs.Order.{is_before, same}
use Rattle.std.specs.List.{list_all}
use Rattle.octets.proofs.Comparison.{before-irrefl, before-asym, tri, same_refl, less-same, more_same, same-eq}
use Rattle.tables.specs.Places.{ascending_from, ascending, holds, lookup, put_place}
use Rattle.tables.specs.Positions.{rank, with_place}
use Rattle.tables.proofs.Tables.{wide}
use Rattle.tables.proofs.Keys.{rank-le, holds-at-rank, from-ascending, none_below, absent}

-- ---- where the place goes

-- a key that is not held goes in at its position
pub put-new : (k : ℕ) (f : List ℕ → List ℕ) (key : List ℕ) (ps : List (List ℕ)) → holds k key ps ≡ false → put_place k f key ps ≡ with_place (rank k key ps) (key ++ f []) ps
unfolding put_place rank holds
put-new k f key [] h = refl
put-new k f key (p ∷ ps) h = grind (arith, put-new k f key ps, tri (take k p) key, same_refl key, less-same (take k p) key)

-- one that stands at its position is changed there
pub put-held : (k : ℕ) (f : List ℕ → List ℕ) (key : List ℕ) (ps : List (List ℕ)) → rank k key ps < length ps → take k (get_or ps (rank k key ps) []) ≡ key
    → put_place k f key ps ≡ set ps (rank k key ps) (take k (get_or ps (rank k key ps) []) ++ f (drop k (get_or ps (rank k key ps) [])))
unfolding put_place rank
put-held k f key [] h e = absurd (omega arith)
put-held k f key (p ∷ ps) h e = grind (arith, put-held k f key ps, before-irrefl key)

-- ---- what is held afterwards

module _ (k : ℕ) (f : List ℕ → List ℕ) (key : List ℕ) (l : length key ≡ k) where
  -- the key, and every key that was
  pub holds-put : (q : List ℕ) (ps : List (List ℕ)) → holds k q (put_place k f key ps) ≡ (same key q || holds k q ps)
  unfolding holds put_place
  holds-put q [] = grind (arith, take_at)
  holds-put q (p ∷ ps) = grind (arith, holds-put q ps, tri (take k p) key, before-asym, take_at)

  -- what follows the key is changed, also where nothing did
  pub lookup-put : (ps : List (List ℕ)) → ascending k ps ≡ true → lookup k key (put_place k f key ps) ≡ f (lookup k key ps)
  unfolding lookup put_place ascending
  lookup-put [] a = grind (arith, same_refl, take_at, drop_at)
  lookup-put (p ∷ ps) a =
      grind (arith, lookup-put ps, from-ascending k (take k p) ps, tri (take k p) key, before-asym, take_at, drop_at, same_refl, less-same, more_same, none_below, absent)

  -- what follows another key is not
  pub lookup-put-other : (q : List ℕ) (ps : List (List ℕ)) → same key q ≡ false → lookup k q (put_place k f key ps) ≡ lookup k q ps
  unfolding lookup put_place
  lookup-put-other q [] s = grind (arith, take_at)
  lookup-put-other q (p ∷ ps) s = grind (arith, lookup-put-other q ps, tri (take k p) key, take_at)

  put-from : (from : List ℕ) (ps : List (List ℕ)) → is_before from key ≡ true → ascending_from k from ps ≡ true → ascending_from k from (put_place k f key ps) ≡ true
  unfolding put_place ascending_from
  put-from from [] g a = grind (arith, take_at)
  put-from from (p ∷ ps) g a = grind (arith, put-from (take k p) ps, tri (take k p) key, take_at)

  -- the order is kept
  pub put-ascending : (ps : List (List ℕ)) → ascending k ps ≡ true → ascending k (put_place k f key ps) ≡ true
  unfolding put_place ascending ascending_from
  put-ascending [] a = refl
  put-ascending (p ∷ ps) a = grind (arith, put-from (take k p) ps, tri (take k p) key, take_at)

  -- at most one place more, and none more where the key was held
  pub put-length : (ps : List (List ℕ)) → length (put_place k f key ps) ≤ suc (length ps)
  unfolding put_place
  put-length [] = omega arith
  put-length (p ∷ ps) = grind (arith, put-length ps)

  pub put-length-held : (ps : List (List ℕ)) → ascending k ps ≡ true → holds k key ps ≡ true → length (put_place k f key ps) ≡ length ps
  unfolding put_place holds ascending
  put-length-held [] a h = grind arith
  put-length-held (p ∷ ps) a h =
      grind (arith, put-length-held ps, from-ascending k (take k p) ps, before-asym key (take k p), none_below k key (take k p) ps, less-same (take k p) key, more_same (take k p) key)

  -- places stay as wide as they were
  pub put-wide : (w : ℕ) → ((v : List ℕ) → length v ≡ 0 → k + length (f v) ≡ w) → ((v : List ℕ) → k + length v ≡ w → k + length (f v) ≡ w)
      → (ps : List (List ℕ)) → k ≤ w → wide w ps → wide w (put_place k f key ps)
  unfolding put_place
  put-wide w g h [] m x = grind (arith, common_steps, g [])
  put-wide w g h (p ∷ ps) m x = grind (arith, common_steps, put-wide w g h ps, g [], h (drop k p))

-- a test that the new place and each changed place pass is passed by all
pub put_all : (k : ℕ) (f : List ℕ → List ℕ) (key : List ℕ) (test : List ℕ → Bool) (ps : List (List ℕ)) → test (key ++ f []) ≡ true
    → ((p : List ℕ) → take k p ≡ key → test p ≡ true → test (take k p ++ f (drop k p)) ≡ true) → list_all test ps ≡ true → list_all test (put_place k f key ps) ≡ true
unfolding put_place
put_all k f key test [] g h a = grind arith
put_all k f key test (p ∷ ps) g h a = grind (arith, put_all k f key test ps, h p, tri (take k p) key)

-- ---- where a key stands, and how many places there are

-- a key that is held stands at its position
pub held_at : (k : ℕ) (key : List ℕ) (ps : List (List ℕ)) → ascending k ps ≡ true → holds k key ps ≡ true → (rank k key ps < length ps) × (take k (get_or ps (rank k key ps) []) ≡ key)
held_at k key ps a h = grind (arith, holds-at-rank k key ps, same-eq (take k (get_or ps (rank k key ps) [])) key)

-- a key that is not makes one place more
pub new-length : (k : ℕ) (f : List ℕ → List ℕ) (key : List ℕ) (ps : List (List ℕ)) → holds k key ps ≡ false → length (put_place k f key ps) ≡ length ps + 1
new-length k f key ps h = grind (arith, common_steps, put-new k f key ps, rank-le k key ps)
