-- Laws of kept_places, for every key width: what is held and what follows each key afterwards, and the loop that moves the places that stay down over
-- those that go.
use Rattle.std.proofs.Common.{ℕ, ◌+◌, ◌*◌, ◌≤◌, ◌<◌, ◌≡◌, refl, Bool, true, false, cond, ◌&&◌, List, [], ◌∷◌, ◌++◌, append-nil, append_assoc, arith, mul-le-mul_right, zero-mul, one-mul, add-mul, add-one, length, get_or, take, drop, take-append-drop, length-append, take_at, take-suc, drop-drop, length-take-le}
use Rattle.std.proofs.lemmas.Grind.{common_steps}
use Rattle.std.proofs.lemmas.Slice.{drop-append-drop}
use Rattle.std.specs.List.{list_all}
use Rattle.octets.proofs.Comparison.{before-irrefl, same-eq}
use Rattle.tables.specs.Places.{flat, ascending_from, ascending, holds, lookup, keep_places}
use Rattle.tables.proofs.Tables.{wide, flat_append}
use Rattle.tables.proofs.Keys.{from-weaken, from-ascending, none_below, absent}

module _ (k : ℕ) (test : List ℕ → Bool) (f : List ℕ → List ℕ) where
  -- a place with what follows its key changed
  abbrev pub changed : List ℕ → List ℕ
  changed p = take k p ++ f (drop k p)

  pub kept-length : (ps : List (List ℕ)) → length (keep_places k test f ps) ≤ length ps
  unfolding keep_places
  kept-length [] = omega arith
  kept-length (p ∷ ps) = grind (arith, kept-length ps)

  kept_append : (ps qs : List (List ℕ)) → keep_places k test f (ps ++ qs) ≡ keep_places k test f ps ++ keep_places k test f qs
  unfolding keep_places
  kept_append [] qs = refl
  kept_append (p ∷ ps) qs = grind (arith, kept_append ps qs)

  -- a test that each changed place passes is passed by all that stay
  pub kept-all : (before after : List ℕ → Bool) → ((p : List ℕ) → before p ≡ true → test p ≡ true → after (changed p) ≡ true)
      → (ps : List (List ℕ)) → list_all before ps ≡ true → list_all after (keep_places k test f ps) ≡ true
  unfolding keep_places
  kept-all before after g [] a = refl
  kept-all before after g (p ∷ ps) a = grind (arith, g p, kept-all before after g ps)

  module _ (w : ℕ) (m : k ≤ w) (g : (v : List ℕ) → k + length v ≡ w → k + length (f v) ≡ w) where
    pub changed-key : (p : List ℕ) → length p ≡ w → take k (changed p) ≡ take k p
    changed-key p e = grind (arith, common_steps)

    pub changed-rest : (p : List ℕ) → length p ≡ w → drop k (changed p) ≡ f (drop k p)
    changed-rest p e = grind (arith, common_steps)

    pub changed-length : (p : List ℕ) → length p ≡ w → length (changed p) ≡ w
    changed-length p e = grind (arith, common_steps, g (drop k p))

    pub kept-wide : (ps : List (List ℕ)) → wide w ps → wide w (keep_places k test f ps)
    unfolding keep_places
    kept-wide [] x = tt
    kept-wide (p ∷ ps) x = grind (arith, kept-wide ps, changed-length p)

    kept_from : (from : List ℕ) (ps : List (List ℕ)) → wide w ps → ascending_from k from ps ≡ true → ascending_from k from (keep_places k test f ps) ≡ true
    unfolding keep_places ascending_from
    kept_from from [] x a = refl
    kept_from from (p ∷ ps) x a = grind (arith, kept_from (take k p) ps, changed-key p, from-weaken k from (take k p) (keep_places k test f ps))

    -- the order is kept
    pub kept-ascending : (ps : List (List ℕ)) → wide w ps → ascending k ps ≡ true → ascending k (keep_places k test f ps) ≡ true
    unfolding keep_places ascending
    kept-ascending [] x a = refl
    kept-ascending (p ∷ ps) x a = grind (arith, kept_from (take k p) ps, changed-key p, from-ascending k (take k p) (keep_places k test f ps))

    -- a key stays held where its place passes
    pub holds_kept : (key : List ℕ) (ps : List (List ℕ)) → wide w ps → ascending k ps ≡ true
        → holds k key (keep_places k test f ps) ≡ (holds k key ps && test (key ++ lookup k key ps))
    unfolding keep_places holds lookup ascending
    holds_kept key [] x a = refl
    holds_kept key (p ∷ ps) x a = grind (
      arith,
      holds_kept key ps,
      from-ascending k (take k p) ps,
      same-eq (take k p) key,
      before-irrefl key,
      none_below k key (take k p) (keep_places k test f ps),
      kept_from (take k p) ps,
      changed-key p,
      take-append-drop k p,
    )

    -- and what follows it is changed
    pub lookup-kept : (key : List ℕ) (ps : List (List ℕ)) → wide w ps → ascending k ps ≡ true
        → lookup k key (keep_places k test f ps) ≡ cond (holds k key ps && test (key ++ lookup k key ps)) (f (lookup k key ps)) []
    unfolding keep_places holds lookup ascending
    lookup-kept key [] x a = refl
    lookup-kept key (p ∷ ps) x a = grind (
      arith,
      lookup-kept key ps,
      from-ascending k (take k p) ps,
      same-eq (take k p) key,
      before-irrefl key,
      none_below k key (take k p) (keep_places k test f ps),
      absent k key (keep_places k test f ps),
      kept_from (take k p) ps,
      changed-key p,
      changed-rest p,
      take-append-drop k p,
    )

    -- ---- the loop: i places of t₀ are seen, and the j that stay stand in front

    pub record Compacted (ps : List (List ℕ)) (t₀ t : List ℕ) (i j : ℕ) : Type 0 where
      pub done : take (j * w) t ≡ flat (keep_places k test f (take i ps))
      pub count : j ≡ length (keep_places k test f (take i ps))
      pub rest : drop (i * w) t ≡ drop (i * w) t₀
      pub few : j ≤ i
      pub size : length t ≡ length t₀

    pub compact-none : (ps : List (List ℕ)) (t : List ℕ) → Compacted ps t t 0 0
    unfolding keep_places flat
    compact-none ps t = record { done = rw (zero-mul w) refl; count = refl; rest = refl; few = omega arith; size = refl }

    module _ (ps : List (List ℕ)) (t₀ t : List ℕ) (i j : ℕ) (h : i < length ps) (c : Compacted ps t₀ t i j) where
      next : keep_places k test f (take (i + 1) ps) ≡ keep_places k test f (take i ps) ++ cond (test (get_or ps i [])) (changed (get_or ps i []) ∷ []) []
      unfolding keep_places
      next = rw (add-one i, take-suc ps i [] h) (grind (arith, kept_append (take i ps)))

      further : drop ((i + 1) * w) t ≡ drop ((i + 1) * w) t₀
      further = grind (arith, common_steps, c.rest, drop-drop w (i * w) t, drop-drop w (i * w) t₀)

      -- a place that goes
      pub compact-gone : test (get_or ps i []) ≡ false → Compacted ps t₀ t (i + 1) j
      compact-gone b = record {
        done = grind (arith, c.done, next, append-nil);
        count = grind (arith, c.count, next, append-nil);
        rest = further;
        few = omega arith;
        size = c.size;
      }

      -- a place that stays, put behind those that do
      pub compact-stays : (t' : List ℕ) → test (get_or ps i []) ≡ true → length (changed (get_or ps i [])) ≡ w → (i + 1) * w ≤ length t
          → t' ≡ take (j * w) t ++ (changed (get_or ps i []) ++ drop (j * w + w) t) → Compacted ps t₀ t' (i + 1) (j + 1)
      unfolding flat
      compact-stays t' b l room q =
          let p = take (j * w) t ++ changed (get_or ps i []) in
          let m : j * w ≤ i * w = mul-le-mul_right w c.few in
          let front : length (take (j * w) t) ≡ j * w = length-take-le (j * w) t (omega arith) in
          let e : length p ≡ j * w + w = rw (length-append, front, l) refl in
          let q' : t' ≡ p ++ drop (j * w + w) t = rw append_assoc q in
          record {
            done = rw (q', add-mul j 1 w, one-mul w, take_at p (drop (j * w + w) t) (j * w + w) e, next, b, flat_append, append-nil, c.done) refl;
            count = grind (arith, common_steps, c.count, next);
            rest = rw q' (rw (drop-append-drop (j * w + w) t p ((i + 1) * w) (omega arith) e) further);
            few = omega arith;
            size = grind (arith, common_steps, c.size, front);
          }
