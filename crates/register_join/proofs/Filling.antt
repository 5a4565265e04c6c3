-- A table filled place by place from its first, for every width and room: what its bytes are after n places.
use Rattle.std.proofs.Common.{ℕ, suc, ◌+◌, ◌*◌, ◌-◌, ◌≤◌, ◌<◌, ◌≡◌, refl, sym, ap, ap₂, ◌∙◌, List, [], ◌∷◌, ◌++◌, append_assoc, append-nil, arith, length, take, drop, replicate, length-append, take_at, drop_at, add-mul, one-mul, Ok, Err}
use lib.ListN.{length-replicate, replicate-append-replicate}
use Rattle.std.proofs.lemmas.Grind.{common_steps}
use Rattle.errors.specs.declared.Error.TheVariants.{Full}
use Rattle.tables.specs.Places.{flat, table_of}
use Rattle.tables.proofs.Tables.{wide, flat_append, flat-length, table-length}
use Rattle.register_join.specs.Merged.{counted_in}

-- of the places `whole` so many are written at the front of t, and the rest are those that are left
pub record Filled (w cap : ℕ) (whole : List (List ℕ)) (t : List ℕ) (count : ℕ) (rest : List (List ℕ)) : Type 0 where
  pub done : List (List ℕ)
  pub bytes : t ≡ table_of w cap done
  pub counted : count ≡ length done
  pub few : count ≤ cap
  pub each : wide w done
  pub all : whole ≡ done ++ rest

module _ (w cap : ℕ) where
  -- none yet
  pub none-written : (whole : List (List ℕ)) (t : List ℕ) → t ≡ replicate (cap * w) 0 → Filled w cap whole t 0 whole
  unfolding flat
  none-written whole t e = record { done = []; bytes = e ∙ ap (λ (i : ℕ). replicate (i * w) 0) (omega arith); counted = refl; few = omega arith; each = tt; all = refl }

  module _ (whole : List (List ℕ)) (t : List ℕ) (n : ℕ) (rest : List (List ℕ)) (f : Filled w cap whole t n rest) where
    -- one that is not put
    pub passed-by : (after : List (List ℕ)) → rest ≡ after → Filled w cap whole t n after
    passed-by after e = record { done = f.done; bytes = f.bytes; counted = f.counted; few = f.few; each = f.each; all = f.all ∙ ap (λ (l : List (List ℕ)). f.done ++ l) e }

    -- the next has its place in the table
    pub next-inside : n < cap → n * w + w ≤ length t
    next-inside l = room
      where
        parts : cap * w ≡ n * w + w + (cap - suc n) * w
        parts = ap (λ (i : ℕ). i * w) split ∙ add-mul (n + 1) (cap - suc n) w ∙ ap (λ (i : ℕ). i + (cap - suc n) * w) (add-mul n 1 w ∙ ap (λ (i : ℕ). n * w + i) (one-mul w))
          where
            split : cap ≡ n + 1 + (cap - suc n)
            split = omega arith

        size : length t ≡ cap * w
        size = ap length f.bytes ∙ table-length w cap f.done f.each (let c = f.counted in let s = f.few in omega arith)

        room : n * w + w ≤ length t
        room = omega (arith, parts, size)

    -- the next is put behind them
    pub next-written : n < cap → (p : List ℕ) (after : List (List ℕ)) → rest ≡ p ∷ after → length p ≡ w → (t' : List ℕ) → t' ≡ take (n * w) t ++ (p ++ drop (n * w + w) t) → Filled w cap whole t' (n + 1) after
    unfolding flat
    next-written l p after e x t' q = record {
      done = f.done ++ (p ∷ []);
      bytes = q ∙ put;
      counted = grind (arith, common_steps, f.counted);
      few = omega arith;
      each = more f.done f.each;
      all = f.all ∙ ap (λ (r : List (List ℕ)). f.done ++ r) e ∙ sym (append_assoc f.done (p ∷ []) after);
    }
      where
        more : (ps : List (List ℕ)) → wide w ps → wide w (ps ++ (p ∷ []))
        more [] h = (x, tt)
        more (s ∷ ps) h = (h.0, more ps h.1)

        front : length (flat f.done) ≡ n * w
        front = flat-length w f.done f.each ∙ ap (λ (i : ℕ). i * w) (sym f.counted)

        zeros : List ℕ
        zeros = replicate ((cap - suc n) * w) 0

        bytes-are : t ≡ flat f.done ++ (replicate w 0 ++ zeros)
        bytes-are = f.bytes ∙ ap (λ (z : List ℕ). flat f.done ++ z) (ap (λ (i : ℕ). replicate i 0) gap ∙ sym (replicate-append-replicate {A = ℕ} w ((cap - suc n) * w) 0))
          where
            split : cap - length f.done ≡ 1 + (cap - suc n)
            split = let c = f.counted in omega arith

            gap : (cap - length f.done) * w ≡ w + (cap - suc n) * w
            gap = ap (λ (i : ℕ). i * w) split ∙ add-mul 1 (cap - suc n) w ∙ ap (λ (i : ℕ). i + (cap - suc n) * w) (one-mul w)

        low : take (n * w) t ≡ flat f.done
        low = ap (take (n * w)) bytes-are ∙ take_at (flat f.done) (replicate w 0 ++ zeros) (n * w) front

        high : drop (n * w + w) t ≡ zeros
        high =
            ap (drop (n * w + w)) (bytes-are ∙ sym (append_assoc (flat f.done) (replicate w 0) zeros))
            ∙ drop_at (flat f.done ++ replicate w 0) zeros (n * w + w) (length-append (flat f.done) (replicate w 0) ∙ ap₂ (λ (i j : ℕ). i + j) front (length-replicate w 0))

        left-over : cap - suc n ≡ cap - length (f.done ++ (p ∷ []))
        left-over = grind (arith, common_steps, f.counted)

        put : take (n * w) t ++ (p ++ drop (n * w + w) t) ≡ table_of w cap (f.done ++ (p ∷ []))
        put =
            ap₂ (λ (a z : List ℕ). a ++ (p ++ z)) low high
            ∙ sym (append_assoc (flat f.done) p zeros)
            ∙ ap₂ (λ (a z : List ℕ). a ++ z) (ap (λ (z : List ℕ). flat f.done ++ z) (sym (append-nil p)) ∙ sym (flat_append f.done (p ∷ []))) (ap (λ (i : ℕ). replicate (i * w) 0) left-over)

    -- there is no room for the next
    pub no-room : n ≡ cap → (p : List ℕ) (after : List (List ℕ)) → rest ≡ p ∷ after → cap < length whole
    no-room e p after q = grind (arith, common_steps, f.counted, f.all)

    -- there is, where all of them have room
    pub room-for-next : length whole ≤ cap → (p : List ℕ) (after : List (List ℕ)) → rest ≡ p ∷ after → n < cap
    room-for-next l p after q = grind (arith, common_steps, f.counted, f.all)

    -- all are written
    pub all-written : rest ≡ [] → whole ≡ f.done
    all-written e = f.all ∙ ap (λ (l : List (List ℕ)). f.done ++ l) e ∙ append-nil f.done

    pub told-count : rest ≡ [] → Ok n ≡ counted_in cap whole
    told-count e = grind (arith, all-written e, f.counted, f.few)

    pub told-bytes : rest ≡ [] → t ≡ table_of w cap whole
    told-bytes e = f.bytes ∙ ap (table_of w cap) (sym (all-written e))

    pub count-written : rest ≡ [] → n ≡ length whole
    count-written e = f.counted ∙ ap length (sym (all-written e))

-- what is answered where there are more
pub told-full : (cap : ℕ) (whole : List (List ℕ)) → cap < length whole → Err Full ≡ counted_in cap whole
told-full cap whole h = grind arith
