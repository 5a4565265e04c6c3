-- Orders of a list of calls, one after another.
use Rattle.std.proofs.Common.{◌≡◌, ◌∙◌, ap, ap₂, sym, refl, ℕ, ◌+◌, ◌<◌, Bool, true, false, not, if◌then◌else◌, cond, count_by, length, arith, add-one, subst}
use Rattle.std.proofs.lemmas.List.Sums.{sum_by-cons}
use mathlib.Core.List.{List, [], ◌∷◌, map, Memᴰ, Permᴰ}
use mathlib.Core.List.Permᴰ
use Rattle.lists.proofs.Bools.{by}
use Rattle.octets.specs.Order.{same}
use Rattle.octets.proofs.Comparison.{same_refl}
use Rattle.register.specs.Memory.{fresh}
use Rattle.register.specs.Calls.{Call, none_full, elem, nub}
use Rattle.register.proofs.Whole.{decoded, same-summaries, same-records}
use Rattle.board.specs.Board.{board_of}
use Rattle.board.specs.Full.{board_in}
use Rattle.orders.proofs.Rearranged.{same-remains}
use Rattle.rand_core.specs.Stream.{Stream}
use Rattle.rand.specs.Shuffle.{shuffled}
use Rattle.rooms_orders.specs.Tried.{board_after, listing_after, is_refused_as_full, with_text, drawn_from, shuffled_times, orders_from, Tried}
use Rattle.rooms_orders.specs.declared.trying.Outcome.{Outcome}
use Rattle.rooms_orders.proofs.Held.{Seen, seen-none, seen-more, elem-here, elem-none}

-- ---- how many of a list do not pass a test

zero-first : (m : ℕ) → 0 + m ≡ m
zero-first m = omega arith

zero-last : (m : ℕ) → m + 0 ≡ m
zero-last m = omega arith

one-first : (m : ℕ) → m + 1 ≡ 1 + m
one-first m = omega arith

apart : (n : ℕ) → 1 + n ≡ 0 → ⊥
apart n k = omega arith

abbrev count_out : {X : Type 0} → (X → Bool) → List X → ℕ
count_out q l = count_by (λ y. not (q y)) l

module _ {X : Type 0} (q : X → Bool) (x : X) (xs : List X) where
  counted : count_out q (x ∷ xs) ≡ cond (not (q x)) 1 0 + count_out q xs
  counted = sum_by-cons (λ y. cond (not (q y)) 1 0) x xs

  counted-yes : q x ≡ true → count_out q (x ∷ xs) ≡ count_out q xs
  counted-yes h = counted ∙ ap (λ (b : Bool). cond (not b) 1 0 + count_out q xs) h ∙ zero-first (count_out q xs)

  counted-no : q x ≡ false → count_out q (x ∷ xs) ≡ 1 + count_out q xs
  counted-no h = counted ∙ ap (λ (b : Bool). cond (not b) 1 0 + count_out q xs) h

  more : (n : ℕ) → n ≡ count_out q xs → n + (if q x then 0 else 1) ≡ count_out q (x ∷ xs)
  more n e =
      by (q x)
      (λ h. ap (λ (b : Bool). n + (if b then 0 else 1)) h ∙ zero-last n ∙ e ∙ sym (counted-yes h))
      (λ h. ap (λ (b : Bool). n + (if b then 0 else 1)) h ∙ one-first n ∙ ap (λ (m : ℕ). 1 + m) e ∙ sym (counted-no h))

  all_pass : count_out q (x ∷ xs) ≡ 0 → (q x ≡ true) × (count_out q xs ≡ 0)
  all_pass e = by (q x) (λ h. (h, sym (counted-yes h) ∙ e)) (λ h. absurd (apart (count_out q xs) (sym (counted-no h) ∙ e)))

-- ---- so many orders

times-more : (cs : List Call) (s : Stream) (n : ℕ) → shuffled_times cs s (n + 1) ≡ shuffled (shuffled_times cs s n).0 0 (shuffled_times cs s n).1
unfolding shuffled_times
times-more cs s n = rw (add-one n) refl

orders-more : (cs : List Call) (s : Stream) (n : ℕ) → orders_from cs s (n + 1) ≡ (shuffled_times cs s (n + 1)).0 ∷ orders_from cs s n
unfolding orders_from
orders-more cs s n = rw (add-one n) refl

-- what is known after so many orders: the calls as they stand now with what is left to draw, the boards and listings that are held, and how many orders have a call
-- that is refused as full
pub record SoFar (cs : List Call) (s : Stream) (count : ℕ) (now : List Call × Stream) (boards listings : List (List ℕ)) (full : ℕ) : Type 0 where
  pub drawn : now ≡ shuffled_times cs s count
  pub now_rearranged : Permᴰ cs now.0
  pub as_many : length (orders_from cs s count) ≡ count
  pub rearranged : (ds : List Call) → Memᴰ ds (orders_from cs s count) → Permᴰ cs ds
  pub boards_held : Seen (map board_after (orders_from cs s count)) boards
  pub listings_held : Seen (map listing_after (orders_from cs s count)) listings
  pub counted : full ≡ count_by is_refused_as_full (orders_from cs s count)

pub start : (cs : List Call) (s : Stream) (bs ls : List (List ℕ)) → bs ≡ [] → ls ≡ [] → SoFar cs s 0 (cs, s) bs ls 0
unfolding shuffled_times orders_from
start cs s bs ls b l = record {
  drawn = refl;
  now_rearranged = Permᴰ.refl cs;
  as_many = refl;
  rearranged = λ ds m. elim m [ ];
  boards_held = rw b seen-none;
  listings_held = rw l seen-none;
  counted = refl;
}

module _ (cs : List Call) (s : Stream) (n : ℕ) (now : List Call × Stream) (boards listings : List (List ℕ)) (full : ℕ) (k : SoFar cs s n now boards listings full) where
  pub turn : (ds : List Call) (t : Stream) → (ds, t) ≡ shuffled now.0 0 now.1 → Permᴰ now.0 ds
      → (bs ls : List (List ℕ)) → bs ≡ with_text (board_after ds) boards → ls ≡ with_text (listing_after ds) listings
      → (f : ℕ) → f ≡ full + (if none_full fresh ds then 0 else 1) → SoFar cs s (n + 1) (ds, t) bs ls f
  turn ds t d p bs ls b l f e =
      let q = Permᴰ.trans k.now_rearranged p in
      let now_drawn : (ds, t) ≡ shuffled_times cs s (n + 1) =
      d ∙ ap (λ (m : List Call × Stream). shuffled m.0 0 m.1) k.drawn ∙ sym (times-more cs s n) in
      let os = orders_from cs s n in
      let are : orders_from cs s (n + 1) ≡ ds ∷ os = orders-more cs s n ∙ ap (λ (m : List Call × Stream). m.0 ∷ os) (sym now_drawn) in
      record {
        drawn = now_drawn;
        now_rearranged = q;
        as_many = rw are (let a = k.as_many in omega (arith, a));
        rearranged = rw are (all q);
        boards_held = rw are (seen-more (board_after ds) (map board_after os) boards k.boards_held bs b);
        listings_held = rw are (seen-more (listing_after ds) (map listing_after os) listings k.listings_held ls l);
        counted = rw are (e ∙ more (none_full fresh) ds os full k.counted);
      }
    where
      all : Permᴰ cs ds → (es : List Call) → Memᴰ es (ds ∷ orders_from cs s n) → Permᴰ cs es
      all q es (Memᴰ.head h) = subst (Permᴰ cs) (sym h) q
      all q es (Memᴰ.tail m) = k.rearranged es m

-- ---- one board

module _ (ds es : List Call) (p : Permᴰ ds es) (f : none_full fresh ds ≡ true) (g : none_full fresh es ≡ true) where
  pub one-board : board_after ds ≡ board_after es
  one-board =
      let q = same-remains p in
      ap board_in (decoded ds f) ∙ ap₂ board_of (same-summaries ds es f g q) (same-records ds es f g q) ∙ sym (ap board_in (decoded es g))

none-full : (os : List (List Call)) → count_by is_refused_as_full os ≡ 0 → (ds : List Call) → Memᴰ ds os → none_full fresh ds ≡ true
none-full [] h ds m = elim m [ ]
none-full (es ∷ os) h ds (Memᴰ.head e) = ap (none_full fresh) e ∙ (all_pass (none_full fresh) es os h).0
none-full (es ∷ os) h ds (Memᴰ.tail m) = none-full os (all_pass (none_full fresh) es os h).1 ds m

one-text : (t : List ℕ) (os : List (List Call)) → ((ds : List Call) → Memᴰ ds os → board_after ds ≡ t) → nub (t ∷ map board_after os) ≡ t ∷ []
unfolding nub
one-text t [] h = rw (elem-none t) refl
one-text t (ds ∷ os) h =
    let b = board_after ds in
    let is : b ≡ t = h ds (Memᴰ.head refl) in
    let here : elem t (b ∷ map board_after os) ≡ true = elem-here t b (map board_after os) (ap (λ (z : List ℕ). same z t) is ∙ same_refl t) in
    rw here (ap (λ (z : List ℕ). nub (z ∷ map board_after os)) is ∙ one-text t os (λ es m. h es (Memᴰ.tail m)))

-- where none of the orders is refused as full, there is one board
pub boards-one : (cs : List Call) (os : List (List Call)) → ((ds : List Call) → Memᴰ ds os → Permᴰ cs ds) → count_by is_refused_as_full os ≡ 0 → 0 < length os
    → length (nub (map board_after os)) ≡ 1
boards-one cs [] p f h = absurd (none h)
  where
    none : 0 < 0 → ⊥
    none h = omega arith
boards-one cs (ds ∷ os) p f h =
    let free = none-full (ds ∷ os) f in
    let first = p ds (Memᴰ.head refl) in
    ap length (one-text (board_after ds) os
    (λ es m. one-board es ds (Permᴰ.trans (Permᴰ.symm (p es (Memᴰ.tail m))) first) (free es (Memᴰ.tail m)) (free ds (Memᴰ.head refl))))

pub one : (cs : List Call) (s : Stream) (n : ℕ) (now : List Call × Stream) (boards listings : List (List ℕ)) (full : ℕ)
    → SoFar cs s n now boards listings full → full ≡ 0 → 0 < n → length boards ≡ 1
one cs s n now boards listings full k f h =
    let a = k.as_many in
    k.boards_held.count ∙ boards-one cs (orders_from cs s n) k.rearranged (sym k.counted ∙ f) (omega (arith, a, h))

-- what came of all of them
pub tried : (cs : List Call) (seed n count : ℕ) (now : List Call × Stream) (boards listings : List (List ℕ)) (full : ℕ)
    → SoFar cs (drawn_from seed) n now boards listings full → n ≡ count
    → (o : Outcome) → o.boards ≡ length boards → o.listings ≡ length listings → o.full ≡ full → Tried cs count seed o
tried cs seed n count now boards listings full k e o b l f =
    subst (λ (m : ℕ). Tried cs m seed o) e
    (record {
      as_many = k.as_many;
      rearranged = k.rearranged;
      boards = b ∙ k.boards_held.count;
      listings = l ∙ k.listings_held.count;
      full = f ∙ k.counted;
    })
