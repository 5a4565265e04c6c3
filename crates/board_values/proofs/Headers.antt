-- The text of a board is what its entries say: the header of a transmission counts the entries of its number.
use Rattle.std.proofs.Common.{ℕ, suc, ◌+◌, ◌≤◌, ◌<◌, ◌≡◌, refl, sym, ap, ap₂, ◌∙◌, max, Bool, true, false, List, [], ◌∷◌, ◌++◌, append_assoc, append-nil, map, flat_map, length, eqb, eq-eqb, ne_eqb, arith}
use mathlib.Core.List.Memᴰ
use mathlib.Core.List.{Memᴰ}
use Rattle.std.specs.List.{filter}
use Rattle.std.proofs.lemmas.List.{length-map}
use Rattle.std.proofs.lemmas.List.Elements.{filter-append}
use Rattle.std.proofs.lemmas.Grind.{flat_map-append}
use Rattle.lists.specs.Ordered.{count_from}
use Rattle.arithmetic.specs.declared.standing.ChiSquare.{ChiSquare}
use Rattle.decision_rule.specs.Outcome.{Refused as RefusedFix}
use Rattle.fixes.specs.Fix.{Fix}
use Rattle.fixes.specs.Shown.{Transmission}
use Rattle.fix_lines.specs.declared.Standing.TheVariants.{Ranked, Dominated}
use Rattle.fix_lines.specs.Lines.{header}
use Rattle.fix_lines.specs.Text.{ranked_text, dominated_text, refused_text, text_of, text_from}
use Rattle.board.specs.Board.{board_of}
use Rattle.board.proofs.Shortest.{all-ranked}
use Rattle.board_fixes.specs.Fixes.{fixes_of}
use Rattle.board_picture.specs.Picture.{picture}
use Rattle.register.specs.Register.{Register}
use Rattle.board_values.specs.Entries.{Entry, entry, refused_entry, fixes_shown, entries_of, entries_from, entries_shown}
use Rattle.board_values.specs.Claims.{entries, on_board, line_said, lines_of, entries_numbered, with_role, transmission_said, greatest_number, EntriesSayBoard}
use Rattle.board_values.proofs.Drawing.{flat-map}
use Rattle.board_values.proofs.Said.{lines-said}

-- ---- entries that pass a test

all-pass : {A : Type 0} (test : Entry → Bool) (h : A → Entry) (l : List A) → ((x : A) → test (h x) ≡ true) → filter test (map h l) ≡ map h l
all-pass test h [] w = refl
all-pass test h (x ∷ l) w = rw (w x) (ap (λ es. h x ∷ es) (all-pass test h l w))

none-pass : {A : Type 0} (test : Entry → Bool) (h : A → Entry) (l : List A) → ((x : A) → test (h x) ≡ false) → filter test (map h l) ≡ []
none-pass test h [] w = refl
none-pass test h (x ∷ l) w = rw (w x) (none-pass test h l w)

-- ---- the entries of a transmission

module _ (ps : List (List ℕ)) (number before : ℕ) (t : Transmission) where
  abbrev ranked_entry : Fix → Entry
  ranked_entry f = entry ps number before (fixes_shown t) Ranked f f

  abbrev dominated_entry : Fix → Entry
  dominated_entry f = entry ps number before (fixes_shown t) Dominated f f

  abbrev refusal : RefusedFix Fix ChiSquare → Entry
  refusal = refused_entry ps number before (fixes_shown t)

  -- what passes of each of the three parts
  by-parts : (test : Entry → Bool) (x y z : List Entry) → filter test (map ranked_entry t.ranked) ≡ x → filter test (map dominated_entry t.dominated) ≡ y
      → filter test (map refusal t.refused) ≡ z → filter test (entries_of ps number before t) ≡ x ++ (y ++ z)
  by-parts test x y z a b c =
      filter-append test (map ranked_entry t.ranked) (map dominated_entry t.dominated ++ map refusal t.refused)
      ∙ ap₂ (λ u v. u ++ v) a (filter-append test (map dominated_entry t.dominated) (map refusal t.refused) ∙ ap₂ (λ u v. u ++ v) b c)

  -- by their number
  all-numbered : entries_numbered number (entries_of ps number before t) ≡ entries_of ps number before t
  all-numbered =
      let e : eqb number number ≡ true = eq-eqb number number refl in
      by-parts _ _ _ _ (all-pass _ ranked_entry t.ranked (λ f. e)) (all-pass _ dominated_entry t.dominated (λ f. e)) (all-pass _ refusal t.refused (λ r. e))

  none-numbered : (other : ℕ) → eqb number other ≡ false → entries_numbered other (entries_of ps number before t) ≡ []
  none-numbered other e =
      by-parts _ _ _ _ (none-pass _ ranked_entry t.ranked (λ f. e)) (none-pass _ dominated_entry t.dominated (λ f. e)) (none-pass _ refusal t.refused (λ r. e))

  -- by their role
  ranked-counted : with_role 0 (entries_of ps number before t) ≡ length t.ranked
  ranked-counted =
      ap length (by-parts _ _ _ _ (all-pass _ ranked_entry t.ranked (λ f. refl)) (none-pass _ dominated_entry t.dominated (λ f. refl)) (none-pass _ refusal t.refused (λ r. refl)))
      ∙ ap length (append-nil (map ranked_entry t.ranked)) ∙ length-map t.ranked ranked_entry

  dominated-counted : with_role 1 (entries_of ps number before t) ≡ length t.dominated
  dominated-counted =
      ap length (by-parts _ _ _ _ (none-pass _ ranked_entry t.ranked (λ f. refl)) (all-pass _ dominated_entry t.dominated (λ f. refl)) (none-pass _ refusal t.refused (λ r. refl)))
      ∙ ap length (append-nil (map dominated_entry t.dominated)) ∙ length-map t.dominated dominated_entry

  refused-counted : with_role 2 (entries_of ps number before t) ≡ length t.refused
  refused-counted =
      ap length (by-parts _ _ _ _ (none-pass _ ranked_entry t.ranked (λ f. refl)) (none-pass _ dominated_entry t.dominated (λ f. refl)) (all-pass _ refusal t.refused (λ r. refl)))
      ∙ length-map t.refused refusal

-- of transmissions with later numbers none has this one
none-later : (ps : List (List ℕ)) (k number before : ℕ) (ts : List Transmission) → k < number → entries_numbered k (entries_from ps number before ts) ≡ []
unfolding entries_from
none-later ps k number before [] h = refl
none-later ps k number before (t ∷ ts) h =
    let next = before + (length t.ranked + (length t.dominated + length t.refused)) in
    filter-append (λ (e : Entry). eqb e.number k) (entries_of ps number before t) (entries_from ps (suc number) next ts)
    ∙ ap₂ (λ u v. u ++ v) (none-numbered ps number before t k (ne_eqb number k (λ e. omega (arith, e)))) (none-later ps k (suc number) next ts (omega arith))

-- ---- the greatest number

greatest-append : (es ds : List Entry) → greatest_number (es ++ ds) ≡ max (greatest_number es) (greatest_number ds)
unfolding greatest_number
greatest-append [] ds = omega arith
greatest-append (e ∷ es) ds = let r = greatest-append es ds in omega (arith, r)

greatest-few : {A : Type 0} (h : A → Entry) (number : ℕ) (l : List A) → ((x : A) → (h x).number ≡ number) → greatest_number (map h l) ≤ number
unfolding greatest_number
greatest-few h number [] w = omega arith
greatest-few h number (x ∷ l) w = let r = greatest-few h number l w in let e = w x in omega (arith, r, e)

greatest-some : {A : Type 0} (h : A → Entry) (number : ℕ) (l : List A) → ((x : A) → (h x).number ≡ number) → 0 < length l → greatest_number (map h l) ≡ number
unfolding greatest_number
greatest-some h number [] w some = absurd (omega arith)
greatest-some h number (x ∷ l) w some = let r = greatest-few h number l w in let e = w x in omega (arith, r, e)

greatest-of : (ps : List (List ℕ)) (number before : ℕ) (t : Transmission) → 0 < length t.ranked → greatest_number (entries_of ps number before t) ≡ number
greatest-of ps number before t some =
    let a = map (ranked_entry ps number before t) t.ranked in
    let b = map (dominated_entry ps number before t) t.dominated in
    let c = map (refusal ps number before t) t.refused in
    let u = greatest-append a (b ++ c) in
    let v = greatest-append b c in
    let x = greatest-some (ranked_entry ps number before t) number t.ranked (λ f. refl) some in
    let y = greatest-few (dominated_entry ps number before t) number t.dominated (λ f. refl) in
    let z = greatest-few (refusal ps number before t) number t.refused (λ r. refl) in
    omega (arith, u, v, x, y, z)

-- each transmission has an entry, so the greatest number is how many there are
greatest-from : (ps : List (List ℕ)) (number before : ℕ) (ts : List Transmission) → ((t : Transmission) → Memᴰ t ts → 0 < length t.ranked)
    → max number (greatest_number (entries_from ps (suc number) before ts)) ≡ number + length ts
unfolding entries_from greatest_number
greatest-from ps number before [] w = omega arith
greatest-from ps number before (t ∷ ts) w =
    let next = before + (length t.ranked + (length t.dominated + length t.refused)) in
    let a = greatest-append (entries_of ps (suc number) before t) (entries_from ps (suc (suc number)) next ts) in
    let b = greatest-of ps (suc number) before t (w t (Memᴰ.head refl)) in
    let c = greatest-from ps (suc number) next ts (λ u m. w u (Memᴰ.tail m)) in
    omega (arith, a, b, c)

-- ---- the text

joined : (l : List (List ℕ)) (m : List Entry) (say : Entry → List ℕ) → map say m ≡ l → flat_map say m ≡ flat_map (λ (x : List ℕ). x) l
joined l m say e = sym (flat-map (λ (x : List ℕ). x) say m) ∙ ap (flat_map (λ (x : List ℕ). x)) e

lines-joined : (number : ℕ) (t : Transmission) → flat_map (λ (x : List ℕ). x) (lines_of number t)
    ≡ flat_map ranked_text t.ranked ++ (flat_map dominated_text t.dominated ++ flat_map refused_text t.refused)
lines-joined number t =
    let id = λ (x : List ℕ). x in
    flat_map-append id (map ranked_text t.ranked) (map dominated_text t.dominated ++ map refused_text t.refused)
    ∙ ap₂ (λ u v. u ++ v) (flat-map id ranked_text t.ranked)
    (flat_map-append id (map dominated_text t.dominated) (map refused_text t.refused)
    ∙ ap₂ (λ u v. u ++ v) (flat-map id dominated_text t.dominated) (flat-map id refused_text t.refused))

module _ (s : Register) where
  part : (number before : ℕ) (t : Transmission) → Memᴰ t (on_board s) → transmission_said s.records number (entries_of s.records number before t) ≡ text_of number t
  unfolding text_of mathlib.Core.List.flat_map
  part number before t m =
      let ps = s.records in
      ap₂ (λ x y. x ++ y)
      (ap (λ k. header number k (with_role 1 (entries_of ps number before t)) (with_role 2 (entries_of ps number before t))) (ranked-counted ps number before t)
      ∙ ap (λ k. header number (length t.ranked) k (with_role 2 (entries_of ps number before t))) (dominated-counted ps number before t)
      ∙ ap (λ k. header number (length t.ranked) (length t.dominated) k) (refused-counted ps number before t))
      (joined (lines_of number t) (entries_of ps number before t) (line_said ps) (lines-said s number before t m) ∙ lines-joined number t)

  -- behind entries whose numbers are lower
  whole : (ts : List Transmission) (number before : ℕ) (front : List Entry) → ((t : Transmission) → Memᴰ t ts → Memᴰ t (on_board s))
      → ((k : ℕ) → number ≤ k → entries_numbered k front ≡ [])
      → flat_map (λ k. transmission_said s.records k (entries_numbered k (front ++ entries_from s.records number before ts))) (count_from number (length ts)) ≡ text_from number ts
  unfolding entries_from count_from text_from
  whole [] number before front w low = refl
  whole (t ∷ ts) number before front w low =
      let ps = s.records in
      let next = before + (length t.ranked + (length t.dominated + length t.refused)) in
      let es = entries_of ps number before t in
      let rest = entries_from ps (suc number) next ts in
      let own : entries_numbered number (front ++ (es ++ rest)) ≡ es =
      filter-append (λ (e : Entry). eqb e.number number) front (es ++ rest)
      ∙ ap₂ (λ u v. u ++ v) (low number (omega arith))
      (filter-append (λ (e : Entry). eqb e.number number) es rest ∙ ap₂ (λ u v. u ++ v) (all-numbered ps number before t) (none-later ps number (suc number) next ts (omega arith)))
      ∙ append-nil es in
      let passed : (k : ℕ) → suc number ≤ k → entries_numbered k (front ++ es) ≡ [] = λ k h.
      filter-append (λ (e : Entry). eqb e.number k) front es
      ∙ ap₂ (λ u v. u ++ v) (low k (omega arith)) (none-numbered ps number before t k (ne_eqb number k (λ e. omega (arith, e)))) in
      ap₂ (λ x y. x ++ y)
      (ap (transmission_said ps number) own ∙ part number before t (w t (Memᴰ.head refl)))
      (ap (λ ds. flat_map (λ k. transmission_said ps k (entries_numbered k ds)) (count_from (suc number) (length ts))) (sym (append_assoc front es rest))
      ∙ whole ts (suc number) next (front ++ es) (λ u m. w u (Memᴰ.tail m)) passed)

pub say-board : EntriesSayBoard
unfolding board_of picture entries_shown
say-board s =
    let ps = s.records in
    let ranked : (t : Transmission) → Memᴰ t (on_board s) → 0 < length t.ranked = all-ranked (fixes_of s.summaries ps) in
    let e = greatest-from ps 0 0 (on_board s) ranked in
    let last : greatest_number (entries s) ≡ length (on_board s) = omega (arith, e) in
    sym (ap (λ n. flat_map (λ k. transmission_said ps k (entries_numbered k (entries s))) (count_from 1 n)) last ∙ whole s (on_board s) 1 0 [] (λ t m. m) (λ k h. refl))
