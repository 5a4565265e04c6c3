-- What is lacking, place by place: the next of a table, and what a search for a record's signers finds.
use Rattle.std.proofs.Common.{ℕ, ◌+◌, ◌≤◌, ◌<◌, ◌≡◌, refl, sym, ap, ◌∙◌, true, false, List, [], ◌∷◌, ◌++◌, arith, add-one, length, get_or, take, drop, drop-cons, drop_of_length-le, Ok, Err}
use Rattle.lists.proofs.Bools.{by}
use Rattle.octets.specs.Order.{is_before, same}
use Rattle.octets.specs.Words.{word}
use Rattle.octets.proofs.Comparison.{before-irrefl, before-asym, tri, same-eq, same_refl}
use Rattle.tables.specs.Places.{ascending, holds, lookup, keep_places, table_of}
use Rattle.tables.specs.Positions.{rank}
use Rattle.tables.specs.Tables.{sought}
use Rattle.tables.proofs.Keys.{from-ascending, none_below, absent}
use Rattle.tables.proofs.Puts.{told_found, told_none}
use Rattle.record.specs.Layout.{record_size}
use Rattle.models.specs.Summary.{summary_size}
use Rattle.models.specs.Summaries.{no_value}
use Rattle.models.specs.Limits.{max_summaries}
use Rattle.signed_records.specs.Signed.{signers_in, place_size}
use Rattle.signed_records.proofs.Signatures.{no_word}
use Rattle.register.specs.Layout.{max_records}
use Rattle.register.specs.Register.{Register}
use Rattle.register.specs.Memory.{encode}
use Rattle.register.proofs.Frames.{frame-is}
use Rattle.register_join.specs.Join.{without_bits}
use Rattle.register_join.specs.Lacks.{lacking_signers, lacking_records, is_lacking, lacking}
use Rattle.register_join.specs.Merged.{signed_before, summary_before, header_of}
use Rattle.register_join.proofs.LawfulKinds.{key-alone}

-- ---- what a search finds

-- what follows a key that is held stands at its position
lookup-at-rank : (k : ℕ) (key : List ℕ) (ps : List (List ℕ)) → ascending k ps ≡ true → holds k key ps ≡ true → lookup k key ps ≡ drop k (get_or ps (rank k key ps) [])
unfolding ascending holds lookup rank
lookup-at-rank k key [] a h = absurd (grind arith)
lookup-at-rank k key (p ∷ ps) a h =
    by (same (take k p) key)
    (λ s. let e = same-eq (take k p) key s in let b : is_before (take k p) key ≡ false = ap (λ (x : List ℕ). is_before x key) e ∙ before-irrefl key in rw (s, b) refl)
    (λ s. let g : holds k key ps ≡ true = sym (rw s refl) ∙ h in let b : is_before (take k p) key ≡ true = grind (arith, tri (take k p) key, none_below k key (take k p) ps, same_refl key, before-asym key (take k p)) in
    rw (s, b) (lookup-at-rank k key ps (from-ascending k (take k p) ps a) g))

module _ (key : List ℕ) (ps : List (List ℕ)) (a : ascending record_size ps ≡ true) where
  pub found-signers : (i : ℕ) → Ok i ≡ sought record_size key ps → signers_in (get_or ps i []) ≡ word (lookup record_size key ps)
  found-signers i e =
      let t = told_found record_size key ps i e in
      ap (λ (j : ℕ). signers_in (get_or ps j [])) t.1 ∙ ap word (sym (lookup-at-rank record_size key ps a t.0))

  pub no-signers : (i : ℕ) → Err i ≡ sought record_size key ps → 0 ≡ word (lookup record_size key ps)
  no-signers i e = sym (ap word (absent record_size key ps (told_none record_size key ps i e).0) ∙ no_word)

-- ---- the next place

module _ (c : ℕ) (mine ps : List (List ℕ)) (i : ℕ) where
  abbrev p : List ℕ
  p = get_or ps i []

  pub next-record : i < length ps → lacking_records c mine (drop i ps) ≡ signed_before p (lacking_signers c mine p) (lacking_records c mine (drop (i + 1) ps))
  unfolding lacking_records
  next-record l = rw (drop-cons ps i [] l, add-one i) refl

  pub next-summary : i < length ps → length p ≡ summary_size
      → keep_places summary_size (is_lacking c mine) no_value (drop i ps) ≡ summary_before p (is_lacking c mine p) (keep_places summary_size (is_lacking c mine) no_value (drop (i + 1) ps))
  unfolding keep_places
  next-summary l w = rw (drop-cons ps i [] l, add-one i, key-alone p w) refl

  pub no-more-records : length ps ≤ i → lacking_records c mine (drop i ps) ≡ []
  unfolding lacking_records
  no-more-records h = rw (drop_of_length-le ps h) refl

  pub no-more-summaries : length ps ≤ i → keep_places summary_size (is_lacking c mine) no_value (drop i ps) ≡ []
  unfolding keep_places
  no-more-summaries h = rw (drop_of_length-le ps h) refl

-- no more than there are
pub fewer-records : (c : ℕ) (mine ps : List (List ℕ)) → length (lacking_records c mine ps) ≤ length ps
unfolding lacking_records
fewer-records c mine [] = omega arith
fewer-records c mine (p ∷ ps) = grind (arith, fewer-records c mine ps)

-- ---- the bytes of what is lacking

-- a header and two tables
pub put-lacking : (t s : Register) (d n k : ℕ) (h p r : List ℕ) (c : ℕ) → c ≡ s.convicted → (my_summaries : List (List ℕ)) → my_summaries ≡ s.summaries → (summaries : List (List ℕ)) → summaries ≡ t.summaries
    → (my_records : List (List ℕ)) → my_records ≡ s.records → (records : List (List ℕ)) → records ≡ t.records → d ≡ without_bits t.convicted s.convicted
    → n ≡ length (keep_places summary_size (is_lacking c my_summaries) no_value summaries) → k ≡ length (lacking_records c my_records records) → h ≡ header_of d n k
    → p ≡ table_of summary_size max_summaries (keep_places summary_size (is_lacking c my_summaries) no_value summaries) → r ≡ table_of place_size max_records (lacking_records c my_records records)
    → h ++ (p ++ r) ≡ encode (lacking t s)
unfolding encode lacking
put-lacking t s d n k h p r c c-is ms ms-is ss ss-is mr mr-is rs rs-is d-is n-is k-is h-is p-is r-is =
    let l = lacking t s in
    rw (h-is, p-is, r-is, d-is, n-is, k-is, c-is, ms-is, ss-is, mr-is, rs-is)
    (frame-is l.convicted (length l.summaries) (length l.records) (table_of summary_size max_summaries l.summaries) (table_of place_size max_records l.records))
