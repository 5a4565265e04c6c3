-- What a register lacks of another: joining it is joining the other, and its calls leave the join. And a call after a join is the join after that call.
use Rattle.std.proofs.Common.{ℕ, ◌^◌, ◌≤◌, ◌<◌, ◌≡◌, refl, sym, ap, ◌∙◌, true, false, not, ◌&&◌, List, [], ◌∷◌, ◌++◌, arith, le_trans, eqb, length, take, drop, take_at, drop_at, append-nil, length-append, length-take-le, eqb-true}
use Rattle.std.specs.List.{list_all}
use Rattle.lists.proofs.Bools.{by, and_left, and_right}
use Rattle.octets.specs.Masks.{bit}
use Rattle.octets.specs.Order.{is_before, same}
use Rattle.octets.specs.Words.{word, word_bytes}
use Rattle.octets.proofs.Comparison.{same-eq, before-irrefl}
use Rattle.octets.proofs.Lookup.{bit-zero, bit-ext}
use Rattle.octets.proofs.Numbers.{length-word-bytes, word-of-bytes}
use Rattle.tables.specs.Places.{ascending_from, ascending, holds, lookup}
use Rattle.tables.proofs.Tables.{wide}
use Rattle.tables.proofs.Keys.{from-weaken, from-ascending, none_below, absent}
use Rattle.tables.proofs.Keeping.{changed, kept-length, kept-wide, kept-ascending, kept-all, holds_kept}
use Rattle.models.specs.Summary.{summary_size, engine_of}
use Rattle.record.specs.Layout.{record_size}
use Rattle.signed_records.specs.Signed.{place_size}
use Rattle.models.specs.Summaries.{no_value, summary_formed}
use Rattle.signed_records.specs.Signed.{signers_in}
use Rattle.models.proofs.Summarized.{all_of, none_more}
use Rattle.engines.proofs.Masks.{apart, disjoint}
use Rattle.signed_records.proofs.Signatures.{no_word, place_held, place, place-small, held_place}
use Rattle.register.specs.Register.{Register}
use Rattle.register.specs.Claims.{signers_of}
use Rattle.register_join.specs.Join.{without_bits, joined}
use Rattle.register_join.specs.Lacks.{lacking_records, is_lacking, lacking}
use Rattle.register.proofs.Valid.{Valid}
use Rattle.register.proofs.Steps.{nothing-follows}
use Rattle.register_join.proofs.Uniting.{bit-without}
use Rattle.register_join.proofs.Loose.{Loose, loose, registers-same}
use Rattle.register_join.proofs.Joined.{without-small, engine-kept, model-kept, joined-loose, joined-convicted, joined-holds, joined-signers}

module _ (s : Register) (a : Loose s) where
  -- the signers that are lacking of a record with signers m
  abbrev news : List ℕ → ℕ → ℕ
  news r m = without_bits (without_bits m s.convicted) (signers_of r s)

  abbrev rest_of : List ℕ → ℕ
  rest_of p = news (take record_size p) (signers_in p)

  abbrev kept : List ℕ → List ℕ
  kept p = take record_size p ++ word_bytes 4 (rest_of p)

  news-bit : (r : List ℕ) (m e : ℕ) → bit (news r m) e ≡ (bit m e && (not (bit s.convicted e) && not (bit (signers_of r s) e)))
  news-bit r m e = grind (arith, bit-without m s.convicted e, bit-without (without_bits m s.convicted) (signers_of r s) e)

  news-small : (r : List ℕ) (m : ℕ) → m < 256 ^ 4 → news r m < 256 ^ 4
  news-small r m h = without-small (without_bits m s.convicted) (signers_of r s) (without-small m s.convicted h)

  news-none : (r : List ℕ) → news r 0 ≡ 0
  news-none r = bit-ext (news r 0) 0 (λ e. grind (arith, news-bit r 0 e, bit-zero e))

  module _ (p : List ℕ) (l : length p ≡ place_size) where
    key-long : length (take record_size p) ≡ record_size
    key-long = length-take-le record_size p (omega arith)

    kept-key : take record_size (kept p) ≡ take record_size p
    kept-key = take_at (take record_size p) (word_bytes 4 (rest_of p)) record_size key-long

    kept-rest : drop record_size (kept p) ≡ word_bytes 4 (rest_of p)
    kept-rest = drop_at (take record_size p) (word_bytes 4 (rest_of p)) record_size key-long

    kept-long : length (kept p) ≡ place_size
    kept-long = rw (length-append, key-long, length-word-bytes 4 (rest_of p)) refl

  lack-length : (ps : List (List ℕ)) → length (lacking_records s.convicted s.records ps) ≤ length ps
  unfolding lacking_records
  lack-length [] = omega arith
  lack-length (p ∷ ps) = grind (arith, lack-length ps)

  lack-wide : (ps : List (List ℕ)) → wide place_size ps → wide place_size (lacking_records s.convicted s.records ps)
  unfolding lacking_records
  lack-wide [] w = tt
  lack-wide (p ∷ ps) w = by (eqb (rest_of p) 0) (λ z. rw z (lack-wide ps w.1)) (λ z. rw z (kept-long p w.0, lack-wide ps w.1))

  lack-from : (from : List ℕ) (ps : List (List ℕ)) → wide place_size ps → ascending_from record_size from ps ≡ true → ascending_from record_size from (lacking_records s.convicted s.records ps) ≡ true
  unfolding lacking_records ascending_from
  lack-from from [] w h = refl
  lack-from from (p ∷ ps) w h =
      let k = take record_size p in
      let l = and_left (is_before from k) (ascending_from record_size k ps) h in
      let ih = lack-from k ps w.1 (and_right (is_before from k) (ascending_from record_size k ps) h) in
      by (eqb (rest_of p) 0)
      (λ z. rw z (from-weaken record_size from k (lacking_records s.convicted s.records ps) l ih))
      (λ z. rw (z, kept-key p w.0, l) ih)

  lack-ascending : (ps : List (List ℕ)) → wide place_size ps → ascending record_size ps ≡ true → ascending record_size (lacking_records s.convicted s.records ps) ≡ true
  unfolding lacking_records ascending
  lack-ascending [] w h = refl
  lack-ascending (p ∷ ps) w h =
      let ih = lack-from (take record_size p) ps w.1 h in
      by (eqb (rest_of p) 0)
      (λ z. rw z (from-ascending record_size (take record_size p) (lacking_records s.convicted s.records ps) ih))
      (λ z. rw (z, kept-key p w.0) ih)

  module _ (c d : ℕ) (free : (e : ℕ) → bit d e ≡ true → bit c e ≡ true) where
    lack-place : (p : List ℕ) → place_held c p ≡ true → eqb (rest_of p) 0 ≡ false → place_held d (kept p) ≡ true
    lack-place p h z =
        let u = place c p h in
        held_place d (take record_size p) u.formed (rest_of p) (news-small (take record_size p) (signers_in p) (place-small c p u)) z
        (disjoint (rest_of p) d (λ e. grind (arith, news-bit (take record_size p) (signers_in p) e, apart (signers_in p) c e u.free, free e)))

    lack-all : (ps : List (List ℕ)) → list_all (place_held c) ps ≡ true → list_all (place_held d) (lacking_records s.convicted s.records ps) ≡ true
    unfolding lacking_records
    lack-all [] h = refl
    lack-all (p ∷ ps) h = grind (arith, lack-all ps, lack-place p)

  -- who signs what is lacking
  lack-signers : (c : ℕ) (r : List ℕ) (ps : List (List ℕ)) → wide place_size ps → ascending record_size ps ≡ true → list_all (place_held c) ps ≡ true
      → word (lookup record_size r (lacking_records s.convicted s.records ps)) ≡ news r (word (lookup record_size r ps))
  unfolding lacking_records lookup ascending
  lack-signers c r [] w h f = rw no_word (sym (news-none r))
  lack-signers c r (p ∷ ps) w h f =
      let k = take record_size p in
      let m = signers_in p in
      let u = place c p (and_left (place_held c p) (list_all (place_held c) ps) f) in
      let ih = lack-signers c r ps w.1 (from-ascending record_size k ps h) (and_right (place_held c p) (list_all (place_held c) ps) f) in
      by (same k r)
      (λ x. let e = same-eq k r x in
      let o : word (lookup record_size r (lacking_records s.convicted s.records ps)) ≡ 0 = ap word (absent record_size r (lacking_records s.convicted s.records ps) (none_below record_size r k (lacking_records s.convicted s.records ps) (rw e (before-irrefl r)) (lack-from k ps w.1 h))) ∙ no_word in
      by (eqb (rest_of p) 0)
      (λ z. rw (z, x) (o ∙ sym (eqb-true (news r m) 0 (rw e at z))))
      (λ z. rw (z, x, kept-key p w.0, kept-rest p w.0) (rw x (rw (word-of-bytes 4 (rest_of p) (news-small k m (place-small c p u)), e) refl))))
      (λ x. by (eqb (rest_of p) 0) (λ z. rw (z, x) ih) (λ z. rw (z, x, kept-key p w.0) (rw x ih)))

  -- ---- the register that is lacking

  module _ (t : Register) (b : Loose t) where
    abbrev gone : ℕ
    gone = without_bits t.convicted s.convicted

    fewer-convicted : (e : ℕ) → bit gone e ≡ true → bit t.convicted e ≡ true
    fewer-convicted e h = grind (arith, bit-without t.convicted s.convicted e)

    lack-summary : (p : List ℕ) → summary_formed t.convicted p ≡ true → is_lacking s.convicted s.summaries p ≡ true → summary_formed gone (changed summary_size (is_lacking s.convicted s.summaries) no_value p) ≡ true
    lack-summary p h o = rw (engine-kept p, model-kept p) (grind (arith, fewer-convicted (engine_of p)))

    pub lacking-loose : Loose (lacking t s)
    unfolding lacking
    lacking-loose = record {
      small = without-small t.convicted s.convicted b.small;
      summaries_wide = kept-wide summary_size (is_lacking s.convicted s.summaries) no_value summary_size all_of none_more t.summaries b.summaries_wide;
      records_wide = lack-wide t.records b.records_wide;
      summaries_ascend = kept-ascending summary_size (is_lacking s.convicted s.summaries) no_value summary_size all_of none_more t.summaries b.summaries_wide b.summaries_ascend;
      records_ascend = lack-ascending t.records b.records_wide b.records_ascend;
      summaries_formed = kept-all summary_size (is_lacking s.convicted s.summaries) no_value (summary_formed t.convicted) (summary_formed gone) lack-summary t.summaries b.summaries_formed;
      records_held = lack-all t.convicted gone fewer-convicted t.records b.records_held;
    }

    pub lacking-convicted : (e : ℕ) → bit (lacking t s).convicted e ≡ (bit t.convicted e && not (bit s.convicted e))
    unfolding lacking
    lacking-convicted e = bit-without t.convicted s.convicted e

    pub lacking-holds : (p : List ℕ) → holds summary_size p (lacking t s).summaries ≡ (holds summary_size p t.summaries && is_lacking s.convicted s.summaries p)
    unfolding lacking
    lacking-holds p =
        holds_kept summary_size (is_lacking s.convicted s.summaries) no_value summary_size all_of none_more p t.summaries b.summaries_wide b.summaries_ascend
        ∙ ap (λ (l : List ℕ). holds summary_size p t.summaries && is_lacking s.convicted s.summaries l) (ap (λ (l : List ℕ). p ++ l) (nothing-follows p t.summaries b.summaries_wide) ∙ append-nil p)

    pub lacking-signers : (e : ℕ) (r : List ℕ) → bit (signers_of r (lacking t s)) e ≡ (bit (signers_of r t) e && (not (bit s.convicted e) && not (bit (signers_of r s) e)))
    unfolding lacking
    lacking-signers e r = ap (λ (n : ℕ). bit n e) (lack-signers t.convicted r t.records b.records_wide b.records_ascend b.records_held) ∙ news-bit r (signers_of r t) e

    -- joining what is lacking is joining all
    pub lacking-joined : joined (lacking t s) s ≡ joined t s
    lacking-joined =
        registers-same (joined (lacking t s) s) (joined t s) (joined-loose (lacking t s) s lacking-loose a) (joined-loose t s b a)
        (λ e. grind (arith, joined-convicted (lacking t s) s lacking-loose a e, joined-convicted t s b a e, lacking-convicted e))
        (λ p. grind (arith, joined-holds (lacking t s) s lacking-loose a p, joined-holds t s b a p, lacking-convicted (engine_of p), lacking-holds p))
        (λ e r. grind (arith, joined-signers (lacking t s) s lacking-loose a e r, joined-signers t s b a e r, lacking-convicted e, lacking-signers e r))

pub lacking-valid : (t s : Register) → Valid t → Loose s → Valid (lacking t s)
unfolding lacking
lacking-valid t s v a =
    let l = lacking-loose s a t (loose t v) in
    unfold lacking in record {
      small = l.small;
      few_summaries = le_trans (kept-length summary_size (is_lacking s.convicted s.summaries) no_value t.summaries) v.few_summaries;
      few_records = le_trans (lack-length s a t.records) v.few_records;
      summaries_wide = l.summaries_wide;
      records_wide = l.records_wide;
      summaries_ascend = l.summaries_ascend;
      records_ascend = l.records_ascend;
      summaries_formed = l.summaries_formed;
      records_held = l.records_held;
    }
