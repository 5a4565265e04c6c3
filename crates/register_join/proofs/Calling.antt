-- A register as a list of calls: it holds what those have.
use Rattle.std.proofs.Common.{ℕ, zero, suc, ◌^◌, ◌<◌, ◌≡◌, refl, sym, ap, ap₂, ◌∙◌, Bool, true, false, ◌&&◌, List, [], ◌∷◌, ◌++◌, arith, eqb, leb, ltb, length, take, drop, take-append-drop, take_all, length-drop, length-take-le, eqb-true}
use Rattle.std.specs.List.{list_all, list_any}
use Rattle.lists.proofs.Bools.{by, and_left, and_right}
use Rattle.octets.specs.Bytes.{Bytes}
use Rattle.octets.specs.Masks.{bit}
use Rattle.octets.specs.Order.{same}
use Rattle.octets.specs.Words.{word, word_bytes}
use Rattle.octets.proofs.Comparison.{same-eq, before-irrefl}
use Rattle.octets.proofs.Lookup.{bit-zero, bit_below}
use Rattle.octets.proofs.Numbers.{bytes_take, bytes_drop, bytes-of-word}
use Rattle.tables.specs.Places.{places, ascending, holds, lookup}
use Rattle.tables.proofs.Tables.{wide}
use Rattle.tables.proofs.Keys.{from-ascending, none_below, absent}
use Rattle.models.specs.Summary.{engine_of, model_of, spec_of, summary_inputs, summary_of, summary_size}
use Rattle.record.specs.Layout.{record_size}
use Rattle.engines.specs.Limits.{max_engine}
use Rattle.signed_records.specs.Signed.{signers_in}
use Rattle.signed_records.proofs.Signatures.{no_word, place_held, place, place-small}
use Rattle.desks.specs.declared.Desk.TheVariants.{Manager}
use Rattle.desks.specs.Desks.{number_of, has_right, may_convict}
use Rattle.register.specs.Register.{Register}
use Rattle.register.specs.Calls.{Call, convicts, reports, summaries_of, elem}
use Rattle.register.specs.Claims.{signers_of}
use Rattle.register_join.specs.Lacks.{engines_below, engines_in, conviction_calls, summary_calls, signer_calls, record_calls, calls_of}
use Rattle.register_join.proofs.Loose.{Loose, signers-small, none-convicted, signed-formed, summary-passes, summary-long}
use Rattle.register_join.proofs.JoinLists.{Has, reports-both, summaries-both, convicts-both}

-- ---- what the calls have

engine-below : (n c e : ℕ) → list_any (λ k. eqb k e) (engines_below n c) ≡ (ltb e n && bit c e)
unfolding engines_below
engine-below zero c e = grind arith
engine-below (suc n) c e = grind (arith, engine-below n c e)

manager-may : has_right may_convict (number_of Manager) ≡ true
unfolding has_right
manager-may = refl

convictions-any : (es : List ℕ) (e : ℕ) → convicts (conviction_calls es) e ≡ (leb e max_engine && list_any (λ k. eqb k e) es)
unfolding convicts conviction_calls
convictions-any [] e = grind arith
convictions-any (k ∷ es) e = by (eqb k e) (λ z. let q = eqb-true k e z in rw (q, convictions-any es e) (grind (arith, manager-may))) (λ z. rw (z, convictions-any es e) (grind (arith, manager-may)))

convictions-convict : (n c e : ℕ) → convicts (conviction_calls (engines_below n c)) e ≡ (leb e max_engine && (ltb e n && bit c e))
convictions-convict n c e = convictions-any (engines_below n c) e ∙ ap (λ (b : Bool). leb e max_engine && b) (engine-below n c e)

convictions-report : (es : List ℕ) (e : ℕ) (r : List ℕ) → reports (conviction_calls es) e r ≡ false
unfolding reports conviction_calls
convictions-report [] e r = refl
convictions-report (k ∷ es) e r = convictions-report es e r

convictions-sum : (es : List ℕ) (p : List ℕ) → elem p (summaries_of (conviction_calls es)) ≡ false
unfolding elem summaries_of conviction_calls
convictions-sum [] p = refl
convictions-sum (k ∷ es) p = convictions-sum es p

pub summaries-convict : (ps : List (List ℕ)) (e : ℕ) → convicts (summary_calls ps) e ≡ false
unfolding convicts summary_calls
summaries-convict [] e = refl
summaries-convict (p ∷ ps) e = summaries-convict ps e

summaries-report : (ps : List (List ℕ)) (e : ℕ) (r : List ℕ) → reports (summary_calls ps) e r ≡ false
unfolding reports summary_calls
summaries-report [] e r = refl
summaries-report (p ∷ ps) e r = summaries-report ps e r

-- places that are bytes
abbrev pub AllBytes : List (List ℕ) → Type 0
AllBytes [] = Unit {0}
AllBytes (p ∷ ps) = Bytes p × AllBytes ps

pub places-bytes : (w n : ℕ) (t : List ℕ) → Bytes t → AllBytes (places w n t)
unfolding places
places-bytes w zero t b = tt
places-bytes w (suc n) t b = (bytes_take w t b, places-bytes w n (drop w t) (bytes_drop w t b))

-- a summary's bytes are its parts
as-parts : (p : List ℕ) → length p ≡ summary_size → Bytes p → summary_of (engine_of p) (model_of p) (spec_of p) (summary_inputs p) ≡ p
as-parts [] l b = absurd (grind arith)
as-parts (x ∷ []) l b = absurd (grind arith)
as-parts (x ∷ (y ∷ t)) l b =
    let two : length (take 2 t) ≡ 2 = length-take-le 2 t (omega arith) in
    let w : word_bytes 2 (word (take 2 t)) ≡ take 2 t = ap (λ (n : ℕ). word_bytes n (word (take 2 t))) (sym two) ∙ bytes-of-word (take 2 t) (bytes_take 2 t b.1.1) in
    let i : take 32 (drop 2 t) ≡ drop 2 t = take_all 32 (drop 2 t) (rw length-drop (omega arith)) in
    ap (λ (z : List ℕ). x ∷ (y ∷ z)) (ap₂ (λ (u v : List ℕ). u ++ v) w i ∙ take-append-drop 2 t)

summaries-sum : (p : List ℕ) (ps : List (List ℕ)) → wide summary_size ps → AllBytes ps → elem p (summaries_of (summary_calls ps)) ≡ holds summary_size p ps
unfolding elem summaries_of summary_calls holds
summaries-sum p [] w b = refl
summaries-sum p (q ∷ ps) w b =
    let parts : summaries_of (summary_calls (q ∷ ps)) ≡ q ∷ summaries_of (summary_calls ps) = ap (λ (x : List ℕ). x ∷ summaries_of (summary_calls ps)) (as-parts q w.0 b.0) in
    ap (elem p) parts ∙ grind (arith, summaries-sum p ps w.1 b.1, w.0, take_all summary_size q)

signers-convict : (q : List ℕ) (es : List ℕ) (e : ℕ) → convicts (signer_calls q es) e ≡ false
unfolding convicts signer_calls
signers-convict q [] e = refl
signers-convict q (k ∷ es) e = signers-convict q es e

signers-sum : (q : List ℕ) (es : List ℕ) (p : List ℕ) → elem p (summaries_of (signer_calls q es)) ≡ false
unfolding elem summaries_of signer_calls
signers-sum q [] p = refl
signers-sum q (k ∷ es) p = signers-sum q es p

signers-report : (q : List ℕ) (n m e : ℕ) (r : List ℕ) → reports (signer_calls q (engines_below n m)) e r ≡ (same q r && (ltb e n && bit m e))
unfolding reports signer_calls engines_below
signers-report q zero m e r = grind arith
signers-report q (suc n) m e r = grind (arith, signers-report q n m e r)

pub records-convict : (ps : List (List ℕ)) (e : ℕ) → convicts (record_calls ps) e ≡ false
unfolding record_calls
records-convict [] e = unfold convicts in refl
records-convict (p ∷ ps) e = grind (arith, records-convict ps e, convicts-both (signer_calls (take record_size p) (engines_in (signers_in p))) (record_calls ps) e, signers-convict (take record_size p) (engines_in (signers_in p)) e)

records-sum : (ps : List (List ℕ)) (p : List ℕ) → elem p (summaries_of (record_calls ps)) ≡ false
unfolding record_calls
records-sum [] p = unfold elem summaries_of in refl
records-sum (q ∷ ps) p = grind (arith, records-sum ps p, summaries-both (signer_calls (take record_size q) (engines_in (signers_in q))) (record_calls ps) p, signers-sum (take record_size q) (engines_in (signers_in q)) p)

-- a set of 4 bytes has no engine above 31
small-bit : (m e : ℕ) → m < 256 ^ 4 → (ltb e 32 && bit m e) ≡ bit m e
small-bit m e h = by (bit m e) (λ z. let l = bit_below 32 m e h z in let t : ltb e 32 ≡ true = grind arith in rw (z, t) refl) (λ z. rw z (grind arith))

records-report : (c e : ℕ) (r : List ℕ) (ps : List (List ℕ)) → ascending record_size ps ≡ true → list_all (place_held c) ps ≡ true → reports (record_calls ps) e r ≡ bit (word (lookup record_size r ps)) e
unfolding record_calls lookup ascending
records-report c e r [] a h = unfold reports in rw (no_word) (sym (bit-zero e))
records-report c e r (p ∷ ps) a h =
    let k = take record_size p in
    let m = signers_in p in
    let f = place-small c p (place c p (and_left (place_held c p) (list_all (place_held c) ps) h)) in
    let ih = records-report c e r ps (from-ascending record_size k ps a) (and_right (place_held c p) (list_all (place_held c) ps) h) in
    reports-both (signer_calls k (engines_in m)) (record_calls ps) e r
    ∙ by (same k r)
    (λ s. let x = same-eq k r s in
    let o : reports (record_calls ps) e r ≡ false = ih ∙ ap (λ (l : List ℕ). bit (word l) e) (absent record_size r ps (none_below record_size r k ps (rw x (before-irrefl r)) a)) ∙ rw no_word (bit-zero e) in
    rw (signers-report k 32 m e r, s, small-bit m e f, o) (grind arith))
    (λ s. rw (signers-report k 32 m e r, s) ih)

-- ---- the register holds what its calls have

module _ (s : Register) (v : Loose s) (b : AllBytes s.summaries) where
  abbrev first : List Call
  first = conviction_calls (engines_in s.convicted)

  abbrev second : List Call
  second = summary_calls s.summaries

  abbrev third : List Call
  third = record_calls s.records

  abbrev calls : List Call
  calls = calls_of s

  convict-is : (e : ℕ) → convicts calls e ≡ bit s.convicted e
  convict-is e =
      convicts-both first (second ++ third) e
      ∙ grind (arith, convicts-both second third e, summaries-convict s.summaries e, records-convict s.records e, convictions-convict 32 s.convicted e, small-bit s.convicted e v.small)

  report-is : (e : ℕ) (r : List ℕ) → reports calls e r ≡ bit (signers_of r s) e
  report-is e r =
      reports-both first (second ++ third) e r
      ∙ grind (arith, reports-both second third e r, summaries-report s.summaries e r, convictions-report (engines_in s.convicted) e r, records-report s.convicted e r s.records v.records_ascend v.records_held)

  summary-is : (p : List ℕ) → elem p (summaries_of calls) ≡ holds summary_size p s.summaries
  summary-is p =
      summaries-both first (second ++ third) p
      ∙ grind (arith, summaries-both second third p, convictions-sum (engines_in s.convicted) p, records-sum s.records p, summaries-sum p s.summaries v.summaries_wide b)

  pub has-calls : Has (calls_of s) s
  has-calls = record {
    loose = v;
    struck_off = λ e. sym (convict-is e);
    signed_by = λ e r. grind (
      arith,
      report-is e r,
      convict-is e,
      none-convicted s v r e,
      λ (z : bit (signers_of r s) e ≡ true). signed-formed s v r e z,
      λ (z : bit (signers_of r s) e ≡ true). bit_below 32 (signers_of r s) e (signers-small s v r) z,
    );
    held = λ p. grind (
      arith,
      summary-is p,
      convict-is (engine_of p),
      λ (h : holds summary_size p s.summaries ≡ true). summary-passes s v p h,
      λ (h : holds summary_size p s.summaries ≡ true). summary-long s v p h,
    );
  }
