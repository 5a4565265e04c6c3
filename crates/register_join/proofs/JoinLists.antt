-- Joins of what lists of calls leave.
use Rattle.std.proofs.Common.{ℕ, ◌≡◌, refl, sym, ap, ◌∙◌, true, false, cond, not, ◌&&◌, ◌||◌, List, [], ◌∷◌, ◌++◌, reverse, arith, eqb, length}
use Rattle.octets.specs.Masks.{bit}
use Rattle.lists.proofs.Bools.{by}
use Rattle.octets.proofs.Lookup.{bit-zero}
use Rattle.tables.specs.Places.{holds}
use Rattle.models.specs.Summary.{engine_of, summary_size}
use Rattle.record.specs.Layout.{record_size}
use Rattle.errors.specs.After.{after}
use Rattle.register.specs.Register.{Register}
use Rattle.register.specs.Memory.{encode, fresh}
use Rattle.register.specs.Calls.{Call, called, report, summary, conviction, is_sound, runs, none_full, convicts, remaining, reports, records_of, summaries_of, elem, nub, fits}
use Rattle.register.specs.Claims.{signers_of, HoldsExactly}
use Rattle.register_join.specs.Join.{overfull, joined, take_join, join_memory}
use Rattle.register_join.specs.Claims.{SameCalls, JoinsLists, JoinHoldsWhatRemains, JoinIsTheRun}
use Rattle.register.proofs.Valid.{Valid, decode-encode, formed-encode, on-encode}
use borrow.Author.Tests.{eqb-false}
use mathlib.Core.Bool.{or-false}
use Rattle.register.proofs.Whole.{last, both, sum, struck, some-bit, kept-reports, kept-summaries, reports-among, among-reports, reports-back, summaries-back}
use Rattle.register.proofs.Room.{count_of}
use Rattle.register.proofs.History.{Sum, sound_summary}
use Rattle.register_join.proofs.Loose.{Loose, loose, with-room, valid-fits, registers-same, held-signed}
use Rattle.register_join.proofs.Joined.{joined-loose, joined-convicted, joined-holds, joined-signers}

-- ---- two lists in one

pub reports-both : (cs ds : List Call) (e : ℕ) (r : List ℕ) → reports (cs ++ ds) e r ≡ (reports cs e r || reports ds e r)
unfolding reports
reports-both [] ds e r = refl
reports-both (report k q ∷ cs) ds e r = grind (arith, reports-both cs ds e r)
reports-both (summary k model spec inputs ∷ cs) ds e r = reports-both cs ds e r
reports-both (conviction d k ∷ cs) ds e r = reports-both cs ds e r

pub summaries-both : (cs ds : List Call) (p : List ℕ) → elem p (summaries_of (cs ++ ds)) ≡ (elem p (summaries_of cs) || elem p (summaries_of ds))
unfolding elem summaries_of
summaries-both [] ds p = refl
summaries-both (report k q ∷ cs) ds p = summaries-both cs ds p
summaries-both (summary k model spec inputs ∷ cs) ds p = grind (arith, summaries-both cs ds p)
summaries-both (conviction d k ∷ cs) ds p = summaries-both cs ds p

pub convicts-both : (cs ds : List Call) (e : ℕ) → convicts (cs ++ ds) e ≡ (convicts cs e || convicts ds e)
unfolding convicts
convicts-both [] ds e = refl
convicts-both (report k q ∷ cs) ds e = convicts-both cs ds e
convicts-both (summary k model spec inputs ∷ cs) ds e = convicts-both cs ds e
convicts-both (conviction d k ∷ cs) ds e = grind (arith, convicts-both cs ds e)

-- ---- a register, whatever its size, that holds what a list has

pub record Has (h : List Call) (s : Register) : Type 0 where
  pub loose : Loose s
  pub struck_off : (e : ℕ) → bit s.convicted e ≡ convicts h e
  pub signed_by : (e : ℕ) (r : List ℕ) → bit (signers_of r s) e ≡ (reports h e r && (is_sound (report e r) && not (convicts h e)))
  pub held : (p : List ℕ) → holds summary_size p s.summaries ≡ (elem p (summaries_of h) && (sound_summary p && not (convicts h (engine_of p))))

pub of-sum : (h : List Call) (s : Register) → Sum h s → Has h s
of-sum h s u = record { loose = loose s u.valid; struck_off = u.struck_off; signed_by = u.signed_by; held = u.held }

pub sum-of : (h : List Call) (s : Register) → Has h s → overfull s ≡ false → Sum h s
sum-of h s u f = record { valid = with-room s u.loose f; struck_off = u.struck_off; signed_by = u.signed_by; held = u.held }

-- the join holds what both have
pub has-both : (h g : List Call) (t s : Register) → Has h t → Has g s → Has (h ++ g) (joined t s)
has-both h g t s b a = record {
  loose = joined-loose t s b.loose a.loose;
  struck_off = λ e. grind (arith, joined-convicted t s b.loose a.loose e, b.struck_off e, a.struck_off e, convicts-both h g e);
  signed_by = λ e r. grind (arith, joined-signers t s b.loose a.loose e r, b.struck_off e, a.struck_off e, b.signed_by e r, a.signed_by e r, convicts-both h g e, reports-both h g e r);
  held = λ p. grind (arith, joined-holds t s b.loose a.loose p, b.struck_off (engine_of p), a.struck_off (engine_of p), b.held p, a.held p, convicts-both h g (engine_of p), summaries-both h g p);
}

-- and two that hold what the same calls have are the same
pub has-same : (h g : List Call) (s t : Register) → Has h s → Has g t → SameCalls h g → s ≡ t
has-same h g s t a b q =
    registers-same s t a.loose b.loose
    (λ e. grind (arith, a.struck_off e, b.struck_off e, q.convicted e))
    (λ p. grind (arith, a.held p, b.held p, q.convicted (engine_of p), q.summarized p))
    (λ e r. grind (arith, a.signed_by e r, b.signed_by e r, q.convicted e, q.reported e r))

-- whose remains are what is held, and how many
module _ (h : List Call) (s : Register) (u : Has h s) where
  pub signs : (e : ℕ) (r : List ℕ) → bit (signers_of r s) e ≡ reports (remaining h) e r
  signs e r = u.signed_by e r ∙ sym (kept-reports (convicts h) e r h)

  held-records : (r : List ℕ) → holds record_size r s.records ≡ elem r (records_of (remaining h))
  held-records r =
      held-signed s u.loose r
      ∙ by (eqb (signers_of r s) 0)
      (λ z. grind (arith, among-reports (remaining h) r, λ (e : ℕ). signs e r, bit-zero))
      (λ z. let w = some-bit (signers_of r s) (eqb-false (signers_of r s) 0 z) in grind (arith, reports-among (remaining h) w.0 r, signs w.0 r))

  pub held-summaries : (p : List ℕ) → holds summary_size p s.summaries ≡ elem p (summaries_of (remaining h))
  held-summaries p = u.held p ∙ sym (kept-summaries (convicts h) p h)

  record-count : length (nub (records_of (remaining h))) ≡ length s.records
  record-count = count_of record_size s.records (records_of (remaining h)) u.loose.records_ascend held-records

  summary-count : length (nub (summaries_of (remaining h))) ≡ length s.summaries
  summary-count = count_of summary_size s.summaries (summaries_of (remaining h)) u.loose.summaries_ascend held-summaries

  pub fits-is : fits h ≡ not (overfull s)
  fits-is = grind (arith, record-count, summary-count)

  pub exactly : overfull s ≡ false → HoldsExactly h (encode s)
  exactly f =
      let v = with-room s u.loose f in
      let d = decode-encode s v in
      record {
        formed = formed-encode s v;
        convicted = λ e. ap (λ (x : Register). bit x.convicted e) d ∙ u.struck_off e;
        summaries = λ p. ap (λ (x : Register). holds summary_size p x.summaries) d ∙ held-summaries p;
        records = λ r. ap (λ (x : Register). holds record_size r x.records) d ∙ held-records r;
        signers = λ e r. ap (λ (x : Register). bit (signers_of r x) e) d ∙ signs e r;
      }

-- the same calls in another order
pub has-as : (h g : List Call) (s : Register) → SameCalls h g → Has h s → Has g s
has-as h g s q u = record {
  loose = u.loose;
  struck_off = λ e. u.struck_off e ∙ q.convicted e;
  signed_by = λ e r. grind (arith, u.signed_by e r, q.convicted e, q.reported e r);
  held = λ p. grind (arith, u.held p, q.convicted (engine_of p), q.summarized p);
}

pub other-way : (cs ds : List Call) → SameCalls (ds ++ cs) (cs ++ ds)
other-way cs ds = record {
  convicted = λ e. grind (arith, convicts-both cs ds e, convicts-both ds cs e);
  reported = λ e r. grind (arith, reports-both cs ds e r, reports-both ds cs e r);
  summarized = λ p. grind (arith, summaries-both cs ds p, summaries-both ds cs p);
}

pub no-other : (cs : List Call) → SameCalls cs cs
no-other cs = record { convicted = λ e. refl; reported = λ e r. refl; summarized = λ p. refl }

-- ---- on bytes

pub join-encoded : (t s : Register) → Valid t → Valid s → join_memory (encode t) (encode s) ≡ cond (overfull (joined t s)) (after 5 (encode s)) (after 0 (encode (joined t s)))
unfolding join_memory
join-encoded t s v u = rw (formed-encode t v, decode-encode t v) (on-encode s u (take_join t) ∙ grind arith)

module _ (cs : List Call) (f : none_full fresh cs ≡ true) where
  backwards : SameCalls (reverse cs) cs
  backwards = record {
    convicted = struck cs f;
    reported = λ e r. reports-back cs [] e r ∙ (unfold reports in or-false (reports cs e r));
    summarized = λ p. summaries-back cs [] p ∙ (unfold elem summaries_of in or-false (elem p (summaries_of cs)));
  }

  pub has-list : Has cs (last cs f)
  has-list = has-as (reverse cs) cs (last cs f) backwards (of-sum (reverse cs) (last cs f) (sum cs f))

module _ (cs ds : List Call) (f : none_full fresh cs ≡ true) (g : none_full fresh ds ≡ true) where
  abbrev j : Register
  j = joined (last ds g) (last cs f)

  has-join : Has (cs ++ ds) j
  has-join = has-as (ds ++ cs) (cs ++ ds) j (other-way cs ds) (has-both ds cs (last ds g) (last cs f) (has-list ds g) (has-list cs f))

  join-is : join_memory (runs fresh ds) (runs fresh cs) ≡ cond (overfull j) (after 5 (encode (last cs f))) (after 0 (encode j))
  join-is = rw ((both ds g).0, (both cs f).0) (join-encoded (last ds g) (last cs f) (sum ds g).valid (sum cs f).valid)

  joins-lists : JoinsLists cs ds (join_memory (runs fresh ds) (runs fresh cs))
  joins-lists = rw join-is (record {
    answer = grind (arith, fits-is (cs ++ ds) j has-join);
    left = λ h. let o : overfull j ≡ false = grind (arith, fits-is (cs ++ ds) j has-join) in rw o (exactly (cs ++ ds) j has-join o);
  })

pub join-holds : JoinHoldsWhatRemains
join-holds = joins-lists

-- a list that is not full is not full to any of its calls
none-before : (m : List ℕ) (cs ds : List Call) → none_full m (cs ++ ds) ≡ true → none_full m cs ≡ true
unfolding none_full
none-before m [] ds h = refl
none-before m (c ∷ cs) ds h = grind (arith, none-before (called c m).left cs ds)

pub join-run : JoinIsTheRun
join-run cs ds g f =
    let h = none-before fresh cs ds f in
    let e : j cs ds h g ≡ last (cs ++ ds) f = has-same (cs ++ ds) (cs ++ ds) (j cs ds h g) (last (cs ++ ds) f) (has-join cs ds h g) (has-list (cs ++ ds) f) (no-other (cs ++ ds)) in
    let o : overfull (j cs ds h g) ≡ false = rw e (valid-fits (last (cs ++ ds) f) (sum (cs ++ ds) f).valid) in
    join-is cs ds h g ∙ rw (o, e, (both (cs ++ ds) f).0) refl
