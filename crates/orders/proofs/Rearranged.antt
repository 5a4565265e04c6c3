-- Two orders of a list of calls: the same remains of both. A short list is never refused as full.
use Prim.Native.Nat.{ℕ, ◌+◌, ◌≤◌}
use mathlib.Core.Path.{◌≡◌, refl, sym, ap, ◌∙◌}
use mathlib.Core.Bool.{Bool, true, false, not, ◌&&◌, ◌||◌}
use mathlib.Core.List.{List, [], ◌∷◌, Permᴰ}
use native.Mathlib.Omega.{arith}
use lib.ListN.{length}
use Rattle.std.proofs.Common.{take, length-take}
use borrow.Author.Tests.{le-leb}
use lib.Dec.{leb}
use Rattle.octets.specs.Order.{same}
use Rattle.std.specs.List.{list_any}
use Rattle.lists.proofs.Bools.{by, and_both}
use Rattle.lists.proofs.Lists.{any-perm, filter-perm, filter-few}
use Rattle.models.specs.Summary.{summary_of}
use Rattle.models.specs.Limits.{max_summaries}
use Rattle.register.specs.Layout.{max_records}
use Rattle.register.specs.Calls.{Call, report, summary, conviction, call_engine, is_sound, is_conviction_of, is_report_of, convicts, keep, remaining, reports, records_of, summaries_of, elem, nub, fits}
use Rattle.register.specs.Claims.{SameRemains}
use Rattle.register.proofs.Room.{none-full}
use Rattle.orders.specs.Claims.{FewAlwaysFit}

-- ---- two orders

-- what the reports, and the summaries, of a list are asked is asked of its calls one by one
abbrev summary_one : List ℕ → Call → Bool
summary_one p (report k r) = false
summary_one p (summary k model spec inputs) = same (summary_of k model spec inputs) p
summary_one p (conviction d k) = false

summaries-any : (cs : List Call) (p : List ℕ) → elem p (summaries_of cs) ≡ list_any (summary_one p) cs
unfolding elem summaries_of
summaries-any [] p = refl
summaries-any (report k r ∷ cs) p = summaries-any cs p
summaries-any (summary k model spec inputs ∷ cs) p = ap (λ (b : Bool). same (summary_of k model spec inputs) p || b) (summaries-any cs p)
summaries-any (conviction d k ∷ cs) p = summaries-any cs p

module _ {cs ds : List Call} (p : Permᴰ cs ds) where
  convicts-same : convicts cs ≡ convicts ds
  unfolding convicts
  convicts-same = λ i e. any-perm (is_conviction_of e) p i

  -- a test of the calls that remain
  same_test : (test : Call → Bool) → list_any test (remaining cs) ≡ list_any test (remaining ds)
  unfolding keep
  same_test test =
      any-perm test (filter-perm (λ (c : Call). is_sound c && not (convicts cs (call_engine c))) p)
      ∙ ap (λ (f : ℕ → Bool). list_any test (keep f ds)) convicts-same

  pub same-remains : SameRemains cs ds
  unfolding reports
  same-remains = record {
    summaries = λ s. summaries-any (remaining cs) s ∙ same_test (summary_one s) ∙ sym (summaries-any (remaining ds) s);
    reported = λ e r. same_test (is_report_of e r);
  }

-- ---- few calls

nub-few : (l : List (List ℕ)) → length (nub l) ≤ length l
unfolding nub
nub-few [] = omega arith
nub-few (x ∷ l) = let r = nub-few l in by (elem x l) (λ e. rw e (omega arith)) (λ e. rw e (omega arith))

records-few : (cs : List Call) → length (records_of cs) ≤ length cs
unfolding records_of
records-few [] = omega arith
records-few (report k r ∷ cs) = let r = records-few cs in omega arith
records-few (summary k model spec inputs ∷ cs) = let r = records-few cs in omega arith
records-few (conviction d k ∷ cs) = let r = records-few cs in omega arith

summaries-few : (cs : List Call) → length (summaries_of cs) ≤ length cs
unfolding summaries_of
summaries-few [] = omega arith
summaries-few (report k r ∷ cs) = let r = summaries-few cs in omega arith
summaries-few (summary k model spec inputs ∷ cs) = let r = summaries-few cs in omega arith
summaries-few (conviction d k ∷ cs) = let r = summaries-few cs in omega arith

remaining-few : (cs : List Call) → length (remaining cs) ≤ length cs
unfolding keep
remaining-few cs = filter-few (λ (c : Call). is_sound c && not (convicts cs (call_engine c))) cs

few-fit : (cs : List Call) → length cs ≤ max_records → fits cs ≡ true
few-fit cs h =
    let a = remaining-few cs in
    let b = records-few (remaining cs) in
    let d = summaries-few (remaining cs) in
    let f = nub-few (records_of (remaining cs)) in
    let g = nub-few (summaries_of (remaining cs)) in
    and_both (leb (length (nub (records_of (remaining cs)))) max_records) (leb (length (nub (summaries_of (remaining cs)))) max_summaries)
    (le-leb (length (nub (records_of (remaining cs)))) max_records (omega arith))
    (le-leb (length (nub (summaries_of (remaining cs)))) max_summaries (omega arith))

pub few_always_fit : FewAlwaysFit
few_always_fit cs h = (none-full cs).1 (λ n. few-fit (take n cs) (omega (arith, length-take n cs)))
