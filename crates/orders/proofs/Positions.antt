-- The tracks that S, M and L leave in the two orders, in bytes.
use Prim.Native.Nat.{ℕ, ◌+◌, ◌%◌, ◌^◌}
use mathlib.Core.Path.{◌≡◌, refl, sym, ap, ◌∙◌, subst}
use mathlib.Core.Bool.{true}
use mathlib.Core.List.{List, [], ◌∷◌, ◌++◌, flat_map}
use Rattle.std.specs.Prelude.{None}
use Rattle.std.specs.List.{find}
use native.Mathlib.Omega.{arith}
use Rattle.octets.specs.Words.{word, word_bytes}
use Rattle.octets.specs.Masks.{bit, with_bit}
use Rattle.octets.specs.Runs.{all_zero}
use Rattle.record.specs.Formed.{well_formed, ascends, ascends_from, all_up_to}
use Rattle.record.specs.Fields.{models, spec, tags_from}
use Rattle.hashing.specs.Blake2s.{blake2s256}
use Rattle.models.specs.Models.{all_agreed, counts}
use Rattle.models.specs.Models.{state_of}
use Rattle.models.specs.Missing.{is_missing, first_missing}
use Rattle.models.specs.Identity.{cited_domain, cited_inputs, inputs_in_order, identity_of}
use Rattle.errors.specs.After.{After, after}
use Rattle.decision.specs.Positions.{S, M, L}
use Rattle.fixes.specs.Fix.{Fix}
use Rattle.track_transmission.specs.Held.{HeldTransmission}
use Rattle.track_merge.specs.Merged.{Step, merged_number, merged}
use Rattle.track_merge.specs.declared.Merged.TheVariants.{Changed}
use Rattle.track_memory.specs.Track.{Track, done}
use Rattle.track_memory.specs.Memory.{decode, encode}
use Rattle.track_memory.proofs.Valid.{Valid, decode-encode}
use Rattle.track_shelf.specs.Memory.{encode_shelf}
use Rattle.track_shelf.specs.Both.{Both, encode_both, commit_both, on_both}
use Rattle.track_shelf.proofs.Shelves.{fresh-encoded}
use Rattle.track_shelf.proofs.Boths.{ValidBoth, on-encode}
use Rattle.track.specs.Track.{reported_fix, track_report}
use Rattle.track.specs.Calls.{fresh, runs}
use Rattle.track.proofs.Merging.{stepped-valid}
use Rattle.track.proofs.Ordered.{fresh-is, start-valid}
use Rattle.orders.specs.Claims.{track_calls, both_bytes, track_answers, track_after, serves, growing, largest_first, Position9}
use Rattle.orders.proofs.Taken.{id_s, id_m, id_l, no_inputs, is-id_s, is-id_m, is-id_l, none-cited, fix_with, fix_s, fix_m, fix_l, alone, refusing, first-s, then-m, then-l, first-l, then-s, last-m}

-- a track without summaries and convictions
abbrev holding : ℕ → List HeldTransmission → Track
holding n ts = record { convicted = 0; contested = n; summaries = []; transmissions = ts }

-- beside which none waits
abbrev alone_with : Track → Both
alone_with s = record { track = s; shelf = [] }

-- ---- the three records

abbrev none : List ℕ
none = []

-- a record, well-formed and without models, and the fix that engine 1 reports with it
record Known (r : List ℕ) (f : Fix) : Type 0 where
  formed : well_formed r ≡ true
  cites_none : models r ≡ none
  its_fix : (n : ℕ) (ts : List HeldTransmission) → reported_fix 1 r (holding n ts) ≡ f

module _ (r identity : List ℕ) (p : (well_formed r ≡ true) × (models r ≡ none)) (e : identity_of [] r ≡ identity) where
  same_inputs : cited_inputs [] r ≡ no_inputs
  unfolding cited_inputs inputs_in_order
  same_inputs = ap (λ (l : List ℕ). blake2s256 (cited_domain ++ (0 ∷ inputs_in_order l []))) p.1 ∙ none-cited

  known : Known r (fix_with identity r)
  unfolding with_bit
  known = record {
    formed = p.0;
    cites_none = p.1;
    its_fix = λ n ts i. record { identity = e i; record_bytes = r; inputs = same_inputs i; signers = 2 };
  }

-- who unfolds this unfolds what stands on its line
of-record : Unit {0}
unfolding well_formed ascends ascends_from all_up_to all_zero tags_from word_bytes word
of-record = tt

known-s : Known S fix_s
unfolding of-record
known-s = known S id_s (refl, refl) is-id_s

known-m : Known M fix_m
unfolding of-record
known-m = known M id_m (refl, refl) is-id_m

known-l : Known L fix_l
unfolding of-record
known-l = known L id_l (refl, refl) is-id_l

-- ---- one call

-- p has the bytes of a track that bytes can hold, and of an empty shelf
record Holds (p : List ℕ × List ℕ) (s : Track) : Type 0 where
  is : p ≡ encode_both (alone_with s)
  valid : Valid s

both-valid : (s : Track) → Valid s → ValidBoth (alone_with s)
both-valid s v = record { track = v; few = omega arith; wait = refl }

-- the track after a step
abbrev after_step : ℕ → Step → Track
after_step n x = holding ((n + x.entered) % 2 ^ 64) x.left

module _ {r : List ℕ} {f : Fix} (k : Known r f) (n : ℕ) (ts : List HeldTransmission) {x : Step} (e : merged f ts ≡ x) where
  is-step : merged (reported_fix 1 r (holding n ts)) ts ≡ x
  is-step = ap (λ (g : Fix). merged g ts) (k.its_fix n ts) ∙ e

  none-missing : first_missing [] r ≡ None
  none-missing = ap (find (λ (m : ℕ). is_missing (state_of m []))) k.cites_none

  it-counts : counts [] r ≡ true
  unfolding all_agreed
  it-counts = ap (λ (l : List ℕ). all_agreed (spec r) l []) k.cites_none

  taken : track_report 1 r (alone_with (holding n ts)) ≡ done (merged_number x.answer) (alone_with (after_step n x))
  unfolding bit
  taken = rw (k.formed, none-missing, it-counts, is-step) refl

  module _ {p : List ℕ × List ℕ} (h : Holds p (holding n ts)) where
    called : on_both (track_report 1 r) p.0 p.1 ≡ after (merged_number x.answer) (encode_both (alone_with (after_step n x)))
    called =
        ap (λ (q : List ℕ × List ℕ). on_both (track_report 1 r) q.0 q.1) h.is
        ∙ on-encode (alone_with (holding n ts)) (both-valid (holding n ts) h.valid) (track_report 1 r)
        ∙ ap (commit_both (encode (holding n ts)) (encode_shelf [])) taken

    answered : (on_both (track_report 1 r) p.0 p.1).answer ≡ merged_number x.answer
    answered = ap (λ (a : After (List ℕ × List ℕ)). a.answer) called

    left : Holds (on_both (track_report 1 r) p.0 p.1).left (after_step n x)
    left = record {
      is = ap (λ (a : After (List ℕ × List ℕ)). a.left) called;
      valid = subst (λ (y : Step). Valid (after_step n y)) is-step (stepped-valid (holding n ts) h.valid 1 r (omega arith) k.formed (unfold bit in refl));
    }

-- ---- fresh bytes

after_none : Holds fresh (holding 0 [])
after_none = record { is = λ i. (sym fresh-is i, sym fresh-encoded i); valid = start-valid }

-- ---- the two orders

abbrev one : HeldTransmission → List HeldTransmission
one t = t ∷ []

-- a report by engine 1 on bytes of both
abbrev told : List ℕ → List ℕ × List ℕ → List ℕ × List ℕ
told r p = (on_both (track_report 1 r) p.0 p.1).left

after-s : Holds (told S fresh) (holding 0 (one (alone fix_s)))
after-s = left known-s 0 [] first-s after_none

after-s-m : Holds (told M (told S fresh)) (holding 0 (one (alone fix_m)))
after-s-m = left known-m 0 (one (alone fix_s)) then-m after-s

after-growing : Holds (both_bytes growing) (holding 0 (one (alone fix_l)))
unfolding runs
after-growing = left known-l 0 (one (alone fix_m)) then-l after-s-m

after-l : Holds (told L fresh) (holding 0 (one (alone fix_l)))
after-l = left known-l 0 [] first-l after_none

after-l-s : Holds (told S (told L fresh)) (holding 1 (one (refusing fix_s)))
after-l-s = left known-s 0 (one (alone fix_l)) then-s after-l

after-largest-first : Holds (both_bytes largest_first) (holding 1 (one (refusing fix_m)))
unfolding runs
after-largest-first = left known-m 1 (one (refusing fix_s)) last-m after-l-s

-- ---- what is answered, and what is left

growing_answers : track_answers fresh (track_calls growing) ≡ merged_number Changed ∷ merged_number Changed ∷ merged_number Changed ∷ []
unfolding track_answers
growing_answers = λ i.
    answered known-s 0 [] first-s after_none i
    ∷ answered known-m 0 (one (alone fix_s)) then-m after-s i
    ∷ answered known-l 0 (one (alone fix_m)) then-l after-s-m i
    ∷ []

largest_first_answers : track_answers fresh (track_calls largest_first) ≡ merged_number Changed ∷ merged_number Changed ∷ merged_number Changed ∷ []
unfolding track_answers
largest_first_answers = λ i.
    answered known-l 0 [] first-l after_none i
    ∷ answered known-s 0 (one (alone fix_l)) then-s after-l i
    ∷ answered known-m 1 (one (refusing fix_s)) last-m after-l-s i
    ∷ []

decoded : {p : List ℕ × List ℕ} {s : Track} → Holds p s → decode p.0 ≡ s
decoded {p} {s} h = ap (λ (q : List ℕ × List ℕ). decode q.0) h.is ∙ decode-encode s h.valid

growing-leaves : track_after growing ≡ holding 0 (one (alone fix_l))
growing-leaves = decoded after-growing

largest-first-leaves : track_after largest_first ≡ holding 1 (one (refusing fix_m))
largest-first-leaves = decoded after-largest-first

pub position_9 : Position9
position_9 = record {
  serves_l = ap serves growing-leaves ∙ unfold flat_map in refl;
  serves_m = ap serves largest-first-leaves ∙ unfold flat_map in refl;
  none_contested = ap (λ (t : Track). t.contested) growing-leaves;
  one_contested = ap (λ (t : Track). t.contested) largest-first-leaves;
  growing_answers = growing_answers;
  largest_first_answers = largest_first_answers;
}
