-- Nothing is said of a register exactly where it holds nothing.
use Rattle.std.proofs.Common.{◌≡◌, ◌∙◌, ap, sym, refl, ℕ, zero, suc, ◌+◌, ◌^◌, ◌≤◌, ◌<◌, true, eqb, eqb-true, List, [], ◌∷◌, ◌++◌, take, arith, flat_map}
use borrow.Author.Tests.{eqb-false, eq-eqb}
use mathlib.Core.Bool.{false≢true}
use Rattle.std.specs.List.{list_all}
use Rattle.lists.specs.Ordered.{count_from}
use Rattle.lists.proofs.Bools.{by, and_left}
use Rattle.octets.specs.Ascii.{ascii}
use Rattle.octets.specs.Bytes.{Bytes}
use Rattle.octets.specs.Masks.{bit}
use Rattle.octets.proofs.Lookup.{bit-zero, bit-ext, bit_below}
use Rattle.record.specs.Layout.{record_size}
use Rattle.signed_records.specs.Signed.{signers_in}
use Rattle.signed_records.proofs.Signatures.{place_held, place, place-small}
use Rattle.register.specs.Register.{Register}
use Rattle.register.specs.Memory.{well_formed, decode, encode}
use Rattle.register.proofs.History.{start, start-valid}
use Rattle.register.proofs.Whole.{fresh-is}
use Rattle.register.proofs.Valid.{Valid, decode-encode}
use Rattle.register_join.specs.Lacks.{lacking}
use Rattle.register_join.proofs.JoinBytes.{valid, loosely}
use Rattle.register_join.proofs.Lacked.{lacking-valid}
use Rattle.register_join.proofs.Delivered.{what-is-lacking}
use Rattle.rooms_text.specs.declared.lines.Room.{Room}
use Rattle.rooms_text.specs.Lines.{conviction_line, summary_line, report_line}
use Rattle.rooms_text.specs.Lacking.{if_in, for_each_in, report_lines, lacking_text}
use Rattle.rooms_text.specs.Claims.{Silent, SilentExactlyWhere}

-- ---- texts of no bytes

first-none : (s t : List ℕ) → s ++ t ≡ [] → s ≡ []
first-none [] t h = refl
first-none (x ∷ s) t h = cc

second-none : (s t : List ℕ) → s ++ t ≡ [] → t ≡ []
second-none [] t h = h
second-none (x ∷ s) t h = cc

-- a line has its end
ends : (s : List ℕ) → s ++ ascii "\n" ≡ [] → ⊥
unfolding ascii
ends s h = let e = second-none s (10 ∷ []) h in cc

module _ (room : Room) where
  conviction-some : (e : ℕ) → conviction_line room e ≡ [] → ⊥
  unfolding conviction_line
  conviction-some e h = ends _ h

  summary-some : (p : List ℕ) → summary_line room p ≡ [] → ⊥
  unfolding summary_line
  summary-some p h = ends _ h

  report-some : (r : List ℕ) (e : ℕ) → report_line room r e ≡ [] → ⊥
  unfolding report_line
  report-some r e h = ends _ h

-- ---- the engines of a set

each-none : (f : ℕ → List ℕ) (k n : ℕ) → flat_map f (count_from k n) ≡ [] → (e : ℕ) → k ≤ e → e < k + n → f e ≡ []
unfolding count_from
each-none f k zero h e a b = absurd (omega arith)
each-none f k (suc n) h e a b =
    by (eqb e k)
    (λ q. ap f (eqb-true e k q) ∙ first-none (f k) (flat_map f (count_from (suc k) n)) h)
    (λ q. let other = eqb-false e k q in each-none f (suc k) n (second-none (f k) (flat_map f (count_from (suc k) n)) h) e (omega (arith, other)) (omega arith))

module _ (text : ℕ → List ℕ) where
  -- no engine is in a set of which nothing is said
  set-none : (set : ℕ) → ((e : ℕ) → text e ≡ [] → ⊥) → set < 2 ^ 32 → for_each_in set text ≡ [] → set ≡ 0
  set-none set some small h = bit-ext set 0 (λ k. by (bit set k) (λ t. absurd (here k (bit_below 32 set k small t) t)) (λ f. f ∙ sym (bit-zero k)))
    where
      here : (k : ℕ) → k < 32 → bit set k ≡ true → ⊥
      here k b t = let none : if_in set text k ≡ [] = each-none (if_in set text) 0 32 h k (omega arith) (omega arith) in some k (rw t at none)

  none-set : (k n : ℕ) → flat_map (if_in 0 text) (count_from k n) ≡ []
  unfolding count_from
  none-set k zero = refl
  none-set k (suc n) = rw (bit-zero k) (none-set (suc k) n)

-- ---- a register

module _ (room : Room) where
  no-summaries : (ps : List (List ℕ)) → flat_map (summary_line room) ps ≡ [] → ps ≡ []
  no-summaries [] h = refl
  no-summaries (p ∷ ps) h = absurd (summary-some room p (first-none (summary_line room p) (flat_map (summary_line room) ps) h))

  no-records : (c : ℕ) (ps : List (List ℕ)) → list_all (place_held c) ps ≡ true → flat_map (report_lines room) ps ≡ [] → ps ≡ []
  no-records c [] v h = refl
  no-records c (p ∷ ps) v h =
      let held = place c p (and_left (place_held c p) (list_all (place_held c) ps) v) in
      let none = set-none (report_line room (take record_size p)) (signers_in p) (report-some room (take record_size p)) (place-small c p held) (first-none (report_lines room p) (flat_map (report_lines room) ps) h) in
      absurd (false≢true (sym held.some ∙ eq-eqb (signers_in p) 0 none))

  module _ (s : Register) (v : Valid s) where
    silent-start : lacking_text room s ≡ [] → s ≡ start
    unfolding lacking_text
    silent-start h =
        let front = first-none _ (flat_map (report_lines room) s.records) h in
        let convicted : s.convicted ≡ 0 = set-none (conviction_line room) s.convicted (conviction-some room) v.small (first-none _ (flat_map (summary_line room) s.summaries) front) in
        let summaries : s.summaries ≡ [] = no-summaries s.summaries (second-none (for_each_in s.convicted (conviction_line room)) _ front) in
        let records : s.records ≡ [] = no-records s.convicted s.records v.records_held (second-none _ (flat_map (report_lines room) s.records) h) in
        λ i. record { convicted = convicted i; summaries = summaries i; records = records i }

  start-silent : lacking_text room start ≡ []
  unfolding lacking_text
  start-silent = rw (none-set (conviction_line room) 0 32) refl

  module _ (n m : List ℕ) (b : Bytes n) (a : Bytes m) (g : well_formed n ≡ true) (h : well_formed m ≡ true) where
    abbrev delta : Register
    delta = lacking (decode n) (decode m)

    delta-valid : Valid delta
    delta-valid = lacking-valid (decode n) (decode m) (valid n b g) (loosely m a h)

    silent-here : Silent room n m
    silent-here = record {
      nothing_new = λ q. (what-is-lacking n m b a g h).nothing_new (ap encode (silent-start delta delta-valid q) ∙ fresh-is);
      nothing_said = λ q.
          ap (lacking_text room)
          (sym (decode-encode delta delta-valid) ∙ ap decode ((what-is-lacking n m b a g h).nothing_lacking q ∙ sym fresh-is) ∙ decode-encode start start-valid)
          ∙ start-silent;
    }

pub silent : SilentExactlyWhere
silent = silent-here
