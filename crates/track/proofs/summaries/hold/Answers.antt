use Rattle.std.proofs.Common.{◌≡◌, ℕ, Bool, true, false, List, length, refl, sym, ap, ◌∙◌, rules}
use Rattle.octets.specs.Bytes.{Bytes}
use Rattle.octets.proofs.Numbers.{all-bytes}
use Rattle.models.specs.Summary.{summary_size}
use Rattle.models.specs.Models.{state_of}
use Rattle.errors.specs.After.{after}
use Rattle.errors.specs.Errors.{error_number, answer_number}
use Rattle.errors.proofs.Numbered.{never-zero}
use Rattle.models.specs.Summaries.{summary_formed}
use Rattle.track_memory.specs.Track.{Track}
use Rattle.track_memory.specs.Memory.{well_formed, decode, encode, commit}
use Rattle.track_memory.specs.Steps.{with_pair, put_pair}
use Rattle.track_memory.proofs.Opened.{opened}
use Rattle.track_memory.proofs.Valid.{Valid, decode-valid, formed-encode, decode-encode}
use Rattle.track_memory.proofs.Pairs.{pair-valid}
use Rattle.track_recheck.specs.Recheck.{recheck}
use Rattle.track.specs.Track.{is_disputed}
use Rattle.track.proofs.Holding.{pair-room, pair-refused, pair_left, pair-plain, pair-rechecked}
use Rattle.track.proofs.summaries.hold.Goals as goal
use Rattle.track.proofs.summaries.hold.Goals.{In_ok-put_pair, else-not-was-via-then-not-was+else-is_disputed, else-not-was-via-else-not-was}

-- a summary p was put into the track m, which is x then
record Put (m p x : List ℕ) : Type 0 where
  stored : x ≡ encode (with_pair p (decode m))
  valid : Valid (with_pair p (decode m))

put-is : (m p x : List ℕ) (a model : ℕ) → Bytes m → well_formed m ≡ true → length p ≡ summary_size → summary_formed (decode m).convicted p ≡ true → after a x ≡ commit m (put_pair p (decode m)) → a ≡ 0 → Put m p x
put-is m p x a model bytes is wide formed put z = record {
  stored = pair_left m model p a x put z;
  valid = pair-valid p wide (decode m) (decode-valid m (opened m is) bytes) formed (pair-room m model p a x put z);
}

module _ {m p x : List ℕ} (u : Put m p x) where
  abbrev t : Track
  t = with_pair p (decode m)

  is-track : well_formed x ≡ true
  is-track = ap well_formed u.stored ∙ formed-encode t u.valid

  held : decode x ≡ t
  held = ap decode u.stored ∙ decode-encode t u.valid

put : (c : In_ok-put_pair) → Put c.args.memory.now c.args.p.now c.put_pair.new.memory
put c =
    let wide : length c.args.p.now ≡ summary_size = search rules in
    let m = c.args.memory.now in
    put-is m c.args.p.now c.put_pair.new.memory (answer_number c.put_pair.result) c.args.model (all-bytes m (search rules)) c.requires.track wide c.requires.formed c.put_pair.ensures (ap answer_number c.in_ok-put_pair.was)

-- whether a model is disputed, asked of a track that is read
asked : (model : ℕ) {b : Bool} {ss : List (List ℕ)} {v s : Track} → b ≡ is_disputed (state_of model ss) → ss ≡ v.summaries → v ≡ s → b ≡ is_disputed (state_of model s.summaries)
asked model p q r = p ∙ ap (λ (ss : List (List ℕ)). is_disputed (state_of model ss)) (q ∙ ap (λ (s : Track). s.summaries) r)

was-disputed : (c : In_ok-put_pair) → is_disputed (state_of c.args.model (decode c.args.memory.now).summaries) ≡ c.is_disputed-was.result
was-disputed c = sym (asked c.args.model c.is_disputed-was.ensures c.summaries.ensures c.of.ensures)

pub returns-in_err-put_pair : goal.returns-in_err-put_pair
returns-in_err-put_pair c =
    let e : answer_number c.put_pair.result ≡ error_number c.in_err-put_pair.field-0.0 = ap answer_number c.in_err-put_pair.was in
    let f : answer_number c.from_residual.result ≡ error_number c.in_err-put_pair.field-0.0 = search rules in
    rw f (pair-refused c.args.memory.now c.args.model c.args.p.now _ c.put_pair.new.memory (rw e at c.put_pair.ensures) (never-zero c.in_err-put_pair.field-0.0))

pub of-requires-then-not-was : goal.of-requires-then-not-was
of-requires-then-not-was c = is-track (put (goal.at.of-requires-then-not-was c).In_ok-put_pair)

pub recheck-requires : goal.recheck-requires
recheck-requires c = is-track (put (goal.at.recheck-requires c).In_ok-put_pair)

pub returns-else-not-was : goal.returns-else-not-was
returns-else-not-was c =
    let u = put (goal.at.returns-else-not-was c).In_ok-put_pair in
    let told = was-disputed (goal.at.returns-else-not-was c).In_ok-put_pair in
    let as-it-is = pair-plain c.args.memory.now c.args.model c.args.p.now (answer_number c.put_pair.result) c.put_pair.new.memory c.put_pair.ensures (ap answer_number c.in_ok-put_pair.was) in
    elim c.else-not-was.branch [
      | else-not-was-via-then-not-was+else-is_disputed w ↦
          (let before : is_disputed (state_of c.args.model (decode c.args.memory.now).summaries) ≡ false = told ∙ w.if-not-was.true in
          let now = sym (asked c.args.model w.is_disputed.ensures w.summaries-then-not-was.ensures (w.of-then-not-was.ensures ∙ held u)) ∙ w.if-is_disputed.false in
          as-it-is (rw (before, now) refl))
      | else-not-was-via-else-not-was w ↦ (let before = told ∙ w.if-not-was.false in as-it-is (rw before refl))
    ]

pub returns-then-is_disputed : goal.returns-then-is_disputed
returns-then-is_disputed c =
    let u = put (goal.at.returns-then-is_disputed c).In_ok-put_pair in
    let before : is_disputed (state_of c.args.model (decode c.args.memory.now).summaries) ≡ false = was-disputed (goal.at.returns-then-is_disputed c).In_ok-put_pair ∙ c.if-not-was.true in
    let now = sym (asked c.args.model c.is_disputed.ensures c.summaries-then-not-was.ensures (c.of-then-not-was.ensures ∙ held u)) ∙ c.if-is_disputed.true in
    pair-rechecked c.args.memory.now c.args.model c.args.p.now (answer_number c.put_pair.result) c.put_pair.new.memory c.put_pair.ensures (ap answer_number c.in_ok-put_pair.was) (rw (before, now) refl) _
    (c.recheck.ensures ∙ ap (λ (s : Track). encode (recheck s)) (held u))
