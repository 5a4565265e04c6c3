-- The claims about the order of a track's transmissions and the fix that it serves.
use Rattle.std.proofs.Common.{◌≡◌, ℕ, not, suc, ◌+◌, ◌-◌, ◌≤◌, true, false, List, [], ◌∷◌, ◌++◌, length, take, drop, replicate, sym, refl, ap, ap₂, ◌∙◌, subst, arith}
use mathlib.Core.Bool.{false≢true}
use mathlib.Core.List.Memᴰ
use mathlib.Core.List.{flat_map, Memᴰ}
use lib.ListN.{replicate-append-replicate}
use Rattle.std.specs.List.{filter, list_any}
use Rattle.lists.specs.Lists.{last_of}
use Rattle.lists.proofs.Bools.{by, or}
use Rattle.lists.proofs.Lists.{flat_in}
use Rattle.octets.specs.Words.{word_bytes}
use Rattle.tables.specs.Places.{flat, ascending}
use Rattle.errors.specs.After.{After}
use Rattle.models.specs.Limits.{summaries_size}
use Rattle.fixes.specs.Fix.{Fix}
use Rattle.fixes.specs.Ages.{older, older_first}
use Rattle.fixes.proofs.Ages.{older-irrefl}
use Rattle.track_transmission.specs.Held.{HeldTransmission}
use Rattle.track_arrange.specs.Arranged.{is_nonempty, has_fix, older_than}
use Rattle.track_arrange.specs.Claims.{InOrder, none, next}
use Rattle.track_arrange.proofs.Tables.{drop-in}
use Rattle.track_arrange.proofs.Claimed.{arranged-in-order}
use Rattle.track_merge.proofs.Claimed.{order-kept}
use Rattle.track_memory.specs.Layout.{summaries_at, transmissions_size}
use Rattle.track_memory.specs.Track.{Track, Transition, refused, done}
use Rattle.track_memory.specs.Memory as M
use Rattle.track_memory.specs.Memory.{encode}
use Rattle.track_memory.proofs.Valid.{Valid}
use Rattle.track_recheck.specs.Recheck.{has_stale, recheck, strike_engine}
use Rattle.track_shelf.specs.Waiting.{Waiting, waits_for}
use Rattle.track_shelf.specs.Memory.{encode_shelf}
use Rattle.track_shelf.specs.Both.{Both, both_formed, decode_both, encode_both, commit_both, on_both}
use Rattle.track_shelf.proofs.Shelves.{fresh-encoded}
use Rattle.track_shelf.proofs.Boths.{ValidBoth, formed-encode, decode-encode, on-encode}
use Rattle.track.specs.Track.{reported_fix, track_report, tried}
use Rattle.track.specs.Served.{kept_of}
use Rattle.track.specs.Calls.{Call, report, summary, conviction, act, fresh, runs}
use Rattle.track.specs.Claims.{StaysInOrder, ReachedInOrder, OneServed, LatestServed}
use Rattle.track.proofs.Kept.{act-valid}
use Rattle.track.proofs.Leaving.{Leaves, left_after, report-leaves, tried-keeps, summary-leaves, conviction-leaves}

abbrev Ordered : Track → Type 0
Ordered s = InOrder s.transmissions

abbrev BothOrdered : Both → Type 0
BothOrdered b = Ordered b.track

-- ---- every call keeps the order

recheck-order : (s : Track) → Ordered s → Ordered (recheck s)
unfolding recheck
recheck-order s w = by (list_any (has_stale s.summaries) s.transmissions) (λ e. rw e (arranged-in-order _)) (λ e. rw e w)

strike-order : (e : ℕ) (s : Track) → Ordered (strike_engine e s)
unfolding strike_engine
strike-order e s = arranged-in-order _

report-order : (e : ℕ) (r : List ℕ) (b : Both) → BothOrdered b → Leaves BothOrdered (track_report e r b)
report-order e r b w = report-leaves BothOrdered e r b (λ h v c. ((λ m q k. w), (λ q. order-kept (reported_fix e r b.track) b.track.transmissions w)))

tried-order : (b : Both) (x : Waiting) → BothOrdered b → BothOrdered (tried b x)
tried-order b x w = left_after BothOrdered b (track_report x.engine x.record_bytes b) w (report-order x.engine x.record_bytes b w)

act-leaves : (c : Call) (b : Both) → BothOrdered b → Leaves BothOrdered (act c b)
act-leaves (report e r) b w = report-order e r b w
act-leaves (summary e model spec inputs) b w =
    summary-leaves Ordered BothOrdered e model spec inputs b (λ h g l c d. w) recheck-order
    (λ t q. tried-keeps BothOrdered tried-order (filter (waits_for model) b.shelf) (record { track = t; shelf = filter (λ x. not (waits_for model x)) b.shelf }) q)
act-leaves (conviction e) b w = conviction-leaves BothOrdered e b (λ h. recheck-order (strike_engine e b.track) (strike-order e b.track))

pub stays-in-order : StaysInOrder
stays-in-order c b w = left_after BothOrdered b (act c b) w (act-leaves c b w)

-- ---- tracks that are reached

abbrev pub start : Track
start = record { convicted = 0; contested = 0; summaries = []; transmissions = [] }

abbrev pub start-both : Both
start-both = record { track = start; shelf = [] }

-- fresh bytes are those of the empty track and of the empty shelf
pub fresh-is : encode start ≡ M.fresh
unfolding encode flat word_bytes
fresh-is =
    ap (λ (t : List ℕ). replicate summaries_at 0 ++ t) (replicate-append-replicate summaries_size transmissions_size 0)
    ∙ replicate-append-replicate summaries_at (summaries_size + transmissions_size) 0

pub start-valid : Valid start
unfolding ascending
start-valid = record {
  small = omega arith;
  counted = omega arith;
  few_summaries = omega arith;
  few = omega arith;
  summaries-wide = tt;
  summaries-ascend = refl;
  summaries-formed = refl;
  held = λ t m. absurd (Memᴰ.not-nil m);
}

start-both-valid : ValidBoth start-both
start-both-valid = record { track = start-valid; few = omega arith; wait = refl }

-- the bytes of a track and a shelf that are valid, and in order
pub record Reached (p : List ℕ × List ℕ) : Type 0 where
  pub both : Both
  pub valid : ValidBoth both
  pub order : BothOrdered both
  pub is : p ≡ encode_both both

call-reaches : (c : Call) (p : List ℕ × List ℕ) → Reached p → Reached (on_both (act c) p.0 p.1).left
call-reaches c p x =
    let b = x.both in
    subst Reached (sym (ap (λ (k : List ℕ × List ℕ). (on_both (act c) k.0 k.1).left) x.is ∙ ap (λ (a : After (List ℕ × List ℕ)). a.left) (on-encode b x.valid (act c))))
    (go (act c b) (act-valid c b x.valid) (act-leaves c b x.order))
  where
    go : (o : Transition Both) → Leaves ValidBoth o → Leaves BothOrdered o → Reached (commit_both (encode x.both.track) (encode_shelf x.both.shelf) o).left
    go (refused n) v w = record { both = x.both; valid = x.valid; order = x.order; is = refl }
    go (done n t) v w = record { both = t; valid = v; order = w; is = refl }

runs-reach : (cs : List Call) (p : List ℕ × List ℕ) → Reached p → Reached (runs p cs)
unfolding runs
runs-reach [] p x = x
runs-reach (c ∷ cs) p x = runs-reach cs (on_both (act c) p.0 p.1).left (call-reaches c p x)

fresh-reached : Reached fresh
fresh-reached = record { both = start-both; valid = start-both-valid; order = none; is = sym (ap₂ (λ (m w : List ℕ). (m, w)) fresh-is fresh-encoded) }

pub all-reached : (cs : List Call) → Reached (runs fresh cs)
all-reached cs = runs-reach cs fresh fresh-reached

pub reached-formed : {p : List ℕ × List ℕ} → Reached p → both_formed p.0 p.1 ≡ true
reached-formed x = rw x.is (formed-encode x.both x.valid)

pub reached-held : {p : List ℕ × List ℕ} (x : Reached p) → decode_both p.0 p.1 ≡ x.both
reached-held x = ap (λ (k : List ℕ × List ℕ). decode_both k.0 k.1) x.is ∙ decode-encode x.both x.valid

pub reached-in-order : ReachedInOrder
reached-in-order cs = let x = all-reached cs in (reached-formed x, subst BothOrdered (sym (reached-held x)) x.order)

-- ---- the fix that is served

last-behind : {A : Type 0} (x y : A) (l : List A) → last_of 1 (x ∷ (y ∷ l)) ≡ last_of 1 (y ∷ l)
last-behind x y l = let e : length (x ∷ (y ∷ l)) - 1 ≡ suc (length (y ∷ l) - 1) = omega arith in ap (λ (n : ℕ). drop n (x ∷ (y ∷ l))) e

not_itself : (t : HeldTransmission) → has_fix t ≡ true → older_than t t ≡ false
not_itself t p = go t.fixes p
  where
    go : (fs : List Fix) → is_nonempty fs ≡ true → older_first fs fs ≡ false
    go [] p = absurd (false≢true p)
    go (f ∷ fs) p = older-irrefl f

-- the last is older than none
last-latest : (ts : List HeldTransmission) → InOrder ts → (l t : HeldTransmission) → Memᴰ l (last_of 1 ts) → Memᴰ t ts → older_than l t ≡ false
last-latest [] none l t m k = absurd (Memᴰ.not-nil k)
last-latest (x ∷ []) (next p f w) l t m k = rw (Memᴰ.eq_of_singleton m, Memᴰ.eq_of_singleton k) (not_itself x p)
last-latest (x ∷ (y ∷ ts)) (next p f w) l t m k =
    let n = subst (λ (u : List HeldTransmission). Memᴰ l u) (last-behind x y ts) m in
    or (Memᴰ.cases_cons k)
    (λ e. rw e (f l (drop-in (y ∷ ts) (length (y ∷ ts) - 1) l n)))
    (λ j. last-latest (y ∷ ts) w l t n j)

first-older : (fs gs : List Fix) (f g : Fix) → older_first fs gs ≡ false → Memᴰ f (take 1 fs) → Memᴰ g (take 1 gs) → older f g ≡ false
first-older [] gs f g e m k = absurd (Memᴰ.not-nil m)
first-older (a ∷ fs) [] f g e m k = absurd (Memᴰ.not-nil k)
first-older (a ∷ fs) (b ∷ gs) f g e m k = rw (Memᴰ.eq_of_singleton m, Memᴰ.eq_of_singleton k) e

pub latest-served : LatestServed
latest-served s w t f g m k j =
    let r = flat_in kept_of (last_of 1 s.transmissions) f m in
    let l = r.0 in
    first-older l.fixes t.fixes f g (last-latest s.transmissions w l t r.1 k) r.2 j

pub one-served : OneServed
unfolding flat_map
one-served s w h = go s.transmissions w h
  where
    kept : (fs : List Fix) → is_nonempty fs ≡ true → length (take 1 fs ++ []) ≡ 1
    kept [] p = absurd (false≢true p)
    kept (f ∷ fs) p = refl

    go : (ts : List HeldTransmission) → InOrder ts → 1 ≤ length ts → length (flat_map kept_of (last_of 1 ts)) ≡ 1
    go [] none h = absurd (omega arith)
    go (t ∷ []) (next p f w) h = kept t.fixes p
    go (t ∷ (u ∷ ts)) (next p f w) h = ap (λ (l : List HeldTransmission). length (flat_map kept_of l)) (last-behind t u ts) ∙ go (u ∷ ts) w (omega arith)
