-- What calls leave, one after another.
use Rattle.std.proofs.Common.{◌≡◌, ◌∙◌, ap, sym, refl, ℕ, Bool, true, false, List, [], ◌∷◌, ◌&&◌, not, eqb, ◌++◌, Option, Some, None}
use Rattle.std.specs.List.{cons_option}
use Rattle.errors.specs.After.{After, after}
use Rattle.register.specs.Calls.{Call, called, runs, none_full}
use Rattle.track_shelf.specs.Both.{on_both}
use Rattle.track.specs.Calls as T
use Rattle.orders.specs.Claims.{on_track, track_calls}
use Rattle.rooms_orders.specs.Tried.{one}

-- ---- on a register

module _ (m m' : List ℕ) (a : ℕ) (c : Call) (cs : List Call) (h : after a m' ≡ called c m) where
  pub run : runs m (c ∷ cs) ≡ runs m' cs
  unfolding runs
  run = ap (λ (z : After (List ℕ)). runs z.left cs) (sym h)

  pub full : none_full m (c ∷ cs) ≡ (not (eqb a 5) && none_full m' cs)
  unfolding none_full
  full = ap (λ (z : After (List ℕ)). not (eqb z.answer 5) && none_full z.left cs) (sym h)

pub runs-none : (m : List ℕ) → runs m [] ≡ m
unfolding runs
runs-none m = refl

pub full-none : (m : List ℕ) → none_full m [] ≡ true
unfolding none_full
full-none m = refl

pub and_assoc : (a b c : Bool) → ((a && b) && c) ≡ (a && (b && c))
and_assoc true b c = refl
and_assoc false b c = refl

pub and_true : (a : Bool) → (a && true) ≡ a
and_true true = refl
and_true false = refl

-- ---- on a track

pub acted : (a : ℕ) (p q : List ℕ × List ℕ) (c : T.Call) → after a p ≡ on_both (T.act c) q.0 q.1 → p ≡ T.runs q (c ∷ [])
unfolding T.runs
acted a p q c h = ap (λ (z : After (List ℕ × List ℕ)). z.left) h

runs-append : (p : List ℕ × List ℕ) (cs ds : List T.Call) → T.runs p (cs ++ ds) ≡ T.runs (T.runs p cs) ds
unfolding T.runs
runs-append p [] ds = refl
runs-append p (c ∷ cs) ds = runs-append (on_both (T.act c) p.0 p.1).left cs ds

calls-front : (c : Call) (cs : List Call) → track_calls (c ∷ cs) ≡ track_calls (one c) ++ track_calls cs
calls-front c cs = go (on_track c)
  where
    go : (o : Option T.Call) → cons_option o (track_calls cs) ≡ cons_option o [] ++ track_calls cs
    go None = refl
    go (Some x) = refl

-- a call, and those after it
pub run-on-track : (p q : List ℕ × List ℕ) (c : Call) (cs : List Call) → q ≡ T.runs p (track_calls (one c)) → T.runs p (track_calls (c ∷ cs)) ≡ T.runs q (track_calls cs)
run-on-track p q c cs h =
    ap (T.runs p) (calls-front c cs) ∙ runs-append p (track_calls (one c)) (track_calls cs) ∙ ap (λ (z : List ℕ × List ℕ). T.runs z (track_calls cs)) (sym h)

pub none-on-track : (p : List ℕ × List ℕ) → T.runs p (track_calls []) ≡ p
unfolding T.runs
none-on-track p = refl
