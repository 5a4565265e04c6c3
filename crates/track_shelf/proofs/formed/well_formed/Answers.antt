use Rattle.std.proofs.Common.{ℕ, ◌≡◌, ◌≤◌, ◌<◌, ◌*◌, ◌&&◌, false, List, refl, sym, ap, ◌∙◌, length, drop}
use borrow.Author.Tests.{eq-eqb, le-leb, lt-leb}
use Rattle.std.specs.List.{list_all}
use Rattle.octets.specs.Runs.{all_zero}
use Rattle.tables.specs.Places.{places}
use Rattle.models.specs.Answers.{summary_places}
use Rattle.track_shelf.specs.Layout.{shelf_size, max_waiting, place_size, places_at}
use Rattle.track_shelf.specs.Memory.{waiting_in, waiting_count, shelf_formed}
use Rattle.track_shelf.specs.Waiting.{may_wait}
use Rattle.track_shelf.proofs.formed.well_formed.Goals as goal

-- ---- the definition, by the checks of the function
module _ (c : ℕ) (ss : List (List ℕ)) (m : List ℕ) (size : length m ≡ shelf_size) where
  many : max_waiting < waiting_count m → shelf_formed c ss m ≡ false
  unfolding shelf_formed
  many h = rw (eq-eqb (length m) shelf_size size, lt-leb (waiting_count m) max_waiting h) refl

  by-places : waiting_count m ≤ max_waiting → shelf_formed c ss m
      ≡ (list_all (λ p. may_wait c ss (waiting_in p)) (places place_size (waiting_count m) (drop places_at m)) && all_zero (drop (waiting_count m * place_size) (drop places_at m)))
  unfolding shelf_formed
  by-places h = rw (eq-eqb (length m) shelf_size size, le-leb (waiting_count m) max_waiting h) refl

pub returns-then-count-gt-MAX_WAITING : goal.returns-then-count-gt-MAX_WAITING
returns-then-count-gt-MAX_WAITING c = sym (many c.args.convicted (summary_places c.args.all) c.args.m.now c.told-m c.if-count-gt-MAX_WAITING.true)

pub returns-then-all_may_wait : goal.returns-then-all_may_wait
returns-then-all_may_wait c =
    let m = c.args.m.now in
    let ss = summary_places c.args.all in
    let waits : c.all_may_wait.result ≡ list_all (λ p. may_wait c.args.convicted ss (waiting_in p)) (places place_size (waiting_count m) (drop places_at m)) =
    c.all_may_wait.ensures ∙ ap (list_all (λ (p : List ℕ). may_wait c.args.convicted ss (waiting_in p))) (c.places_of.ensures ∙ ap (places place_size (waiting_count m)) c.split_at.ensures.back) in
    c.is_zero.ensures
    ∙ ap all_zero (c.split_at-then-all_may_wait.ensures.back ∙ ap (drop (waiting_count m * place_size)) c.split_at.ensures.back)
    ∙ sym (by-places c.args.convicted ss m c.told-m c.if-count-gt-MAX_WAITING.false ∙ rw (sym waits ∙ c.if-all_may_wait.true) refl)

pub returns-else-all_may_wait : goal.returns-else-all_may_wait
returns-else-all_may_wait c =
    let m = c.args.m.now in
    let ss = summary_places c.args.all in
    let waits : c.all_may_wait.result ≡ list_all (λ p. may_wait c.args.convicted ss (waiting_in p)) (places place_size (waiting_count m) (drop places_at m)) =
    c.all_may_wait.ensures ∙ ap (list_all (λ (p : List ℕ). may_wait c.args.convicted ss (waiting_in p))) (c.places_of.ensures ∙ ap (places place_size (waiting_count m)) c.split_at.ensures.back) in
    c.if-all_may_wait.false ∙ sym (by-places c.args.convicted ss m c.told-m c.if-count-gt-MAX_WAITING.false ∙ rw (sym waits ∙ c.if-all_may_wait.false) refl)
