-- What is written at the start of a buffer.
use Rattle.std.proofs.Common.{◌≡◌, ◌∙◌, ap, sym, subst, refl, ℕ, ◌≤◌, true, List, ◌++◌, length, take, drop, arith, length-append, le-ltb}
use Rattle.std.proofs.lemmas.List.{take_all, take-append-le}
use Rattle.lists.proofs.Bools.{and_left}
use Rattle.errors.specs.After.{After, after, write_text}
use Rattle.fix_lines.specs.Text.{board_size}
use Rattle.register.specs.Calls.{Call}
use Rattle.track_memory.specs.Memory.{convicted_in, summaries_in, well_formed, decode}
use Rattle.track_shelf.specs.Memory.{shelf_formed}
use Rattle.track_shelf.specs.Both.{both_formed}
use Rattle.track.specs.Calls as T
use Rattle.track.proofs.Shelved.{none-waits-in-vain}
use Rattle.orders.specs.Claims.{track_calls}
use Rattle.track_listing.specs.Listing.{listing_of, list_track}

-- a number of bytes is the listing of a track
pub record Listed (m l : List ℕ) (n : ℕ) : Type 0 where
  pub text : take n l ≡ listing_of (decode m)
  pub room : n ≤ length l
  pub size : n ≡ length (take n l)

written : (t out l : List ℕ) (n : ℕ) → after n l ≡ write_text t out → (take n l ≡ t) × (n ≤ length l)
written t out l n h =
    let long : n ≡ length t = ap (λ (z : After (List ℕ)). z.answer) h in
    let whole : l ≡ t ++ drop (length t) out = ap (λ (z : After (List ℕ)). z.left) h in
    let size = ap length whole ∙ length-append t (drop (length t) out) in (
      ap (λ (k : ℕ). take k l) long ∙ ap (take (length t)) whole ∙ take-append-le (length t) t (drop (length t) out) (omega arith) ∙ take_all (length t) t (omega arith),
      omega (arith, long, size),
    )

pub listed : (m out l : List ℕ) (n : ℕ) → well_formed m ≡ true → board_size ≤ length out → after n l ≡ list_track m out → Listed m l n
unfolding list_track
listed m out l n f h e =
    let w : after n l ≡ write_text (listing_of (decode m)) out = e ∙ rw (f, le-ltb _ _ h) refl in
    let k = written (listing_of (decode m)) out l n w in
    record { text = k.0; room = k.1; size = ap (λ (z : After (List ℕ)). z.answer) w ∙ sym (ap length k.0) }

-- calls leave a track
pub formed : (m w : List ℕ) (cs : List Call) → ◌≡◌ {A = List ℕ × List ℕ} (m, w) (T.runs T.fresh (track_calls cs)) → well_formed m ≡ true
formed m w cs e =
    let both : both_formed m w ≡ true = subst (λ (p : List ℕ × List ℕ). both_formed p.0 p.1 ≡ true) (sym e) (none-waits-in-vain (track_calls cs)).0 in
    and_left (well_formed m) (shelf_formed (convicted_in m) (summaries_in m) w) both
