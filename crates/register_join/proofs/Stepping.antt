-- One more call on any register that holds what a history has: what it holds then, and exactly when the call is refused as full.
use Rattle.std.proofs.Common.{◌≡◌, sym, false, not, List, ◌∷◌, arith, eqb}
use borrow.Author.Tests.{not-true}
use Rattle.octets.specs.Masks.{bit}
use Rattle.register.specs.Register.{Register}
use Rattle.register.specs.Calls.{Call, report, summary, conviction, fits}
use Rattle.register.proofs.Acting.{act}
use Rattle.register.proofs.History.{Sum, refused, filled, settled, report-way, summary-way, report-moot, report-done, summary-moot, summary-done, conviction-step}
use Rattle.register.proofs.Room.{room, over-records, over-summaries, conviction-roomy}

-- a register that holds what a history has holds, after one more call that is not refused as full, what the history has with it
pub step : (c : Call) (h : List Call) (s : Register) → Sum h s → eqb (act c s).answer 5 ≡ false → Sum (c ∷ h) (act c s).left
step (report k r) h s u n =
    elim (report-way s k r) [
      | refused e n w ↦ rw e (report-moot k r h s u w)
      | filled e l w c f ↦ absurd (grind arith)
      | settled e n w c f ↦ rw e (report-done k r h s u w (not-true (bit s.convicted k) c) f)
    ]
step (summary k model spec inputs) h s u n =
    elim (summary-way s k model spec inputs) [
      | refused e n w ↦ rw e (summary-moot k model spec inputs h s u w)
      | filled e l w c f ↦ absurd (grind arith)
      | settled e n w c f ↦ rw e (summary-done k model spec inputs h s u w (not-true (bit s.convicted k) c) f)
    ]
step (conviction d k) h s u n = conviction-step d k h s u

here : (c : Call) (h : List Call) (s : Register) → Sum h s → eqb (act c s).answer 5 ≡ false → not (eqb (act c s).answer 5) ≡ fits (c ∷ h)
here c h s u n = grind (arith, room (c ∷ h) (act c s).left (step c h s u n))

-- a call is refused as full exactly where what the history has with it does not fit
pub fits-next : (c : Call) (h : List Call) (s : Register) → Sum h s → not (eqb (act c s).answer 5) ≡ fits (c ∷ h)
fits-next (conviction d k) h s u = here (conviction d k) h s u (conviction-roomy d k s)
fits-next (report k q) h s u =
    elim (report-way s k q) [
      | refused e n w ↦ here (report k q) h s u n
      | filled e l w c f ↦ rw e (sym (over-records h s u k q w c f))
      | settled e n w c f ↦ here (report k q) h s u n
    ]
fits-next (summary k model spec inputs) h s u =
    elim (summary-way s k model spec inputs) [
      | refused e n w ↦ here (summary k model spec inputs) h s u n
      | filled e l w c f ↦ rw e (sym (over-summaries h s u k model spec inputs w c f))
      | settled e n w c f ↦ here (summary k model spec inputs) h s u n
    ]
