use Rattle.std.proofs.Common.{◌∙◌}
use Rattle.fixes.specs.Fix.{Fix}
use Rattle.board_values.specs.Entries.{Entry, place_of, entries_shown}
use Rattle.board_values.specs.Claims.{on_board, of_fixes, numbers, standings}
use Rattle.board_values.proofs.Lines.{each-of, each-from, of-fixes}
use Rattle.board_values.proofs.Counted.{identities}
use Rattle.board_values.proofs.claims.entries_are_lines.Goals as goal

pub returns : goal.returns
unfolding entries_shown
returns c = record {
  numbered = λ s. each-from (λ (e : Entry). e.number) s.records numbers (λ n b t. each-of (λ (e : Entry). e.number) s.records n b t ∙ of-fixes (λ (f : Fix). n) t) 1 0 (on_board s);
  standing = λ s. each-from (λ (e : Entry). e.standing) s.records standings (λ n b t. each-of (λ (e : Entry). e.standing) s.records n b t) 1 0 (on_board s);
  placed = λ s. each-from (λ (e : Entry). e.place) s.records (of_fixes (λ f. place_of s.records f.record_bytes))
      (λ n b t. each-of (λ (e : Entry). e.place) s.records n b t ∙ of-fixes (λ (f : Fix). place_of s.records f.record_bytes) t) 1 0 (on_board s);
  signed = λ s. each-from (λ (e : Entry). e.signers) s.records (of_fixes (λ f. f.signers)) (λ n b t. each-of (λ (e : Entry). e.signers) s.records n b t ∙ of-fixes (λ (f : Fix). f.signers) t) 1 0 (on_board s);
  known = λ s. identities s;
}
