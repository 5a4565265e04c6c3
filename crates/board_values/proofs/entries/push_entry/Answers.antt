use Rattle.std.proofs.Common.{rules, ◌≡◌, ◌∙◌, ℕ, ap, sym, length, take, take_all, arith}
use Rattle.octets.specs.Words.{word_bytes}
use Rattle.text.specs.Texts.{append}
use Rattle.text.proofs.Appending.{append-then}
use Rattle.octets.proofs.Numbers.{bytes-of-u32}
use Rattle.decision_items.specs.Layout.{hash_size}
use Rattle.decision_bytes.specs.Answer.{chi_square_bytes}
use Rattle.board_values.specs.Written.{role_number, entry_bytes}
use Rattle.board_values.proofs.entries.push_entry.Goals as goal

pub returns : goal.returns
unfolding entry_bytes
returns c =
    let e = c.entry.inside in
    let whole : length c.bytes.result.now ≡ 32 = search rules in
    rw (← c.entry.view_is)
    (append-then _ _ _ (word_bytes 1 e.number) _ c.push_small.ensures
    (append-then _ _ _ (word_bytes 1 (role_number e.standing)) _ (c.push_small-2.ensures ∙ ap (λ (n : ℕ). append c.push_small.new.out (word_bytes 1 n)) c.role_of.ensures)
    (append-then _ _ _ (word_bytes 1 e.place) _ c.push_small-3.ensures
    (append-then _ _ _ (word_bytes 1 e.against) _ c.push_small-4.ensures
    (append-then _ _ _ (word_bytes 4 e.signers) _ (c.push_bytes.ensures ∙ ap (append c.push_small-4.new.out) (c.to_le_bytes.ensures ∙ bytes-of-u32 _ ∙ ap (word_bytes 4) c.mask.ensures))
    (append-then _ _ _ (take hash_size e.identity) _ (c.push_bytes-2.ensures ∙ ap (append c.push_bytes.new.self) (sym (take_all hash_size c.bytes.result.now (omega (arith, whole))) ∙ ap (take hash_size) c.bytes.ensures))
    (c.push_chi_square.ensures ∙ ap (λ x. append c.push_bytes-2.new.self (chi_square_bytes x)) c.chi_square_in.ensures)))))))
