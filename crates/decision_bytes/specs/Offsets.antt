-- Where each list begins in the bytes of a decision, and how long it is. include/toastlagoon.h and oracle/driver/binding.rs have the same.
-- Source: docs/REFERENCE.md, 'Answer of a decision'.
use Rattle.std.specs.Prelude.{ℕ, ◌+◌, ◌*◌, List, ◌∷◌, length}
use Rattle.decision_items.specs.Layout.{max_items}
use Rattle.decision.specs.declared.Refusal.{Refusal}
use Rattle.decision_bytes.specs.Layout.{refusal_size}
use Rattle.decision_bytes.specs.Answer.{each_bytes}

-- a count, and an index for each item
abbrev pub indices_size : ℕ
indices_size = 1 + max_items

abbrev pub refusals_size : ℕ
refusals_size = 1 + max_items * refusal_size

abbrev pub ranked_at : ℕ
ranked_at = 0

abbrev pub dominated_at : ℕ
dominated_at = ranked_at + indices_size

abbrev pub refusals_at : ℕ
refusals_at = dominated_at + indices_size

abbrev pub answer_size : ℕ
answer_size = refusals_at + refusals_size

-- refusals with their count before them, and nothing after them: what is written of them. No claim rests on it.
abbrev pub list_bytes : List Refusal → List ℕ
list_bytes l = length l ∷ each_bytes l
