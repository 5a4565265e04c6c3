-- A text that grows in a lent buffer.
-- Source: docs/REFERENCE.md, 'Operations'.
use Rattle.std.specs.Prelude.{ℕ, ◌+◌, ◌-◌, List, length, take}
use Rattle.std.specs.Borrow.{MutBor}
use Rattle.std.proofs.lemmas.List.Edits.{sets}
use Rattle.text.specs.declared.Text.{Text}

-- no text yet, in this buffer
abbrev pub empty_text : MutBor (List ℕ) → Text
empty_text buffer = record { out = buffer; len = 0 }

-- as much of a text as there is room for
abbrev pub fitting : Text → List ℕ → List ℕ
fitting text t = take (length text.out.now - text.len) t

-- the buffer after t was written after what was there, as much as there was room for; nothing else is touched: `sets l at t` is l with the elements of t
-- stored one after another from `at` on
unfoldable pub bytes_after : Text → List ℕ → List ℕ
bytes_after text t = sets text.out.now text.len (fitting text t)

unfoldable pub length_after : Text → List ℕ → ℕ
length_after text t = text.len + length (fitting text t)

-- t was written. The reference is the same, which a caller's proof has to see
abbrev pub append : Text → List ℕ → Text
append text t = record { out = record text.out { now = bytes_after text t }; len = length_after text t }
