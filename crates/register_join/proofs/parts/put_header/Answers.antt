use Rattle.std.proofs.Common.{ℕ, ◌≡◌, refl, ap, ◌∙◌, List, [], ◌∷◌, arith, length}
use Rattle.octets.specs.Words.{word_bytes}
use Rattle.octets.specs.Writes.{put_word}
use Rattle.register.specs.Layout.{convicted_at, summary_count_at, record_count_at, summaries_at}
use Rattle.register_join.specs.Merged.{header_of}
use Rattle.register_join.proofs.parts.put_header.Goals as goal

written : (h : List ℕ) (c n k : ℕ) → length h ≡ summaries_at → put_word 2 record_count_at k (put_word 2 summary_count_at n (put_word 4 convicted_at c h)) ≡ header_of c n k
unfolding word_bytes
written (a ∷ (b ∷ (d ∷ (e ∷ (f ∷ (g ∷ (i ∷ (j ∷ [])))))))) c n k l = refl
written _ c n k l = absurd (omega arith)

pub returns : goal.returns
returns c =
    let a = c.args in
    c.put_u16-2.ensures
    ∙ ap (put_word 2 record_count_at a.records) (c.put_u16.ensures ∙ ap (put_word 2 summary_count_at a.summaries) (c.put_u32.ensures ∙ ap (λ (x : ℕ). put_word 4 convicted_at x a.header.now) c.mask.ensures))
    ∙ written a.header.now a.convicted a.summaries a.records c.requires.size
