use Rattle.text.proofs.Text.+push_unsigned.Given as goal

abbrev pub decreases-push_unsigned : goal.decreases-push_unsigned
decreases-push_unsigned l = l.k
