use Rattle.monthly_numbers.proofs.Claimed.{exactly-where, ends-once}
use Rattle.monthly_numbers.proofs.claims.records_end_as_the_words_say.Goals as goal

pub returns-clause-exactly_where : goal.returns-clause-exactly_where
returns-clause-exactly_where c = exactly-where

pub returns-clause-once : goal.returns-clause-once
returns-clause-once c = ends-once
