use Rattle.track_recheck.proofs.Stricken.{struck-front}
use Rattle.track_recheck.proofs.strikes.strike_table.Goals as goal

pub returns : goal.returns
returns c =
    struck-front c.args.n c.args.engine c.args.t.now c.requires.fits c.requires.zeros _ _ c.split_at_mut-used.ensures.front c.split_at_mut-used.ensures.back c.strike_summaries.result c.strike_summaries.new.t c.strike_summaries.ensures
