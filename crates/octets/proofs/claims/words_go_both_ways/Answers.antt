use Rattle.octets.proofs.Numbers.{put-read, read-put}
use Rattle.octets.proofs.claims.words_go_both_ways.Goals as goal

pub returns : goal.returns
returns c = record { written_is_read = put-read; read_is_written = read-put }
