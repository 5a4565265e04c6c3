use Rattle.track.proofs.Kept.{encode-decode, leaves-track, holds-left}
use Rattle.track.proofs.claims.tracks_are_their_bytes.Goals as goal

pub returns-clause-encode_decode : goal.returns-clause-encode_decode
returns-clause-encode_decode c = encode-decode

pub returns-clause-leaves_track : goal.returns-clause-leaves_track
returns-clause-leaves_track c = leaves-track

pub returns-clause-holds_left : goal.returns-clause-holds_left
returns-clause-holds_left c = holds-left
