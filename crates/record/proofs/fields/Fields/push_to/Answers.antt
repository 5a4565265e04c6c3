use Rattle.std.proofs.Common.{◌≡◌, ◌∙◌, ap, ◌++◌, rules, length}
use Rattle.octets.specs.Words.{word_bytes}
use Rattle.text.specs.Texts.{append}
use Rattle.text.proofs.Appending.{append-then}
use Rattle.record.specs.Encoded.{unsigned_of, height_bytes, bytes_of}
use Rattle.octets.proofs.Numbers.{bytes-of-u16, bytes-of-u64}
use Rattle.record.proofs.Encoded.{bytes-length}
use Rattle.record.proofs.fields.Fields.push_to.Goals as goal

pub returns-clause-text : goal.returns-clause-text
unfolding bytes_of
returns-clause-text c =
    let f = c.self.inside in
    rw (← c.self.view_is)
    (append-then _ _ _ (word_bytes 8 f.time ++ (word_bytes 4 (unsigned_of f.latitude) ++ (word_bytes 4 (unsigned_of f.longitude) ++ height_bytes f.height))) _
    (append-then _ _ _ (word_bytes 8 f.time) _ (c.push_bytes.ensures ∙ ap (append c.args.out.now) (c.to_le_bytes.ensures ∙ bytes-of-u64 _))
    (append-then _ _ _ _ _ c.push_signed.ensures (append-then _ _ _ _ _ c.push_signed-2.ensures c.push_height.ensures)))
    (append-then _ _ _ _ _ (append-then _ _ _ _ _ c.push_message.ensures.text c.push_tags.ensures.text)
    (append-then _ _ _ _ _ c.push_models.ensures.text (append-then _ _ _ (word_bytes 2 f.spec) _ (c.push_bytes-2.ensures ∙ ap (append c.push_models.new.out) (c.to_le_bytes-2.ensures ∙ bytes-of-u16 _)) c.push_words.ensures))))

pub returns-clause-size : goal.returns-clause-size
returns-clause-size c =
    let six : length c.self.inside.covariance ≡ 6 = search rules in
    rw (← c.self.view_is) (bytes-length _ c.push_message.ensures.fits c.push_tags.ensures.fits c.push_models.ensures.fits six)
