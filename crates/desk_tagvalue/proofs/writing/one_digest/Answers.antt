use Rattle.desk_tagvalue.proofs.Digests.{digest_read}
use Rattle.desk_tagvalue.proofs.writing.one_digest.Goals as goal

pub returns : goal.returns
returns c = digest_read
