use Rattle.std.proofs.Common.{◌≡◌, ◌∙◌, ◌++◌, ◌<◌, length, ap, arith, rules}
use Rattle.std.specs.Prelude.{All, IfOk, Some, codes}
use Rattle.std.specs.String.{string_bytes}
use Rattle.std.proofs.lemmas.List.Elements.{All-from_get_or}
use Rattle.std.proofs.lemmas.Result.{IfOk-weaker}
use Rattle.hex.specs.Hex.{encode_lower}
use Rattle.desk_tagvalue.specs.Parts.{sha1_digits}
use Rattle.desk_tagvalue.proofs.Digests.{digest_read}
use Rattle.desk_tagvalue.proofs.writing.file_checksum.Goals as goal

pub returns-clause-read : goal.returns-clause-read
returns-clause-read c =
    let text : IfOk c.format.result (λ s. string_bytes s ≡ codes "SHA1: "
    ++ encode_lower c.args.digest.now) = search rules in
    let twenty : length c.args.digest.now ≡ 20 = omega arith in
    let bytes : All (λ b. b < 256) c.args.digest.now =
    All-from_get_or (λ b. b < 256) c.args.digest.now 0
    (λ i lt. let f = c.fits-digest i in omega arith) in
    IfOk-weaker c.format.result (λ s. string_bytes s ≡ codes "SHA1: "
    ++ encode_lower c.args.digest.now)
    (λ s. sha1_digits (string_bytes s) ≡ Some (encode_lower c.args.digest.now))
    (λ s is. ap sha1_digits is ∙ digest_read c.args.digest.now twenty bytes) text
