use Rattle.std.proofs.Common.{sym, ap, ◌∙◌, subst}
use Rattle.std.specs.Prelude.{option_map}
use Rattle.std.proofs.lemmas.Result.{IfOk-weaker}
use Rattle.serde_json.specs.Data.{object}
use Rattle.desk_json_object.specs.Seen.{seen}
use Rattle.desk_json_object.specs.Spared.{IsSpared}
use Rattle.desk_json.specs.Requests.{request_of}
use Rattle.desk_json.proofs.Sparing.{request_spared, request_in-many}
use Rattle.desk_json.proofs.Texts.{request_in-json}
use Rattle.desk_json.proofs.reading.read_command.Goals as goal

pub returns-in-Some : goal.returns-in-Some
returns-in-Some c =
    let bytes = c.args.bytes.now in
    let kept = subst (λ found. IsSpared 5 bytes (option_map seen found)) c.in-Some.is
    c.in_ok-object.ensures in
    let same = request_in-json bytes (object kept.0) kept.1.0 kept.1.1 ∙ sym (request_spared kept.0)
    ∙ ap request_of (sym kept.3) in
    IfOk-weaker c.read_request.result _ _ (λ request is. is ∙ sym same) c.read_request.ensures

pub returns-in-None : goal.returns-in-None
returns-in-None c =
    let bytes = c.args.bytes.now in
    sym (request_in-many bytes (subst (λ found. IsSpared 5 bytes (option_map seen found))
    c.in-None.is c.in_ok-object.ensures))
