use Rattle.std.proofs.Common.{◌≡◌, ◌∙◌, ap, sym, rules}
use Rattle.std.proofs.lemmas.Str.{IsUtf8-string_bytes}
use Rattle.std.specs.String.{string_bytes}
use Rattle.desk_json.proofs.Texts.{request_in-json}
use Rattle.desk_json.specs.Requests.{request_in}
use Rattle.desk_json.specs.declared.request.Request.TheVariants.{BadCommand}
use Rattle.desk_assignments.proofs.Told.{told_of, trouble_of}
use Rattle.desk_assignments.specs.Requests.{request_from}
use Rattle.desk_assignments.specs.Words.{words_data}
use Rattle.desk_assignments.proofs.request.read_request.Goals as goal

pub returns-in-Err-clause-err : goal.returns-in-Err-clause-err
returns-in-Err-clause-err c = told_of (words_data c.args.verb c.args.word.now c.args.operands.now)
    c.in-Err.fault c.in_ok-told-in-Err.field-0 c.in-Err.ensures.err
    c.in_ok-told-in-Err.ensures.memory

pub returns-in-Err-clause-why : goal.returns-in-Err-clause-why
returns-in-Err-clause-why c = trouble_of c.args.operands.now
    (words_data c.args.verb c.args.word.now c.args.operands.now)
    c.in-Err.fault c.in_ok-told-in-Err.field-0 c.in-Err.ensures.err
    c.in_ok-told-in-Err.ensures.told

pub returns-in-BadCommand-clause-err : goal.returns-in-BadCommand-clause-err
returns-in-BadCommand-clause-err c =
    let line = string_bytes c.in-Ok.line in
    let spelled = c.in-Ok.ensures.ok in
    let utf8 = IsUtf8-string_bytes c.in-Ok.line in
    let none : request_in line ≡ BadCommand = search rules in
    ap request_from spelled.1 ∙ sym (request_in-json line spelled.0 utf8 spelled.2) ∙ none

pub returns-in-BadCommand-clause-why : goal.returns-in-BadCommand-clause-why
returns-in-BadCommand-clause-why c =
    let line = string_bytes c.in-Ok.line in
    let spelled = c.in-Ok.ensures.ok in
    let utf8 = IsUtf8-string_bytes c.in-Ok.line in
    let none : request_in line ≡ BadCommand = search rules in
    (spelled.0, spelled.1, sym (request_in-json line spelled.0 utf8 spelled.2) ∙ none)
