use Rattle.std.proofs.Common.{◌≡◌, [], ◌∷◌, None, sym, ap, ◌∙◌, arith}
use Rattle.std.proofs.lemmas.Result.{IfOk-weaker}
use Rattle.json.specs.Json.{parse_map}
use Rattle.json.specs.Reads.{token_of}
use Rattle.json.proofs.Grammar.{value_is}
use Rattle.serde_json.specs.Data.{object, no_members}
use Rattle.serde_json.specs.Read.{of_json, converted}
use Rattle.desk_json_object.specs.Taken.{data_at, members_at}
use Rattle.desk_json_object.proofs.Sparing.{object_from}
use Rattle.desk_json_object.proofs.Taking.{data_at-object}
use Rattle.desk_json_object.proofs.Telling.{tells, no_object}
use Rattle.desk_json_object.proofs.object.read_begun.Goals as goal

pub returns-in_err-token-clause-err : goal.returns-in_err-token-clause-err
returns-in_err-token-clause-err c = λ refused ms rest is end.
    let empty : c.args.reader.now ≡ [] = grind arith in
    let none : data_at 127 c.args.reader.now ≡ None = ap (data_at 127) empty
    ∙ ap (converted of_json) (value_is 127 []) in
    absurd (cc)

pub returns-in-BeginObject-clause-ok : goal.returns-in-BeginObject-clause-ok
returns-in-BeginObject-clause-ok c =
    let ts = c.next.new.self in
    let begun : c.args.reader.now ≡ token_of c.in_ok-token.token ∷ ts = grind arith in
    let opened = ap (data_at 127) (begun ∙ ap (λ k. token_of k ∷ ts) c.in-BeginObject.is)
    ∙ data_at-object 127 ts (omega arith) in
    IfOk-weaker c.read_members.result _ _
    (λ found kept. (kept.0, opened ∙ ap (parse_map object) kept.1, kept.2, kept.3))
    c.read_members.ensures.ok

pub returns-in-BeginObject-clause-err : goal.returns-in-BeginObject-clause-err
returns-in-BeginObject-clause-err c = λ refused ms rest is end.
    let ts = c.next.new.self in
    let begun : c.args.reader.now ≡ token_of c.in_ok-token.token ∷ ts = grind arith in
    let opened = ap (data_at 127) (begun ∙ ap (λ k. token_of k ∷ ts) c.in-BeginObject.is)
    ∙ data_at-object 127 ts (omega arith) in
    c.read_members.ensures.err refused ms rest
    (object_from (members_at no_members 126 ts) (data_at 127 c.args.reader.now) ms rest opened is)

pub returns-in_default : goal.returns-in_default
returns-in_default c =
    let ts = c.next.new.self in
    let begun : c.args.reader.now ≡ token_of c.in_ok-token.token ∷ ts = grind arith in
    record {
      ok = tt;
      err = λ refused ms rest is end.
          absurd (no_object c.in_ok-token.token ms
          (tells 127 ts c.in_ok-token.token (object ms) rest (ap (data_at 127) (sym begun) ∙ is))
          c.in_default.not-BeginObject);
    }
