use Rattle.std.proofs.Common.{◌≡◌, [], ◌∷◌, refl, sym, ap, ◌∙◌, subst, arith}
use Rattle.std.specs.Prelude.{if◌then◌else◌}
use Rattle.json.specs.Json.{parse_map}
use Rattle.json.specs.Reads.{token_of}
use Rattle.json.proofs.Grammar.{value_is}
use Rattle.serde_json.specs.Data.{null, string, number, array}
use Rattle.serde_json.specs.Read.{of_json, converted}
use Rattle.serde_json.specs.View.{number_view}
use Rattle.desk_json_object.specs.Kept.{AreKept}
use Rattle.desk_json_object.specs.Taken.{data_at, items_at}
use Rattle.desk_json_object.proofs.Taking.{data_at-array, refused_around}
use Rattle.desk_json_object.proofs.Telling.{tells, spared_null}
use Rattle.desk_json_object.proofs.object.read_member.Goals as goal

pub returns-in_err-token-clause-err : goal.returns-in_err-token-clause-err
returns-in_err-token-clause-err c = λ refused.
    let empty : c.args.reader.now ≡ [] = grind arith in
    ap (data_at 126) empty ∙ ap (converted of_json) (value_is 126 [])

pub returns-in_err-texts-in-BeginArray-clause-err : goal.returns-in_err-texts-in-BeginArray-clause-err
returns-in_err-texts-in-BeginArray-clause-err c = λ refused.
    let ts = c.next.new.self in
    let begun : c.args.reader.now ≡ token_of c.in_ok-token.token ∷ ts = grind arith in
    let opened = ap (data_at 126) (begun ∙ ap (λ k. token_of k ∷ ts) c.in-BeginArray.is)
    ∙ data_at-array 126 ts (omega arith) in
    refused_around array (items_at 125 ts) (data_at 126 c.args.reader.now) opened
    (c.in_err-texts-in-BeginArray.ensures.err (grind arith))

pub returns-in_ok-from_str-in-String-clause-ok : goal.returns-in_ok-from_str-in-String-clause-ok
returns-in_ok-from_str-in-String-clause-ok c =
    let s = c.in-String.text.now in
    let ts = c.next.new.self in
    let begun : c.args.reader.now ≡ token_of c.in_ok-token.token ∷ ts = grind arith in (
      string s,
      ap (data_at 126) (begun ∙ ap (λ k. token_of k ∷ ts) c.in-String.is)
          ∙ ap (converted of_json) (value_is 126 _),
      ap string (sym c.in_ok-from_str-in-String.ensures.ok),
    )

pub returns-in-Some-clause-ok : goal.returns-in-Some-clause-ok
returns-in-Some-clause-ok c =
    let ts = c.next.new.self in
    let begun : c.args.reader.now ≡ token_of c.in_ok-token.token ∷ ts = grind arith in (
      number (number_view c.in-Some.number),
      ap (data_at 126) (begun ∙ ap (λ k. token_of k ∷ ts) c.in-Number.is)
          ∙ ap (converted of_json) (value_is 126 _) ∙ rw (← c.in-Some.ensures) refl,
      refl,
    )

pub returns-in-None-clause-err : goal.returns-in-None-clause-err
returns-in-None-clause-err c = λ refused.
    let ts = c.next.new.self in
    let begun : c.args.reader.now ≡ token_of c.in_ok-token.token ∷ ts = grind arith in
    ap (data_at 126) (begun ∙ ap (λ k. token_of k ∷ ts) c.in-Number.is)
    ∙ ap (converted of_json) (value_is 126 _) ∙ rw (← c.in-None.ensures) refl

pub returns-in-Some-2-clause-ok : goal.returns-in-Some-2-clause-ok
returns-in-Some-2-clause-ok c =
    let ts = c.next.new.self in
    let begun : c.args.reader.now ≡ token_of c.in_ok-token.token ∷ ts = grind arith in
    let opened = ap (data_at 126) (begun ∙ ap (λ k. token_of k ∷ ts) c.in-BeginArray.is)
    ∙ data_at-array 126 ts (omega arith) in
    let found = c.in_ok-texts-in-BeginArray.ensures.ok in
    let kept = subst (AreKept found.0) c.in-Some-2.is found.2 in (
      array found.0,
      opened ∙ ap (parse_map array) found.1,
      ap (λ are. if are then array found.0 else null) kept.1 ∙ ap array kept.0,
    )

pub returns-in-None-2-clause-ok : goal.returns-in-None-2-clause-ok
returns-in-None-2-clause-ok c =
    let ts = c.next.new.self in
    let begun : c.args.reader.now ≡ token_of c.in_ok-token.token ∷ ts = grind arith in
    let opened = ap (data_at 126) (begun ∙ ap (λ k. token_of k ∷ ts) c.in-BeginArray.is)
    ∙ data_at-array 126 ts (omega arith) in
    let found = c.in_ok-texts-in-BeginArray.ensures.ok in
    let kept = subst (AreKept found.0) c.in-None-2.is found.2 in (
      array found.0,
      opened ∙ ap (parse_map array) found.1,
      ap (λ are. if are then array found.0 else null) kept,
    )

pub returns-in_ok-pass_rest-in_default : goal.returns-in_ok-pass_rest-in_default
returns-in_ok-pass_rest-in_default c =
    let ts = c.next.new.self in
    let token = c.in_ok-token.token in
    let begun : c.args.reader.now ≡ token_of token ∷ ts = grind arith in
    let taken = c.in_ok-pass_rest-in_default.ensures.ok in
    let told = tells 126 ts token taken.0 c.pass_rest.new.reader taken.1 in
    record {
      ok = (
        taken.0,
        ap (data_at 126) begun ∙ taken.1,
        spared_null token taken.0 told c.in_default.not-String c.in_default.not-Number
            c.in_default.not-BeginArray,
      );
      left = grind arith;
      err = λ never. absurd never;
    }
