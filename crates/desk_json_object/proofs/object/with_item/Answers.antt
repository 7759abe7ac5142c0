use Rattle.std.proofs.Common.{◌∷◌, sym, ap, ◌∙◌, subst}
use Rattle.json.specs.Reads.{token_of}
use Rattle.json.proofs.Grammar.{value_is}
use Rattle.serde_json.specs.Data.{string, item, no_items}
use Rattle.serde_json.specs.Read.{of_json, converted}
use Rattle.desk_json_object.specs.Kept.{joined, AreKept}
use Rattle.desk_json_object.specs.Seen.{texts_seen}
use Rattle.desk_json_object.specs.Taken.{data_at}
use Rattle.desk_json_object.proofs.Sparing.{texts_seen-more, texts_more, no_texts_before, no_text_more}
use Rattle.desk_json_object.proofs.Telling.{tells, not_text}
use Rattle.desk_json_object.proofs.object.with_item.Goals as goal

pub returns-in_ok-push-in-Some-clause-ok : goal.returns-in_ok-push-in-Some-clause-ok
returns-in_ok-push-in-Some-clause-ok c = λ before kept.
    let s = c.in-String.text.now in
    let texts = subst (AreKept before) c.in-Some.is kept in
    let text = item (string s) no_items in (
      string s,
      ap (λ k. data_at c.args.depth (token_of k ∷ c.args.reader.now)) c.in-String.is
          ∙ ap (converted of_json) (value_is c.args.depth _),
      (
        ap (λ ds. joined ds text) texts.0 ∙ sym (texts_seen-more c.in-Some.list s)
            ∙ sym (ap texts_seen c.in_ok-push-in-Some.ensures.ok),
        texts_more before s texts.1,
      ),
    )

pub returns-in-None-clause-ok : goal.returns-in-None-clause-ok
returns-in-None-clause-ok c = λ before kept.
    let s = c.in-String.text.now in (
      string s,
      ap (λ k. data_at c.args.depth (token_of k ∷ c.args.reader.now)) c.in-String.is
          ∙ ap (converted of_json) (value_is c.args.depth _),
      no_texts_before before (item (string s) no_items) (subst (AreKept before) c.in-None.is kept),
    )

pub returns-in_ok-pass_rest-in_default : goal.returns-in_ok-pass_rest-in_default
returns-in_ok-pass_rest-in_default c =
    let taken = c.in_ok-pass_rest-in_default.ensures.ok in
    let told = tells c.args.depth c.args.reader.now c.args.token taken.0 c.pass_rest.new.reader
    taken.1 in
    record {
      ok = λ before kept. (
        taken.0,
        taken.1,
        no_text_more before taken.0 (not_text c.args.token taken.0 told c.in_default.not-String),
      );
      left = c.in_ok-pass_rest-in_default.ensures.left;
      err = λ never. absurd never;
    }
