use Rattle.std.proofs.Common.{◌≡◌, ◌∙◌, ap, sym, []}
use Rattle.std.specs.Prelude.{unwrap_or}
use Rattle.std.proofs.lemmas.Result.{IfOk-weaker}
use Rattle.clap.specs.Matches.{found_of}
use Rattle.clap.proofs.WalkLemmas.{raw_values-rows}
use Rattle.desk_line.specs.Calls.{all_or_none}
use Rattle.clap.specs.Words.{rows_of}
use Rattle.desk_line.proofs.values.optional_texts.Goals as goal

pub returns-in-Some : goal.returns-in-Some
returns-in-Some c = IfOk-weaker c.copy_texts.result _
    (λ texts. texts ≡ all_or_none c.args.id.now (rows_of (found_of c.args.matches.now)))
    (λ texts is. is ∙ ap (λ o. unwrap_or o []) (c.in-Some.ensures
    ∙ raw_values-rows (found_of c.args.matches.now) c.args.id.now)) c.copy_texts.ensures

pub returns-in-None : goal.returns-in-None
returns-in-None c = c.new.ensures ∙ ap (λ o. unwrap_or o []) (c.in-None.ensures
    ∙ raw_values-rows (found_of c.args.matches.now) c.args.id.now)
