use Rattle.desk_json_object.specs.Seen.{seen}
use Rattle.desk_json.proofs.FormLemmas.{command_whole, query_whole}
use Rattle.desk_json.proofs.reading.form_of.Goals as goal

pub returns-in-Some : goal.returns-in-Some
returns-in-Some c = command_whole (seen c.args.object.now) c.in-Some.word.now c.form_named.result
    c.in-Some.ensures c.form_named.ensures

pub returns-in_ok-text-in-None : goal.returns-in_ok-text-in-None
returns-in_ok-text-in-None c = query_whole (seen c.args.object.now) c.in_ok-text-in-None.field-0.now
    c.form_named-in-None.result c.in-None.ensures
    c.in_ok-text-in-None.ensures c.form_named-in-None.ensures
