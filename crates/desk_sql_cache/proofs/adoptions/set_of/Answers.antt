use Rattle.std.proofs.Common.{◌≡◌, ◌∙◌, ap, ap₂, cond, string_bytes, true}
use Rattle.std.specs.List.{list_any}
use Rattle.std.specs.Str.{bytes_eq}
use Rattle.std.proofs.lemmas.List.{take_all}
use Rattle.std.proofs.lemmas.Map.Text.{btree_set_updates_text}
use Rattle.desk_sql_cache.proofs.AdoptionLemmas.{one_more_text}
use Rattle.desk_sql_cache.proofs.adoptions.set_of.Goals as goal

pub loop-text-preserved : goal.loop-text-preserved
loop-text-preserved c = λ reference.
    let own : string_bytes c.in_ok-key.key ≡ c.text-item.result = c.in_ok-key.ensures.ok
    ∙ c.as_str.ensures in
    btree_set_updates_text (string_bytes c.in_ok-key.key) c.loop-text.set c.insert.new.self true
    c.in_ok-insert.ensures.updates reference
    ∙ (ap₂ (λ text had. cond (bytes_eq text reference) true had) own
    (c.loop-text.invariant reference)
    ∙ one_more_text reference c.args.texts.now c.loop-text.text-index c.text-item.result
    c.text-item.is c.loop-text-test.true)

pub returns : goal.returns
returns c = λ reference. c.loop-text.invariant reference
    ∙ ap (list_any (λ text. bytes_eq text reference))
    (take_all c.loop-text.text-index c.args.texts.now c.loop-text-test.false)
