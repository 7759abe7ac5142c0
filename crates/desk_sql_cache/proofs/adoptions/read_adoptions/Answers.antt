use Rattle.std.proofs.Common.{◌∙◌, Ok, Some}
use Rattle.desk_sql_lookup.proofs.LookUps.{then_tells}
use Rattle.desk_sql_cache.specs.References.{AreAdopted}
use Rattle.desk_sql_cache.proofs.AdoptionLemmas.{kept_read}
use Rattle.desk_sql_cache.proofs.adoptions.read_adoptions.Goals as goal

pub returns-clause-looks : goal.returns-clause-looks
returns-clause-looks g c =
    let kept = c.in_ok-of.field-0 in
    let is = c.in_ok-of.ensures in
    then_tells g.S.Store c.args.conn.now c.adopted_references.new.conn c.in_ok-texts.ensures
    (λ t. Unit {0}) (Ok kept) (λ kept t. AreAdopted (Some kept) t)
    (λ clean t held. kept_read kept c.args.document c.deref.result.now t is.document is.count
    is.references (c.deref.ensures.value ∙ c.in_ok-texts.ensures.found clean t held)) tt
