use Rattle.std.proofs.Common.{◌≡◌, ◌∙◌, ◌+◌, ap, not, rules, sym, true, Ok, Some}
use Rattle.std.specs.Prelude.{if◌then◌else◌, is_some}
use Rattle.sqlite.specs.Held.{state}
use Rattle.desk_history.specs.FromTables.{adoption_count}
use Rattle.desk_model.specs.Conclusions.{licence_for}
use Rattle.desk_model.specs.Tables.{applied}
use Rattle.desk_model.specs.declared.command.Change.TheVariants.{Adopted}
use Rattle.desk_sql_lookup.proofs.LookUps.{looks_none, then_tells}
use Rattle.desk_sql_cache.specs.References.{AreAdopted}
use Rattle.desk_sql_cache.proofs.AdoptionLemmas.{adopted_first, counts_found}
use Rattle.desk_sql_cache.proofs.adoptions.adds_one.Goals as goal

pub returns-then-lacks : goal.returns-then-lacks
returns-then-lacks g c =
    let row = c.args.row.now in
    looks_none g.S.Store c.args.conn.now (λ t. Unit {0}) true
    (λ is_new t. AreAdopted (Some c.args.kept.now) t
    → adoption_count (applied (Adopted row) t) row.document
    ≡ adoption_count t row.document + (if is_new then 1 else 0))
    (λ t are. adopted_first t row
    (ap (licence_for t.adoption row.document) (sym c.as_str.ensures)
    ∙ c.lacks.ensures.none c.if-lacks.true t are))

pub returns : goal.returns
returns g c =
    let row = c.args.row.now in
    let it = c.in_ok-licence.ensures in
    let told : c.is_none.result ≡ not (is_some c.in_ok-licence.licence) = search rules in
    then_tells g.S.Store c.args.conn.now c.adoption.new.conn it (λ t. Unit {0})
    (Ok c.is_none.result) (λ is_new t. AreAdopted (Some c.args.kept.now) t
    → adoption_count (applied (Adopted row) t) row.document
    ≡ adoption_count t row.document + (if is_new then 1 else 0))
    (λ clean t held are. counts_found (state g.S.Store c.args.conn.now) row c.as_str-2.result.now
    c.in_ok-licence.licence c.as_str-2.ensures (it.found clean) t held
    (it.kept.kept.spared.honest clean) c.is_none.result told) tt
