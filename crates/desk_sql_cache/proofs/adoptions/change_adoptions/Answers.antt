use Rattle.std.proofs.Common.{◌∙◌, ap, Ok, Some}
use Rattle.std.specs.Prelude.{◌||◌}
use Rattle.std.specs.BTreeSet.{contains_text}
use Rattle.std.specs.Str.{bytes_eq}
use Rattle.desk_model.specs.Tables.{applied}
use Rattle.desk_sql_lookup.proofs.LookUps.{looks_none, then_tells}
use Rattle.desk_sql_cache.specs.References.{AreAdopted}
use Rattle.desk_sql_cache.proofs.AdoptionLemmas.{kept_elsewhere, kept_here}
use Rattle.desk_sql_cache.proofs.adoptions.change_adoptions.Goals as goal

pub returns-then-row-kept-clause-looks : goal.returns-then-row-kept-clause-looks
returns-then-row-kept-clause-looks g c =
    let kept = c.args.kept.now in
    looks_none g.S.Store c.args.conn.now (λ t. Unit {0}) tt
    (λ done t. AreAdopted (Some kept) t → AreAdopted (Some kept) (applied c.args.change.now t))
    (λ t are. rw (c.in-Adopted.is) (kept_elsewhere c.in-Adopted.row kept t c.if-row-kept.true are))

pub returns-clause-looks : goal.returns-clause-looks
returns-clause-looks g c =
    let kept = c.args.kept.now in
    let row = c.in-Adopted.row in
    let it = c.in_ok-is_new.ensures in
    let more = c.in_ok-adopt.ensures in
    then_tells g.S.Store c.args.conn.now c.adds_one.new.conn it (λ t. Unit {0}) (Ok tt)
    (λ done t. AreAdopted (Some kept) t
    → AreAdopted (Some c.adopt.new.self) (applied c.args.change.now t))
    (λ clean t held are.
    rw (c.in-Adopted.is) (kept_here row kept c.adopt.new.self t c.in_ok-is_new.is_new
    c.if-row-kept.false more.document more.count
    (λ other. more.references other
    ∙ ap (λ text. bytes_eq text other || contains_text kept.references other) c.as_str.ensures)
    (it.found clean t held are) are))
    tt
