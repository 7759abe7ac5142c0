use Rattle.std.proofs.Common.{◌≡◌, rules}
use Rattle.std.specs.Ordering.{nat_cmp}
use Rattle.std.specs.Cmp.Lexicographic.{slice_cmp}
use Rattle.std.specs.declared.cmp.Ordering.{Ordering}
use Rattle.std.proofs.lemmas.Fn.{always_returns_same}
use Rattle.desk_model.specs.declared.row.ReleaseRow.{ReleaseRow}
use Rattle.desk_sql_cache.proofs.Holding.{none_at, placed_at}
use Rattle.desk_sql_cache.proofs.holders.place_of.Goals as goal

pub returns-in-Ok-clause-found : goal.returns-in-Ok-clause-found
returns-in-Ok-clause-found c =
    let name = c.args.name.now in
    let side : ReleaseRow → Ordering = λ row. slice_cmp nat_cmp row.name name in
    placed_at c.args.releases.now name c.in-Ok.at c.index-releases-at.result c.in-Ok.ensures.bound
    c.index-releases-at.is
    (c.in-Ok.ensures.position side
    (always_returns_same _ (λ a r. r ≡ side a.0.now) _ (λ a r q k. search rules)))

pub returns-in-Err-clause-none : goal.returns-in-Err-clause-none
returns-in-Err-clause-none c =
    let name = c.args.name.now in
    let side : ReleaseRow → Ordering = λ row. slice_cmp nat_cmp row.name name in
    none_at c.args.releases.now name c.in-Err.field-0
    (c.in-Err.ensures.position side
    (always_returns_same _ (λ a r. r ≡ side a.0.now) _ (λ a r q k. search rules)))
