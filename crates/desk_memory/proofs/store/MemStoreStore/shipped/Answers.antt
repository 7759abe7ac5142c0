use Rattle.std.proofs.Common.{◌∙◌, ap, filter}
use Rattle.std.specs.Prelude.{◌==◌}
use Rattle.desk_model.specs.Keys.{is_shipped_by}
use Rattle.desk_model.specs.Tables.{Tables}
use Rattle.desk_memory.specs.Sides.{is_package_of}
use Rattle.desk_sorted.proofs.Placing.{filter_within}
use Rattle.desk_memory.proofs.store.MemStoreStore.shipped.Goals as goal
use Rattle.desk_base.proofs.Bools.{and_left}

pub returns-clause-found : goal.returns-clause-found
returns-clause-found c = λ h t held.
    let document = c.args.document in
    c.in_ok-shipped_rows.ensures
    ∙ filter_within (is_shipped_by document) (is_package_of document)
    (λ row e. and_left (row.document == document) row.shipped e) c.among-rows.result.now
    c.args.self.now.packages.rows.items c.among-rows.ensures
    ∙ ap (λ (u : Tables). filter (is_shipped_by document) u.packages) held.0
