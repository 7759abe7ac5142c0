use Rattle.std.proofs.Common.{◌≡◌}
use Rattle.sqlite_trees.specs.Tree.{Trees}
use Rattle.sqlite.specs.Held.{state}
use Rattle.std.specs.Result.{result_map_both}
use Rattle.desk_sql_layout.specs.Held.{seen_of}
use Rattle.desk_texts.specs.Right.{AreRight}
use Rattle.desk_wanting.specs.Sole.{sole_choices_found}
use Rattle.desk_store.specs.Counting.{known_by, tallied}
use Rattle.desk_store.proofs.FoundRows.{found_by_each}
use Rattle.desk_store.proofs.desk.SqlDesk.sole_choices.Goals as goal

pub returns-clause-found : goal.returns-clause-found
returns-clause-found g c =
    let before = c.args.self.now.desk.store in
    let after = c.sole_choices.new.store in
    found_by_each {Left = Trees} AreRight
    (λ found w t. result_map_both (λ choices. choices.items) (λ refusal. refusal) found
    ≡ sole_choices_found w t c.args.release.now)
    (tallied before.found before.tallies (known_by before.counts before.forms)
    (seen_of (state g.S.Store before.conn)))
    (tallied after.found after.tallies (known_by after.counts after.forms)
    (seen_of (state g.S.Store after.conn))) c.sole_choices.result c.sole_choices.ensures.found
