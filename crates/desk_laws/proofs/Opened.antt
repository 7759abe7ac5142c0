-- What a stop left, opened again, shows the tables that it holds.
use Rattle.std.proofs.Common.{◌≡◌, ◌∙◌, sym, subst}
use Rattle.sqlite.specs.State.{State}
use Rattle.sqlite_catalog.proofs.ReadLemmas.{lists_once}
use Rattle.sqlite_catalog.specs.Listing.{Lists}
use Rattle.sqlite_trees.specs.Objects.{catalog_tree}
use Rattle.sqlite_trees.specs.Tree.{Trees}
use Rattle.desk_sql_layout.specs.Held.{Holds, seen_of, Stands}
use Rattle.desk_model.specs.Tables.{Tables}
use Rattle.desk_laws.specs.Opened.{IsOpenedOn}

pub shows : (s : State) (left : Trees) (t : Tables) → IsOpenedOn s left → Stands left t
    → let seen = seen_of s in seen.holds t
shows s left t is (db, holds, same) honest is_open =
    let trees : s.committed.trees ≡ db.trees = is.found ∙ same in
    let mine = (is.live is_open).1 in
    let lists : Lists (db.trees catalog_tree) s.committed.schema =
    subst (λ ts. Lists (ts catalog_tree) s.committed.schema) trees mine.lists in
    let sound = holds.rows.sound in
    let schema = lists_once (db.trees catalog_tree) s.committed.schema db.schema lists
    sound.lists in
    let one : s.committed ≡ db = λ i. record { schema = schema i; trees = trees i } in
    record {
      holds = subst (Holds t) (sym (is.opens.clean ∙ one)) holds;
      settled = sym is.opens.clean;
    }
