use Rattle.std.proofs.Common.{◌∙◌, ap, sym, None}
use Rattle.std.proofs.lemmas.Bool.{cond-false}
use Rattle.std.proofs.lemmas.Map.Text.{btree_map_updates_text}
use Rattle.std.specs.BTreeMap.{get_by_text}
use Rattle.std.specs.Str.{bytes_eq}
use Rattle.std.specs.Option.{option_map}
use Rattle.toml.specs.View.{view}
use Rattle.toml.proofs.Views.{view-lookup}
use Rattle.desk_fill.proofs.values.take_member.Goals as goal

pub returns-clause-value : goal.returns-clause-value
returns-clause-value c = ap (option_map view) c.remove.ensures.value
    ∙ view-lookup c.args.key.now c.args.table.now.entries

pub returns-clause-others : goal.returns-clause-others
returns-clause-others c other is_other =
    let old = c.args.table.now in
    let new = c.remove.new.self in
    sym (view-lookup other new.entries)
    ∙ ap (option_map view) (btree_map_updates_text c.args.key.now old new None
    c.remove.ensures.updates other
    ∙ cond-false (bytes_eq c.args.key.now other) None (get_by_text old other) is_other)
    ∙ view-lookup other old.entries
