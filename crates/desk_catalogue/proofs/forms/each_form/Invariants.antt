use Rattle.std.proofs.Common.{◌≡◌, drop, []}
use Rattle.toml.specs.View.{items_view}
use Rattle.desk_catalogue.specs.Reading.{each, with_form}
use Rattle.desk_catalogue.proofs.forms.each_form.Given as goal
use Rattle.desk_base.specs.Borrowed.{texts_in}

-- the forms so far, with those of the rest, are those of all
abbrev pub invariant-loop-i : goal.invariant-loop-i
invariant-loop-i l = each with_form (texts_in l.forms) l.i (items_view (drop l.i l.values))
    ≡ each with_form [] 0 (items_view l.values)
