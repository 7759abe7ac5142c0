use Rattle.std.proofs.Common.{◌≡◌, drop, []}
use Rattle.desk_catalogue.specs.Reading.{forms_once}
use Rattle.desk_catalogue.proofs.forms.forms_once.Given as goal
use Rattle.desk_base.specs.Borrowed.{texts}

abbrev pub invariant-loop-i : goal.invariant-loop-i
invariant-loop-i l = forms_once l.forms l.i (texts (drop l.i l.listed))
    ≡ forms_once [] 0 (texts l.listed)
