use Rattle.std.proofs.Common.{◌≡◌, ◌++◌, drop}
use Rattle.std.specs.String.{string_bytes}
use Rattle.desk_tree_document.specs.Texts.{others_joined}
use Rattle.desk_tree_document.proofs.texts.add_others.Given as goal

abbrev pub invariant-loop-licence : goal.invariant-loop-licence
invariant-loop-licence l = string_bytes l.text ++ others_joined (drop l.licence-index l.licences)
    ≡ string_bytes l.initial.text ++ others_joined l.licences
