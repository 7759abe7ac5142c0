use Rattle.std.proofs.Common.{◌≡◌, ◌++◌, drop}
use Rattle.std.specs.String.{string_bytes}
use Rattle.desk_tree_document.specs.Texts.{others_below}
use Rattle.desk_tree_document.proofs.texts.add_below.Given as goal

abbrev pub invariant-loop-notice : goal.invariant-loop-notice
invariant-loop-notice l = string_bytes l.text ++ others_below (drop l.notice-index l.notices)
    ≡ string_bytes l.initial.text ++ others_below l.notices
