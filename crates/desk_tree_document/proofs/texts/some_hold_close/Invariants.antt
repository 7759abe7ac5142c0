use Rattle.std.proofs.Common.{◌≡◌, drop}
use Rattle.std.specs.List.{list_any}
use Rattle.desk_tree_document.specs.Texts.{holds_close}
use Rattle.desk_tree_document.proofs.texts.some_hold_close.Given as goal

abbrev pub invariant-loop-notice : goal.invariant-loop-notice
invariant-loop-notice l = list_any holds_close (drop l.notice-index l.notices)
    ≡ list_any holds_close l.notices
