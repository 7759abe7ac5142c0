use Rattle.std.proofs.Common.{◌≡◌, drop, map}
use Rattle.std.specs.List.{list_any}
use Rattle.desk_tree_infos.specs.Sharing.{OutlineText, outline_in}
use Rattle.desk_tree_document.proofs.files.is_bare.Given as goal

abbrev pub invariant-loop-file : goal.invariant-loop-file
invariant-loop-file l = list_any (λ (o : OutlineText). o.no_licence)
    (map outline_in (drop l.file-index l.outlines))
    ≡ list_any (λ (o : OutlineText). o.no_licence) (map outline_in l.outlines)
