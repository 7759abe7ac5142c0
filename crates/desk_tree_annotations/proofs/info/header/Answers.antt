use Rattle.std.proofs.Common.{◌≡◌, [], ap, sym, subst}
use Rattle.std.specs.Prelude.{map}
use Rattle.desk_tree_annotations.specs.Tags.{IsInfo, tag_text}
use Rattle.desk_tree_annotations.proofs.EachRun.{completes_bare}
use Rattle.desk_tree_annotations.proofs.TagLemmas.{completes_start}
use Rattle.desk_tree_annotations.proofs.info.header.Goals as goal

pub returns-in_default : goal.returns-in_default
returns-in_default c =
    let file = c.args.file.now in
    let none = completes_bare file 1 file 0 [] 0 [] c.in_default.ensures.none
    (completes_start file) in
    let notices : map tag_text c.new.result.items ≡ [] = ap (map tag_text) c.new.ensures.items in
    let licences : map tag_text c.new-in_default.result.items ≡ [] =
    ap (map tag_text) c.new-in_default.ensures.items in
    subst (λ l. IsInfo file (map tag_text c.new.result.items) l) (sym licences)
    (subst (λ l. IsInfo file l []) (sym notices) none)
