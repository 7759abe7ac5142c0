use Rattle.std.proofs.Common.{◌≡◌, ◌∙◌, ◌∷◌, [], Bool, true, false, cond, List, ap, map, refl, subst}
use Rattle.std.specs.Prelude.{IfOk, ◌||◌, filter}
use Rattle.desk_tree_infos.specs.declared.infos.FileInfo.{FileInfo}
use Rattle.desk_tree_infos.specs.Sharing.{OutlineText, outline_of, outline_in}
use Rattle.desk_tree_lint.specs.Lists.{is_bare}
use Rattle.desk_tree_problems.specs.Bare.{bare_file, bare_files, bare_outline, bare_in}
use Rattle.desk_tree_problems.proofs.bare.bare_files.Goals as goal

one_bare : (b : Bool) (info : FileInfo) (outlines : List OutlineText) (infos : List FileInfo)
    → map bare_outline outlines ≡ map bare_file infos
    → map bare_outline (cond b (outline_of info ∷ outlines) outlines)
    ≡ map bare_file (cond b (info ∷ infos) infos)
one_bare true info outlines infos is = ap (λ l. bare_file info ∷ l) is
one_bare false info outlines infos is = is

bare-outlined : (infos : List FileInfo) → bare_in (map outline_of infos) ≡ bare_files infos
bare-outlined [] = refl
bare-outlined (info ∷ infos) =
    one_bare (is_bare info) info (filter (λ (o : OutlineText). o.no_notice || o.no_licence)
    (map outline_of infos)) (filter is_bare infos) (bare-outlined infos)

pub returns : goal.returns
returns c =
    subst (λ l. IfOk c.bare_in.result (λ bare. bare ≡ l))
    (ap (λ os. bare_in (map outline_in os)) c.as_slice.ensures.value
    ∙ ap bare_in c.in_ok-outlines.ensures ∙ bare-outlined c.args.infos.now)
    c.bare_in.ensures
