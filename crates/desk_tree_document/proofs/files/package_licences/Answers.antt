use Rattle.std.proofs.Common.{◌≡◌, ◌∙◌, Bool, cond, List, ℕ, [], ap, map, subst, sym}
use Rattle.std.specs.Prelude.{IfOk}
use Rattle.std.specs.List.{flat_map, list_any}
use Rattle.desk_model.specs.Texts.{sorted_set}
use Rattle.desk_tree_infos.specs.declared.infos.FileInfo.{FileInfo}
use Rattle.desk_tree_infos.specs.Sharing.{OutlineText, outline_in}
use Rattle.desk_tree_document.specs.Drafts.{is_bare}
use Rattle.desk_tree_document.proofs.FileLemmas.{bare-outlined}
use Rattle.desk_tree_document.proofs.files.package_licences.Goals as goal

-- the licences, by whether some file has none
abbrev by_bare : List FileInfo → Bool → List (List ℕ)
by_bare infos b = cond b [] (sorted_set (flat_map (λ (i : FileInfo). i.licences) infos))

pub returns-then-is_bare : goal.returns-then-is_bare
returns-then-is_bare c =
    let known : c.is_bare.result ≡ list_any is_bare c.args.infos.now =
    c.is_bare.ensures
    ∙ ap (λ os. list_any (λ (o : OutlineText). o.no_licence) (map outline_in os))
    c.as_slice.ensures.value
    ∙ ap (list_any (λ (o : OutlineText). o.no_licence)) c.in_ok-outlines.ensures
    ∙ bare-outlined c.args.infos.now in
    c.new.ensures ∙ ap (by_bare c.args.infos.now) (sym c.if-is_bare.true ∙ known)

pub returns : goal.returns
returns c =
    let known : c.is_bare.result ≡ list_any is_bare c.args.infos.now =
    c.is_bare.ensures
    ∙ ap (λ os. list_any (λ (o : OutlineText). o.no_licence) (map outline_in os))
    c.as_slice.ensures.value
    ∙ ap (list_any (λ (o : OutlineText). o.no_licence)) c.in_ok-outlines.ensures
    ∙ bare-outlined c.args.infos.now in
    subst (λ l. IfOk c.distinct.result (λ t. t ≡ l))
    (ap (by_bare c.args.infos.now) (sym c.if-is_bare.false ∙ known)) c.distinct.ensures
