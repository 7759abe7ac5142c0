use Rattle.std.proofs.Common.{◌≡◌, ℕ, List, subst}
use Rattle.std.specs.Prelude.{IfOk, IfErr, Ok, Err}
use Rattle.desk_tree_gather.specs.Shown as gathering
use Rattle.desk_tree_gather.specs.Telling.{told}
use Rattle.desk_tree_gather.specs.Trees.{Read}
use Rattle.desk_tagvalue.specs.declared.drafts.Draft.{Draft}
use Rattle.desk_tree_gather.specs.Shown.{Gives}
use Rattle.desk_tree_document.specs.Shown.{named}
use Rattle.desk_tree_document.specs.Told.{files_told}
use Rattle.desk_tree_document.proofs.ToldLemmas.{draft_found, draft_unjoined}
use Rattle.desk_tree_document.proofs.drafting.draft_or_fault.Goals as goal

pub returns-in-Err-2-clause-err : goal.returns-in-Err-2-clause-err
returns-in-Err-2-clause-err c = λ r right code.
    draft_unjoined r (named c.args.title) code c.args.files.items c.in-Ok.told c.in-Err-2.fault
    (subst (gathering.Gives (told r c.args.files.items) (λ told. told)) c.in-Ok.is
    (c.in_ok-told.ensures r right))
    (subst (Gives (files_told r c.in-Ok.told) (λ v. v.items)) c.in-Err-2.is
    (c.in_ok-files.ensures r right))

pub returns-clause-ok : goal.returns-clause-ok
returns-clause-ok c = λ r right.
    subst (λ (read : List ℕ → Read Draft). IfOk c.draft_with.result
    (λ x. IfOk x (λ d. read d.code ≡ Ok d)))
    (λ i. λ code. draft_found r (named c.args.title) code c.args.files.items c.in-Ok.told
    c.in-Ok-2.files.items c.in_ok-infos.infos
    (subst (gathering.Gives (told r c.args.files.items) (λ told. told)) c.in-Ok.is
    (c.in_ok-told.ensures r right))
    (subst (Gives (files_told r c.in-Ok.told) (λ v. v.items)) c.in-Ok-2.is
    (c.in_ok-files.ensures r right))
    c.in_ok-infos.ensures i)
    (c.draft_with.ensures.ok r right)

pub returns-clause-err : goal.returns-clause-err
returns-clause-err c = λ r right.
    subst (λ (read : List ℕ → Read Draft). IfOk c.draft_with.result
    (λ x. IfErr x (λ f. (code : List ℕ) → read code ≡ Err f)))
    (λ i. λ code. draft_found r (named c.args.title) code c.args.files.items c.in-Ok.told
    c.in-Ok-2.files.items c.in_ok-infos.infos
    (subst (gathering.Gives (told r c.args.files.items) (λ told. told)) c.in-Ok.is
    (c.in_ok-told.ensures r right))
    (subst (Gives (files_told r c.in-Ok.told) (λ v. v.items)) c.in-Ok-2.is
    (c.in_ok-files.ensures r right))
    c.in_ok-infos.ensures i)
    (c.draft_with.ensures.err r right)
