use Rattle.std.proofs.Common.{◌∙◌, ◌++◌, ◌∷◌, ap, sym, subst, Some, [], get_or, set}
use Rattle.std.specs.Prelude.{is_some}
use Rattle.std.proofs.lemmas.List.{get_or_default}
use Rattle.desk_tree_lint.specs.declared.naming.Asked.{Asked}
use Rattle.desk_tree_lint.specs.declared.naming.Mention.{Mention}
use Rattle.desk_tree_lint.specs.Firsts.{Holds}
use Rattle.desk_tree_lint.specs.Naming.{mention}
use Rattle.desk_tree_lint.proofs.FirstLemmas.{kept_before, kept_new, kept_nowhere}
use Rattle.desk_tree_lint.proofs.naming.keep.Goals as goal

pub returns-in_default : goal.returns-in_default
returns-in_default c = kept_nowhere (mention c.args.path.now c.args.id.now) c.args.asked.now _
    (c.as_str.ensures ∙ c.in_ok-key.ensures) c.in_default.ensures.none

pub returns-then-is_some : goal.returns-then-is_some
returns-then-is_some c =
    kept_before (mention c.args.path.now c.args.id.now) c.args.asked.now _ c.in-Some.place
    c.index-asked-place.result (c.as_str.ensures ∙ c.in_ok-key.ensures) c.in-Some.ensures.found.0
    (c.in-Some.ensures.found.1 c.index-asked-place.result)
    (sym c.is_some.ensures ∙ c.if-is_some.true)

pub returns : goal.returns
returns c = λ keys ms holds.
    let m : Mention = record { id = c.args.id; path = c.in_ok-path.path } in
    let d = c.index-asked-place-2.result in
    let p = c.in-Some.place in
    let none = ap (λ (a : Asked). is_some a.first)
    (get_or_default c.args.asked.now p d c.index-asked-place.result c.in-Some.ensures.found.0)
    ∙ sym c.is_some.ensures ∙ c.if-is_some.false in
    subst (λ path. Holds keys (ms ++ mention path c.args.id.now ∷ [])
    (set c.args.asked.now p (record (get_or c.args.asked.now p d) { first = Some m })))
    c.in_ok-path.ensures.cases
    (kept_new m c.args.asked.now _ p d (c.as_str.ensures ∙ c.in_ok-key.ensures)
    c.in-Some.ensures.found.0 (c.in-Some.ensures.found.1 d) none keys ms holds)
