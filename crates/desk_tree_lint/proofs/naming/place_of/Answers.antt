use Rattle.std.proofs.Common.{◌≡◌, ◌∙◌, ap, rules, sym, is_eq}
use Rattle.std.specs.Ordering.{nat_cmp}
use Rattle.std.specs.Cmp.Lexicographic.{slice_cmp}
use Rattle.std.specs.declared.cmp.Ordering.{Ordering}
use Rattle.std.proofs.lemmas.Fn.{always_returns_same}
use Rattle.std.proofs.lemmas.Map.Text.{is_eq-slice_cmp}
use Rattle.std.proofs.lemmas.Slice.Eq.{bytes_eq-Decides}
use Rattle.desk_tree_lint.specs.declared.naming.Asked.{Asked}
use Rattle.desk_tree_lint.proofs.OrderLemmas.{halved_none}
use Rattle.desk_tree_lint.proofs.naming.place_of.Goals as goal

pub returns-in-Ok-clause-found : goal.returns-in-Ok-clause-found
returns-in-Ok-clause-found c =
    let key = c.args.key.now in
    let side : Asked → Ordering = λ a. slice_cmp nat_cmp a.key.now key in
    let found = c.in-Ok.ensures.position side
    (always_returns_same _ (λ a r. r ≡ side a.0.now) _ (λ a r q k. search rules)) in (
      c.in-Ok.ensures.bound,
      λ a. (bytes_eq-Decides _ key).0 (sym (is_eq-slice_cmp _ key) ∙ ap is_eq (found a)),
    )

pub returns-in-Err-clause-none : goal.returns-in-Err-clause-none
returns-in-Err-clause-none c = λ up.
    let key = c.args.key.now in
    let side : Asked → Ordering = λ a. slice_cmp nat_cmp a.key.now key in
    halved_none (λ (a : Asked). a.key.now) c.args.asked.now key c.in-Err.field-0 up
    (c.in-Err.ensures.position side
    (always_returns_same _ (λ a r. r ≡ side a.0.now) _ (λ a r q k. search rules)))
