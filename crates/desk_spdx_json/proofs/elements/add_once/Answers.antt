use Rattle.std.proofs.Common.{◌∙◌, ◌≡◌, ◌++◌, List, None, OnOk, ap, option_map, refl, subst, sym, ℕ}
use Rattle.std.specs.BTreeMap.{get_by_text}
use Rattle.std.proofs.lemmas.Result.{on_ok_weaker}
use Rattle.std.proofs.lemmas.Map.Text.{btree_map_updates_text}
use Rattle.desk_spdx_json.specs.Elements.{SeenText, element_text, read_of, seen_in, seen_text, steps_beside}
use Rattle.desk_spdx_json.proofs.Repeated.{keeps_new}
use Rattle.desk_spdx_json.proofs.elements.add_once.Goals as goal

pub returns-in-Some-clause-steps : goal.returns-in-Some-clause-steps
returns-in-Some-clause-steps c =
    let e = element_text c.args.element in
    subst (λ (id : List ℕ). OnOk c.add_again.result
    (c.add_again.new.steps ≡ c.args.steps.now ++ steps_beside e (seen_in c.args.seen.now id)))
    c.as_str.ensures.value
    (subst (λ o. OnOk c.add_again.result
    (c.add_again.new.steps ≡ c.args.steps.now ++ steps_beside e (option_map seen_text o)))
    c.in-Some.ensures.value
    (c.add_again.ensures e (sym c.as_str-in-Some.ensures.value) refl
    (sym (c.as_str-in-Some-2.ensures.value ∙ c.in_ok-text.ensures ∙ ap read_of c.as_slice.ensures))))

pub returns-in_ok-insert-in-None-clause-keeps : goal.returns-in_ok-insert-in-None-clause-keeps
returns-in_ok-insert-in-None-clause-keeps c =
    let e = element_text c.args.element in
    let kept : List ℕ → SeenText = λ text. record { at = e.at; text = text } in
    let none : get_by_text c.args.seen.now e.id ≡ None =
    subst (λ (id : List ℕ). get_by_text c.args.seen.now id ≡ None) c.as_str.ensures.value
    (sym c.in-None.ensures.value) in
    on_ok_weaker c.append.result
    (λ _. keeps_new e c.args.seen.now c.insert.new.self _
    (ap kept (c.in_ok-text.ensures ∙ ap read_of c.as_slice.ensures)) none
    (btree_map_updates_text e.id c.args.seen.now c.insert.new.self _
    c.in_ok-insert-in-None.ensures.updates))
    c.append.ensures
