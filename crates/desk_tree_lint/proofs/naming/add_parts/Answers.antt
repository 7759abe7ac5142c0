use Rattle.std.proofs.Common.{◌≡◌, ◌∙◌, ◌++◌, ◌∷◌, [], ◌<◌, ℕ, List, ap, append_assoc, arith}
use Rattle.std.proofs.Common.{get_or, length, map, sym, take}
use Rattle.std.proofs.lemmas.List.{map_more, map_push}
use Rattle.desk_tree_lint.specs.Naming.{name_of}
use Rattle.desk_tree_lint.specs.declared.naming.Name.{Name}
use Rattle.desk_tree_lint.proofs.naming.add_parts.Goals as goal

pub loop-place-preserved : goal.loop-place-preserved
loop-place-preserved c = λ infos are.
    let keys = c.args.keys.now in
    let i = c.loop-place.place in
    let key = get_or keys i [] in
    let old = c.args.names.now in
    let names = c.end_part.new.names in
    let part = c.end_part.new.part in
    let name : List ℕ → Name = name_of infos in
    let within : i < length keys = omega (arith, c.loop-place-test.true, c.len-place-end.ensures) in
    let pushed : c.push.new.self ≡ part ++ key ∷ [] =
    c.in_ok-push.ensures.ok ∙ ap (λ k. part ++ k ∷ []) c.at.ensures in
    ap (λ l. names ++ map name l) pushed
    ∙ ap (λ l. names ++ l) (map_push name part key)
    ∙ sym (append_assoc names (map name part) (name key ∷ []))
    ∙ ap (λ l. l ++ name key ∷ [])
    (c.in_ok-end_part.ensures infos are ∙ c.loop-place.invariant infos are)
    ∙ append_assoc old (map name (take i keys)) (name key ∷ [])
    ∙ ap (λ l. old ++ l) (sym (map_more name keys i [] within))
