use Rattle.std.proofs.Common.{◌≡◌, ℕ, List, [], ◌∷◌, Option, Some, None, option_map}
use Rattle.std.proofs.Common.{option_and_then, refl, sym, ap, ◌∙◌, subst}
use Rattle.std.specs.Option.{ok_or}
use Rattle.serde_json.specs.Data.{Items}
use Rattle.serde_json.specs.Find.{get, as_array}
use Rattle.desk_json_object.specs.Seen.{texts_seen, seen}
use Rattle.desk_json.specs.Fields.{texts}
use Rattle.desk_json.specs.Unread.{IsFound}
use Rattle.desk_json.specs.declared.fields.Unread.TheVariants.{BadCommand}
use Rattle.desk_json.proofs.fields.wanted_texts.Goals as goal

texts-texts_seen : (list : List (List ℕ)) → texts (texts_seen list) ≡ Some list
texts-texts_seen [] = refl
texts-texts_seen (text ∷ list) = ap (option_map (λ more. text ∷ more)) (texts-texts_seen list)

found : (list : Option (List (List ℕ))) (items : Option Items) → option_map texts_seen list ≡ items
    → IsFound (option_and_then texts items) (ok_or list BadCommand)
found None items is = ap (option_and_then texts) (sym is)
found (Some list) items is = ap (option_and_then texts) (sym is) ∙ texts-texts_seen list

pub returns-clause-found : goal.returns-clause-found
returns-clause-found c =
    let items = option_and_then as_array (get c.args.key.now (seen c.args.object.now)) in
    subst (IsFound (option_and_then texts items)) (sym c.ok_or.ensures.value)
    (found c.take_texts.result items c.take_texts.ensures)
