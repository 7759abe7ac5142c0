use Rattle.std.proofs.Common.{◌≡◌, ◌-◌, ◌<◌, [], ◌∷◌, length, Some, None, ap, ◌∙◌, arith}
use Rattle.json.specs.Json.{parse_map, after_end_array}
use Rattle.json.specs.Reads.{token_of}
use Rattle.json.proofs.Grammar.{value_is}
use Rattle.serde_json.specs.Data.{item, no_items}
use Rattle.serde_json.specs.Read.{of_json, converted}
use Rattle.desk_json_object.specs.Kept.{joined}
use Rattle.desk_json_object.specs.Taken.{data_at}
use Rattle.desk_json_object.proofs.Sparing.{joined_none, joined_on}
use Rattle.desk_json_object.proofs.Taking.{items_in, item_taken, items_ended, item_refused}
use Rattle.desk_json_object.proofs.object.read_texts.Goals as goal

pub returns-in_err-token-clause-err : goal.returns-in_err-token-clause-err
returns-in_err-token-clause-err c = λ refused.
    let l = c.items in
    let going : (after_end_array l.reader ≡ None) × (c.take_end_array.new.self ≡ l.reader) =
    grind arith in
    let empty : c.take_end_array.new.self ≡ [] = grind arith in
    let none : data_at c.args.depth l.reader ≡ None =
    rw (← going.1, empty) (ap (converted of_json) (value_is c.args.depth [])) in
    l.invariant.3 ∙ ap (parse_map (joined l.invariant.2))
    (item_refused c.args.depth l.invariant.0 l.reader going.0 none)

pub returns-in_err-texts-clause-err : goal.returns-in_err-texts-clause-err
returns-in_err-texts-clause-err c = λ refused.
    let l = c.items in
    let going : (after_end_array l.reader ≡ None) × (c.take_end_array.new.self ≡ l.reader) =
    grind arith in
    let begun : l.reader ≡ token_of c.in_ok-token.token ∷ c.next.new.self = grind arith in
    let none : data_at c.args.depth l.reader ≡ None = ap (data_at c.args.depth) begun
    ∙ c.in_err-texts.ensures.err (grind arith) in
    l.invariant.3 ∙ ap (parse_map (joined l.invariant.2))
    (item_refused c.args.depth l.invariant.0 l.reader going.0 none)

pub items-preserved : goal.items-preserved
items-preserved c =
    let l = c.items in
    let n = l.invariant.0 in
    let before = l.invariant.2 in
    let going : (after_end_array l.reader ≡ None) × (c.take_end_array.new.self ≡ l.reader) =
    grind arith in
    let begun : l.reader ≡ token_of c.in_ok-token.token ∷ c.next.new.self = grind arith in
    let taken = c.in_ok-texts.ensures.ok before l.invariant.4 in
    let rest = c.with_item.new.reader in
    let less : length rest < length l.reader =
    omega (arith, ap length begun, c.in_ok-texts.ensures.left) in
    let turn = item_taken c.args.depth n l.reader rest taken.0 (omega (arith, l.invariant.1))
    going.0 (ap (data_at c.args.depth) begun ∙ taken.1) in (
      n - 1,
      omega (arith, l.invariant.1),
      joined before (item taken.0 no_items),
      l.invariant.3 ∙ ap (parse_map (joined before)) turn
          ∙ joined_on before taken.0 (items_in c.args.depth (n - 1) rest),
      taken.2,
      omega (arith, l.invariant.5),
    )

pub returns-clause-ok : goal.returns-clause-ok
returns-clause-ok c =
    let l = c.items in
    let rest = c.take_end_array.new.self in (
      l.invariant.2,
      l.invariant.3
          ∙ ap (parse_map (joined l.invariant.2))
          (items_ended c.args.depth l.invariant.0 l.reader rest l.invariant.1 (grind arith))
          ∙ ap (λ ds. Some (ds, rest)) (joined_none l.invariant.2),
      l.invariant.4,
    )
