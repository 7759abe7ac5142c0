use Rattle.std.proofs.Common.{◌≡◌, ◌-◌, ◌<◌, [], ◌∷◌, length, Some, None, refl, ap, ◌∙◌, arith}
use Rattle.std.proofs.lemmas.Result.{on_ok_weaker, on_err_weaker}
use Rattle.desk_base.proofs.Results.{OnErr-always}
use Rattle.json.specs.Json.{parse_map, after_end_array, read_key}
use Rattle.json.specs.Reads.{token_of}
use Rattle.json.proofs.Grammar.{value_is, read_key-shorter}
use Rattle.serde_json.specs.Data.{number, array, object, item, no_items, no_members, put}
use Rattle.serde_json.specs.Read.{of_json, converted}
use Rattle.serde_json.specs.View.{number_view}
use Rattle.desk_json_object.specs.Taken.{data_at, items_at, members_at}
use Rattle.desk_json_object.proofs.Taking.{data_at-array, data_at-object, data_at-too_deep}
use Rattle.desk_json_object.proofs.Taking.{data_at-too_deep_object, items_in, item_taken}
use Rattle.desk_json_object.proofs.Taking.{items_ended, item_refused, member_taken, members_ended}
use Rattle.desk_json_object.proofs.Taking.{member_refused, key_refused, scalar_taken, none_begins}
use Rattle.desk_json_object.proofs.Taking.{same_items, twice_around, taken_around, refused_around}
use Rattle.desk_json_object.proofs.passing.+pass.Goals as goal

pub pass_items-items-init : goal.pass_items-items-init
pass_items-items-init t c = (
  length c.args.reader.now,
  omega arith,
  (λ ds. ds),
  same_items (items_at c.args.depth c.args.reader.now),
  omega arith,
)

pub pass_items-items-preserved : goal.pass_items-items-preserved
pass_items-items-preserved t c =
    let l = c.items in
    let n = l.invariant.0 in
    let before = l.invariant.2 in
    let going : (after_end_array l.reader ≡ None) × (c.take_end_array.new.self ≡ l.reader) =
    grind arith in
    let taken = c.in_ok-pass_value.ensures.ok in
    let rest = c.pass_value.new.reader in
    let less : length rest < length l.reader = rw (← going.1) c.in_ok-pass_value.ensures.left in
    let turn = item_taken c.args.depth n l.reader rest taken.0 (omega (arith, l.invariant.1))
    going.0 (rw (← going.1) taken.1) in (
      n - 1,
      omega (arith, l.invariant.1),
      (λ ds. before (item taken.0 ds)),
      l.invariant.3 ∙ ap (parse_map before) turn
          ∙ twice_around before (item taken.0) (items_in c.args.depth (n - 1) rest),
      omega (arith, l.invariant.4),
    )

pub pass_items-returns-in_err-pass_value-clause-err : goal.pass_items-returns-in_err-pass_value-clause-err
pass_items-returns-in_err-pass_value-clause-err t c =
    let l = c.items in
    let going : (after_end_array l.reader ≡ None) × (c.take_end_array.new.self ≡ l.reader) =
    grind arith in
    OnErr-always c.from_residual.result
    (l.invariant.3 ∙ ap (parse_map l.invariant.2)
    (item_refused c.args.depth l.invariant.0 l.reader going.0
    (rw (← going.1) c.in_err-pass_value.ensures.err)))

pub pass_items-returns-clause-ok : goal.pass_items-returns-clause-ok
pass_items-returns-clause-ok t c =
    let l = c.items in (
      l.invariant.2 no_items,
      l.invariant.3
          ∙ ap (parse_map l.invariant.2)
          (items_ended c.args.depth l.invariant.0 l.reader c.take_end_array.new.self l.invariant.1
          (grind arith)),
    )

pub pass_members-members-init : goal.pass_members-members-init
pass_members-members-init t c = (
  length c.args.reader.now,
  omega arith,
  (λ before. (before, refl)),
  omega arith,
)

pub pass_members-returns-in_err-next_key-clause-err : goal.pass_members-returns-in_err-next_key-clause-err
pass_members-returns-in_err-next_key-clause-err t c = λ before.
    let l = c.members in
    let at = l.invariant.2 before in
    OnErr-always c.from_residual.result
    (at.1 ∙ key_refused c.args.depth l.invariant.0 at.0 l.reader c.in_err-next_key.ensures.value)

pub pass_members-members-preserved : goal.pass_members-members-preserved
pass_members-members-preserved t c =
    let l = c.members in
    let n = l.invariant.0 in
    let key = c.in-Some.field-0.now in
    let inner = c.next_key.new.self in
    let named : read_key l.reader ≡ Some (Some key, inner) = grind arith in
    let taken = c.in_ok-pass_value.ensures.ok in
    let rest = c.pass_value.new.reader in
    let less = read_key-shorter l.reader (Some key) inner named in
    let lesser = c.in_ok-pass_value.ensures.left in (
      n - 1,
      omega (arith, l.invariant.1),
      (λ before. let at = l.invariant.2 before in (
        put key taken.0 at.0,
        at.1 ∙ member_taken c.args.depth n at.0 key l.reader inner rest taken.0
            (omega (arith, l.invariant.1)) named taken.1,
      )),
      omega (arith, l.invariant.3),
    )

pub pass_members-returns-in_err-pass_value-clause-err : goal.pass_members-returns-in_err-pass_value-clause-err
pass_members-returns-in_err-pass_value-clause-err t c = λ before.
    let l = c.members in
    let at = l.invariant.2 before in
    let key = c.in-Some.field-0.now in
    let inner = c.next_key.new.self in
    let named : read_key l.reader ≡ Some (Some key, inner) = grind arith in
    OnErr-always c.from_residual-in_err-pass_value.result
    (at.1 ∙ member_refused c.args.depth l.invariant.0 at.0 key l.reader inner named
    c.in_err-pass_value.ensures.err)

pub pass_members-returns-clause-ok : goal.pass_members-returns-clause-ok
pass_members-returns-clause-ok t c = λ before.
    let l = c.members in
    let at = l.invariant.2 before in (
      at.0,
      at.1 ∙ members_ended c.args.depth l.invariant.0 at.0 l.reader c.next_key.new.self
          l.invariant.1 (grind arith),
    )

pub pass_rest-returns-then-depth-eq0-clause-err : goal.pass_rest-returns-then-depth-eq0-clause-err
pass_rest-returns-then-depth-eq0-clause-err t c =
    ap (λ k. data_at c.args.depth (token_of k ∷ c.args.reader.now)) c.in-BeginArray.is
    ∙ data_at-too_deep c.args.depth c.args.reader.now (omega arith)

pub pass_rest-returns-then-depth-eq0-2-clause-err : goal.pass_rest-returns-then-depth-eq0-2-clause-err
pass_rest-returns-then-depth-eq0-2-clause-err t c =
    ap (λ k. data_at c.args.depth (token_of k ∷ c.args.reader.now)) c.in-BeginObject.is
    ∙ data_at-too_deep_object c.args.depth c.args.reader.now (omega arith)

pub pass_rest-returns-in-Some-clause-ok : goal.pass_rest-returns-in-Some-clause-ok
pass_rest-returns-in-Some-clause-ok t c = (
  number (number_view c.in-Some.field-0),
  ap (λ k. data_at c.args.depth (token_of k ∷ c.args.reader.now)) c.in-Number.is
      ∙ ap (converted of_json) (value_is c.args.depth _) ∙ rw (← c.in-Some.ensures) refl,
)

pub pass_rest-returns-in-None-clause-err : goal.pass_rest-returns-in-None-clause-err
pass_rest-returns-in-None-clause-err t c =
    ap (λ k. data_at c.args.depth (token_of k ∷ c.args.reader.now)) c.in-Number.is
    ∙ ap (converted of_json) (value_is c.args.depth _) ∙ rw (← c.in-None.ensures) refl

pub pass_rest-returns-in-String-clause-ok : goal.pass_rest-returns-in-String-clause-ok
pass_rest-returns-in-String-clause-ok t c = scalar_taken c.args.depth c.args.reader.now c.args.token
    c.in-String.is

pub pass_rest-returns-in-EndObject-clause-err : goal.pass_rest-returns-in-EndObject-clause-err
pass_rest-returns-in-EndObject-clause-err t c = none_begins c.args.depth c.args.reader.now
    c.args.token c.in-EndObject.is

pub pass_rest-returns-else-depth-eq0-clause-ok : goal.pass_rest-returns-else-depth-eq0-clause-ok
pass_rest-returns-else-depth-eq0-clause-ok t c =
    let ts = c.args.reader.now in
    let opened = ap (λ k. data_at c.args.depth (token_of k ∷ ts)) c.in-BeginArray.is
    ∙ data_at-array c.args.depth ts (omega arith) in
    on_ok_weaker c.pass_items.result
    (taken_around array (items_at (c.args.depth - 1) ts)
    (data_at c.args.depth (token_of c.args.token ∷ ts)) c.pass_items.new.reader opened)
    c.pass_items.ensures.ok

pub pass_rest-returns-else-depth-eq0-clause-err : goal.pass_rest-returns-else-depth-eq0-clause-err
pass_rest-returns-else-depth-eq0-clause-err t c =
    let ts = c.args.reader.now in
    let opened = ap (λ k. data_at c.args.depth (token_of k ∷ ts)) c.in-BeginArray.is
    ∙ data_at-array c.args.depth ts (omega arith) in
    on_err_weaker c.pass_items.result
    (refused_around array (items_at (c.args.depth - 1) ts)
    (data_at c.args.depth (token_of c.args.token ∷ ts)) opened) c.pass_items.ensures.err

pub pass_rest-returns-else-depth-eq0-2-clause-ok : goal.pass_rest-returns-else-depth-eq0-2-clause-ok
pass_rest-returns-else-depth-eq0-2-clause-ok t c =
    let ts = c.args.reader.now in
    let opened = ap (λ k. data_at c.args.depth (token_of k ∷ ts)) c.in-BeginObject.is
    ∙ data_at-object c.args.depth ts (omega arith) in
    on_ok_weaker c.pass_members.result
    (taken_around object (members_at no_members (c.args.depth - 1) ts)
    (data_at c.args.depth (token_of c.args.token ∷ ts)) c.pass_members.new.reader opened)
    (c.pass_members.ensures.ok no_members)

pub pass_rest-returns-else-depth-eq0-2-clause-err : goal.pass_rest-returns-else-depth-eq0-2-clause-err
pass_rest-returns-else-depth-eq0-2-clause-err t c =
    let ts = c.args.reader.now in
    let opened = ap (λ k. data_at c.args.depth (token_of k ∷ ts)) c.in-BeginObject.is
    ∙ data_at-object c.args.depth ts (omega arith) in
    on_err_weaker c.pass_members.result
    (refused_around object (members_at no_members (c.args.depth - 1) ts)
    (data_at c.args.depth (token_of c.args.token ∷ ts)) opened)
    (c.pass_members.ensures.err no_members)

pub pass_value-returns-in_err-token-clause-err : goal.pass_value-returns-in_err-token-clause-err
pass_value-returns-in_err-token-clause-err t c =
    let empty : c.args.reader.now ≡ [] = grind arith in
    OnErr-always c.from_residual.result
    (ap (data_at c.args.depth) empty ∙ ap (converted of_json) (value_is c.args.depth []))
