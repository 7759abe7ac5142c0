use Rattle.std.proofs.Common.{◌≡◌, ◌∙◌, ap, sym, filter, Err, Ok}
use Rattle.desk_model.specs.Keys.{is_choice_in}
use Rattle.desk_tally.specs.Kept.{place_found}
use Rattle.desk_sorted.specs.Blocks.{rows_in}
use Rattle.desk_memory_rows.specs.Holders.{leaving, letting_go}
use Rattle.desk_sql_lookup.proofs.LookUps.{fails_too, looks_then, then_tells}
use Rattle.desk_sql_cache.specs.Holding.{held_by}
use Rattle.desk_sql_cache.proofs.holders.withdraw.Goals as goal

pub returns-in_err-choices : goal.returns-in_err-choices
returns-in_err-choices g c =
    let fault = c.in_err-choices.field-0.0 in
    let both = looks_then g.S.Store c.args.conn.now c.release_place.new.conn c.choices_in.new.conn
    (λ t. Unit {0}) c.in_ok-place.ensures (Err fault) c.in_err-choices.ensures
    (λ choices t. Unit {0}) (λ choices t first is. tt) in
    fails_too g.S.Store c.args.conn.now c.choices_in.new.conn c.from_residual-in_err-choices.result
    fault c.from_residual-in_err-choices.ensures.1 _ (λ t. Unit {0}) both

pub returns : goal.returns
returns g c =
    let name = c.args.release.now in
    let all = held_by c.args.holders.now in
    let place = c.in-Some.place in
    let both = looks_then g.S.Store c.args.conn.now c.release_place.new.conn c.choices_in.new.conn
    (λ t. Unit {0}) c.in_ok-place.ensures (Ok c.in_ok-choices.choices) c.in_ok-choices.ensures
    (λ choices t. (c.in_ok-place.field-0 ≡ place_found t.releases c.as_str.result.now)
    × (choices.items ≡ filter (is_choice_in c.as_str-2.result.now) t.choice))
    (λ choices t first second. (first, second)) in
    then_tells g.S.Store c.args.conn.now c.choices_in.new.conn both (λ t. Unit {0}) (Ok tt)
    (λ done t. rows_in c.drop_choices.new.holders.blocks.items
    ≡ leaving (place_found t.releases name) (filter (is_choice_in name) t.choice) all)
    (λ clean t held.
    let it = both.found clean t held in
    c.drop_choices.ensures
    ∙ (ap (λ rows. letting_go place rows all)
    (c.as_slice.ensures.value ∙ (it.1
    ∙ ap (λ name. filter (is_choice_in name) t.choice) c.as_str-2.ensures))
    ∙ ap (λ o. leaving o (filter (is_choice_in name) t.choice) all)
    (sym c.in-Some.is ∙ (it.0 ∙ ap (place_found t.releases) c.as_str.ensures))))
    tt
