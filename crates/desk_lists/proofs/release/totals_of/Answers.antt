use Rattle.std.proofs.Common.{◌≡◌, ℕ, ◌∙◌, ap, length, List}
use Rattle.std.specs.Prelude.{count_by, filter}
use Rattle.std.specs.Str.{bytes_eq}
use Rattle.desk_model.specs.Names.{duty_state_name}
use Rattle.desk_model.specs.declared.state.DutyState.{DutyState}
use Rattle.desk_model.specs.declared.state.DutyState.TheVariants as state
use Rattle.desk_lists.specs.Held.{duties_held, is_held_by}
use Rattle.desk_lists.specs.Releases.{is_duty_in, is_duty_of}
use Rattle.desk_lists.specs.declared.held.Held.{Held}
use Rattle.desk_lists.proofs.Counting.{count_by-filter, length-filter_map}
use Rattle.desk_lists.proofs.release.totals_of.Goals as goal

in_state : (release : List ℕ) (held rows : List Held) → rows ≡ filter (is_held_by release) held
    → (s : DutyState)
    → count_by (λ (row : Held). bytes_eq row.duty.now.state (duty_state_name s)) rows
    ≡ count_by (is_duty_in release s) (duties_held held)
in_state release held rows e s =
    ap (count_by (λ (row : Held). bytes_eq row.duty.now.state (duty_state_name s))) e
    ∙ count_by-filter (λ (row : Held). row.duty.now) (is_duty_of release)
    (λ row. bytes_eq row.state (duty_state_name s)) held

all : (release : List ℕ) (held rows : List Held) → rows ≡ filter (is_held_by release) held
    → length rows ≡ count_by (is_duty_of release) (duties_held held)
all release held rows e =
    ap length e ∙ length-filter_map (λ (row : Held). row.duty.now) (is_duty_of release)
    (is_duty_of release) held

pub returns : goal.returns
returns c =
    let rows = c.run-rows.result.now in
    let among = all c.args.release.now c.args.held.now.rows.items rows c.run-rows.ensures in
    let part = in_state c.args.release.now c.args.held.now.rows.items rows c.run-rows.ensures in
    let still_open_is = c.count_in.ensures ∙ part state.IsOpen in
    let met_is = c.count_in-2.ensures ∙ part state.Met in
    let waived_is = c.count_in-3.ensures ∙ part state.Waived in
    let withdrawn_is = c.count_in-4.ensures ∙ part state.Withdrawn in
    (λ i. record {
      raised = among i;
      still_open = still_open_is i;
      met = met_is i;
      waived = waived_is i;
      withdrawn = withdrawn_is i;
    })
