use Rattle.std.proofs.Common.{◌≡◌, ◌∙◌, ◌+◌, Err, IfSome, Ok, ap, filter, length, min, slice_get}
use Rattle.std.proofs.lemmas.Result.{IfOk-weaker}
use Rattle.desk_base.proofs.Numbers.{numbers_equal}
use Rattle.desk_base.proofs.Lists.{first_found}
use Rattle.sqlite.specs.Held.{state}
use Rattle.desk_history.specs.FromTables.{duty_found}
use Rattle.desk_model.specs.Keys.{is_duty}
use Rattle.desk_model.specs.Tables.{Tables}
use Rattle.desk_sql_lookup.proofs.Among.{duty_among}
use Rattle.desk_sql_layout.proofs.Causes.{never_cause}
use Rattle.desk_sql_lookup.proofs.DutyQueries.{duty_finds}
use Rattle.desk_sql_lookup.proofs.LookUps.{fails_too, rows_found, then_tells}
use Rattle.desk_sql_layout.proofs.Loops.{passed_first}
use Rattle.desk_sql_lookup.proofs.duties.duty.Goals as goal

pub returns-in_err-found-clause-looks : goal.returns-in_err-found-clause-looks
returns-in_err-found-clause-looks g c =
    let n = c.args.number in
    let duties = c.args.duties in
    let fault = c.in_err-found.field-0.0 in
    let If = λ (t : Tables). length t.duty ≡ duties in
    fails_too g.S.Store c.args.conn.now c.read_one.new.conn c.from_residual.result fault
    c.from_residual.ensures.1
    (λ found t. length t.duty ≡ duties → found ≡ duty_found t n) If
    (rows_found g.S.Store c.args.conn.now c.read_one.new.conn (duty_finds (min n (duties + 1)))
    (Err fault)
    (λ found rows. found ≡ slice_get rows 0) (rw c.among.ensures at c.in_err-found.ensures) If
    (λ found t. length t.duty ≡ duties → found ≡ duty_found t n)
    (λ found t orderly is count.
    is ∙ ap (λ l. slice_get l 0) (duty_among n duties t orderly count)
    ∙ first_found (is_duty n) t.duty))

pub returns-clause-looks : goal.returns-clause-looks
returns-clause-looks g c =
    let n = c.args.number in
    let duties = c.args.duties in
    let p = is_duty n in
    let If = λ (t : Tables). length t.duty ≡ duties in
    let old = c.args.conn.now in
    let new = c.read_one.new.conn in
    let first = rows_found g.S.Store old new (duty_finds (min n (duties + 1)))
    (Ok c.in_ok-found.found)
    (λ found rows. found ≡ slice_get rows 0) (rw c.among.ensures at c.in_ok-found.ensures) If
    (λ found t. length t.duty ≡ duties → found ≡ slice_get (filter p t.duty) 0)
    (λ found t orderly is count. is
    ∙ ap (λ l. slice_get l 0) (duty_among n duties t orderly count)) in
    then_tells g.S.Store old new first If c.with_number.result
    (λ found t. length t.duty ≡ duties → found ≡ duty_found t n)
    (IfOk-weaker c.with_number.result _ _
    (λ kept same clean t held count. same ∙ first.found clean t held count ∙ first_found p t.duty)
    c.with_number.ensures.kept)
    (never_cause If (state g.S.Store old) (state g.S.Store new) c.with_number.result
    (IfSome c.in_ok-found.found (λ row. row.number ≡ n))
    (λ clean t held count.
    rw (first.found clean t held count)
    (passed_first p (λ row. row.number ≡ n) (λ x is. numbers_equal x.number n is) t.duty))
    c.with_number.ensures.cause)
