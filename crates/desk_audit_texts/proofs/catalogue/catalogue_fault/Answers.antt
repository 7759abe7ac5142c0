use Rattle.std.proofs.Common.{◌≡◌, ◌∙◌, ℕ, List, Ok, ap, rules, sym, take}
use Rattle.std.specs.Prelude.{is_some, true}
use Rattle.std.specs.List.{flat_map}
use Rattle.std.specs.Option.{option_copied}
use Rattle.std.specs.Result.{result_ok}
use Rattle.std.proofs.lemmas.List.{take_all}
use Rattle.desk_model.specs.declared.reading.Catalogue.{Catalogue}
use Rattle.desk_snapshot.specs.Conditions.{rules_by, stored_rule}
use Rattle.desk_snapshot.specs.declared.rows.StoredCatalogue.{StoredCatalogue}
use Rattle.desk_snapshot.specs.declared.rows.StoredRule.{StoredRule}
use Rattle.desk_audit_texts.proofs.Given.{body_read, rules_given}
use Rattle.desk_audit_texts.proofs.Judged.{rules_left}
use Rattle.desk_audit_texts.proofs.Rows.{all_on, left_given}
use Rattle.desk_audit_texts.proofs.catalogue.catalogue_fault.Goals as goal

pub loop-row-preserved : goal.loop-row-preserved
loop-row-preserved g c = λ w right.
    let rows : List StoredCatalogue = c.as_slice-catalogue.result.now in
    let row : StoredCatalogue = c.row-item.result in
    let read : Catalogue = c.in-Ok.read in
    let i : ℕ = c.loop-row.row-index in
    let before = c.loop-row.invariant w right in
    let said : Ok read ≡ w.catalogue row.body =
    sym c.in-Ok.is ∙ c.in_ok-read.ensures w right ∙ ap w.catalogue c.as_str.ensures in
    let stored : List StoredRule = c.args.snapshot.now.rule in
    record {
      read = all_on (λ row. is_some (result_ok (w.catalogue row.body))) rows i row
          c.loop-row-test.true c.row-item.is
          before.read (body_read w row read said);
      left = left_given (rules_by w) stored_rule rows i row row.revision c.number.result
          c.as_slice-in-Ok.result.now read.rules
          stored (option_copied c.left_behind-left.result) c.loop-row-test.true c.row-item.is
          (search rules) c.number.ensures c.as_slice-in-Ok.ensures (rules_given w row read said)
          (c.left_behind-left.ensures stored (flat_map (rules_by w) (take i rows)) before.left);
    }

pub returns-then-not-are_used_up : goal.returns-then-not-are_used_up
returns-then-not-are_used_up g c = λ w right.
    let rows : List StoredCatalogue = c.as_slice-catalogue.result.now in
    let all : take c.loop-row.row-index rows ≡ rows =
    take_all c.loop-row.row-index rows c.loop-row-test.false in
    let before = c.loop-row.invariant w right in
    rules_left w c.args.snapshot.now rows (option_copied c.loop-row.left)
    c.as_slice-catalogue.ensures
    (c.are_numbered.ensures.0 c.if-not-are_numbered.false) (rw all at before.read)
    (rw all at before.left)
    (λ e. let used : c.are_used_up.result ≡ true = c.are_used_up.ensures.1 e in cc)
