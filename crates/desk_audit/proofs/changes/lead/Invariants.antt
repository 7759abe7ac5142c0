use Rattle.std.proofs.Common.{◌≡◌, ◌+◌, ◌≤◌, drop, filter, None}
use Rattle.std.specs.Option.{option_copied}
use Rattle.desk_snapshot.specs.Rows.{is_change_of}
use Rattle.desk_audit.specs.Walks.{lead}
use Rattle.desk_audit.proofs.changes.lead.Given as goal

-- the changes that are left are judged as all are
abbrev pub invariant-loop-row : goal.invariant-loop-row
invariant-loop-row l = record {
  few : l.count ≤ l.row-index;
  rest : lead l.snapshot l.duty.state (option_copied l.before) (l.count + 1)
      (filter (is_change_of l.duty.number) (drop l.row-index l.rows))
      ≡ lead l.snapshot l.duty.state None 1 (filter (is_change_of l.duty.number) l.rows);
}
