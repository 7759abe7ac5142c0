-- A tally's numbers.
use Rattle.desk_model.specs.declared.command.Totals.{Totals}
use Rattle.desk_tally.specs.declared.tally.Tally.{Tally}

-- the five numbers that a tally keeps for its release
abbrev pub totals_in : Tally → Totals
totals_in tally = record {
  raised = tally.raised;
  still_open = tally.still_open;
  met = tally.met;
  waived = tally.waived;
  withdrawn = tally.withdrawn;
}
