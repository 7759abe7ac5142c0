use Rattle.std.proofs.Common.{◌≡◌, ◌<◌, ℕ, length}
use Rattle.std.specs.Prelude.{slice_index_or}
use Rattle.desk_tagvalue.specs.Documents.{document_text}
use Rattle.desk_bom.specs.Codes.{IsState}
use Rattle.desk_bom.specs.declared.state.CodeState.TheVariants as state
use Rattle.desk_findings.proofs.document.states_in.Given as goal

abbrev pub invariant-loop-place : goal.invariant-loop-place
invariant-loop-place l = record {
  count : length l.states.items ≡ l.place;
  states : (k : ℕ) → k < l.place
      → IsState (document_text l.document) k (slice_index_or l.states.items k state.Absent);
}
