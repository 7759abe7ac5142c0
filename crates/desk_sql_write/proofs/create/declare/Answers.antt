use Rattle.std.proofs.Common.{◌∙◌, map}
use Rattle.desk_sql_layout.proofs.Clean.{clean_before}
use Rattle.sqlite.specs.Held.{state}
use Rattle.sqlite.proofs.StateLemmas.{survives_then}
use Rattle.desk_sql_write.proofs.Declared.{went_on, declare_fails, err_declares}
use Rattle.desk_sql_write.proofs.create.declare.Goals as goal

pub loop-place-preserved : goal.loop-place-preserved
loop-place-preserved g c = record {
  same_reference = c.in_ok-execute.ensures.same_reference ∙ c.loop-place.invariant.same_reference;
  went = λ clean inside.
      went_on (map (λ text. text.now) c.args.texts.now) c.loop-place.place c.text_at.result.now
      (state g.S.Store c.args.tx.now.conn.now) (state g.S.Store c.loop-place.tx.conn.now)
      (state g.S.Store c.execute.new.tx.conn.now)
      c.execute.result c.text_at.ensures c.in_ok-execute.field-0 c.in_ok-execute.was
      (c.loop-place.invariant.went (clean_before _ _ _ c.execute.ensures.survives clean) inside)
      c.execute.ensures.ran clean;
  survives = survives_then _ _ _ _ _ (λ _. ⊥) (λ _ db none. none) (λ _ db none. none)
      c.loop-place.invariant.survives c.execute.ensures.survives;
}

pub returns-in_err-execute-clause-cause : goal.returns-in_err-execute-clause-cause
returns-in_err-execute-clause-cause g c =
    let texts = map (λ text. text.now) c.args.texts.now in
    let a = state g.S.Store c.args.tx.now.conn.now in
    let b = state g.S.Store c.loop-place.tx.conn.now in
    let e = state g.S.Store c.execute.new.tx.conn.now in
    let fault = c.in_err-execute.field-0.0 in
    err_declares texts a e c.from_residual.result fault c.from_residual.ensures.1
    (declare_fails texts c.loop-place.place c.text_at.result.now a b e fault c.text_at.ensures
    c.loop-place.invariant.went c.loop-place.invariant.survives c.execute.ensures.survives
    c.in_err-execute.ensures.into)
