use Rattle.std.proofs.Common.{◌≡◌, inr}
use Rattle.std.specs.Prelude.{map, Result}
use Rattle.desk_tagvalue.specs.Entries.{entry_text}
use Rattle.desk_fields.specs.declared.fault.DocFault.{DocFault}
use Rattle.desk_tagvalue.specs.Documents.{judged, no_text, too_large}
use Rattle.desk_tagvalue.specs.Parts.{DocumentText}
use Rattle.desk_tagvalue.proofs.ReadLemmas.{spells_judged, ok_from, err_from, err_cut}
use Rattle.desk_tagvalue.proofs.reading.read.Goals as goal

pub returns-then-bytes-gt-DOCUMENT_BYTES-clause-err : goal.returns-then-bytes-gt-DOCUMENT_BYTES-clause-err
returns-then-bytes-gt-DOCUMENT_BYTES-clause-err c = inr (too_large c.args.bytes.now
    c.if-bytes-gt-DOCUMENT_BYTES.true)

pub returns-in_default-clause-err : goal.returns-in_default-clause-err
returns-in_default-clause-err c = inr (no_text c.args.bytes.now c.if-bytes-gt-DOCUMENT_BYTES.false
    c.in_default.ensures.cases.0)

pub returns-in-Ok-entries_of : goal.returns-in-Ok-entries_of
returns-in-Ok-entries_of c =
    let bytes = c.args.bytes.now in
    let t = c.in-Ok.ensures.cases in
    let es = map entry_text c.in-Ok-entries_of.entries.items in
    let spells = λ (x : Result DocumentText DocFault) (is : judged es ≡ x).
    spells_judged bytes c.in-Ok.text.now es x c.if-bytes-gt-DOCUMENT_BYTES.false t.1 t.0
    c.in-Ok-entries_of.ensures.ok is in
    record {
      ok = ok_from bytes es c.judge.result spells c.judge.ensures.ok;
      err = err_from bytes es c.judge.result spells c.judge.ensures.err;
    }

pub returns-in-Err-clause-err : goal.returns-in-Err-clause-err
returns-in-Err-clause-err c =
    let t = c.in-Ok.ensures.cases in
    err_cut c.args.bytes.now c.in-Ok.text.now c.in-Err.fault c.if-bytes-gt-DOCUMENT_BYTES.false t.1
    t.0 c.in-Err.ensures.err
