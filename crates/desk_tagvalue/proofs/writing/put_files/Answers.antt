use Rattle.std.proofs.Common.{subst, sym, length, arith, ◌+◌, ◌≤◌}
use Rattle.std.specs.String.{string_bytes}
use Rattle.std.specs.Prelude.{All}
use Rattle.std.proofs.lemmas.List.{drop_all, take_all}
use Rattle.std.proofs.lemmas.List.Elements.{All-more}
use Rattle.desk_tagvalue.specs.Drafts.{files_lines}
use Rattle.desk_tagvalue.specs.Written.{Adds, IsDigestRead}
use Rattle.desk_tagvalue.proofs.AddLemmas.{adds_none, file_added, file_stands, file_stops}
use Rattle.desk_tagvalue.proofs.writing.put_files.Goals as goal

pub returns-in-Err-clause-err : goal.returns-in-Err-clause-err
returns-in-Err-clause-err c =
    file_stops c.args.files.now c.loop-i.i c.index-files-i.result c.in-Err.fault c.loop-i-test.true
    c.index-files-i.is c.loop-i.invariant.stand c.in-Err.ensures.err

pub loop-i-preserved : goal.loop-i-preserved
loop-i-preserved c = record {
  goes_on = file_added (string_bytes c.args.out.now) (string_bytes c.loop-i.out)
      (string_bytes c.put_file.new.out) c.args.files.now c.loop-i.i c.index-files-i.result
      c.loop-i-test.true c.index-files-i.is c.in-Ok.ensures.ok c.loop-i.invariant.goes_on;
  stand = λ all. file_stands c.args.files.now c.loop-i.i c.index-files-i.result c.loop-i-test.true
      (c.loop-i.invariant.stand all);
  digests = All-more IsDigestRead c.args.files.now c.loop-i.i c.index-files-i.result
      c.loop-i-test.true c.loop-i.invariant.digests
      (subst IsDigestRead c.index-files-i.is c.in-Ok.ensures.digest);
}

pub returns-clause-digests : goal.returns-clause-digests
returns-clause-digests c =
    let ended : length c.args.files.now ≤ c.loop-i.i = omega arith in
    subst (All IsDigestRead) (take_all c.loop-i.i c.args.files.now ended) c.loop-i.invariant.digests

pub returns-clause-ok : goal.returns-clause-ok
returns-clause-ok c =
    let ended : length c.args.files.now ≤ c.loop-i.i = omega arith in
    let none = drop_all c.loop-i.i c.args.files.now ended in
    c.loop-i.invariant.goes_on (string_bytes c.loop-i.out)
    (subst (λ fs. Adds (string_bytes c.loop-i.out) (files_lines (c.loop-i.i + 1) fs)
    (string_bytes c.loop-i.out)) (sym none) (adds_none (string_bytes c.loop-i.out)))
