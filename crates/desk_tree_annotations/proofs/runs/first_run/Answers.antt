use Rattle.std.proofs.Common.{◌++◌}
use Rattle.desk_base.specs.Lines.{end_bytes}
use Rattle.desk_tree_annotations.proofs.RunLemmas.{run_line, run_open, run_hidden, drop_all}
use Rattle.desk_tree_annotations.proofs.runs.first_run.Goals as goal

pub returns-in_default-clause-run : goal.returns-in_default-clause-run
returns-in_default-clause-run c =
    let text = c.first_line.result.0.now in
    let end = c.first_line.result.1 in
    let rest = c.first_line.result.2.now in
    let l = c.first_line.ensures.line in
    run_line c.args.line c.args.bytes.now text end rest l
    (c.in_default.ensures.none text (end_bytes end ++ rest) l.cut l.no_lf)

pub returns-in_default-around-clause-run : goal.returns-in_default-around-clause-run
returns-in_default-around-clause-run c =
    let inner = c.in-Some.inner.now in
    let none = c.split_at.result.1.now in
    run_open c.args.line c.args.bytes.now c.in-Some.before.now inner none c.in-Some.ensures.cut
    c.in-Some.ensures.no_lf c.in-Some.ensures.first c.in_default-around.ensures.none
    (drop_all inner none c.split_at.ensures.back)

pub returns-clause-run : goal.returns-clause-run
returns-clause-run c =
    run_hidden c.args.line c.args.bytes.now c.in-Some.before.now c.in-Some.inner.now
    c.in-Some-around.hidden.now c.in-Some-around.rest.now c.line_feeds.result c.in-Some.ensures.cut
    c.in-Some.ensures.no_lf c.in-Some.ensures.first
    c.in-Some-around.ensures.cut c.in-Some-around.ensures.first c.line_feeds.ensures.value
