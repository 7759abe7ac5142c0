use Rattle.std.proofs.Common.{◌≡◌, ◌∙◌, ◌++◌, List, ap, subst, sym}
use Rattle.std.specs.Prelude.{map}
use Rattle.std.specs.String.{string_bytes}
use Rattle.std.proofs.lemmas.List.{append-nil, at_drop_all}
use Rattle.desk_tagvalue.specs.Views.{package_text}
use Rattle.desk_import.specs.Proposals.{AreLines}
use Rattle.desk_import.specs.Summaries.{standings_of}
use Rattle.desk_import.specs.declared.summary.Standing.{Standing}
use Rattle.desk_import.proofs.Lines.{no_more, one_line}
use Rattle.desk_import.proofs.Standings.{one_more}
use Rattle.desk_import.proofs.proposals.proposals_for.Goals as goal

pub loop-text-preserved : goal.loop-text-preserved
loop-text-preserved c = λ reads is.
    let packages = c.args.packages.now in
    let ps = map package_text packages in
    let ss = standings_of reads ps c.args.marks.now in
    let first = c.first_mark-ships in
    let stands = c.in_ok-standing.ensures reads is in
    let before = c.loop-text.invariant reads is in
    let line = c.in_ok-line.line in
    let grown = c.in_ok-push_str.ensures.bytes
    ∙ ap (λ l. string_bytes c.loop-text.lines ++ l) c.as_str.ensures.value in (
      one_more package_text reads packages c.loop-text.text-index _ first.result.0
          c.loop-text.rest.now first.result.1.now c.in_ok-standing.standing
          c.loop-text.standings.items c.push.new.self.items ss c.loop-text-test.true
          first.ensures.first first.ensures.behind stands c.in_ok-push.ensures.items before.0,
      one_line package_text reads c.args.document packages c.loop-text.text-index _ first.result.0
          c.loop-text.rest.now first.result.1.now c.in_ok-standing.standing
          (string_bytes line) (string_bytes c.loop-text.lines) (string_bytes c.push_str.new.self) ps
          ss c.loop-text-test.true first.ensures.first first.ensures.behind stands
          (c.in_ok-line.ensures reads first.result.0 is stands) grown before.1,
    )

pub returns : goal.returns
returns c = λ reads is.
    let packages = c.args.packages.now in
    let ps = map package_text packages in
    let ss = standings_of reads ps c.args.marks.now in
    let found = c.loop-text.standings.items in
    let before = c.loop-text.invariant reads is in
    let whole : found ≡ ss =
    sym (ap (λ l. found ++ l) (at_drop_all
    (λ qs. standings_of reads (map package_text qs) c.loop-text.rest.now) packages
    c.loop-text.text-index c.loop-text-test.false) ∙ append-nil found)
    ∙ before.0 in (
      whole,
      subst (λ (s : List Standing). AreLines reads c.args.document ps s
          (string_bytes c.loop-text.lines)) (sym whole)
          (no_more package_text reads c.args.document packages c.loop-text.text-index
          c.loop-text.rest.now (string_bytes c.loop-text.lines) ps ss c.loop-text-test.false
          before.1),
    )
