use Rattle.std.proofs.Common.{◌≡◌, ◌∙◌, ◌<◌, ◌++◌, length, codes, sym, subst, ap, append_assoc, arith}
use Rattle.std.specs.Prelude.{map}
use Rattle.desk_tree_annotations.specs.Runs.{RunText, between}
use Rattle.desk_tree_annotations.specs.Found.{Adds}
use Rattle.desk_tree_annotations.specs.Tags.{tag_text}
use Rattle.desk_tree_annotations.proofs.TagLemmas.{completes_step}
use Rattle.desk_tree_annotations.proofs.SkipLemmas.{completes_skip, skip_room, skip_some, clear_on}
use Rattle.desk_tree_annotations.proofs.EachRun.{completes_bare}
use Rattle.desk_tree_annotations.proofs.info.tagged_info.Goals as goal

pub loop-ahead-preserved : goal.loop-ahead-preserved
loop-ahead-preserved c =
    let l = c.loop-ahead in
    let left = c.skip-left.result in
    let skips = c.skip-left.ensures in
    let f = c.first_run-found in
    let run = f.ensures.run in
    let clear = c.in-Some.ensures.clear in
    let ahead : c.in-Some.ahead < length l.rest.now = c.in-Some.ensures.within in
    let next = c.saturating_sub-clear.ensures in
    let some = skip_some c.in-Some.ahead l.line l.rest.now left.line left.bytes.now skips ahead in
    let room = f.ensures.room in
    let skipped = skip_room c.in-Some.ahead l.line l.rest.now left.line left.bytes.now skips in
    let old = l.invariant.room in
    let here : RunText = record { line = left.line; text = f.result.text.now } in
    let noticed = subst (λ t. Adds t l.noticed here (map tag_text l.notices.items)
    (map tag_text c.add.new.list.items) c.in_ok-noticed.noticed) c.new-notice.ensures
    c.in_ok-noticed.ensures in
    let licensed = subst (λ t. Adds t l.licensed here (map tag_text l.licences.items)
    (map tag_text c.add-in-Some.new.list.items) c.in_ok-licensed.licensed) c.new-licence.ensures
    c.in_ok-licensed.ensures in
    let cut : l.rest.now ≡ (skips.lines
    ++ (f.result.text.now ++ between run.end)) ++ f.result.rest.now =
    skips.cut ∙ ap (λ t. skips.lines ++ t)
    (run.cut ∙ sym (append_assoc f.result.text.now (between run.end) f.result.rest.now))
    ∙ sym (append_assoc skips.lines (f.result.text.now ++ between run.end) f.result.rest.now) in
    record {
      completes =
          completes_step c.args.file.now left.line left.bytes.now f.result.text.now f.result.line
          f.result.rest.now some run
          l.noticed (map tag_text l.notices.items) c.in_ok-noticed.noticed
          (map tag_text c.add.new.list.items) noticed
          l.licensed (map tag_text l.licences.items) c.in_ok-licensed.licensed
          (map tag_text c.add-in-Some.new.list.items) licensed
          (completes_skip c.args.file.now c.in-Some.ahead l.line l.rest.now left.line left.bytes.now
          skips clear l.noticed (map tag_text l.notices.items) l.licensed
          (map tag_text l.licences.items) l.invariant.completes);
      room = omega arith;
      clear = clear_on (codes "SPDX-") c.in-Some.ahead l.rest.now
          (skips.lines ++ (f.result.text.now ++ between run.end)) f.result.rest.now cut clear
          c.saturating_sub-clear.result next;
      within = λ some_left. omega arith;
    }

pub returns : goal.returns
returns c =
    let l = c.loop-ahead in
    completes_bare c.args.file.now l.line l.rest.now l.noticed (map tag_text l.notices.items)
    l.licensed (map tag_text l.licences.items) c.in_default.ensures.none l.invariant.completes
