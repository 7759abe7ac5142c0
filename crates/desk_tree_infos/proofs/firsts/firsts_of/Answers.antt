use Rattle.std.proofs.Common.{◌∙◌, ap}
use Rattle.desk_tree_infos.specs.declared.infos.Covered.{Covered}
use Rattle.desk_tree_infos.specs.Sharing.{sources_in}
use Rattle.desk_tree_infos.proofs.FirstsLemmas.{seen_more, firsts_more}
use Rattle.desk_tree_infos.proofs.firsts.firsts_of.Goals as goal

pub loop-file-preserved : goal.loop-file-preserved
loop-file-preserved c =
    let all = c.args.all.now in
    let of = c.args.of in
    let files = c.args.files.now in
    let i = c.loop-file.file-index in
    let are = c.sources.ensures ∙ ap (sources_in of) c.file-item.is in
    record {
      knows = c.in_ok-texts.ensures.knows;
      seen = seen_more all of files i _ c.loop-file-test.true c.loop-file.seen.texts
          c.unseen_texts.new.seen.texts c.sources.result.now are c.loop-file.invariant.seen
          c.in_ok-texts.ensures.seen;
      so_far =
          firsts_more all of files i _ c.loop-file-test.true c.loop-file.firsts.items
          c.push.new.self.items _ c.loop-file.seen.texts c.sources.result.now
          c.in_ok-push.ensures.items
          (c.as_str-path.ensures ∙ ap (λ (f : Covered). f.path) c.file-item.is) are
          c.loop-file.invariant.seen c.in_ok-texts.ensures.unseen
          ∙ c.loop-file.invariant.so_far;
    }
