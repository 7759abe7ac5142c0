use Rattle.std.proofs.Common.{◌≡◌, ◌∙◌, ◌++◌, ◌∷◌, [], length, ap, append_assoc, arith}
use Rattle.desk_tree_infos.specs.Sharing.{annotations_at}
use Rattle.desk_tree_infos.proofs.SharingLemmas.{grown}
use Rattle.desk_tree_infos.proofs.folders.add.Goals as goal

pub loop-annotation-preserved : goal.loop-annotation-preserved
loop-annotation-preserved c =
    let all = c.loop-annotation.all.items in
    let number : c.len.result ≡ length all =
    omega (arith, c.len.ensures, c.loop-annotation.all.ok.0) in
    record {
      all =
          c.in_ok-push-2.ensures.items
          ∙ ap (λ l. l ++ c.in-Some.annotation ∷ []) c.loop-annotation.invariant.all
          ∙ append_assoc c.args.all.now.items c.loop-annotation.yielded (c.in-Some.annotation ∷ []);
      numbers = λ more.
          ap (λ l. annotations_at (l ++ more) c.push.new.self.items) c.in_ok-push-2.ensures.items
          ∙ ap (annotations_at ((all ++ c.in-Some.annotation ∷ []) ++ more))
          (c.in_ok-push.ensures.items ∙ ap (λ n. c.loop-annotation.numbers.items ++ n ∷ []) number)
          ∙ grown all c.loop-annotation.numbers.items c.in-Some.annotation c.loop-annotation.yielded
          more c.loop-annotation.invariant.numbers;
    }
