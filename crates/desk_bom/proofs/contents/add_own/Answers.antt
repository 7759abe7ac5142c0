use Rattle.std.proofs.Common.{◌∙◌, ◌+◌, ◌++◌, ap, sym, arith, drop}
use Rattle.std.specs.Prelude.{map}
use Rattle.desk_tagvalue.specs.Entries.{entry_text}
use Rattle.desk_bom.specs.Contents.{own_files}
use Rattle.desk_bom.proofs.ContentsLemmas.{package_passed, file_passed, other_passed}
use Rattle.desk_bom.proofs.contents.add_own.Goals as goal
use Rattle.desk_bom.proofs.contents.add_own.Goals.{then-is, else-is+then-is-2+in_ok-onto_package, else-is+else-is-2}

pub loop-entry-preserved : goal.loop-entry-preserved
loop-entry-preserved c =
    let xs = c.args.entries.now in
    let i = c.loop-entry.entry-index in
    let p = c.loop-entry.packages in
    let f = c.loop-entry.files in
    let rest = map entry_text (drop (i + 1) xs) in
    elim c.if-is.branch [
      | then-is w ↦
          record {
            packages = omega arith;
            files = omega arith;
            rest = ap (λ v. v.items ++ own_files c.if-is.packages c.if-is.files rest) w.found-is
                ∙ ap (λ n. c.loop-entry.found.items ++ own_files n c.if-is.files rest) w.packages-is
                ∙ ap (λ n. c.loop-entry.found.items ++ own_files (p + 1) n rest) w.files-is
                ∙ ap (λ l. c.loop-entry.found.items ++ l)
                (package_passed xs i _ c.loop-entry-test.true p f (sym c.is.ensures ∙ w.if-is.true))
                ∙ c.loop-entry.invariant.rest;
          }
      | else-is+then-is-2+in_ok-onto_package w ↦
          record {
            packages = omega arith;
            files = omega arith;
            rest = ap (λ v. v.items ++ own_files c.if-is.packages c.if-is.files rest) w.found-is
                ∙ ap (λ n. w.onto_package.new.found.items ++ own_files n c.if-is.files rest)
                w.packages-is
                ∙ ap (λ n. w.onto_package.new.found.items ++ own_files p n rest) w.files-is
                ∙ w.in_ok-onto_package.ensures (own_files p (f + 1) rest)
                ∙ ap (λ l. c.loop-entry.found.items ++ l)
                (file_passed xs i _ c.loop-entry-test.true p f (sym c.is.ensures ∙ w.if-is.false)
                (sym w.is-else-is.ensures ∙ w.if-is-2.true)) ∙ c.loop-entry.invariant.rest;
          }
      | else-is+else-is-2 w ↦
          record {
            packages = omega arith;
            files = omega arith;
            rest = ap (λ v. v.items ++ own_files c.if-is.packages c.if-is.files rest) w.found-is
                ∙ ap (λ n. c.loop-entry.found.items ++ own_files n c.if-is.files rest) w.packages-is
                ∙ ap (λ n. c.loop-entry.found.items ++ own_files p n rest) w.files-is
                ∙ ap (λ l. c.loop-entry.found.items ++ l)
                (other_passed xs i _ c.loop-entry-test.true p f (sym c.is.ensures ∙ w.if-is.false)
                (sym w.is-else-is.ensures ∙ w.if-is-2.false)) ∙ c.loop-entry.invariant.rest;
          }
    ]
