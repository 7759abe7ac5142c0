use Rattle.std.proofs.Common.{◌++◌, refl}
use Rattle.std.specs.List.{flat_map}
use Rattle.std.specs.String.{string_bytes}
use Rattle.desk_base.proofs.Lists.{joined_more}
use Rattle.desk_lists.proofs.Lists.{whole}
use Rattle.desk_answers.specs.Sets.{behind}
use Rattle.desk_answers.proofs.sets.add_others.Goals as goal

pub loop-term-preserved : goal.loop-term-preserved
loop-term-preserved c =
    joined_more behind c.args.terms.now c.loop-term.term-index c.term-item.result
    (string_bytes c.args.text.now) (string_bytes c.loop-term.text)
    (string_bytes c.add_behind.new.text) (behind c.term-item.result) c.loop-term-test.true
    c.term-item.is c.loop-term.invariant refl c.in_ok-add_behind.ensures

pub returns : goal.returns
returns c =
    whole (λ terms. string_bytes c.args.text.now ++ flat_map behind terms) c.args.terms.now
    c.loop-term.term-index (string_bytes c.loop-term.text)
    c.loop-term-test.false c.loop-term.invariant
