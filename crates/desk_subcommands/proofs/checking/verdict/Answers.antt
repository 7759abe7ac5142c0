use Rattle.std.proofs.Common.{◌<◌, length, refl, arith}
use Rattle.desk_subcommands.proofs.ReportLemmas.{word_at, text_at}
use Rattle.desk_subcommands.proofs.checking.verdict.Goals as goal

pub prove-unreachable-requires : goal.prove-unreachable-requires
prove-unreachable-requires c =
    let at = (c.in-Superfluous.ensures.superfluous c.in-Superfluous.place refl).0 in
    let within : c.in-Superfluous.place < length c.args.words.now =
    word_at c.args.words.now c.args.terms.now c.in-Superfluous.place at.0 c.requires at.1 in
    omega arith

pub returns-in-Superfluous : goal.returns-in-Superfluous
returns-in-Superfluous c =
    let first = c.in-Superfluous.ensures.superfluous c.in-Superfluous.place refl in (
      c.in-Superfluous.place,
      text_at c.args.words.now c.in-Superfluous.place _
          (word_at c.args.words.now c.args.terms.now c.in-Superfluous.place first.0.0 c.requires
          first.0.1),
      first,
    )
