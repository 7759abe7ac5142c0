use Rattle.std.proofs.Common.{◌∙◌, ap, sym, Some}
use Rattle.clap.specs.Matches.{found_of}
use Rattle.clap.proofs.WalkLemmas.{raw_values-rows}
use Rattle.desk_line.proofs.values.wanted_texts.Goals as goal

pub returns-in_ok-copy_texts-in-Some : goal.returns-in_ok-copy_texts-in-Some
returns-in_ok-copy_texts-in-Some c =
    sym (ap Some c.in_ok-copy_texts-in-Some.ensures
    ∙ (c.in-Some.ensures ∙ raw_values-rows (found_of c.args.matches.now) c.args.id.now))

pub returns-in-None : goal.returns-in-None
returns-in-None c = sym (c.in-None.ensures
    ∙ raw_values-rows (found_of c.args.matches.now) c.args.id.now)
