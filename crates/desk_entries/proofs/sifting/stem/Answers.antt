use Rattle.std.proofs.Common.{ap, sym, lit<, length, take, option_map, ◌∙◌, Some, None}
use Rattle.std.specs.Prelude.{unwrap_or}
use Rattle.std.proofs.lemmas.Str.Pattern.{rfind_char}
use Rattle.desk_tree_lint.proofs.StemLemmas.{last_below, none_below}
use Rattle.desk_entries.proofs.sifting.stem.Goals as goal

pub returns-in-Some : goal.returns-in-Some
returns-in-Some c =
    let name = c.args.name.now in
    let found = rfind_char 46 name (Some c.in-Some.end) c.in-Some.ensures.cases (lit< tt) in
    c.split_at.ensures.front ∙ sym (ap (λ s. unwrap_or (option_map (λ end. take end name) s) name)
    (last_below 46 name (length name) c.in-Some.end found.0 found.1 found.2))

pub returns-in-None : goal.returns-in-None
returns-in-None c =
    let name = c.args.name.now in
    let none = rfind_char 46 name None c.in-None.ensures.cases (lit< tt) in
    sym (ap (λ s. unwrap_or (option_map (λ end. take end name) s) name)
    (none_below 46 name (length name) none))
