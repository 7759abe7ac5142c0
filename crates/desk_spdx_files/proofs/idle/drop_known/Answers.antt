use Rattle.std.proofs.Common.{◌∙◌, List, ap, rules, ℕ}
use Rattle.std.specs.Prelude.{not}
use Rattle.std.proofs.lemmas.Fn.{filter_same}
use Rattle.desk_base.specs.Borrowed.{texts}
use Rattle.desk_base.specs.TextSets.{has_text}
use Rattle.desk_spdx_files.proofs.Added.{filter_mapped}
use Rattle.desk_spdx_files.proofs.idle.drop_known.Goals as goal
use denote.Ref.{Bor}

pub returns : goal.returns
returns c =
    ap texts (filter_same _ (λ (id : Bor (List ℕ)). not (has_text c.args.set.now id.now)) _
    (λ x b f' k. search rules) _ _ c.retain.ensures.filtered)
    ∙ filter_mapped (λ (id : Bor (List ℕ)). id.now) (λ id. not (has_text c.args.set.now id))
    c.args.found.now.items
