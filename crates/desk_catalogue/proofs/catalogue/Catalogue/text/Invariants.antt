use Rattle.std.proofs.Common.{◌≡◌, drop}
use Rattle.std.specs.Prelude.{find}
use Rattle.desk_catalogue.specs.Kept.{is_text_of}
use Rattle.desk_catalogue.proofs.catalogue.Catalogue.text.Given as goal

-- what is found in the rest is what is found in all
abbrev pub invariant-loop-text : goal.invariant-loop-text
invariant-loop-text l = find (is_text_of l.id) (drop l.text-index l.text-items)
    ≡ find (is_text_of l.id) l.self.texts
