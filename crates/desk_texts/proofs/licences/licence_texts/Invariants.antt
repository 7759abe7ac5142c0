use Rattle.std.proofs.Common.{ℕ, List, Option, map, take}
use Rattle.desk_catalogue.specs.Reading.{catalogue_of}
use Rattle.desk_catalogue.specs.Terms.{ReadsTerms}
use Rattle.desk_texts.specs.Catalogues.{AreTaken, licence_text_in}
use Rattle.desk_texts.proofs.licences.licence_texts.Given as goal

-- the texts of the ids so far were taken
abbrev pub invariant-loop-id : goal.invariant-loop-id
invariant-loop-id l = (terms : List ℕ → Option (List ℕ)) → ReadsTerms terms
    → AreTaken (licence_text_in (catalogue_of terms l.text))
    (map (λ id. id.now) (take l.id-index l.ids)) l.taken
