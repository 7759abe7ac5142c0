-- Refusals that the command alone decides, whatever was recorded before it.
use Rattle.std.specs.Prelude.{ℕ, Bool, false, List, [], ◌∷◌, nat_eq}
use Rattle.std.specs.List.{list_any}
use Rattle.desk_model.specs.Numbers.{refusal_number}
use Rattle.desk_model.specs.declared.command.Answer.{Answer}
use Rattle.desk_model.specs.declared.command.Answer.TheVariants as answered

-- BadCatalogue, BadDocument, BadExpression, BadTerm, BadName, BadText, BadDay and BadEnd
abbrev pub own_numbers : List ℕ
own_numbers = 1 ∷ 2 ∷ 6 ∷ 8 ∷ 9 ∷ 25 ∷ 26 ∷ 30 ∷ []

-- the answer is one of these refusals
abbrev pub is_refused_for_itself : Answer → Bool
is_refused_for_itself (answered.Refused refusal) = list_any (nat_eq (refusal_number refusal))
    own_numbers
is_refused_for_itself _ = false
