-- What is reported about the sets of terms under which a package's conclusion in force is true.
use Rattle.std.specs.Prelude.{ℕ, ◌≤◌, Bool, nat_lt, List, [], ◌∷◌, length, Option, None, is_some}
use Rattle.std.specs.Prelude.{unwrap_or, IfSome, Result, if◌then◌else◌}
use Rattle.std.specs.Option.{option_map, option_and_then}
use Rattle.std.specs.Result.{result_ok, result_err}
use Rattle.desk_base.specs.Limits as most
use Rattle.desk_model.specs.Readings.{Readings}
use Rattle.desk_model.specs.Raised.{rule_adopted}
use Rattle.desk_model.specs.Answers.{refused_first, unless, unconcluded}
use Rattle.desk_model.specs.declared.reading.Cheapest.{Cheapest}
use Rattle.desk_model.specs.declared.reading.Conclusion.{Conclusion}
use Rattle.desk_model.specs.declared.reading.ListFault.{ListFault}
use Rattle.desk_model.specs.declared.reading.ListFault.TheVariants as fault
use Rattle.desk_model.specs.declared.reading.Rule.{Rule}
use Rattle.desk_model.specs.declared.refusal.Refusal.{Refusal}
use Rattle.desk_model.specs.declared.refusal.Refusal.TheVariants as why
use Rattle.desk_model.specs.declared.row.AdoptionRow.{AdoptionRow}
use Rattle.desk_model.specs.declared.row.PackageRow.{PackageRow}
use Rattle.desk_model.specs.declared.command.Answer.{Answer}
use Rattle.desk_model.specs.declared.command.Answer.TheVariants as answered

-- the refusal by which a query says why a listing was given up
abbrev pub list_refusal : ListFault → Refusal
list_refusal fault.TooManyTerms = why.TooManyTerms
list_refusal fault.TooMany = why.TooMany

-- a listing that was refused
abbrev pub unlisted : {A : Type 0} → Result A ListFault → Option Refusal
unlisted listing = option_map list_refusal (result_err listing)

-- what Alternatives and Cheapest look up: the document, the package, its conclusion
pub record Listing : Type 0 where
  pub has_document : Bool
  pub row : Option PackageRow
  pub conclusion : Option Conclusion

-- the sets of a conclusion
abbrev pub alternatives_of : Readings → Option Conclusion
    → Option (Result (List (List (List ℕ))) ListFault)
alternatives_of w conclusion = option_map (λ c. w.alternatives c.profile c.text) conclusion

-- Alternatives: the minimal sets, in the order of sets
abbrev pub alternatives_answer : Readings → Listing → Answer
alternatives_answer w found =
    let sets = alternatives_of w found.conclusion in
    refused_first (
    unless found.has_document why.UnknownDocument
    ∷ unless (is_some found.row) why.UnknownPackage
    ∷ option_and_then (unconcluded found.conclusion) found.row
    ∷ option_and_then unlisted sets
    ∷ []) (answered.Alternatives (unwrap_or (option_and_then result_ok sets) []))

-- what a term of a document costs: how many duties the rule for its adopted form owes, at most
-- 1,000,000; a term without a rule has no cost
abbrev pub at_most : ℕ → ℕ → ℕ
at_most limit n = if nat_lt limit n then limit else n

-- the cost of a rule: the number of its codes, at most 1,000,000
abbrev pub rule_cost : Rule → ℕ
rule_cost rule = at_most most.term_cost (length rule.codes)

-- the cost of a term of a document for a form, under the rule for its adopted form
abbrev pub term_cost : Readings → List AdoptionRow → List Rule → List ℕ → ℕ → List ℕ → Option ℕ
term_cost w licences rules form d term = option_map rule_cost
    (rule_adopted w licences rules form d term)

-- a cost of printed terms, at most 1,000,000 each
abbrev pub IsCost : (List ℕ → Option ℕ) → Type 0
IsCost cost = (term : List ℕ) → IfSome (cost term) (λ n. n ≤ most.term_cost)

-- the cheapest set of a package's conclusion, by what the terms of its document cost
abbrev pub cheapest_of : Readings → (ℕ → List ℕ → Option ℕ) → Listing
    → Option (Result (Option Cheapest) ListFault)
cheapest_of w cost found =
    option_and_then (λ p. option_map (λ c. w.cheapest c.profile c.text (cost p.document))
    found.conclusion) found.row

-- Cheapest, for a form that the catalogue in force has or lacks
abbrev pub cheapest_answer : Readings → Bool → (ℕ → List ℕ → Option ℕ) → Listing → Answer
cheapest_answer w has_form cost found =
    let set = cheapest_of w cost found in
    refused_first (
    unless found.has_document why.UnknownDocument
    ∷ unless (is_some found.row) why.UnknownPackage
    ∷ unless has_form why.UnknownForm
    ∷ option_and_then (unconcluded found.conclusion) found.row
    ∷ option_and_then unlisted set
    ∷ []) (answered.Cheapest (unwrap_or (option_and_then result_ok set) None))
