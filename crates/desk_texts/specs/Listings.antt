-- The sets of terms, as printed, under which the expression of a text is true (SPDX 2.3, Annex
-- D.4).
use Rattle.std.specs.Prelude.{◌≡◌, ◌⊎◌, ℕ, List, [], ◌∷◌, map, Option, Some, None, Result, Ok, Err, if◌then◌else◌}
use Rattle.std.specs.Option.{option_map}
use Rattle.std.specs.Ordering.{is_eq}
use Rattle.desk_base.specs.declared.profile.Profile.{Profile}
use Rattle.desk_base.specs.Limits as most
use Rattle.desk_expr.specs.declared.term.Term.{Term}
use Rattle.desk_expr.specs.Tree.{Tree}
use Rattle.desk_expr.specs.Occurring.{term_order, AreTermsOf}
use Rattle.desk_expr.specs.Printing.{printed_term}
use Rattle.desk_alts.specs.Sets.{AreAlternatives, HasMoreTerms, HasWideFront}
use Rattle.desk_alts.specs.Faults.{IsListable}
use Rattle.desk_alts.specs.Costs.{IsCheapest, HasNoCosts}
use Rattle.desk_model.specs.Listings.{at_most}
use Rattle.desk_model.specs.declared.reading.Cheapest.{Cheapest}
use Rattle.desk_model.specs.declared.reading.ListFault.{ListFault}
use Rattle.desk_model.specs.declared.reading.ListFault.TheVariants.{TooManyTerms, TooMany}
use Rattle.desk_texts.specs.Expressions.{IsExpression, IsNoExpression}

-- why an expression isn't listed
abbrev pub IsListFault : Tree → ListFault → Type 0
IsListFault e TooManyTerms = HasMoreTerms 128 e
IsListFault e TooMany = (HasMoreTerms 128 e → ⊥) × HasWideFront e

-- the minimal sets of an expression, as printed, or why they aren't listed
abbrev pub IsListing : Tree → Result (List (List (List ℕ))) ListFault → Type 0
IsListing e (Ok sets) = IsListable e × (found : List (List Term)) × AreAlternatives e found
    × (sets ≡ map (map printed_term) found)
IsListing e (Err fault) = IsListFault e fault

-- the same for the expression of a value; a value that is no expression has none
abbrev pub Lists : Profile → List ℕ → Result (List (List (List ℕ))) ListFault → Type 0
Lists profile text listing = ((e : Tree) × IsExpression profile text e × IsListing e listing)
    ⊎ (IsNoExpression profile text × (listing ≡ Ok []))

-- the distinct terms of an expression, as printed, in order
abbrev pub AreTermTexts : Tree → List (List ℕ) → Type 0
AreTermTexts e terms = (ts : List Term) × AreTermsOf e ts × (terms ≡ map printed_term ts)

-- the same for the expression of a value; a value that is no expression has none
abbrev pub HasTerms : Profile → List ℕ → List (List ℕ) → Type 0
HasTerms profile text terms =
    ((e : Tree) × (ts : List Term) × IsExpression profile text e × AreTermsOf e ts
    × (terms ≡ map printed_term ts))
    ⊎ (IsNoExpression profile text × (terms ≡ []))

-- the cost of a term, by the costs of printed terms
abbrev pub cost_of : (List ℕ → Option ℕ) → Term → Option ℕ
cost_of cost t = cost (printed_term t)

-- the cheapest of all sets under which an expression is true, as printed, if there is one, or why
-- its sets aren't listed
abbrev pub IsPriced : (List ℕ → Option ℕ) → Tree → Result (Option Cheapest) ListFault → Type 0
IsPriced cost e (Ok (Some c)) = IsListable e × (set : List Term)
    × IsCheapest (cost_of cost) e c.cost set × (c.terms ≡ map printed_term set)
IsPriced cost e (Ok None) = IsListable e × HasNoCosts (cost_of cost) e
IsPriced cost e (Err fault) = IsListFault e fault

-- the same for the expression of a value; a value that is no expression has none
abbrev pub Prices : Profile → List ℕ → (List ℕ → Option ℕ) → Result (Option Cheapest) ListFault
    → Type 0
Prices profile text cost priced = ((e : Tree) × IsExpression profile text e
    × IsPriced cost e priced) ⊎ (IsNoExpression profile text × (priced ≡ Ok None))

-- the cost at a term's place, or none after the last cost
abbrev pub cost_at : List Term → List (Option ℕ) → Term → Option ℕ
cost_at [] costs t = None
cost_at (x ∷ xs) [] t = None
cost_at (x ∷ xs) (cost ∷ costs) t = if is_eq (term_order x t) then cost else cost_at xs costs t

-- the same, at most 1,000,000
abbrev pub cost_within : List Term → List (Option ℕ) → Term → Option ℕ
cost_within ts costs t = option_map (at_most most.term_cost) (cost_at ts costs t)
