-- The lines that `alternatives` writes, and the status that it returns.
use Rattle.std.specs.Prelude.{◌≡◌, ℕ, List, [], ◌∷◌, ◌++◌, codes}
use Rattle.desk_expr.specs.declared.term.Term.{Term}
use Rattle.desk_expr.specs.Tree.{Tree}
use Rattle.desk_base.specs.declared.profile.Profile.{Profile}
use Rattle.desk_expr.specs.Spelling.{SpellsWithinBy}
use Rattle.desk_expr.specs.Printing.{printed_term}
use Rattle.desk_alts.specs.Sets.{AreAlternatives, HasMoreTerms, HasWideFront}
use Rattle.desk_alts.specs.Faults.{IsListable}
use Rattle.desk_subcommands.specs.declared.report.Report.TheVariants.{Fault}
use Rattle.desk_subcommands.specs.declared.listing.Listing.{Listing}
use Rattle.desk_subcommands.specs.declared.listing.Listing.TheVariants.{Sets, TooManyTerms, TooMany, Unread}
use Rattle.desk_subcommands.specs.Report.{StopsWith, text_of}

-- ---- the answer

-- what is listed for a tree: its minimal sets, or the limit that it exceeds
abbrev pub IsListingOf : Tree → Listing → Type 0
IsListingOf tree (Sets sets) = IsListable tree × AreAlternatives tree sets.items
IsListingOf tree TooManyTerms = HasMoreTerms 128 tree
IsListingOf tree TooMany = (HasMoreTerms 128 tree → ⊥) × HasWideFront tree
IsListingOf tree (Unread fault) = ⊥

-- the answer to an expression, read by a profile of operators: a fault of its text first
abbrev pub IsListing : Profile → List ℕ → Listing → Type 0
IsListing profile expression (Unread fault) = StopsWith profile expression fault
IsListing profile expression listing = (tree : Tree) × SpellsWithinBy profile expression tree
    × IsListingOf tree listing

-- ---- its text

-- the terms, joined by a comma and a blank
abbrev pub set_text : List Term → List ℕ
set_text [] = []
set_text (t ∷ []) = printed_term t
set_text (t ∷ u ∷ us) = printed_term t ++ (codes ", " ++ set_text (u ∷ us))

-- a line for each set
abbrev pub sets_text : List (List Term) → List ℕ
sets_text [] = []
sets_text (s ∷ more) = (set_text s ++ 10 ∷ []) ++ sets_text more

-- the answer's lines
abbrev pub listing_text : Listing → List ℕ
listing_text (Sets sets) = sets_text sets.items
listing_text TooManyTerms = codes "fault: TooManyTerms\n"
listing_text TooMany = codes "fault: TooMany\n"
listing_text (Unread fault) = text_of (Fault fault) ++ 10 ∷ []

-- the program's status: done, or refused
abbrev pub listing_status : Listing → ℕ
listing_status (Sets sets) = 0
listing_status _ = 1

-- the lines and the status for the minimal sets of the expression
abbrev pub Lists : Profile → List ℕ → List ℕ → ℕ → Type 0
Lists profile expression text status = (listing : Listing) × IsListing profile expression listing
    × (text ≡ listing_text listing) × (status ≡ listing_status listing)

-- there is only one such text and one such status
abbrev pub ListsOnce : Profile → List ℕ → Type 0
ListsOnce profile expression =
    (text other : List ℕ) (status another : ℕ) → Lists profile expression text status
    → Lists profile expression other another → (text ≡ other) × (status ≡ another)
