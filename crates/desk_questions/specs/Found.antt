-- The answer about a package that was looked up.
use Rattle.std.specs.Prelude.{◌≡◌, ℕ, Bool, List, Option, Result, Ok, Err, not, if◌then◌else◌}
use Rattle.std.specs.List.{list_any}
use Rattle.std.specs.Option.{option_map_or}
use Rattle.std.specs.Str.{bytes_eq}
use Rattle.desk_model.specs.Readings.{Readings}
use Rattle.desk_model.specs.Tables.{Tables}
use Rattle.desk_model.specs.Listings.{list_refusal, term_cost}
use Rattle.desk_model.specs.declared.reading.Cheapest.{Cheapest}
use Rattle.desk_model.specs.declared.reading.Conclusion.{Conclusion}
use Rattle.desk_model.specs.declared.reading.ListFault.{ListFault}
use Rattle.desk_model.specs.declared.refusal.Refusal.{Refusal}
use Rattle.desk_model.specs.declared.refusal.Refusal.TheVariants as why
use Rattle.desk_model.specs.declared.row.PackageRow.{PackageRow}
use Rattle.desk_model.specs.declared.command.Answer.{Answer}
use Rattle.desk_model.specs.declared.command.Answer.TheVariants as answered
use Rattle.desk_history.specs.FromTables.{conclusion_found, package_found, rules_found, stands_document}

-- the sets, or the refusal that says why they aren't listed
abbrev pub listed : Result (List (List (List ℕ))) ListFault → Answer
listed (Ok sets) = answered.Alternatives sets
listed (Err fault) = answered.Refused (list_refusal fault)

-- the cheapest set, if there is one, or the refusal that says why it wasn't sought
abbrev pub priced : Result (Option Cheapest) ListFault → Answer
priced (Ok found) = answered.Cheapest found
priced (Err fault) = answered.Refused (list_refusal fault)

-- the answer about the conclusion of a package, if it has one
abbrev pub told_of : (Conclusion → Answer) → Option Conclusion → PackageRow → Answer
told_of tell conclusion p = option_map_or tell conclusion
    (answered.Refused (why.NoConclusion p.document p.id))

-- the answer about a package of a document
abbrev pub of_package : (PackageRow → Answer) → Bool → Option PackageRow → Answer
of_package tell known found =
    if not known then answered.Refused why.UnknownDocument
    else option_map_or tell found (answered.Refused why.UnknownPackage)

-- the answer about the package, or why there is none
abbrev pub told_found : (PackageRow → Answer) → Result PackageRow Refusal → Answer
told_found tell (Ok p) = tell p
told_found tell (Err refusal) = answered.Refused refusal

-- the package of a document of the tables, or why there is none: any answer about a package is the
-- same for both
abbrev pub IsFound : Tables → ℕ → List ℕ → Result PackageRow Refusal → Type 0
IsFound t d p found = (tell : PackageRow → Answer)
    → told_found tell found ≡ of_package tell (stands_document t d) (package_found t d p)

-- the sets of its conclusion
abbrev pub listed_found : Readings → Tables → PackageRow → Answer
listed_found w t p = told_of (λ c. listed (w.alternatives c.profile c.text))
    (conclusion_found w t p) p

-- the cheapest of them, by what its terms cost in a form
abbrev pub priced_by : Readings → Tables → List ℕ → PackageRow → Answer
priced_by w t form p =
    told_of (λ c. priced (w.cheapest c.profile c.text
    (term_cost w t.adoption (rules_found t) form p.document))) (conclusion_found w t p) p

-- the same in a form that the catalogue in force has, or why not
abbrev pub priced_found : Readings → Tables → List ℕ → PackageRow → Answer
priced_found w t form p = if not (list_any (bytes_eq form) t.forms)
    then answered.Refused why.UnknownForm else priced_by w t form p
