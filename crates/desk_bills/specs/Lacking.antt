-- What a release lacks, over looked-up rows.
use Rattle.std.specs.Prelude.{◌≡◌, ℕ, ◌==◌, Bool, false, not, List, [], ◌∷◌, find}
use Rattle.std.specs.Prelude.{Option, None, Some}
use Rattle.std.specs.List.{list_any}
use Rattle.std.specs.BTreeMap.{BTreeMap, get}
use Rattle.std.specs.Cmp.Lexicographic.{slice_cmp}
use Rattle.std.specs.Option.{option_cmp, option_map, option_map_or}
use Rattle.std.specs.Ordering.{nat_cmp, on, then_cmp}
use Rattle.std.specs.declared.cmp.Ordering.{Ordering}
use Rattle.desk_model.specs.Gaps.{is_namesake, possible_terms, terms_named}
use Rattle.desk_model.specs.Readings.{Readings}
use Rattle.desk_model.specs.Tables.{Tables}
use Rattle.desk_model.specs.declared.bill.TextOf.{TextOf}
use Rattle.desk_model.specs.declared.gap.Gap.{Gap}
use Rattle.desk_model.specs.declared.row.PackageRow.{PackageRow}
use Rattle.desk_history.specs.FromTables.{choice_found, conclusion_found}
use Rattle.desk_bills.specs.declared.namesakes.Namesake.{Namesake}
use Rattle.desk_bills.specs.declared.needed.Needed.{Needed}

-- a document has one of the packages
abbrev pub has_document : List PackageRow → ℕ → Bool
has_document ps d = list_any (λ p. p.document == d) ps

-- the first package with the name and version of this one is in another document
abbrev pub are_elsewhere : List PackageRow → PackageRow → Bool
are_elsewhere ps p =
    option_map_or (λ other. not (other.document == p.document)) (find (is_namesake p) ps) false

-- the name and the version of a package
abbrev pub namesake_of : PackageRow → Namesake
namesake_of p = record { name = p.name; version = p.version }

-- the order of names, then of versions
abbrev pub namesake_cmp : Namesake → Namesake → Ordering
namesake_cmp = then_cmp (on (λ n. n.name) (slice_cmp nat_cmp))
    (on (λ n. n.version) (option_cmp (slice_cmp nat_cmp)))

-- the document of the first package with the name and version of this one, or its own
abbrev pub first_document : List PackageRow → PackageRow → ℕ
first_document ps p = option_map_or (λ other. other.document) (find (is_namesake p) ps) p.document

-- a map has the document of the first package of each name and version, and of no others
abbrev pub Knows : List PackageRow → BTreeMap Namesake ℕ → Type 0
Knows ps firsts = (p : PackageRow) → get namesake_cmp firsts (namesake_of p)
    ≡ option_map (λ other. other.document) (find (is_namesake p) ps)

-- the terms that a package of a release may ship under
abbrev pub terms_found : Readings → Tables → List ℕ → PackageRow → List (List ℕ)
terms_found w t r p = possible_terms w (conclusion_found w t p) (choice_found t r p)

-- the terms of a document whose texts are needed for a package
abbrev pub needed_of : Readings → Tables → List ℕ → PackageRow → Needed
needed_of w t r p = record { document = p.document; terms = terms_found w t r p }

-- the texts that they name
abbrev pub named_by : Readings → Needed → List TextOf
named_by w needed = terms_named w needed.document needed.terms

-- the gap that was found, if there is one
abbrev pub one_found : Option Gap → List Gap
one_found None = []
one_found (Some gap) = gap ∷ []
