-- What a release's bill lists, described by the commands before its freeze alone.
use Rattle.std.specs.Prelude.{◌≡◌, ℕ, List, [], map, Ok, Option, unwrap_or}
use Rattle.std.specs.List.{filter_map, flat_map}
use Rattle.std.specs.Option.{option_map}
use Rattle.desk_model.specs.Readings.{Readings}
use Rattle.desk_model.specs.History.{choice, form_of, in_force, loaded, references, rules_in}
use Rattle.desk_model.specs.Conclusions.{adoptions}
use Rattle.desk_model.specs.Raised.{rule_adopted, shipped}
use Rattle.desk_model.specs.Bills.{bill_text, first_uses, texts_named}
use Rattle.desk_model.specs.declared.bill.Bill.{Bill}
use Rattle.desk_model.specs.declared.bill.BillLine.{BillLine}
use Rattle.desk_model.specs.declared.bill.TextOf.{TextOf}
use Rattle.desk_model.specs.declared.reading.Document.{Document}
use Rattle.desk_model.specs.declared.row.PackageRow.{PackageRow}
use Rattle.desk_model.specs.declared.command.Command.{Command}
use Rattle.desk_history.specs.Laws.{AreDistinct}
use Rattle.desk_history_laws.specs.Filters.{last_given}

-- a reading by which no document has two packages with the same id
abbrev pub ListsPackagesOnce : Readings → Type 0
ListsPackagesOnce w =
    (bytes : List ℕ) (document : Document) → w.document bytes ≡ Ok document
    → AreDistinct (map (λ p. p.id) document.packages)

-- the rule of the catalogue in force for a term of a package, as it is spelled
abbrev pub spelled_for : Readings → List Command → List ℕ → PackageRow → List ℕ → Option (List ℕ)
spelled_for w h r p term =
    let form = unwrap_or (form_of h r) [] in
    option_map (λ rule. rule.spelled)
    (rule_adopted w (adoptions w h) (rules_in (in_force w h)) form p.document term)

-- a package with the rules for the terms that are chosen for it, in the order of terms
abbrev pub line_for : Readings → List Command → List ℕ → PackageRow → BillLine
line_for w h r p = record {
  name = p.name;
  version = p.version;
  rules = filter_map (spelled_for w h r p) (choice w h r p.document p.id);
  copyright = p.copyright;
}

-- the texts named by the terms that are chosen for a package
abbrev pub texts_for : Readings → List Command → List ℕ → PackageRow → List TextOf
texts_for w h r p = flat_map (texts_named w p.document) (choice w h r p.document p.id)

-- the packages that a release ships and the texts of their terms, from the documents and the
-- catalogue that was loaded last
abbrev pub bill_for : Readings → List Command → List ℕ → Bill
bill_for w h r = record {
  release = r;
  form = unwrap_or (form_of h r) [];
  lines = map (line_for w h r) (shipped w h r);
  texts = map (bill_text w (last_given loaded h) (references w h))
      (first_uses (flat_map (texts_for w h r) (shipped w h r)));
}
