-- How the code's values show those of the definitions.
use Rattle.std.specs.Prelude.{◌≡◌, ⊤, ℕ, List, map, Result, Ok, Err}
use Rattle.std.specs.Ordering.{nat_cmp}
use Rattle.std.specs.Cmp.Lexicographic.{slice_cmp}
use Rattle.std.specs.List.{list_any}
use Rattle.std.specs.BTreeMap.{BTreeMap}
use Rattle.std.specs.BTreeSet.{BTreeSet, contains_by}
use denote.Ref.{Bor}
use Rattle.desk_base.specs.Folded.{folded}
use Rattle.desk_model.specs.declared.reading.Rule.{Rule}
use Rattle.desk_model.specs.declared.refusal.CatalogueFault.{CatalogueFault}
use Rattle.desk_catalogue.specs.declared.rules.Written.{Written}
use Rattle.desk_catalogue.specs.declared.fault.CatFault.{CatFault}
use Rattle.desk_catalogue.specs.declared.fault.CatFault.TheVariants.{Refused, Memory}
use Rattle.desk_catalogue.specs.declared.catalogue.LicenceText.{LicenceText}
use Rattle.desk_catalogue.specs.declared.order.Subject.{Subject}
use Rattle.desk_catalogue.specs.declared.order.Said.{Said}
use Rattle.desk_catalogue.specs.Kept.{is_text_of}
use Rattle.desk_catalogue.specs.Reading.{Read, RuleTexts}
use Rattle.desk_base.specs.Borrowed.{texts, texts_in}

-- a result is what is read, as it is shown
abbrev pub Gives : {A B : Type 0} → Read B → (A → B) → Result A CatalogueFault → Type 0
Gives read show (Ok x) = read ≡ Ok (show x)
Gives read show (Err fault) = read ≡ Err fault

-- the values that a rule table borrows
abbrev pub rule_texts_in : Written → RuleTexts
rule_texts_in rule = record {
  term = rule.term.now;
  form = rule.form.now;
  duties = texts_in rule.duties;
}

-- the texts of a set
abbrev pub codes_in : BTreeSet (Bor (List ℕ)) → List (List ℕ)
codes_in set = texts set.keys

-- the rules in a map from what they are for
abbrev pub rule_of_entry : Subject × Said → Rule
rule_of_entry e = record {
  term = e.0.term;
  form = e.0.form;
  spelled = e.1.spelled;
  codes = e.1.codes;
}

-- all rules of a map, sorted by what they are for
abbrev pub rules_in : BTreeMap Subject Said → List Rule
rules_in rules = map rule_of_entry rules.entries

-- the set has the ids of these texts, in lower case
abbrev pub HasIds : List LicenceText → BTreeSet (List ℕ) → Type 0
HasIds texts seen = (id : List ℕ)
    → contains_by (slice_cmp nat_cmp (folded id)) seen ≡ list_any (is_text_of id) texts

-- a text is read like this, or there was no memory
abbrev pub IsRead : {A : Type 0} → Read A → Result A CatFault → Type 0
IsRead read (Ok x) = read ≡ Ok x
IsRead read (Err (Refused fault)) = read ≡ Err fault
IsRead read (Err (Memory error)) = ⊤
