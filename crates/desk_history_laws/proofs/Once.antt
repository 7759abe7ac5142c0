-- A right reading lists no package of a document and no code of a rule twice.
use Rattle.std.proofs.Common.{◌≡◌, ◌∙◌, ℕ, Bool, true, false, List, [], ◌∷◌, map, sym, subst}
use Rattle.std.proofs.Common.{ap, refl}
use Rattle.std.proofs.lemmas.Simd.{map-map}
use Rattle.std.specs.Prelude.{Result, Ok, Err, Option, codes, if◌then◌else◌}
use Rattle.std.specs.Str.{bytes_eq}
use Rattle.toml.specs.Data.{get_member}
use Rattle.desk_fields.specs.declared.fault.DocFault.{DocFault}
use Rattle.desk_model.specs.Lists.{IsIn}
use Rattle.desk_model.specs.Readings.{Readings}
use Rattle.desk_model.specs.Texts.{text_below, put_new, sorted_set}
use Rattle.desk_model.specs.declared.reading.Catalogue.{Catalogue}
use Rattle.desk_model.specs.declared.reading.Document.{Document}
use Rattle.desk_model.specs.declared.reading.Package.{Package}
use Rattle.desk_model.specs.declared.reading.Rule.{Rule}
use Rattle.desk_history.specs.Laws.{AreDistinct, ListsOnce}
use Rattle.desk_catalogue.specs.declared.catalogue.Catalogue.{Catalogue as WholeCatalogue}
use Rattle.desk_catalogue.specs.Reading.{Read, catalogue_of}
use Rattle.desk_catalogue.proofs.OrderLaws.{same_read, rules_read}
use Rattle.desk_findings.proofs.EachDocument.{each_document}
use Rattle.desk_tagvalue.specs.Parts.{DocumentText, PackageText}
use Rattle.desk_texts.specs.Catalogues.{kept_catalogue}
use Rattle.desk_texts.specs.Documents.{put_by, sorted_by, marked, package_of, document_of, Keeps}
use Rattle.desk_texts.specs.Rising.{Each, Rises}
use Rattle.desk_texts.specs.Right.{AreRight}
use Rattle.desk_history_laws.proofs.ReadRules.{each_in, each_rule}
use Rattle.desk_history_laws.proofs.Ships.{something_kept}
use Rattle.desk_texts.proofs.Orders.{below_self}
use Rattle.desk_texts.proofs.Halving.{rises_put}

-- ---- sorted texts are different

not_true : true ≡ false → ⊥
not_true e = cc

rises_distinct : (xs : List (List ℕ)) → Rises xs → AreDistinct xs
rises_distinct [] up = tt
rises_distinct (x ∷ xs) up = (
  λ m. not_true (below_self x true (each_in (λ y. text_below x y ≡ true) x xs m up.0)),
  rises_distinct xs up.1,
)

pub rises_sorted : {A : Type 0} (id : A → List ℕ) (xs : List A) → Rises (map id (sorted_by id xs))
rises_sorted id [] = tt
rises_sorted id (x ∷ xs) = rises_put id x (sorted_by id xs) (rises_sorted id xs)

-- a set of texts is the texts, sorted

put-same : (x : List ℕ) (xs : List (List ℕ))
    → map (λ y. y) (put_by (λ y. y) x xs) ≡ put_new x (map (λ y. y) xs)
put-same x [] = refl
put-same x (y ∷ ys) =
    elim (text_below x y) as (λ b. map (λ z. z)
    (if b then x ∷ y ∷ ys else (if bytes_eq x y then y ∷ ys else y ∷ put_by (λ z. z) x ys))
    ≡ (if b then x ∷ y ∷ map (λ z. z) ys
    else (if bytes_eq x y then y ∷ map (λ z. z) ys else y ∷ put_new x (map (λ z. z) ys)))) [
      | true ↦ refl
      | false ↦ elim (bytes_eq x y) as
          (λ b. map (λ z. z) (if b then y ∷ ys else y ∷ put_by (λ z. z) x ys)
          ≡ (if b then y ∷ map (λ z. z) ys else y ∷ put_new x (map (λ z. z) ys))) [
            | true ↦ refl
            | false ↦ ap (λ l. y ∷ l) (put-same x ys)
          ]
    ]

pub sorted-same : (xs : List (List ℕ)) → map (λ y. y) (sorted_by (λ y. y) xs) ≡ sorted_set xs
sorted-same [] = refl
sorted-same (x ∷ xs) = put-same x (sorted_by (λ y. y) xs) ∙ ap (put_new x) (sorted-same xs)

set_distinct : (xs : List (List ℕ)) → AreDistinct (sorted_set xs)
set_distinct xs = subst AreDistinct (sorted-same xs)
    (rises_distinct (map (λ y. y) (sorted_by (λ y. y) xs)) (rises_sorted (λ y. y) xs))

-- ---- packages

abbrev pub id_in : PackageText × Bool → List ℕ
id_in m = m.0.id

abbrev pub id_of : Package → List ℕ
id_of p = p.id

ids_distinct : (ps : List (PackageText × Bool))
    → AreDistinct (map id_of (map package_of (sorted_by id_in ps)))
ids_distinct ps =
    subst AreDistinct (sym (map-map id_of package_of (sorted_by id_in ps)))
    (rises_distinct (map id_in (sorted_by id_in ps)) (rises_sorted id_in ps))

of_document : (read : Result DocumentText DocFault) (document : Document) → Keeps read (Ok document)
    → AreDistinct (map id_of document.packages)
of_document (Ok d) document (marks, are, e) =
    let same : document ≡ document_of marks d = cc in
    subst (λ x. AreDistinct (map id_of x.packages)) (sym same)
    (ids_distinct (marked d.packages marks))
of_document (Err f) document e = absurd (cc)

packages_once : (w : Readings) → AreRight w → (bytes : List ℕ) (document : Document)
    → w.document bytes ≡ Ok document → AreDistinct (map id_of document.packages)
packages_once w right bytes document e =
    let read = each_document bytes in
    let kept = something_kept read.0 in
    of_document read.0 document (subst (Keeps read.0)
    (sym (right.document bytes read.0 kept.0 read.1 kept.1) ∙ e) kept.1)

-- ---- codes

-- the codes of a rule are a set
abbrev pub HasSet : Rule → Type 0
HasSet rule = (texts : List (List ℕ)) × (rule.codes ≡ sorted_set texts)

pub catalogue_has : (terms : List ℕ → Option (List ℕ)) (text : List ℕ) (catalogue : WholeCatalogue)
    → catalogue_of terms text ≡ Ok catalogue → Each HasSet catalogue.rules
catalogue_has terms text catalogue e =
    let read = rules_read terms text catalogue e in
    each_rule HasSet terms read.1 read.2 (get_member (codes "rule") read.0) catalogue.rules
    (λ index rule is. (is.texts.duties, ap (λ r. r.codes) (sym is.is))) read.3

-- what the desk keeps of a catalogue has its rules
pub of_whole : (read : Read WholeCatalogue) (catalogue : Catalogue)
    → kept_catalogue read ≡ Ok catalogue
    → (whole : WholeCatalogue) × (read ≡ Ok whole) × (catalogue.rules ≡ whole.rules)
of_whole (Ok whole) catalogue e = (
  whole,
  refl,
  ap (λ c. c.rules) (sym (same_read (record { forms = whole.forms; rules = whole.rules }) catalogue
      e)),
)
of_whole (Err fault) catalogue e = cc

codes_once : (w : Readings) → AreRight w → (text : List ℕ) (catalogue : Catalogue) (rule : Rule)
    → w.catalogue text ≡ Ok catalogue → IsIn rule catalogue.rules → AreDistinct rule.codes
codes_once w right text catalogue rule e m =
    let whole = of_whole (catalogue_of w.term text) catalogue (sym (right.catalogue text) ∙ e) in
    let set = each_in HasSet rule whole.0.rules (subst (IsIn rule) whole.2 m)
    (catalogue_has w.term text whole.0 whole.1) in
    subst AreDistinct (sym set.1) (set_distinct set.0)

pub lists_once : (w : Readings) → AreRight w → ListsOnce w
lists_once w right = record { packages = packages_once w right; codes = codes_once w right }
