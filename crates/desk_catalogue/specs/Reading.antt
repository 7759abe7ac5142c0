-- The catalogue that a text is, or its first fault: `forms`, then the duty tables, the rule tables
-- and the text tables, each table as a whole before the next one: first an absent key, then a value
-- of another kind, then what it names, then what occurs twice.
use Rattle.std.specs.Prelude.{ℕ, ◌+◌, ◌&&◌, not, nat_lt, nat_le, Bool, List, [], ◌∷◌, ◌++◌, length}
use Rattle.std.specs.Prelude.{codes, Option, Some, None, Result, Ok, Err, if◌then◌else◌}
use Rattle.std.specs.Option.{ok_or}
use Rattle.std.specs.List.{list_all, list_any}
use Rattle.toml.specs.Data.{Data, as_str, as_array, as_table, get_member, Items, no_items, item, Members}
use Rattle.toml.specs.Parse.{parse_document}
use Rattle.desk_model.specs.Texts.{put_new, sorted_set}
use Rattle.desk_model.specs.declared.reading.Rule.{Rule}
use Rattle.desk_model.specs.declared.refusal.CataloguePart.{CataloguePart}
use Rattle.desk_model.specs.declared.refusal.CataloguePart.TheVariants as part
use Rattle.desk_model.specs.declared.refusal.CatalogueFault.{CatalogueFault}
use Rattle.desk_model.specs.declared.refusal.CatalogueFault.TheVariants.{NotToml, Missing, BadKind}
use Rattle.desk_model.specs.declared.refusal.CatalogueFault.TheVariants.{BadTerm, UnknownForm}
use Rattle.desk_model.specs.declared.refusal.CatalogueFault.TheVariants.{UnknownDuty, Twice}
use Rattle.desk_model.specs.declared.refusal.CatalogueFault.TheVariants.{TooLarge}
use Rattle.desk_catalogue.specs.declared.catalogue.Catalogue.{Catalogue}
use Rattle.desk_catalogue.specs.declared.catalogue.LicenceText.{LicenceText}
use Rattle.desk_base.specs.Limits as limit
use Rattle.desk_catalogue.specs.Values.{id_of, title_of, texts_of, is_text_id}
use Rattle.desk_catalogue.specs.Terms.{licence_of}
use Rattle.desk_catalogue.specs.Kept.{stand_once, put_rule, has_rule, is_text_of}
use Rattle.desk_base.specs.Results.{then_read}
use Rattle.desk_base.specs.TextSets.{is_among}

-- something, or its fault
abbrev pub Read : Type 0 → Type 0
Read A = Result A CatalogueFault

-- ---- lists

-- each value in turn, with its index, is added to what those before it gave; or the first fault
abbrev pub each : {S : Type 0} → (S → ℕ → Data → Read S) → S → ℕ → Items → Read S
each put state index no_items = Ok state
each put state index (item d ds) = then_read (put state index d)
    (λ next. each put next (index + 1) ds)

-- how many entries a list has
abbrev pub count : Items → ℕ
count no_items = 0
count (item d ds) = count ds + 1

-- the tables of a part; a part that is absent has none
abbrev pub tables_of : CataloguePart → Option Data → Read Items
tables_of p None = Ok no_items
tables_of p (Some d) = ok_or (as_array d) (BadKind p 0)

-- ---- forms, where the kind of each entry is checked before whether any occurs twice

-- the form that an entry is
abbrev pub form_at : ℕ → Data → Read (List ℕ)
form_at index d = ok_or (id_of d) (BadKind part.Forms index)

-- the forms so far, with one more at their end
abbrev pub with_form : List (List ℕ) → ℕ → Data → Read (List (List ℕ))
with_form forms index d = then_read (form_at index d) (λ form. Ok (forms ++ form ∷ []))

-- 1 to 16
abbrev pub is_form_count : ℕ → Bool
is_form_count n = nat_le 1 n && nat_le n limit.forms

-- the entries of `forms`, which must be a list of 1 to 16
abbrev pub forms_listed : Option Items → Read (List (List ℕ))
forms_listed None = Err (BadKind part.Forms 0)
forms_listed (Some ds) = if is_form_count (count ds) then each with_form [] 0 ds
    else Err (BadKind part.Forms 0)

-- the forms, if none is among those before it
abbrev pub forms_once : List (List ℕ) → ℕ → List (List ℕ) → Read (List (List ℕ))
forms_once before index [] = Ok before
forms_once before index (form ∷ forms) = if is_among before form then Err (Twice part.Forms index)
    else forms_once (before ++ form ∷ []) (index + 1) forms

-- the forms; without them no other part is looked at
abbrev pub forms_of : Option Data → Read (List (List ℕ))
forms_of None = Err (Missing part.Forms 0)
forms_of (Some d) = then_read (forms_listed (as_array d)) (forms_once [] 0)

-- ---- duties, whose codes are kept

-- the code of a duty, if both its values are of their kind
abbrev pub duty_of_values : ℕ → Option (List ℕ) → Option (List ℕ) → Read (List ℕ)
duty_of_values index (Some code) (Some title) = Ok code
duty_of_values index (Some code) None = Err (BadKind part.Duty index)
duty_of_values index None title = Err (BadKind part.Duty index)

-- the same, if both keys are there
abbrev pub duty_of_keys : ℕ → Option Data → Option Data → Read (List ℕ)
duty_of_keys index (Some code) (Some title) = duty_of_values index (id_of code) (title_of title)
duty_of_keys index (Some code) None = Err (Missing part.Duty index)
duty_of_keys index None title = Err (Missing part.Duty index)

-- the code of a duty table
abbrev pub duty_at : ℕ → Data → Read (List ℕ)
duty_at index d = then_read (ok_or (as_table d) (BadKind part.Duty index))
    (λ ms. duty_of_keys index (get_member (codes "code") ms) (get_member (codes "title") ms))

-- the codes so far, sorted, with one more
abbrev pub with_code : List (List ℕ) → ℕ → List ℕ → Read (List (List ℕ))
with_code codes_before index code = if is_among codes_before code then Err (Twice part.Duty index)
    else Ok (put_new code codes_before)

-- the codes so far, with that of one more table
abbrev pub with_duty : List (List ℕ) → ℕ → Data → Read (List (List ℕ))
with_duty codes_before index d = then_read (duty_at index d) (with_code codes_before index)

-- the codes of all duty tables, sorted
abbrev pub duties_of : Option Data → Read (List (List ℕ))
duties_of duties = then_read (tables_of part.Duty duties) (each with_duty [] 0)

-- ---- rules

-- the values of a rule's keys
pub record RuleTexts : Type 0 where
  pub term : List ℕ
  pub form : List ℕ
  pub duties : List (List ℕ)

-- the values of a rule, if all three are of their kind
abbrev pub rule_texts : ℕ → Option (List ℕ) → Option (List ℕ) → Option (List (List ℕ))
    → Read RuleTexts
rule_texts index (Some term) (Some form) (Some duties) = Ok
    (record { term = term; form = form; duties = duties })
rule_texts index (Some term) (Some form) None = Err (BadKind part.Rule index)
rule_texts index (Some term) None duties = Err (BadKind part.Rule index)
rule_texts index None form duties = Err (BadKind part.Rule index)

-- the same, if all three keys are there
abbrev pub rule_values : ℕ → Option Data → Option Data → Option Data → Read RuleTexts
rule_values index (Some term) (Some form) (Some duties) = rule_texts index (as_str term)
    (as_str form) (texts_of duties)
rule_values index (Some term) (Some form) None = Err (Missing part.Rule index)
rule_values index (Some term) None duties = Err (Missing part.Rule index)
rule_values index None form duties = Err (Missing part.Rule index)

-- the values of a rule table
abbrev pub rule_written : ℕ → Data → Read RuleTexts
rule_written index d = then_read (ok_or (as_table d) (BadKind part.Rule index))
    (λ ms. rule_values index (get_member (codes "term") ms) (get_member (codes "form") ms)
    (get_member (codes "duties") ms))

-- the rule for a term, if its form and its codes are those of the catalogue
abbrev pub rule_of : List (List ℕ) → List (List ℕ) → ℕ → RuleTexts → List ℕ → Read Rule
rule_of forms duties index texts term =
    if not (is_among forms texts.form) then Err (UnknownForm part.Rule index)
    else (if not (list_all (is_among duties) texts.duties) then Err (UnknownDuty part.Rule index)
    else (if not (stand_once texts.duties) then Err (Twice part.Rule index)
    else Ok (record {
      term = term;
      form = texts.form;
      spelled = texts.term;
      codes = sorted_set texts.duties;
    })))

-- the rule of a table, given what texts of terms say, the forms and the codes of duties
abbrev pub rule_at : (List ℕ → Option (List ℕ)) → List (List ℕ) → List (List ℕ) → ℕ → Data
    → Read Rule
rule_at terms forms duties index d =
    then_read (rule_written index d) (λ texts.
    then_read (ok_or (licence_of terms texts.term) (BadTerm part.Rule index))
    (rule_of forms duties index texts))

-- the rules so far, sorted, with one more
abbrev pub with_one : List Rule → ℕ → Rule → Read (List Rule)
with_one rules index rule = if has_rule rules rule then Err (Twice part.Rule index)
    else Ok (put_rule rule rules)

-- the rules so far, with that of one more table
abbrev pub with_rule : (List ℕ → Option (List ℕ)) → List (List ℕ) → List (List ℕ) → List Rule → ℕ
    → Data → Read (List Rule)
with_rule terms forms duties rules index d = then_read (rule_at terms forms duties index d)
    (with_one rules index)

-- the rules of all rule tables, sorted by term and form
abbrev pub rules_of : (List ℕ → Option (List ℕ)) → List (List ℕ) → List (List ℕ) → Option Data
    → Read (List Rule)
rules_of terms forms duties rules = then_read (tables_of part.Rule rules)
    (each (with_rule terms forms duties) [] 0)

-- ---- texts of licences and exceptions

-- a text, if what it is for may have one
abbrev pub text_of : ℕ → List ℕ → List ℕ → Read LicenceText
text_of index licence body = if is_text_id licence
    then Ok (record { licence = licence; body = body }) else Err (BadTerm part.Text index)

-- the same, if both values are texts
abbrev pub text_of_values : ℕ → Option (List ℕ) → Option (List ℕ) → Read LicenceText
text_of_values index (Some licence) (Some body) = text_of index licence body
text_of_values index (Some licence) None = Err (BadKind part.Text index)
text_of_values index None body = Err (BadKind part.Text index)

-- the same, if both keys are there
abbrev pub text_of_keys : ℕ → Option Data → Option Data → Read LicenceText
text_of_keys index (Some licence) (Some body) = text_of_values index (as_str licence) (as_str body)
text_of_keys index (Some licence) None = Err (Missing part.Text index)
text_of_keys index None body = Err (Missing part.Text index)

-- the text of a text table
abbrev pub text_at : ℕ → Data → Read LicenceText
text_at index d = then_read (ok_or (as_table d) (BadKind part.Text index))
    (λ ms. text_of_keys index (get_member (codes "licence") ms) (get_member (codes "body") ms))

-- the texts so far, with one more
abbrev pub with_one_text : List LicenceText → ℕ → LicenceText → Read (List LicenceText)
with_one_text texts index text = if list_any (is_text_of text.licence) texts
    then Err (Twice part.Text index) else Ok (texts ++ text ∷ [])

-- the texts so far, with that of one more table
abbrev pub with_text : List LicenceText → ℕ → Data → Read (List LicenceText)
with_text texts index d = then_read (text_at index d) (with_one_text texts index)

-- the texts of all text tables, in the order of the catalogue
abbrev pub licence_texts_of : Option Data → Read (List LicenceText)
licence_texts_of texts = then_read (tables_of part.Text texts) (each with_text [] 0)

-- ---- the whole

-- the catalogue that a TOML table is, or its first fault
abbrev pub catalogue_of_table : (List ℕ → Option (List ℕ)) → Members → Read Catalogue
catalogue_of_table terms ms =
    then_read (forms_of (get_member (codes "forms") ms)) (λ forms.
    then_read (duties_of (get_member (codes "duty") ms)) (λ duties.
    then_read (rules_of terms forms duties (get_member (codes "rule") ms)) (λ rules.
    then_read (licence_texts_of (get_member (codes "text") ms)) (λ texts.
    Ok (record { forms = forms; rules = rules; texts = texts })))))

-- the catalogue that a text is, given what texts of terms say
abbrev pub catalogue_of : (List ℕ → Option (List ℕ)) → List ℕ → Read Catalogue
catalogue_of terms text =
    if nat_lt limit.catalogue_bytes (length text) then Err TooLarge
    else then_read (ok_or (parse_document text) NotToml) (catalogue_of_table terms)
