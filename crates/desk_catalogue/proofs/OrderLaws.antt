-- The rules of a catalogue are sorted, each pair of term and form once.
use Rattle.std.proofs.Common.{◌≡◌, ◌∙◌, ℕ, ◌+◌, Bool, true, false, cond, List, [], ◌∷◌, length}
use Rattle.std.proofs.Common.{Option, Ok, Err, subst, ap, refl, rules, Ordering, Less, Equal}
use Rattle.std.proofs.Common.{Greater}
use Rattle.std.specs.Prelude.{codes, nat_lt}
use Rattle.std.specs.Option.{ok_or}
use Rattle.std.specs.Cmp.{IsTotalOrder}
use Rattle.std.specs.Cmp.Rules.{comparing}
use Rattle.std.specs.List.{AllByRecursion}
use Rattle.std.specs.List.Sorted.{IsStrictlySortedBy}
use Rattle.std.specs.Ordering.{match_ordering, ordering_reverse}
use Rattle.toml.specs.Data.{Data, Items, no_items, item, Members, get_member}
use Rattle.toml.specs.Parse.{parse_document}
use Rattle.desk_model.specs.declared.reading.Rule.{Rule}
use Rattle.desk_model.specs.declared.refusal.CataloguePart.TheVariants as part
use Rattle.desk_model.specs.declared.refusal.CatalogueFault.{CatalogueFault}
use Rattle.desk_model.specs.declared.refusal.CatalogueFault.TheVariants.{NotToml, TooLarge, Twice}
use Rattle.desk_catalogue.specs.declared.catalogue.Catalogue.{Catalogue}
use Rattle.desk_catalogue.specs.declared.catalogue.LicenceText.{LicenceText}
use Rattle.desk_base.specs.Limits as limit
use Rattle.desk_catalogue.specs.Kept.{put_rule, has_rule}
use Rattle.desk_catalogue.specs.Reading.{Read, each, tables_of, forms_of, duties_of, rule_at}
use Rattle.desk_catalogue.specs.Reading.{with_one, with_rule, rules_of, licence_texts_of}
use Rattle.desk_catalogue.specs.Reading.{catalogue_of_table, catalogue_of}
use Rattle.desk_model.specs.Keys.{rule_order}
use Rattle.desk_base.specs.Results.{then_read}

pub rule_order_total : IsTotalOrder rule_order
rule_order_total = search (comparing, rules)

all_map : (P Q : Rule → Type 0) → ((r : Rule) → P r → Q r) → (rs : List Rule) → AllByRecursion P rs
    → AllByRecursion Q rs
all_map P Q f [] h = tt
all_map P Q f (r ∷ rs) h = (f r h.0, all_map P Q f rs h.1)

all_put : (P : Rule → Type 0) (x : Rule) (rs : List Rule) → P x → AllByRecursion P rs
    → AllByRecursion P (put_rule x rs)
all_put P x [] h k = (h, tt)
all_put P x (r ∷ rs) h k = elim (rule_order x r) as
    (λ o. AllByRecursion P (match_ordering o (x ∷ r ∷ rs) (x ∷ rs) (r ∷ put_rule x rs))) [
      | Less ↦ (h, k)
      | Equal ↦ (h, k.1)
      | Greater ↦ (k.0, all_put P x rs h k.1)
    ]

sorted_put : (x : Rule) (rs : List Rule) → IsStrictlySortedBy rule_order rs
    → IsStrictlySortedBy rule_order (put_rule x rs)
unfolding IsStrictlySortedBy
sorted_put x [] h = (tt, tt)
sorted_put x (r ∷ rs) h =
    let placed : (o : Ordering) → rule_order x r ≡ o → IsStrictlySortedBy rule_order (match_ordering
    o (x ∷ r ∷ rs) (x ∷ rs) (r ∷ put_rule x rs)) = λ o. elim o as
    (λ o. rule_order x r ≡ o → IsStrictlySortedBy rule_order
    (match_ordering o (x ∷ r ∷ rs) (x ∷ rs) (r ∷ put_rule x rs))) [
      | Less ↦ λ is. (
        (
          is,
          all_map (λ s. rule_order r s ≡ Less) (λ s. rule_order x s ≡ Less)
              (λ s k. rule_order_total.trans x r s is k) rs h.0,
        ),
        h,
      )
      | Equal ↦ λ is. (
        all_map (λ s. rule_order r s ≡ Less) (λ s. rule_order x s ≡ Less)
            (λ s k. rule_order_total.congr x r s is ∙ k) rs h.0,
        h.1,
      )
      | Greater ↦ λ is. (
        all_put (λ s. rule_order r s ≡ Less) x rs
            (rule_order_total.antisymm r x ∙ ap ordering_reverse is) h.0,
        sorted_put x rs h.1,
      )
    ] in
    placed (rule_order x r) refl

-- ---- what holds after each value

-- what comes next, if there was no fault
pub then_by : {A B : Type 0} (r : Read A) (next : A → Read B) (y : B) → then_read r next ≡ Ok y
    → (x : A) × (r ≡ Ok x) × (next x ≡ Ok y)
then_by (Ok x) next y e = (x, refl, e)
then_by (Err fault) next y e = cc

pub unless : {A : Type 0} (b : Bool) (f : CatalogueFault) (r : Read A) (x : A)
    → cond b (Err f) r ≡ Ok x → r ≡ Ok x
unless true f r x e = cc
unless false f r x e = e

abbrev out : {A : Type 0} → A → Read A → A
out d (Ok x) = x
out d (Err fault) = d

abbrev read : {A : Type 0} → A → Read A
read x = Ok x

pub same_read : {A : Type 0} (x y : A) → read x ≡ Ok y → x ≡ y
same_read x y e = ap (out x) e

pub each_holds : {S : Type 0} (P : S → Type 0) (put : S → ℕ → Data → Read S)
    → ((s : S) (i : ℕ) (d : Data) (t : S) → P s → put s i d ≡ Ok t → P t)
    → (s : S) (i : ℕ) (ds : Items) (t : S) → P s → each put s i ds ≡ Ok t → P t
each_holds P put step s i no_items t p e = subst P (same_read s t e) p
each_holds P put step s i (item d ds) t p e =
    let found = then_by (put s i d) (λ next. each put next (i + 1) ds) t e in
    each_holds P put step found.0 (i + 1) ds t (step s i d found.0 p found.1) found.2

-- what holds for the rules when each is put in its place
pub rules_hold : (P : List Rule → Type 0) (terms : List ℕ → Option (List ℕ))
    (forms duties : List (List ℕ)) (listed : Option Data) (rules : List Rule)
    → P [] → ((index : ℕ) (d : Data) (rule : Rule) (rs : List Rule)
    → rule_at terms forms duties index d ≡ Ok rule → P rs → P (put_rule rule rs))
    → rules_of terms forms duties listed ≡ Ok rules → P rules
rules_hold P terms forms duties listed rules none more e =
    let found = then_by (tables_of part.Rule listed) (each (with_rule terms forms duties) [] 0)
    rules e in
    each_holds P (with_rule terms forms duties) step [] 0 found.0 rules none found.2
  where
    step : (rs : List Rule) (i : ℕ) (d : Data) (ts : List Rule) → P rs
        → with_rule terms forms duties rs i d ≡ Ok ts → P ts
    step rs i d ts p e =
        let found = then_by (rule_at terms forms duties i d) (with_one rs i) ts e in
        subst P (same_read (put_rule found.0 rs) ts
        (unless (has_rule rs found.0) (Twice part.Rule i) (Ok (put_rule found.0 rs)) ts found.2))
        (more i d found.0 rs found.1 p)

-- what the text of a catalogue is read into, part by part
pub record IsReadFrom (terms : List ℕ → Option (List ℕ)) (catalogue : Catalogue) : Type 0 where
  pub members : Members
  pub forms : List (List ℕ)
  pub duties : List (List ℕ)
  pub rules : List Rule
  pub texts : List LicenceText
  pub forms_are : forms_of (get_member (codes "forms") members) ≡ Ok forms
  pub duties_are : duties_of (get_member (codes "duty") members) ≡ Ok duties
  pub rules_are : rules_of terms forms duties (get_member (codes "rule") members) ≡ Ok rules
  pub texts_are : licence_texts_of (get_member (codes "text") members) ≡ Ok texts
  pub same : ◌≡◌ {A = Catalogue} (record { forms = forms; rules = rules; texts = texts }) catalogue

pub parts_read : (terms : List ℕ → Option (List ℕ)) (text : List ℕ) (catalogue : Catalogue)
    → catalogue_of terms text ≡ Ok catalogue → IsReadFrom terms catalogue
parts_read terms text catalogue e =
    let small = unless (nat_lt limit.catalogue_bytes (length text)) TooLarge
    (then_read (ok_or (parse_document text) NotToml) (catalogue_of_table terms)) catalogue e in
    let table = then_by (ok_or (parse_document text) NotToml) (catalogue_of_table terms) catalogue
    small in
    let ms = table.0 in
    let forms = then_by (forms_of (get_member (codes "forms") ms)) _ catalogue table.2 in
    let duties = then_by (duties_of (get_member (codes "duty") ms)) _ catalogue forms.2 in
    let rules = then_by (rules_of terms forms.0 duties.0 (get_member (codes "rule") ms)) _ catalogue
    duties.2 in
    let texts = then_by (licence_texts_of (get_member (codes "text") ms)) _ catalogue rules.2 in
    record {
      members = ms;
      forms = forms.0;
      duties = duties.0;
      rules = rules.0;
      texts = texts.0;
      forms_are = forms.1;
      duties_are = duties.1;
      rules_are = rules.1;
      texts_are = texts.1;
      same = same_read _ catalogue texts.2;
    }

-- the rules of a catalogue are those that its table lists
pub rules_read : (terms : List ℕ → Option (List ℕ)) (text : List ℕ) (catalogue : Catalogue)
    → catalogue_of terms text ≡ Ok catalogue
    → (ms : Members) × (forms : List (List ℕ)) × (duties : List (List ℕ))
    × (rules_of terms forms duties (get_member (codes "rule") ms) ≡ Ok catalogue.rules)
rules_read terms text catalogue e =
    let read = parts_read terms text catalogue e in (
      read.members,
      read.forms,
      read.duties,
      read.rules_are
          ∙ ap (λ (c : Catalogue). Ok c.rules) read.same,
    )

no_rules_sorted : IsStrictlySortedBy rule_order []
unfolding IsStrictlySortedBy
no_rules_sorted = tt

pub rules_sorted : (terms : List ℕ → Option (List ℕ)) (text : List ℕ) (catalogue : Catalogue)
    → catalogue_of terms text ≡ Ok catalogue → IsStrictlySortedBy rule_order catalogue.rules
rules_sorted terms text catalogue e =
    let read = rules_read terms text catalogue e in
    rules_hold (IsStrictlySortedBy rule_order) terms read.1 read.2
    (get_member (codes "rule") read.0) catalogue.rules no_rules_sorted
    (λ index d rule rs is sorted. sorted_put rule rs sorted) read.3
