-- Rules in their places.
use Rattle.std.proofs.Common.{◌≡◌, ◌∙◌, Bool, true, false, cond, List, [], ◌∷◌}
use Rattle.std.proofs.Common.{map, Option, Some, sym, ap, refl, Ordering, Less, Equal, Greater}
use Rattle.std.proofs.Common.{nat_cmp, is_eq}
use Rattle.std.specs.Prelude.{◌&&◌, ◌||◌, not, is_some}
use Rattle.std.specs.Ordering.{on, then_cmp, match_ordering}
use Rattle.std.specs.Str.{bytes_eq}
use Rattle.std.specs.Cmp.Lexicographic.{slice_cmp}
use Rattle.std.specs.BTreeMap.{insert_entry, is_at}
use Rattle.std.specs.Map.{lookup}
use Rattle.std.proofs.lemmas.Map.Text.{is_eq-slice_cmp}
use Rattle.std.proofs.lemmas.Map.Lookups.{exact_bytes}
use Rattle.desk_model.specs.Keys.{is_rule}
use Rattle.desk_model.specs.declared.reading.Rule.{Rule}
use Rattle.desk_catalogue.specs.declared.order.Subject.{Subject}
use Rattle.desk_catalogue.specs.declared.order.Said.{Said}
use Rattle.desk_catalogue.specs.Kept.{put_rule, has_rule}
use Rattle.desk_catalogue.specs.Shown.{rule_of_entry}
use Rattle.desk_base.proofs.Texts.{texts_turned}
use Rattle.desk_base.proofs.Orders.{both_equal, either_equal}

-- ---- rules

abbrev pub subject_cmp : Subject → Subject → Ordering
subject_cmp = then_cmp (on (λ s. s.term) (slice_cmp nat_cmp)) (on (λ s. s.form) (slice_cmp nat_cmp))

same_subject : (a b : Subject) → subject_cmp a b ≡ Equal → a ≡ b
same_subject a b is =
    let both = both_equal (slice_cmp nat_cmp a.term b.term) (slice_cmp nat_cmp a.form b.form) is in
    let term : a.term ≡ b.term = exact_bytes a.term b.term both.0 in
    let form : a.form ≡ b.form = exact_bytes a.form b.form both.1 in
    (λ i. record { term = term i; form = form i })

abbrev rules_of_entries : List (Subject × Said) → List Rule
rules_of_entries es = map rule_of_entry es

by_rule_order : (o : Ordering) (x y z : List (Subject × Said)) (y' : List Rule)
    → (o ≡ Equal → rules_of_entries y ≡ y')
    → rules_of_entries (match_ordering o x y z)
    ≡ match_ordering o (rules_of_entries x) y' (rules_of_entries z)
by_rule_order Less x y z y' is = refl
by_rule_order Equal x y z y' is = is refl
by_rule_order Greater x y z y' is = refl

pub rules-insert_entry : (es : List (Subject × Said)) (k : Subject) (v : Said)
    → map rule_of_entry (insert_entry subject_cmp es k v)
    ≡ put_rule (rule_of_entry (k, v)) (map rule_of_entry es)
rules-insert_entry [] k v = refl
rules-insert_entry (e ∷ es) k v =
    by_rule_order (subject_cmp k e.0) ((k, v) ∷ e ∷ es) ((e.0, v) ∷ es)
    (e ∷ insert_entry subject_cmp es k v) (rule_of_entry (k, v) ∷ rules_of_entries es)
    (λ is. ap (λ s. rule_of_entry (s, v) ∷ rules_of_entries es) (sym (same_subject k e.0 is)))
    ∙ ap (λ l. match_ordering (subject_cmp k e.0)
    (rule_of_entry (k, v) ∷ rule_of_entry e ∷ rules_of_entries es)
    (rule_of_entry (k, v) ∷ rules_of_entries es) (rule_of_entry e ∷ l)) (rules-insert_entry es k v)

-- ---- what is there already

at_subject : (k : Subject) (r : Subject × Said)
    → is_eq (subject_cmp k r.0) ≡ is_rule k.term k.form (rule_of_entry r)
at_subject k r =
    let terms : is_eq (slice_cmp nat_cmp k.term r.0.term) ≡ bytes_eq r.0.term k.term =
    is_eq-slice_cmp k.term r.0.term ∙ texts_turned k.term r.0.term in
    let forms : is_eq (slice_cmp nat_cmp k.form r.0.form) ≡ bytes_eq r.0.form k.form =
    is_eq-slice_cmp k.form r.0.form ∙ texts_turned k.form r.0.form in
    either_equal (slice_cmp nat_cmp k.term r.0.term) (slice_cmp nat_cmp k.form r.0.form)
    ∙ (λ i. terms i && forms i)

some_or : {X : Type 0} (b : Bool) (x : X) (o : Option X)
    → is_some (cond b (Some x) o) ≡ (b || is_some o)
some_or true x o = refl
some_or false x o = refl

has_entry : (es : List (Subject × Said)) (k : Subject) (v : Said)
    → is_some (lookup (is_at (subject_cmp k)) es)
    ≡ has_rule (map rule_of_entry es) (rule_of_entry (k, v))
has_entry [] k v = refl
has_entry (e ∷ es) k v =
    some_or (is_at (subject_cmp k) e.0) e.1 (lookup (is_at (subject_cmp k)) es)
    ∙ (λ i. at_subject k e i || has_entry es k v i)

turned : (b c : Bool) → b ≡ not c → c ≡ not b
turned true true is = is
turned true false is = refl
turned false true is = refl
turned false false is = is

-- none was there before
pub was_new : (es : List (Subject × Said)) (k : Subject) (v : Said) (before : Option Said)
    (new : Bool) → before ≡ lookup (is_at (subject_cmp k)) es → is_some before ≡ not new
    → new ≡ not (has_rule (map rule_of_entry es) (rule_of_entry (k, v)))
was_new es k v before new is told = turned (is_some before) new told ∙ ap (λ o. not (is_some o)) is
    ∙ ap not (has_entry es k v)
