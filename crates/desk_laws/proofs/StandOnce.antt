-- If rows have different keys, each key that is declared unique appears once.
use Rattle.std.proofs.Common.{◌≡◌, inl, inr, ℕ, ◌≤◌, Bool, true, false, cond, List, [], ◌∷◌, filter}
use Rattle.std.proofs.Common.{length, map, refl, sym, subst, arith}
use Rattle.std.specs.Prelude.{◌&&◌, ◌==◌}
use Rattle.std.specs.Str.{bytes_eq}
use Rattle.sqlite_value.specs.Keys.{plain}
use Rattle.sqlite_value.specs.Order.{Row}
use Rattle.sqlite_value.proofs.KeyLemmas.{first_key-plain}
use Rattle.sqlite_schema.specs.Rules.{agree}
use Rattle.sqlite_rules.proofs.KeyLemmas.{agree_back, agree_chain}
use Rattle.desk_base.proofs.Bools.{and_left, and_right}
use Rattle.desk_base.proofs.Numbers.{numbers_equal}
use Rattle.desk_base.proofs.Texts.{texts_equal}
use Rattle.desk_model.specs.Lists.{IsIn}
use Rattle.desk_model.specs.Tables.{Tables}
use Rattle.desk_model.specs.declared.row.AdoptionRow.{AdoptionRow}
use Rattle.desk_model.specs.declared.row.AttachedRow.{AttachedRow}
use Rattle.desk_model.specs.declared.row.CatalogueRow.{CatalogueRow}
use Rattle.desk_model.specs.declared.row.ChangeRow.{ChangeRow}
use Rattle.desk_model.specs.declared.row.ChoiceRow.{ChoiceRow}
use Rattle.desk_model.specs.declared.row.ConclusionRow.{ConclusionRow}
use Rattle.desk_model.specs.declared.row.DocumentRow.{DocumentRow}
use Rattle.desk_model.specs.declared.row.DutyRow.{DutyRow}
use Rattle.desk_model.specs.declared.row.ExtractedRow.{ExtractedRow}
use Rattle.desk_model.specs.declared.row.FrozenRow.{FrozenRow}
use Rattle.desk_model.specs.declared.row.PackageRow.{PackageRow}
use Rattle.desk_model.specs.declared.row.ReleaseRow.{ReleaseRow}
use Rattle.desk_model.specs.declared.row.RuleRow.{RuleRow}
use Rattle.desk_model.specs.Moves.{is_waiver}
use Rattle.desk_history.specs.Laws.{AreDistinct, key_of}
use Rattle.desk_history.proofs.Members.{in_map}
use Rattle.desk_history.proofs.Distinct.{distinct-filter}
use Rattle.desk_history_laws.specs.OwnKeys.{adoption_key, attached_key, change_key, choice_key}
use Rattle.desk_history_laws.specs.OwnKeys.{conclusion_key, extracted_key, frozen_key, HaveOwnKeys}
use Rattle.desk_history_laws.specs.OwnKeys.{package_key, rule_key}
use Rattle.desk_sql_layout.specs.Cells.{adoption_cells, attached_cells, catalogue_cells}
use Rattle.desk_sql_layout.specs.Cells.{change_cells, choice_cells, conclusion_cells}
use Rattle.desk_sql_layout.specs.Cells.{document_cells, duty_cells, extracted_cells, frozen_cells}
use Rattle.desk_sql_layout.specs.Cells.{meta_cells, package_cells, reading_cells}
use Rattle.desk_sql_layout.specs.Cells.{release_cells, rule_cells, waiver_cells}
use Rattle.desk_sql_layout.specs.Held.{rows_of}
use Rattle.desk_sql_layout.proofs.Casts.{int_test, text_test}
use Rattle.desk_sql_write.specs.Taking.{HaveKeys, in_cells, StandsOnce}

-- ---- rows with the same key agree

agree_both : (places : List ℕ) (a b key : Row) → agree plain places a places key ≡ true
    → agree plain places b places key ≡ true → agree plain places a places b ≡ true
agree_both places a b key one two = agree_chain plain places places places a key b one
    (agree_back plain places places b key two)

module _ {A B : Type 0} (cells : A → Row) (key : A → B) (places : List ℕ)
    (tells : (x y : A) → agree plain (in_cells places) (cells x) (in_cells places) (cells y) ≡ true
    → key x ≡ key y) where
  abbrev passes : Row → Row → Bool
  passes k row = agree plain (in_cells places) row (in_cells places) k

  none_more : (k : Row) (rows : List A) → ((x : A) → IsIn x rows → passes k (cells x) ≡ true → ⊥)
      → length (filter (passes k) (map cells rows)) ≡ 0
  none_more k [] never = refl
  none_more k (x ∷ rows) never = go (passes k (cells x)) refl
      (none_more k rows (λ y m. never y (inr m)))
    where
      go : (b : Bool) → passes k (cells x) ≡ b → length (filter (passes k) (map cells rows)) ≡ 0
          → length (cond b (cells x ∷ filter (passes k) (map cells rows))
          (filter (passes k) (map cells rows))) ≡ 0
      go true is rest = absurd (never x (inl refl) is)
      go false is rest = rest

  pub once : (rows : List A) → AreDistinct (map key rows) → StandsOnce (map cells rows) places
  once [] own k = omega arith
  once (x ∷ rows) own k = go (passes k (cells x)) refl (once rows own.1 k)
    where
      go : (b : Bool) → passes k (cells x) ≡ b → length (filter (passes k) (map cells rows)) ≤ 1
          → length (cond b (cells x ∷ filter (passes k) (map cells rows))
          (filter (passes k) (map cells rows))) ≤ 1
      go true is rest =
          let none = none_more k rows (λ y m also. own.0
          (subst (λ k. IsIn k (map key rows))
          (sym (tells x y (agree_both (in_cells places) (cells x) (cells y) k is also)))
          (in_map key y rows m))) in
          omega (arith, none)
      go false is rest = rest

one_row : (row : Row) (places : List ℕ) → StandsOnce (row ∷ []) places
one_row row places k =
    elim (agree plain (in_cells places) row (in_cells places) k) as
    (λ b. length (cond b (row ∷ []) []) ≤ 1) [ true ↦ omega arith | false ↦ omega arith ]

-- ---- the key that equal cells give

-- the first of several tests, and the rest of them
number_is : (a b : ℕ) (rest : Bool) → ((a == b) && rest) ≡ true → (a ≡ b) × (rest ≡ true)
number_is a b rest e = (numbers_equal a b (and_left (a == b) rest e), and_right (a == b) rest e)

text_is : (a b : List ℕ) (rest : Bool) → (bytes_eq a b && rest) ≡ true → (a ≡ b) × (rest ≡ true)
text_is a b rest e = (
  texts_equal a b (and_left (bytes_eq a b) rest e),
  and_right (bytes_eq a b) rest e,
)

number_text : (a b : ℕ) (c d : List ℕ) → ((a == b) && (bytes_eq c d && true)) ≡ true
    → let key : ℕ → List ℕ → ℕ × List ℕ = λ n t. (n, t) in key a c ≡ key b d
number_text a b c d e =
    let one = number_is a b (bytes_eq c d && true) e in
    let two = text_is c d true one.1 in
    λ i. (one.0 i, two.0 i)

two_numbers : (a b c d : ℕ) → ((a == b) && ((c == d) && true)) ≡ true
    → let key : ℕ → ℕ → ℕ × ℕ = λ n m. (n, m) in key a c ≡ key b d
two_numbers a b c d e =
    let one = number_is a b ((c == d) && true) e in
    let two = number_is c d true one.1 in
    λ i. (one.0 i, two.0 i)

catalogue_tells : (x y : CatalogueRow)
    → agree plain (in_cells (0 ∷ [])) (catalogue_cells x) (in_cells (0 ∷ [])) (catalogue_cells y)
    ≡ true → x.revision ≡ y.revision
catalogue_tells x y e = (number_is x.revision y.revision true
    (rw (first_key-plain, int_test x.revision y.revision) at e)).0

rule_tells : (x y : RuleRow) → agree plain (in_cells (1 ∷ 2 ∷ 3 ∷ [])) (rule_cells x)
    (in_cells (1 ∷ 2 ∷ 3 ∷ [])) (rule_cells y) ≡ true → rule_key x ≡ rule_key y
rule_tells x y e =
    let tests : ((x.revision == y.revision)
    && (bytes_eq x.term y.term && (bytes_eq x.form y.form && true))) ≡ true = rw (
      first_key-plain,
      int_test x.revision y.revision,
      text_test x.term y.term,
      text_test x.form y.form,
    ) at e in
    let revision = number_is x.revision y.revision _ tests in
    let term = text_is x.term y.term _ revision.1 in
    let form = text_is x.form y.form true term.1 in
    λ i. (revision.0 i, term.0 i, form.0 i)

document_tells : (x y : DocumentRow)
    → agree plain (in_cells (0 ∷ [])) (document_cells x) (in_cells (0 ∷ [])) (document_cells y)
    ≡ true → x.number ≡ y.number
document_tells x y e = (number_is x.number y.number true
    (rw (first_key-plain, int_test x.number y.number) at e)).0

namespace_tells : (x y : DocumentRow)
    → agree plain (in_cells (2 ∷ [])) (document_cells x) (in_cells (2 ∷ [])) (document_cells y)
    ≡ true → x.namespace ≡ y.namespace
namespace_tells x y e = (text_is x.namespace y.namespace true
    (rw (first_key-plain, text_test x.namespace y.namespace) at e)).0

package_tells : (x y : PackageRow)
    → agree plain (in_cells (1 ∷ 2 ∷ [])) (package_cells x) (in_cells (1 ∷ 2 ∷ []))
    (package_cells y) ≡ true → package_key x ≡ package_key y
package_tells x y e = number_text x.document y.document x.id y.id
    (rw (first_key-plain, int_test x.document y.document, text_test x.id y.id) at e)

extracted_tells : (x y : ExtractedRow)
    → agree plain (in_cells (1 ∷ 2 ∷ [])) (extracted_cells x) (in_cells (1 ∷ 2 ∷ []))
    (extracted_cells y) ≡ true → extracted_key x ≡ extracted_key y
extracted_tells x y e = number_text x.document y.document x.reference y.reference
    (rw (first_key-plain, int_test x.document y.document, text_test x.reference y.reference) at e)

conclusion_tells : (x y : ConclusionRow)
    → agree plain (in_cells (1 ∷ 2 ∷ [])) (conclusion_cells x) (in_cells (1 ∷ 2 ∷ []))
    (conclusion_cells y) ≡ true → conclusion_key x ≡ conclusion_key y
conclusion_tells x y e = number_text x.document y.document x.package_id y.package_id
    (rw (first_key-plain, int_test x.document y.document, text_test x.package_id y.package_id) at e)

adoption_tells : (x y : AdoptionRow)
    → agree plain (in_cells (1 ∷ 2 ∷ [])) (adoption_cells x) (in_cells (1 ∷ 2 ∷ []))
    (adoption_cells y) ≡ true → adoption_key x ≡ adoption_key y
adoption_tells x y e = number_text x.document y.document x.reference y.reference
    (rw (first_key-plain, int_test x.document y.document, text_test x.reference y.reference) at e)

release_tells : (x y : ReleaseRow)
    → agree plain (in_cells (1 ∷ [])) (release_cells x) (in_cells (1 ∷ [])) (release_cells y)
    ≡ true → x.name ≡ y.name
release_tells x y e = (text_is x.name y.name true
    (rw (first_key-plain, text_test x.name y.name) at e)).0

place_tells : (x y : ReleaseRow)
    → agree plain (in_cells (2 ∷ [])) (release_cells x) (in_cells (2 ∷ [])) (release_cells y)
    ≡ true → x.place ≡ y.place
place_tells x y e = (number_is x.place y.place true
    (rw (first_key-plain, int_test x.place y.place) at e)).0

attached_tells : (x y : AttachedRow)
    → agree plain (in_cells (1 ∷ 2 ∷ [])) (attached_cells x) (in_cells (1 ∷ 2 ∷ []))
    (attached_cells y) ≡ true → attached_key x ≡ attached_key y
attached_tells x y e =
    let tests : (bytes_eq x.release y.release && ((x.document == y.document) && true)) ≡ true =
    rw (first_key-plain, text_test x.release y.release, int_test x.document y.document) at e in
    let release = text_is x.release y.release _ tests in
    let document = number_is x.document y.document true release.1 in
    λ i. (release.0 i, document.0 i)

-- a term of a package of a release
record IsTerm (r s : List ℕ) (d c : ℕ) (p q t u : List ℕ) (rest : Bool) : Type 0 where
  release : r ≡ s
  document : d ≡ c
  package_id : p ≡ q
  term : t ≡ u
  others : rest ≡ true

term_is : (r s : List ℕ) (d c : ℕ) (p q t u : List ℕ) (rest : Bool)
    → (bytes_eq r s && ((d == c) && (bytes_eq p q && (bytes_eq t u && rest)))) ≡ true
    → IsTerm r s d c p q t u rest
term_is r s d c p q t u rest e =
    let release = text_is r s _ e in
    let document = number_is d c _ release.1 in
    let package_id = text_is p q _ document.1 in
    let term = text_is t u rest package_id.1 in
    record {
      release = release.0;
      document = document.0;
      package_id = package_id.0;
      term = term.0;
      others = term.1;
    }

choice_tells : (x y : ChoiceRow)
    → agree plain (in_cells (1 ∷ 2 ∷ 3 ∷ 4 ∷ [])) (choice_cells x) (in_cells (1 ∷ 2 ∷ 3 ∷ 4 ∷ []))
    (choice_cells y) ≡ true → choice_key x ≡ choice_key y
choice_tells x y e =
    let is = term_is x.release y.release x.document y.document x.package_id y.package_id x.term
    y.term true (rw (
      first_key-plain,
      text_test x.release y.release,
      int_test x.document y.document,
      text_test x.package_id y.package_id,
      text_test x.term y.term,
    ) at e) in
    λ i. (is.release i, is.document i, is.package_id i, is.term i)

frozen_tells : (x y : FrozenRow)
    → agree plain (in_cells (1 ∷ 2 ∷ 3 ∷ 4 ∷ [])) (frozen_cells x) (in_cells (1 ∷ 2 ∷ 3 ∷ 4 ∷ []))
    (frozen_cells y) ≡ true → frozen_key x ≡ frozen_key y
frozen_tells x y e =
    let is = term_is x.release y.release x.document y.document x.package_id y.package_id x.term
    y.term true (rw (
      first_key-plain,
      text_test x.release y.release,
      int_test x.document y.document,
      text_test x.package_id y.package_id,
      text_test x.term y.term,
    ) at e) in
    λ i. (is.release i, is.document i, is.package_id i, is.term i)

duty_tells : (x y : DutyRow)
    → agree plain (in_cells (0 ∷ [])) (duty_cells x) (in_cells (0 ∷ [])) (duty_cells y)
    ≡ true → x.number ≡ y.number
duty_tells x y e = (number_is x.number y.number true
    (rw (first_key-plain, int_test x.number y.number) at e)).0

owed_tells : (x y : DutyRow) → agree plain (in_cells (2 ∷ 3 ∷ 4 ∷ 5 ∷ 6 ∷ [])) (duty_cells x)
    (in_cells (2 ∷ 3 ∷ 4 ∷ 5 ∷ 6 ∷ [])) (duty_cells y) ≡ true → key_of x ≡ key_of y
owed_tells x y e =
    let is = term_is x.release y.release x.document y.document x.package_id y.package_id x.term
    y.term (bytes_eq x.code y.code && true) (rw (
      first_key-plain,
      text_test x.release y.release,
      int_test x.document y.document,
      text_test x.package_id y.package_id,
      text_test x.term y.term,
      text_test x.code y.code,
    ) at e) in
    let code = text_is x.code y.code true is.others in
    λ i. (is.release i, is.document i, is.package_id i, is.term i, code.0 i)

change_tells : (x y : ChangeRow)
    → agree plain (in_cells (1 ∷ 2 ∷ [])) (change_cells x) (in_cells (1 ∷ 2 ∷ [])) (change_cells y)
    ≡ true → change_key x ≡ change_key y
change_tells x y e = two_numbers x.duty y.duty x.step y.step
    (rw (first_key-plain, int_test x.duty y.duty, int_test x.step y.step) at e)

reading_tells : (x y : DocumentRow)
    → agree plain (in_cells (0 ∷ [])) (reading_cells x) (in_cells (0 ∷ [])) (reading_cells y)
    ≡ true → x.number ≡ y.number
reading_tells x y e = (number_is x.number y.number true
    (rw (first_key-plain, int_test x.number y.number) at e)).0

waiver_tells : (x y : ChangeRow)
    → agree plain (in_cells (1 ∷ 2 ∷ [])) (waiver_cells x) (in_cells (1 ∷ 2 ∷ [])) (waiver_cells y)
    ≡ true → change_key x ≡ change_key y
waiver_tells x y e = two_numbers x.duty y.duty x.step y.step
    (rw (first_key-plain, int_test x.duty y.duty, int_test x.step y.step) at e)

-- ---- all tables

pub have_keys : (t : Tables) → HaveOwnKeys t → HaveKeys (rows_of t)
have_keys t own =
    let rules = once rule_cells rule_key (1 ∷ 2 ∷ 3 ∷ []) rule_tells t.rule own.rules in
    let packages = once package_cells package_key (1 ∷ 2 ∷ []) package_tells t.packages
    own.packages in
    let extracted = once extracted_cells extracted_key (1 ∷ 2 ∷ []) extracted_tells t.extracted
    own.extracted in
    let conclusions = once conclusion_cells conclusion_key (1 ∷ 2 ∷ []) conclusion_tells
    t.conclusion own.conclusions in
    let adoptions = once adoption_cells adoption_key (1 ∷ 2 ∷ []) adoption_tells t.adoption
    own.adoptions in
    let releases = once release_cells (λ (row : ReleaseRow). row.name) (1 ∷ []) release_tells
    t.releases own.releases in
    let places = once release_cells (λ (row : ReleaseRow). row.place) (2 ∷ []) place_tells
    t.releases own.places in
    let attached = once attached_cells attached_key (1 ∷ 2 ∷ []) attached_tells t.attached
    own.attached in
    let choices = once choice_cells choice_key (1 ∷ 2 ∷ 3 ∷ 4 ∷ []) choice_tells t.choice
    own.choices in
    let frozen = once frozen_cells frozen_key (1 ∷ 2 ∷ 3 ∷ 4 ∷ []) frozen_tells t.frozen
    own.frozen in
    let changes = once change_cells change_key (1 ∷ 2 ∷ []) change_tells t.changes own.changes in
    let waivers = once waiver_cells change_key (1 ∷ 2 ∷ []) waiver_tells
    (filter is_waiver t.changes) (distinct-filter change_key is_waiver t.changes own.changes) in (
      (one_row meta_cells (0 ∷ []), tt),
      (
        (
          once catalogue_cells (λ (row : CatalogueRow). row.revision) (0 ∷ []) catalogue_tells
              t.catalogue own.revisions,
          tt,
        ),
        (
          (rules, (rules, tt)),
          (
            (
              once document_cells (λ (row : DocumentRow). row.number) (0 ∷ []) document_tells
                  t.document own.documents,
              (
                once document_cells (λ (row : DocumentRow). row.namespace) (2 ∷ []) namespace_tells
                    t.document own.namespaces,
                tt,
              ),
            ),
            (
              (packages, (packages, tt)),
              (
                (extracted, (extracted, tt)),
                (
                  (conclusions, (conclusions, tt)),
                  (
                    (adoptions, (adoptions, tt)),
                    (
                      (releases, (places, (releases, tt))),
                      (
                        (attached, (attached, tt)),
                        (
                          (choices, (choices, tt)),
                          (
                            (frozen, (frozen, tt)),
                            (
                              (
                                once duty_cells (λ (row : DutyRow). row.number) (0 ∷ []) duty_tells
                                    t.duty own.duties,
                                (
                                  once duty_cells key_of (2 ∷ 3 ∷ 4 ∷ 5 ∷ 6 ∷ []) owed_tells t.duty
                                      own.owed,
                                  tt,
                                ),
                              ),
                              (
                                (changes, (changes, tt)),
                                (
                                  (
                                    once reading_cells (λ (row : DocumentRow). row.number) (0 ∷ [])
                                        reading_tells t.document own.documents,
                                    tt,
                                  ),
                                  (
                                    (waivers, (waivers, tt)),
                                    tt,
                                  ),
                                ),
                              ),
                            ),
                          ),
                        ),
                      ),
                    ),
                  ),
                ),
              ),
            ),
          ),
        ),
      ),
    )
