-- The first package with a name and a version.
use Rattle.std.proofs.Common.{◌≡◌, ◌∙◌, ℕ, ◌+◌, ◌<◌, Bool, true, false, cond, List, [], ◌∷◌, ◌++◌}
use Rattle.std.proofs.Common.{Option, None, Some, length, take, drop, get_or, sym, ap, refl, nat_cmp}
use Rattle.std.proofs.Common.{is_eq}
use Rattle.std.specs.Prelude.{◌&&◌, ◌==◌, find, not}
use Rattle.std.specs.BTreeMap.{BTreeMap, get, Updates}
use Rattle.std.specs.Cmp.Lexicographic.{slice_cmp}
use Rattle.std.specs.Option.{option_cmp, option_map, option_map_or, option_or}
use Rattle.std.specs.Str.{bytes_eq}
use Rattle.std.proofs.lemmas.List.{take-append-drop}
use Rattle.std.proofs.lemmas.List.Folds.{find-append}
use Rattle.std.proofs.lemmas.Map.Text.{is_eq-slice_cmp}
use Rattle.std.proofs.lemmas.Slice.Eq.{bytes_eq-Decides}
use Rattle.desk_base.proofs.Lists.{drop_item}
use Rattle.desk_base.proofs.Orders.{either_equal}
use Rattle.desk_base.proofs.Texts.{texts_equal}
use Rattle.desk_model.specs.Gaps.{is_namesake, is_same_version}
use Rattle.desk_model.specs.declared.row.PackageRow.{PackageRow}
use Rattle.desk_bills.specs.Lacking.{Knows, are_elsewhere, first_document, namesake_cmp, namesake_of}
use Rattle.desk_bills.specs.declared.namesakes.Namesake.{Namesake}

-- ---- names and versions

version_tied : (a b : Option (List ℕ))
    → is_eq (option_cmp (slice_cmp nat_cmp) a b) ≡ is_same_version a b
version_tied None None = refl
version_tied None (Some b) = refl
version_tied (Some a) None = refl
version_tied (Some a) (Some b) = is_eq-slice_cmp a b

tied : (p q : PackageRow) → is_eq (namesake_cmp (namesake_of p) (namesake_of q)) ≡ is_namesake q p
tied p q = either_equal (slice_cmp nat_cmp p.name q.name)
    (option_cmp (slice_cmp nat_cmp) p.version q.version)
    ∙ (λ i. is_eq-slice_cmp p.name q.name i && version_tied p.version q.version i)

both : (a b : Bool) → (a && b) ≡ true → (a ≡ true) × (b ≡ true)
both true b is = (refl, is)
both false b is = cc

version_equal : (a b : Option (List ℕ)) → is_same_version a b ≡ true → a ≡ b
version_equal None None is = refl
version_equal None (Some b) is = cc
version_equal (Some a) None is = cc
version_equal (Some a) (Some b) is = ap Some (texts_equal a b is)

-- namesakes have the same name and version
alike : (p q : PackageRow) → is_namesake p q ≡ true → namesake_of q ≡ namesake_of p
alike p q is =
    let parts = both (bytes_eq q.name p.name) (is_same_version q.version p.version) is in
    let name : q.name ≡ p.name = texts_equal q.name p.name parts.0 in
    let version : q.version ≡ p.version = version_equal q.version p.version parts.1 in
    (λ i. record { name = name i; version = version i })

own_version : (a : Option (List ℕ)) → is_same_version a a ≡ true
own_version None = refl
own_version (Some a) = (bytes_eq-Decides a a).1 refl

own : (p : PackageRow) → is_namesake p p ≡ true
own p = (λ i. (bytes_eq-Decides p.name p.name).1 refl i && own_version p.version i)

-- ---- the first of them

or_none : {X : Type 0} (o : Option X) → option_or o None ≡ o
or_none None = refl
or_none (Some x) = refl

with_one : (p : PackageRow) (ps : List PackageRow) (q : PackageRow)
    → find (is_namesake p) (ps ++ q ∷ [])
    ≡ option_or (find (is_namesake p) ps) (cond (is_namesake p q) (Some q) None)
with_one p ps q = find-append (is_namesake p) ps (q ∷ [])

abbrev document : PackageRow → ℕ
document p = p.document

kept : (o x : Option PackageRow) (d : ℕ) → option_map document o ≡ Some d → option_or o x ≡ o
kept None x d is = cc
kept (Some p) x d is = refl

lost : (o : Option PackageRow) (p : PackageRow) → option_map document o ≡ None
    → option_or o (Some p) ≡ Some p
lost None p is = refl
lost (Some q) p is = cc

module _ (ps : List PackageRow) (m : BTreeMap Namesake ℕ) (knows : Knows ps m)
    (p : PackageRow) where
  -- one more package, of a name and version that were noted
  pub knows_again : (d : ℕ) → get namesake_cmp m (namesake_of p) ≡ Some d → Knows (ps ++ p ∷ []) m
  knows_again d there q = knows q
      ∙ ap (option_map document) (sym (with_one q ps p ∙ by (is_namesake q p) refl))
    where
      by : (b : Bool) → is_namesake q p ≡ b
          → option_or (find (is_namesake q) ps) (cond b (Some p) None) ≡ find (is_namesake q) ps
      by true is = kept (find (is_namesake q) ps) (Some p) d
          (sym (knows q) ∙ ap (get namesake_cmp m) (sym (alike q p is)) ∙ there)
      by false is = or_none (find (is_namesake q) ps)

  -- one more package, which is noted
  pub knows_more : get namesake_cmp m (namesake_of p) ≡ None → (n : BTreeMap Namesake ℕ)
      → Updates namesake_cmp m n (namesake_of p) (Some p.document) → Knows (ps ++ p ∷ []) n
  knows_more away n put q = put.0 (namesake_of q)
      ∙ ap (λ b. cond b (Some p.document) (get namesake_cmp m (namesake_of q))) (tied p q)
      ∙ by (is_namesake q p) refl ∙ ap (option_map document) (sym (with_one q ps p))
    where
      by : (b : Bool) → is_namesake q p ≡ b
          → cond b (Some p.document) (get namesake_cmp m (namesake_of q))
          ≡ option_map document (option_or (find (is_namesake q) ps) (cond b (Some p) None))
      by true is = ap (option_map document) (sym (lost (find (is_namesake q) ps) p
          (sym (knows q) ∙ ap (get namesake_cmp m) (sym (alike q p is)) ∙ away)))
      by false is = knows q ∙ ap (option_map document) (sym (or_none (find (is_namesake q) ps)))

  first_of : (o : Option PackageRow) (found : Option ℕ) → found ≡ option_map document o
      → option_map_or document o p.document ≡ option_map_or (λ d. d) found p.document
  first_of None found is = ap (λ f. option_map_or (λ d. d) f p.document) (sym is)
  first_of (Some q) found is = ap (λ f. option_map_or (λ d. d) f p.document) (sym is)

  pub found_first : (d : ℕ) → get namesake_cmp m (namesake_of p) ≡ Some d → d ≡ first_document ps p
  found_first d there = sym (first_of (find (is_namesake p) ps) (Some d) (sym there ∙ knows p))

  pub own_first : get namesake_cmp m (namesake_of p) ≡ None → p.document ≡ first_document ps p
  own_first away = sym (first_of (find (is_namesake p) ps) None (sym away ∙ knows p))

elsewhere_by : (o : Option PackageRow) (p : PackageRow)
    → option_map_or (λ other. not (other.document == p.document)) (option_or o (Some p)) false
    ≡ not (option_map_or document o p.document == p.document)
elsewhere_by None p = refl
elsewhere_by (Some q) p = refl

-- the first package with the name and version of one is in another document exactly if the first
-- up to it is
pub elsewhere_first : (ps : List PackageRow) (i : ℕ) (p : PackageRow) → i < length ps
    → p ≡ get_or ps i p → are_elsewhere ps p ≡ not (first_document (take i ps) p == p.document)
elsewhere_first ps i p lt is =
    let whole : take i ps ++ p ∷ drop (i + 1) ps ≡ ps =
    ap (λ rest. take i ps ++ rest) (sym (drop_item ps i p lt is)) ∙ take-append-drop i ps in
    let found : find (is_namesake p) ps ≡ option_or (find (is_namesake p) (take i ps)) (Some p) =
    ap (find (is_namesake p)) (sym whole)
    ∙ find-append (is_namesake p) (take i ps) (p ∷ drop (i + 1) ps)
    ∙ ap (λ b. option_or (find (is_namesake p) (take i ps))
    (cond b (Some p) (find (is_namesake p) (drop (i + 1) ps)))) (own p) in
    ap (λ o. option_map_or (λ other. not (other.document == p.document)) o false) found
    ∙ elsewhere_by (find (is_namesake p) (take i ps)) p
