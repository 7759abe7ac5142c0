-- A document whose one relationship says that it describes its one package ships it.
use Rattle.std.proofs.Common.{◌≡◌, ◌∙◌, ℕ, zero, suc, ◌+◌, Bool, true, false, cond, List, [], ◌∷◌}
use Rattle.std.proofs.Common.{◌++◌, length, ap, sym, subst, refl, arith, Some, None}
use Rattle.std.specs.Prelude.{◌||◌, ◌&&◌, ◌==◌, not, nat_le, Contains, codes, map, filter}
use Rattle.std.specs.List.{filter_map, cons_option, list_any, range_with_len}
use Rattle.std.specs.List.Sorted.{IsPermutation}
use Rattle.std.specs.Str.{bytes_eq}
use Rattle.std.proofs.lemmas.Bool.{eqb-true, leb-true}
use Rattle.std.proofs.lemmas.List.Sorted.{IsPermutation-refl}
use Rattle.desk_bom.specs.declared.arrows.Arrow.{Arrow}
use Rattle.desk_bom.specs.Elements.{element_ids, element_named, file_ids, snippet_ids}
use Rattle.desk_bom.specs.Marks.{IsClosedFrom, IsLeastFrom}
use Rattle.desk_bom.specs.Places.{place_of}
use Rattle.desk_bom.specs.Shipping.{ships_right, ships_left, arrow_between, shipping_arrow}
use Rattle.desk_bom.specs.Shipping.{shipping_arrows, touches_document, describes, is_described}
use Rattle.desk_bom.specs.Shipping.{is_start, AreShipped, AreShippingMarks}
use Rattle.desk_tagvalue.specs.Given.{IsOnlyEdge}
use Rattle.desk_tagvalue.specs.Parts.{DocumentText, PackageText, EdgeText}

abbrev pub IsDescribing : EdgeText → Type 0
IsDescribing e = (e.left ≡ codes "SPDXRef-DOCUMENT") × (e.kind ≡ codes "DESCRIBES")
    × (e.right ≡ codes "SPDXRef-Package")

pub only_edge : (es : List EdgeText) → IsOnlyEdge es
    → (e : EdgeText) × (es ≡ e ∷ []) × IsDescribing e
only_edge [] is = absurd is
only_edge (e ∷ []) is = (e, refl, is)
only_edge (e ∷ f ∷ es) is = absurd is

only_member : {A : Type 0} (x y : A) → Contains (x ∷ []) y → x ≡ y
only_member x y (zero, within, is) = is
only_member x y (suc k, within, is) = absurd (omega (arith, within))

either_false : (b : Bool) → (b || false) ≡ true → b ≡ true
either_false true is = refl
either_false false is = absurd cc

abbrev to_package : Arrow
to_package = record { from = 0; to = 1 }

-- the document and its package
abbrev two : ℕ → Bool
two a = nat_le a 1

module _ (x : DocumentText) (p : PackageText) (e : EdgeText) (packages : x.packages ≡ p ∷ [])
    (id : p.id ≡ codes "SPDXRef-Package") (edges : x.edges ≡ e ∷ []) (is : IsDescribing e) where
  ids : element_ids x ≡ codes "SPDXRef-DOCUMENT" ∷ codes "SPDXRef-Package"
      ∷ (file_ids x ++ snippet_ids x)
  ids =
      ap (λ ps. codes "SPDXRef-DOCUMENT"
      ∷ (map (λ (q : PackageText). q.id) ps ++ (file_ids x ++ snippet_ids x))) packages
      ∙ ap (λ i. codes "SPDXRef-DOCUMENT" ∷ i ∷ (file_ids x ++ snippet_ids x)) id

  package_named : element_named x (codes "SPDXRef-Package") ≡ Some 1
  package_named = ap (place_of (codes "SPDXRef-Package")) ids

  between : arrow_between (element_named x e.left) (element_named x e.right) ≡ Some to_package
  between =
      ap (λ i. arrow_between (element_named x i) (element_named x e.right)) is.0
      ∙ ap (λ i. arrow_between (element_named x (codes "SPDXRef-DOCUMENT")) (element_named x i))
      is.2 ∙ ap (arrow_between (Some 0)) package_named

  arrow : shipping_arrow x e ≡ Some to_package
  arrow =
      ap (λ k. cond (ships_right k)
      (arrow_between (element_named x e.left) (element_named x e.right))
      (cond (ships_left k) (arrow_between (element_named x e.right) (element_named x e.left)) None))
      is.1
      ∙ between

  arrows : shipping_arrows x ≡ to_package ∷ []
  arrows = ap (filter_map (shipping_arrow x)) edges ∙ ap (λ o. cons_option o []) arrow

  described : is_described x ≡ true
  described =
      ap (list_any (describes x)) edges
      ∙ ap (λ k. (bytes_eq k (codes "DESCRIBES") || bytes_eq k (codes "DESCRIBED_BY"))
      && touches_document (arrow_between (element_named x e.left) (element_named x e.right))
      || false) is.1
      ∙ ap (λ o. touches_document o || false) between

  starts : (a : ℕ) → is_start x a ≡ true → two a ≡ true
  starts a begun =
      let first = either_false (a == 0)
      (ap (λ b. a == 0 || not b && nat_le 1 a && nat_le a (length x.packages)) (sym described)
      ∙ begun) in
      ap two (eqb-true a 0 first)

  closed : IsClosedFrom (is_start x) (shipping_arrows x) two
  closed = record {
    starts = starts;
    arrows_within = λ y at from. ap (λ z. two z.to)
        (sym (only_member to_package y (subst (λ l. Contains l y) arrows at)));
  }

  least : (other : ℕ → Bool) → IsClosedFrom (is_start x) (shipping_arrows x) other → (a : ℕ)
      → two a ≡ true → other a ≡ true
  least other is zero within = is.starts 0 refl
  least other is (suc zero) within = is.arrows_within to_package
      (subst (λ l. Contains l to_package) (sym arrows) (0, omega arith, refl)) (is.starts 0 refl)
  least other is (suc (suc a)) within = absurd (let low = leb-true (suc (suc a)) 1 within in
      omega arith)

  least_set : IsLeastFrom (is_start x) (shipping_arrows x) two
  least_set = record { closed = closed; least = least }

  one_package : length x.packages ≡ 1
  one_package = ap length packages

  pub package_ships : AreShipped x (0 ∷ [])
  package_ships = record {
    set = two;
    least = least_set;
    each = subst (λ n. IsPermutation (filter (λ k. two (k + 1)) (range_with_len 0 n)) (0 ∷ []))
        (sym one_package) (IsPermutation-refl (0 ∷ []));
    ordered = λ k d low within. absurd (omega (arith, within));
  }

  pub package_marked : AreShippingMarks x (true ∷ [])
  package_marked = record {
    set = two;
    least = least_set;
    are = ap (λ n. map (λ k. two (k + 1)) (range_with_len 0 n)) (sym one_package);
  }
