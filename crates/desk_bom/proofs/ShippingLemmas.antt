-- What ships.
use Rattle.std.proofs.Common.{◌≡◌, ◌∙◌, ℕ, ◌+◌, ◌<◌, Bool, true, false, cond, List, [], ◌∷◌, ◌++◌}
use Rattle.std.proofs.Common.{length, get_or, ap, sym, subst, refl, arith, append-nil}
use Rattle.std.specs.Prelude.{Option, Some, None, All, map, filter, slice_index_or}
use Rattle.std.specs.List.{filter_map, cons_option, range_with_len}
use Rattle.std.proofs.lemmas.List.Elements.{All-nil, All-cons}
use Rattle.std.specs.Ordering.{nat_cmp, is_lt}
use Rattle.std.specs.Cmp.Lexicographic.{slice_cmp}
use Rattle.std.specs.List.Sorted.{IsPermutation, IsSorted, IsSortedBy}
use Rattle.std.proofs.lemmas.List.Sorted.{IsPermutation-map}
use Rattle.std.proofs.lemmas.Simd.{map-map}
use Rattle.std.proofs.lemmas.List.{map-id, get_or-map, length-map}
use Rattle.desk_tagvalue.specs.declared.parts.Package.{Package}
use Rattle.desk_tagvalue.specs.declared.reading.Document.{Document}
use Rattle.desk_tagvalue.specs.Documents.{document_text}
use Rattle.desk_tagvalue.specs.Views.{package_text}
use Rattle.desk_bom.specs.declared.shipping.Named.{Named}
use Rattle.desk_bom.specs.Marks.{among, IsLeastFrom}
use Rattle.std.proofs.lemmas.List.FromFn.{filter_of_map_range_with_len_more}
use Rattle.desk_bom.specs.declared.arrows.Arrow.{Arrow}
use Rattle.desk_bom.specs.Elements.{package_ids, element_ids, element_named}
use Rattle.desk_bom.specs.Shipping.{ships_right, ships_left, arrow_between, shipping_arrow}
use Rattle.desk_bom.specs.Shipping.{shipping_arrows, is_start, AreShipped}
use Rattle.desk_bom.proofs.ElementLemmas.{place_within}
use Rattle.desk_tagvalue.specs.Parts.{DocumentText, PackageText, EdgeText}

-- if there is an arrow, it leads to less than n
abbrev IsWithin : ℕ → Option Arrow → Type 0
IsWithin n None = Unit {0}
IsWithin n (Some x) = x.to < n

module _ (d : DocumentText) where
  named_within : (from : Option ℕ) (id : List ℕ)
      → IsWithin (length (element_ids d)) (arrow_between from (element_named d id))
  named_within from id = at from (element_named d id) refl
    where
      at : (a b : Option ℕ) → element_named d id ≡ b
          → IsWithin (length (element_ids d)) (arrow_between a b)
      at None b e = tt
      at (Some m) None e = tt
      at (Some m) (Some n) e = place_within id (element_ids d) n e

  arrow_within : (e : EdgeText) → IsWithin (length (element_ids d)) (shipping_arrow d e)
  arrow_within e = at (ships_right e.kind) (ships_left e.kind)
    where
      at : (a b : Bool) → IsWithin (length (element_ids d))
          (cond a (arrow_between (element_named d e.left) (element_named d e.right))
          (cond b (arrow_between (element_named d e.right) (element_named d e.left)) None))
      at true b = named_within (element_named d e.left) e.right
      at false true = named_within (element_named d e.right) e.left
      at false false = tt

  all_within : (es : List EdgeText)
      → All (λ (x : Arrow). x.to < length (element_ids d)) (filter_map (shipping_arrow d) es)
  all_within [] = All-nil (λ (x : Arrow). x.to < length (element_ids d))
  all_within (e ∷ es) = at (shipping_arrow d e) (arrow_within e) (all_within es)
    where
      at : (o : Option Arrow) → IsWithin (length (element_ids d)) o
          → All (λ (x : Arrow). x.to < length (element_ids d)) (filter_map (shipping_arrow d) es)
          → All (λ (x : Arrow). x.to < length (element_ids d))
          (cons_option o (filter_map (shipping_arrow d) es))
      at None h rest = rest
      at (Some x) h rest = All-cons (λ (y : Arrow). y.to < length (element_ids d)) x
          (filter_map (shipping_arrow d) es) h rest

  -- the arrows lead to elements
  pub arrows_within : All (λ (x : Arrow). x.to < length (element_ids d)) (shipping_arrows d)
  arrows_within = all_within d.edges

filter_range_more : (p : ℕ → Bool) (n : ℕ)
    → filter p (range_with_len 0 (n + 1)) ≡ filter p (range_with_len 0 n) ++ cond (p n) (n ∷ []) []
filter_range_more p n =
    ap (filter p) (sym (map-id (range_with_len 0 (n + 1))))
    ∙ filter_of_map_range_with_len_more p (λ x. x) 0 n n (omega arith)
    ∙ ap (λ l. filter p l ++ cond (p n) (n ∷ []) []) (map-id (range_with_len 0 n))

pub range_kept : (p : ℕ → Bool) (n : ℕ) (found : List ℕ) → p n ≡ true
    → found ≡ filter p (range_with_len 0 n) → found ++ n ∷ [] ≡ filter p (range_with_len 0 (n + 1))
range_kept p n found met is = ap (λ l. l ++ n ∷ []) is
    ∙ ap (λ b. filter p (range_with_len 0 n) ++ cond b (n ∷ []) []) (sym met)
    ∙ sym (filter_range_more p n)

pub range_over : (p : ℕ → Bool) (n : ℕ) (found : List ℕ) → p n ≡ false
    → found ≡ filter p (range_with_len 0 n) → found ≡ filter p (range_with_len 0 (n + 1))
range_over p n found fails is =
    is ∙ sym (append-nil (filter p (range_with_len 0 n)))
    ∙ ap (λ b. filter p (range_with_len 0 n) ++ cond b (n ∷ []) []) (sym fails)
    ∙ sym (filter_range_more p n)

abbrev pub HasId : List Package → Named → Type 0
HasId packages n = n.id.now ≡ slice_index_or (map (λ (p : Package). p.id.now) packages) n.place []

abbrev below : Named → Named → Bool
below x y = is_lt (slice_cmp nat_cmp x.id.now y.id.now)

module _ (doc : Document) (order : List ℕ) (named moved : List Named)
    (ids : All (HasId doc.packages) moved) (sorted : IsSortedBy below moved) where
  same_ids : map (λ (p : Package). p.id.now) doc.packages ≡ package_ids (document_text doc)
  same_ids = sym (map-map (λ (p : PackageText). p.id) package_text doc.packages)

  id_at : (k d : ℕ) → k < length moved → (n : Named)
      → slice_index_or (package_ids (document_text doc))
      (get_or (map (λ (m : Named). m.place) moved) k d) [] ≡ (get_or moved k n).id.now
  id_at k d inside n =
      ap (λ j. slice_index_or (package_ids (document_text doc)) j [])
      (get_or-map (λ (m : Named). m.place) moved k n d inside)
      ∙ ap (λ l. slice_index_or l (get_or moved k n).place []) (sym same_ids) ∙ sym (ids k n inside)

  places_ordered : IsSorted (λ j k. slice_cmp nat_cmp
      (slice_index_or (package_ids (document_text doc)) j [])
      (slice_index_or (package_ids (document_text doc)) k [])) (map (λ (m : Named). m.place) moved)
  places_ordered k d low inside =
      let long = length-map moved (λ (m : Named). m.place) in
      let n : Named = record { id = record { ref_ptr = (0, 0); now = [] }; place = d } in
      let next : k + 1 < length moved = omega arith in
      ap (λ a. is_lt (slice_cmp nat_cmp a
      (slice_index_or (package_ids (document_text doc))
      (get_or (map (λ (m : Named). m.place) moved) k d) []))) (id_at (k + 1) d next n)
      ∙ ap (λ a. is_lt (slice_cmp nat_cmp (get_or moved (k + 1) n).id.now a))
      (id_at k d (omega arith) n) ∙ sorted k n low next

  pub are_shipped : IsLeastFrom (is_start (document_text doc)) (shipping_arrows (document_text doc))
      (among order)
      → map (λ (m : Named). m.place) named
      ≡ filter (λ k. among order (k + 1)) (range_with_len 0 (length doc.packages))
      → IsPermutation named moved
      → AreShipped (document_text doc) (map (λ (m : Named). m.place) moved)
  are_shipped least is perm = record {
    set = among order;
    least = least;
    each = subst (λ l. IsPermutation l (map (λ (m : Named). m.place) moved))
        (is ∙ ap (λ n. filter (λ k. among order (k + 1)) (range_with_len 0 n))
        (sym (length-map doc.packages package_text)))
        (IsPermutation-map (λ (m : Named). m.place) named moved perm);
    ordered = places_ordered;
  }
