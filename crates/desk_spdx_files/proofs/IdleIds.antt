-- Identifiers of idle files.
use Rattle.std.proofs.Common.{◌≡◌, ◌∙◌, ℕ, List, [], ◌∷◌, ◌++◌, Bool, true, false, filter, refl, sym, ap}
use Rattle.std.proofs.Common.{drop, inl, inr}
use Rattle.std.specs.Prelude.{◌&&◌, ◌||◌, not, codes}
use Rattle.std.specs.Str.{bytes_eq}
use Rattle.serde_json.specs.Data.{Data, Items, no_items, item}
use Rattle.desk_base.proofs.Bools.{and_right, or_left, or_right}
use Rattle.desk_base.proofs.Texts.{same_text, texts_equal}
use Rattle.desk_base.specs.TextSets.{is_among}
use Rattle.desk_spdx_files.specs.Texts.{ids_of, items_of, listed_in, texts_by}
use Rattle.desk_spdx_files.specs.Files.{IsItem, coded_files, document_id, has_codes, is_idle, kind_of}
use Rattle.desk_spdx_files.specs.Files.{left_end, needed_ends, needed_ids, needs_left, needs_right}
use Rattle.desk_spdx_files.specs.Files.{one_if, right_end, ships_left, ships_right}

and_false : (b : Bool) → b && false ≡ false
and_false true = refl
and_false false = refl

-- a text is among those that pass a test if it is among all of them and passes
pub among_filtered : (p : List ℕ → Bool) (ids : List (List ℕ)) (id : List ℕ)
    → is_among (filter p ids) id ≡ (is_among ids id && p id)
among_filtered p [] id = refl
among_filtered p (x ∷ xs) id =
    step (among_filtered p xs id) (p x) refl (bytes_eq x id) refl where
      step : is_among (filter p xs) id ≡ (is_among xs id && p id) → (b : Bool) → p x ≡ b → (same : Bool)
          → bytes_eq x id ≡ same → is_among (filter p (x ∷ xs)) id ≡ (is_among (x ∷ xs) id && p id)
      step more true is true same =
          let here : p id ≡ true = ap p (sym (texts_equal x id same)) ∙ is in rw (is, same, here) refl
      step more true is false other = rw (is, other) more
      step more false is true same =
          let here : p id ≡ false = ap p (sym (texts_equal x id same)) ∙ is in
          rw (is, same, here) (more ∙ ap (λ b. is_among xs id && b) here ∙ and_false (is_among xs id))
      step more false is false other = rw (is, other) more

-- ---- what is idle isn't needed

not_true : (b : Bool) → not b ≡ true → b ≡ false
not_true true e = sym e
not_true false e = refl

none_of : (xs ys : List (List ℕ)) (id : List ℕ) → is_among (xs ++ ys) id ≡ false
    → (is_among xs id ≡ false) × (is_among ys id ≡ false)
none_of [] ys id none = (refl, none)
none_of (x ∷ xs) ys id none =
    let here = or_left (bytes_eq x id) (is_among (xs ++ ys) id) none in
    let more = none_of xs ys id (or_right (bytes_eq x id) (is_among (xs ++ ys) id) none) in
    (rw here more.0, more.1)

none_by : (each : Data → List (List ℕ)) (ds : Items) (d : Data) (id : List ℕ) → IsItem d ds
    → is_among (texts_by each ds) id ≡ false → is_among (each d) id ≡ false
none_by each no_items d id at none = absurd at
none_by each (item x xs) d id at none =
    let both = none_of (each x) (texts_by each xs) id none in
    elim at [
      | inl here ↦ ap (λ y. is_among (each y) id) here ∙ both.0
      | inr there ↦ none_by each xs d id there both.1
    ]

unwanted : (b : Bool) (id : List ℕ) → is_among (one_if b id) id ≡ false → b ≡ false
unwanted true id none = sym (same_text id) ∙ or_left (bytes_eq id id) false none
unwanted false id none = refl

-- an idle identifier is at no end of a relationship that is needed
unneeded_ends : (d r : Data) (id : List ℕ) → IsItem r (items_of (codes "relationships") d)
    → is_idle d id ≡ true → is_among (needed_ends (has_codes d) r) id ≡ false
unneeded_ends d r id at idle =
    let packages = ids_of (codes "packages") (codes "SPDXID") d in
    let snippets = ids_of (codes "snippets") (codes "SPDXID") d in
    let licences = ids_of (codes "hasExtractedLicensingInfos") (codes "licenseId") d in
    let described = listed_in (codes "documentDescribes") d in
    let ends = texts_by (needed_ends (has_codes d)) (items_of (codes "relationships") d) in
    let files = coded_files (has_codes d) (items_of (codes "packages") d) in
    let unneeded = not_true (is_among (needed_ids d) id)
    (and_right (is_among (ids_of (codes "files") (codes "SPDXID") d) id)
    (not (is_among (needed_ids d) id)) idle) in
    let more = packages ++ (snippets ++ (licences ++ (described ++ (ends ++ files)))) in
    let behind_first = or_right (bytes_eq [] id) (bytes_eq document_id id || is_among more id) unneeded in
    let behind_both = or_right (bytes_eq document_id id) (is_among more id) behind_first in
    let one = none_of packages (snippets ++ (licences ++ (described ++ (ends ++ files)))) id behind_both in
    let two = none_of snippets (licences ++ (described ++ (ends ++ files))) id one.1 in
    let three = none_of licences (described ++ (ends ++ files)) id two.1 in
    let four = none_of described (ends ++ files) id three.1 in
    none_by (needed_ends (has_codes d)) (items_of (codes "relationships") d) r id at
    (none_of ends files id four.1).0

unneeded_left : (d r : Data) → IsItem r (items_of (codes "relationships") d)
    → is_idle d (left_end r) ≡ true → needs_left (has_codes d) (kind_of r) ≡ false
unneeded_left d r at idle =
    unwanted (needs_left (has_codes d) (kind_of r)) (left_end r)
    (none_of (one_if (needs_left (has_codes d) (kind_of r)) (left_end r))
    (one_if (needs_right (has_codes d) (kind_of r)) (right_end r)) (left_end r)
    (unneeded_ends d r (left_end r) at idle)).0

unneeded_right : (d r : Data) → IsItem r (items_of (codes "relationships") d)
    → is_idle d (right_end r) ≡ true → needs_right (has_codes d) (kind_of r) ≡ false
unneeded_right d r at idle =
    unwanted (needs_right (has_codes d) (kind_of r)) (right_end r)
    (none_of (one_if (needs_left (has_codes d) (kind_of r)) (left_end r))
    (one_if (needs_right (has_codes d) (kind_of r)) (right_end r)) (right_end r)
    (unneeded_ends d r (right_end r) at idle)).1

pub ships_no_right : (d r : Data) → IsItem r (items_of (codes "relationships") d)
    → is_idle d (left_end r) ≡ true → ships_right (kind_of r) ≡ false
ships_no_right d r at idle =
    or_left (ships_right (kind_of r)) (bytes_eq (kind_of r) (codes "DESCRIBED_BY"))
    (or_left (ships_right (kind_of r) || bytes_eq (kind_of r) (codes "DESCRIBED_BY"))
    (has_codes d && bytes_eq (kind_of r) (codes "CONTAINED_BY")) (unneeded_left d r at idle))

pub is_not_described : (d r : Data) → IsItem r (items_of (codes "relationships") d)
    → is_idle d (left_end r) ≡ true → bytes_eq (kind_of r) (codes "DESCRIBED_BY") ≡ false
is_not_described d r at idle =
    or_right (ships_right (kind_of r)) (bytes_eq (kind_of r) (codes "DESCRIBED_BY"))
    (or_left (ships_right (kind_of r) || bytes_eq (kind_of r) (codes "DESCRIBED_BY"))
    (has_codes d && bytes_eq (kind_of r) (codes "CONTAINED_BY")) (unneeded_left d r at idle))

pub ships_no_left : (d r : Data) → IsItem r (items_of (codes "relationships") d)
    → is_idle d (right_end r) ≡ true → ships_left (kind_of r) ≡ false
ships_no_left d r at idle =
    or_left (ships_left (kind_of r)) (bytes_eq (kind_of r) (codes "DESCRIBES"))
    (or_left (ships_left (kind_of r) || bytes_eq (kind_of r) (codes "DESCRIBES"))
    (has_codes d && bytes_eq (kind_of r) (codes "CONTAINS")) (unneeded_right d r at idle))

pub is_no_described : (d r : Data) → IsItem r (items_of (codes "relationships") d)
    → is_idle d (right_end r) ≡ true → bytes_eq (kind_of r) (codes "DESCRIBES") ≡ false
is_no_described d r at idle =
    or_right (ships_left (kind_of r)) (bytes_eq (kind_of r) (codes "DESCRIBES"))
    (or_left (ships_left (kind_of r) || bytes_eq (kind_of r) (codes "DESCRIBES"))
    (has_codes d && bytes_eq (kind_of r) (codes "CONTAINS")) (unneeded_right d r at idle))

-- an empty text is no identifier
pub empty_stays : (d : Data) → is_idle d [] ≡ false
empty_stays d =
    let ids = ids_of (codes "files") (codes "SPDXID") d in
    let has : is_among (needed_ids d) [] ≡ true = ap (λ b. b || is_among (drop 1 (needed_ids d)) [])
    (same_text []) in
    ap (λ b. is_among ids [] && not b) has ∙ and_false (is_among ids [])
