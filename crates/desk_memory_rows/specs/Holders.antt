-- The releases that hold a choice for a package.
use Rattle.std.specs.Prelude.{◌≡◌, ℕ, ◌==◌, ◌&&◌, not, Bool, List, [], ◌∷◌, filter, Option, Some, None}
use Rattle.std.specs.List.{list_any}
use Rattle.std.specs.Ordering.{nat_cmp, ordering_then, on, then_cmp}
use Rattle.std.specs.Cmp.Lexicographic.{slice_cmp}
use Rattle.std.specs.Str.{bytes_eq}
use Rattle.std.specs.declared.cmp.Ordering.{Ordering}
use Rattle.desk_model.specs.Lists.{IsIn, replaced}
use Rattle.desk_model.specs.Keys.{below_by, is_choice_in, is_choice_of}
use Rattle.desk_model.specs.Tables.{Tables}
use Rattle.desk_model.specs.declared.row.ChoiceRow.{ChoiceRow}
use Rattle.desk_model.specs.declared.row.ReleaseRow.{ReleaseRow}
use Rattle.desk_model.specs.declared.command.Change.{Change}
use Rattle.desk_model.specs.declared.command.Change.TheVariants as change
use Rattle.desk_tally.specs.Kept.{place_found}
use Rattle.desk_memory_rows.specs.declared.holders.Holder.{Holder}

-- by document and package, then in the order in which the releases were opened
abbrev pub holder_order : Holder → Holder → Ordering
holder_order =
    then_cmp (then_cmp (then_cmp (on (λ row. row.document) nat_cmp)
    (on (λ row. row.package_id) (slice_cmp nat_cmp))) (on (λ row. row.place) nat_cmp))
    (on (λ row. row.release) (slice_cmp nat_cmp))

-- it holds a choice for this package
abbrev pub is_held : ℕ → List ℕ → Holder → Bool
is_held document id row = (row.document == document) && bytes_eq row.package_id id

-- Less for a holder before those for this package, Equal for these, Greater for a holder behind
-- them
abbrev pub held_side : ℕ → List ℕ → Holder → Ordering
held_side document id row = ordering_then (nat_cmp row.document document)
    (slice_cmp nat_cmp row.package_id id)

-- it is this release at this place
abbrev pub is_of : ℕ → List ℕ → Holder → Bool
is_of place release row = (row.place == place) && bytes_eq row.release release

-- both
abbrev pub is_holding : ℕ → List ℕ → ℕ → List ℕ → Holder → Bool
is_holding document id place release row = (is_held document id row && (row.place == place))
    && bytes_eq row.release release

-- the same for the holder of a choice for a package in one release
abbrev pub holding_side : ℕ → List ℕ → ℕ → List ℕ → Holder → Ordering
holding_side document id place release row =
    ordering_then (ordering_then (held_side document id row) (nat_cmp row.place place))
    (slice_cmp nat_cmp row.release release)

-- the release with this name holds a choice for this package
abbrev pub is_holder : List ℕ → ℕ → List ℕ → Holder → Bool
is_holder release document id row = bytes_eq row.release release && is_held document id row

-- a release at a place, as the holder of a choice for a package
abbrev pub holder_of : List ℕ → ℕ → ℕ → List ℕ → Holder
holder_of release place document id = record {
  document = document;
  package_id = id;
  place = place;
  release = release;
}

-- They are the holders of these tables: each is at the place of its release, a release is among
-- them for a package if and only if it holds a choice for it, and no two releases have the same
-- name.
pub record AreHolders (holders : List Holder) (t : Tables) : Type 0 where
  pub placed : (holder : Holder) → IsIn holder holders
      → place_found t.releases holder.release ≡ Some holder.place
  pub holding : (r : List ℕ) (d : ℕ) (p : List ℕ)
      → list_any (is_holder r d p) holders ≡ list_any (is_choice_of r d p) t.choice
  pub apart : (row : ReleaseRow) → IsIn row t.releases
      → place_found t.releases row.name ≡ Some row.place

-- after a choice for a package, in the release at a place
abbrev pub choosing : List ℕ → Option ℕ → ℕ → List ℕ → List ChoiceRow → List Holder → List Holder
choosing release None document id rows all = all
choosing release (Some place) document id [] all = filter
    (λ holder. not (is_holding document id place release holder)) all
choosing release (Some place) document id (row ∷ rows) all = replaced (below_by holder_order)
    (is_holding document id place release) (holder_of release place document id) all

-- it holds one of these choices, in the release at this place
abbrev pub is_among : ℕ → List ChoiceRow → Holder → Bool
is_among place rows holder = list_any
    (λ row. is_holding row.document row.package_id place row.release holder) rows

-- after a release at a place no longer holds any of these choices
abbrev pub letting_go : ℕ → List ChoiceRow → List Holder → List Holder
letting_go place rows all = filter (λ holder. not (is_among place rows holder)) all

-- the same for a release that may not be there: then nothing changes
abbrev pub leaving : Option ℕ → List ChoiceRow → List Holder → List Holder
leaving None rows all = all
leaving (Some place) rows all = letting_go place rows all

-- after the release at a place is withdrawn
abbrev pub withdrawing : List ℕ → Option ℕ → List Holder → List Holder
withdrawing release None all = all
withdrawing release (Some place) all = filter (λ holder. not (is_of place release holder)) all

-- after a change of these tables
abbrev pub holders_after : Change → Tables → List Holder → List Holder
holders_after (change.Chosen release document id rows) t all = choosing release
    (place_found t.releases release) document id rows all
holders_after (change.Withdrew release rows) t all = leaving (place_found t.releases release)
    (filter (is_choice_in release) t.choice) all
holders_after _ t all = all
