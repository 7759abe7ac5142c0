-- What the check of a document knows about the fields that it has passed.
use Rattle.std.specs.Prelude.{◌≡◌, ◌≤◌, ℕ, Bool, List, length, drop, map, reverse, count_by}
use Rattle.std.specs.Ordering.{nat_cmp}
use Rattle.std.specs.Cmp.Lexicographic.{slice_cmp}
use Rattle.std.specs.BTreeSet.{BTreeSet, contains_by}
use denote.Ref.{Bor}
use Rattle.desk_tagvalue.specs.declared.entries.Entry.{Entry}
use Rattle.desk_tagvalue.specs.declared.faults.Ids.{Ids}
use Rattle.desk_tagvalue.specs.declared.faults.Seen.{Seen}
use Rattle.desk_tagvalue.specs.Entries.{EntryText, entry_text}
use Rattle.desk_tagvalue.specs.Faults.{begins, kind_of, section, has_element, has_licence}

-- some fields, the newest first
abbrev pub newest : List Entry → List EntryText
newest entries = reverse (map entry_text entries)

-- the set has the identifier
abbrev pub has_key : List ℕ → BTreeSet (Bor (List ℕ)) → Bool
has_key id s = contains_by (λ (k : Bor (List ℕ)). slice_cmp nat_cmp id k.now) s

-- the two sets have the identifiers of the fields passed: of elements, and of extracted licences
pub record HoldsIds (before : List EntryText) (ids : Ids) : Type 0 where
  pub elements : (q : List ℕ) → has_key q ids.elements ≡ has_element q before
  pub licences : (q : List ℕ) → has_key q ids.licences ≡ has_licence q before

-- the kind of the open section, the place of its first field, how many elements were begun, and the
-- identifiers named so far
pub record Knows (before : List Entry) (s : Seen) : Type 0 where
  pub kind : s.kind ≡ kind_of (newest before)
  pub start : s.start ≤ length before
  pub here : section (newest before) ≡ newest (drop s.start before)
  pub elements : s.elements ≡ count_by begins (newest before)
  pub ids : HoldsIds (newest before) s.ids
