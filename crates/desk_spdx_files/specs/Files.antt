-- The files of a document without which nothing that ships changes (SPDX 2.3, clauses 7.9, 8 and
-- 11.1). Which relationships ship is this project's own rule, as in the crate `desk_bom`.
use Rattle.std.specs.Prelude.{◌≡◌, ◌⊎◌, ℕ, Bool, ◌&&◌, ◌||◌, not, false, List, [], ◌∷◌, ◌++◌, codes}
use Rattle.std.specs.Prelude.{is_some, if◌then◌else◌}
use Rattle.std.specs.Str.{bytes_eq}
use Rattle.serde_json.specs.Data.{Data, Items, no_items, item}
use Rattle.serde_json.specs.Find.{get}
use Rattle.desk_base.specs.TextSets.{is_among}
use Rattle.desk_spdx_files.specs.declared.idle.Files.{Files}
use Rattle.desk_spdx_files.specs.declared.idle.Files.TheVariants as files
use Rattle.desk_spdx_files.specs.Texts.{ids_of, items_of, listed_in, texts_by, word_in}

-- ---- relationships (clause 11.1)

-- the type of a relationship
abbrev pub kind_of : Data → List ℕ
kind_of d = word_in (codes "relationshipType") d

-- the element that it is about
abbrev pub left_end : Data → List ℕ
left_end d = word_in (codes "spdxElementId") d

-- the one that it relates that to
abbrev pub right_end : Data → List ℕ
right_end d = word_in (codes "relatedSpdxElement") d

-- what the left element describes, contains, depends on or links ships with it
abbrev pub ships_right : List ℕ → Bool
ships_right kind =
    bytes_eq kind (codes "DESCRIBES") || bytes_eq kind (codes "CONTAINS")
    || bytes_eq kind (codes "DEPENDS_ON")
    || bytes_eq kind (codes "STATIC_LINK") || bytes_eq kind (codes "DYNAMIC_LINK")

-- the left element ships with the right one, which it is described by, contained by or a dependency
-- of
abbrev pub ships_left : List ℕ → Bool
ships_left kind =
    bytes_eq kind (codes "DESCRIBED_BY") || bytes_eq kind (codes "CONTAINED_BY")
    || bytes_eq kind (codes "DEPENDENCY_OF") || bytes_eq kind (codes "RUNTIME_DEPENDENCY_OF")

-- the left end is needed: shipping leads on from it, or it is described, or it is contained and
-- there are codes over the files that are contained
abbrev pub needs_left : Bool → List ℕ → Bool
needs_left coded kind = ships_right kind || bytes_eq kind (codes "DESCRIBED_BY")
    || coded && bytes_eq kind (codes "CONTAINED_BY")

-- the right end, likewise
abbrev pub needs_right : Bool → List ℕ → Bool
needs_right coded kind = ships_left kind || bytes_eq kind (codes "DESCRIBES")
    || coded && bytes_eq kind (codes "CONTAINS")

-- a text, if it is wanted
abbrev pub one_if : Bool → List ℕ → List (List ℕ)
one_if wanted text = if wanted then text ∷ [] else []

-- the ends of a relationship that are needed
abbrev pub needed_ends : Bool → Data → List (List ℕ)
needed_ends coded d =
    one_if (needs_left coded (kind_of d)) (left_end d)
    ++ one_if (needs_right coded (kind_of d)) (right_end d)

-- ---- verification codes, which are over the digests of the files in a package (clause 7.9)

-- some of these packages has a code
abbrev pub is_coded : Items → Bool
is_coded no_items = false
is_coded (item d ds) = is_some (get (codes "packageVerificationCode") d) || is_coded ds

-- some package of the document has one
abbrev pub has_codes : Data → Bool
has_codes d = is_coded (items_of (codes "packages") d)

-- the files that packages list, if there are codes
abbrev pub coded_files : Bool → Items → List (List ℕ)
coded_files coded packages = if coded then texts_by (listed_in (codes "hasFiles")) packages else []

-- ---- idle files

-- the identifier of the document itself (clause 6.3)
abbrev pub document_id : List ℕ
document_id = codes "SPDXRef-DOCUMENT"

-- identifiers that no idle file has: the empty one, which is none; those of the document and of
-- other elements; what the document describes; ends of relationships; and the files that codes are
-- over
abbrev pub needed_ids : Data → List (List ℕ)
needed_ids d =
    [] ∷ document_id
    ∷ (ids_of (codes "packages") (codes "SPDXID") d
    ++ (ids_of (codes "snippets") (codes "SPDXID") d
    ++ (ids_of (codes "hasExtractedLicensingInfos") (codes "licenseId") d
    ++ (listed_in (codes "documentDescribes") d
    ++ (texts_by (needed_ends (has_codes d)) (items_of (codes "relationships") d)
    ++ coded_files (has_codes d) (items_of (codes "packages") d))))))

-- an identifier of a file, and of nothing that is needed
abbrev pub is_idle : Data → List ℕ → Bool
is_idle d id = is_among (ids_of (codes "files") (codes "SPDXID") d) id
    && not (is_among (needed_ids d) id)

-- the files that are left out, by which ones are kept
abbrev pub idle_by : Files → Data → List ℕ → Bool
idle_by files.All d id = false
idle_by files.Needed d id = is_idle d id

-- an item of an array
abbrev pub IsItem : Data → Items → Type 0
IsItem d no_items = ⊥
IsItem d (item x xs) = (d ≡ x) ⊎ IsItem d xs
