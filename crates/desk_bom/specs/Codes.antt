-- Package verification codes (SPDX 2.3, clause 7.9).
use Rattle.std.specs.Prelude.{◌≡◌, ◌≢◌, ℕ, not, ◌-◌, ◌==◌, ◌&&◌, ◌||◌, nat_eq, nat_le, Bool, false}
use Rattle.std.specs.Prelude.{List, [], ◌∷◌, length, take, drop, map, Option, Some, None}
use Rattle.std.specs.Prelude.{if◌then◌else◌, codes, slice_get, Vec}
use Rattle.std.specs.List.{concat, list_all, list_any, starts_with, ends_with, slice_split, filter_map}
use Rattle.std.specs.Option.{is_some}
use Rattle.std.specs.List.Sorted.{IsPermutation, IsSorted}
use Rattle.std.specs.Ordering.{nat_cmp}
use Rattle.std.specs.Cmp.Lexicographic.{slice_cmp}
use Rattle.std.specs.Str.{bytes_eq}
use Rattle.std.specs.declared.alloc.Global.{Global}
use Rattle.std.specs.Result.{result_ok}
use Rattle.sha1.specs.Sha1.{sha1}
use Rattle.hex.specs.Hex.{encode_lower, decode_sized}
use Rattle.desk_base.specs.Folded.{folded}
use Rattle.desk_fields.specs.Text.{skip_blanks, trimmed}
use Rattle.desk_tagvalue.specs.Parts.{DocumentText, PackageText, FileText, is_hex}
use Rattle.desk_bom.specs.declared.arrows.Arrow.{Arrow}
use Rattle.desk_bom.specs.declared.places.Places.{Places}
use Rattle.desk_bom.specs.declared.state.Excluded.{Excluded}
use Rattle.desk_bom.specs.declared.state.CodeState.{CodeState}
use Rattle.desk_bom.specs.declared.state.CodeState.TheVariants as states
use Rattle.desk_bom.specs.Contents.{AreFilesOf}
use Rattle.desk_bom.specs.Places.{place_of}
use Rattle.desk_base.specs.Borrowed.{texts}

-- the code of digests: each as 40 hexadecimal digits in lower case, sorted, joined; the SHA1 of
-- that text, in the same form
pub record IsCode (digests : List (List ℕ)) (code : List ℕ) : Type 0 where
  pub texts : List (List ℕ)
  pub same : IsPermutation (map encode_lower digests) texts
  pub sorted : IsSorted (slice_cmp nat_cmp) texts
  pub is : code ≡ encode_lower (sha1 (concat texts))

-- ---- the field (clause 7.9)

-- the first 40 bytes, which are the digits of a code
abbrev pub code_digits : List ℕ → List ℕ
code_digits value = take 40 value

-- what is between ( and ), directly after the digits or after blanks
abbrev pub code_list : List ℕ → List ℕ
code_list value = skip_blanks (drop 40 value)

-- a text between ( and )
abbrev pub is_list : List ℕ → Bool
is_list text = starts_with nat_eq text (codes "(") && ends_with nat_eq (drop 1 text) (codes ")")

-- 40 hexadecimal digits, followed by nothing or by a list
abbrev pub is_code : List ℕ → Bool
is_code value = nat_le 40 (length value) && list_all is_hex (code_digits value)
    && (length value == 40 || is_list (code_list value))

-- without what precedes the names
abbrev pub names_in : List ℕ → List ℕ
names_in inner = if starts_with nat_eq inner (codes "excludes: ") then drop 10 inner else inner

-- a name of a file without a leading `./`
abbrev pub plain : List ℕ → List ℕ
plain name = if starts_with nat_eq name (codes "./") then drop 2 name else name

-- the names between commas, without blanks at their ends
abbrev pub names_of : List ℕ → List (List ℕ)
names_of text = map (λ name. plain (trimmed name)) (slice_split (λ b. b == 44) text)

-- what is between ( and )
abbrev pub inner_of : List ℕ → List ℕ
inner_of text = take (length (drop 1 text) - 1) (drop 1 text)

-- the files that a code excludes
abbrev pub excluded_by : List ℕ → List (List ℕ)
excluded_by value = if length value == 40 then []
    else names_of (names_in (inner_of (code_list value)))

-- the same, from what was read of it
abbrev pub excluded_names : Option (List ℕ) → List (List ℕ)
excluded_names None = []
excluded_names (Some text) = names_of text

-- ---- what a code says about a package's files

-- the code excludes a file of this name; a leading `./` doesn't matter on either side
abbrev pub is_excluded : List (List ℕ) → FileText → Bool
is_excluded names f = list_any (λ name. bytes_eq name (plain f.name)) names

-- the digest that 40 digits spell
abbrev pub digest_spelled : Option (List ℕ) → Option (List ℕ)
digest_spelled None = None
digest_spelled (Some digits) = result_ok (decode_sized digits 20)

-- one digest before others, if all of them are there
abbrev pub both : Option (List ℕ) → Option (List (List ℕ)) → Option (List (List ℕ))
both (Some x) (Some xs) = Some (x ∷ xs)
both _ _ = None

-- the digests of the files that aren't excluded, if each has one
abbrev pub digests_of : List (List ℕ) → List FileText → Option (List (List ℕ))
digests_of names [] = Some []
digests_of names (f ∷ fs) = if is_excluded names f then digests_of names fs
    else both (digest_spelled f.sha1) (digests_of names fs)

-- FilesAnalyzed is false (clause 7.8), ignoring case
abbrev pub is_unanalyzed : Option (List ℕ) → Bool
is_unanalyzed None = false
is_unanalyzed (Some flag) = bytes_eq (folded flag) (codes "false")

-- the digests that a code covers, if FilesAnalyzed isn't false, the code is one, and each file that
-- it doesn't exclude has a digest
abbrev pub checked_digests : Option (List ℕ) → List ℕ → List FileText → Option (List (List ℕ))
checked_digests flag value fs = if is_unanalyzed flag || not (is_code value) then None
    else digests_of (excluded_by value) fs

-- what the code of a package says about its files
abbrev pub IsStateOf : PackageText → List FileText → CodeState → Type 0
IsStateOf p fs states.Absent = p.verification_code ≡ None
IsStateOf p fs states.Unchecked = (value : List ℕ) × (p.verification_code ≡ Some value)
    × (checked_digests p.files_analyzed value fs ≡ None)
IsStateOf p fs states.Agrees =
    (value : List ℕ) × (digests : List (List ℕ)) × (code : List ℕ)
    × (p.verification_code ≡ Some value)
    × (checked_digests p.files_analyzed value fs ≡ Some digests) × IsCode digests code
    × (folded (code_digits value) ≡ code)
IsStateOf p fs states.Differs =
    (value : List ℕ) × (digests : List (List ℕ)) × (code : List ℕ)
    × (p.verification_code ≡ Some value)
    × (checked_digests p.files_analyzed value fs ≡ Some digests) × IsCode digests code
    × (folded (code_digits value) ≢ code)

-- the same for the files that a package has
abbrev pub IsStateAt : DocumentText → ℕ → PackageText → CodeState → Type 0
IsStateAt d k p states.Absent = p.verification_code ≡ None
IsStateAt d k p state = (fs : List FileText) × AreFilesOf d k fs × IsStateOf p fs state

-- the state of the code of a package, given its place
pub record IsState (d : DocumentText) (k : ℕ) (state : CodeState) : Type 0 where
  pub owner : PackageText
  pub at : slice_get d.packages k ≡ Some owner
  pub is : IsStateAt d k owner state

-- the digests, if there are any
abbrev pub items_of : Option (Vec (List ℕ) Global) → Option (List (List ℕ))
items_of None = None
items_of (Some v) = Some v.items

-- the files at the ends of arrows
abbrev pub files_at : List FileText → List Arrow → List FileText
files_at files arrows = filter_map (slice_get files) (map (λ x. x.to) arrows)

-- whether a name is among those that were collected
abbrev pub is_noted : Option Places → List ℕ → Bool
is_noted None q = false
is_noted (Some places) q = is_some (place_of q (texts places.ids.items))

-- the names that a code excludes have this one
abbrev pub has_name : Excluded → List ℕ → Bool
has_name excluded q = is_noted excluded.places q
