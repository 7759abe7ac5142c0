-- What a run of bytes is (SPDX 2.3, Annex D.2 and D.3).
use Rattle.std.specs.Prelude.{ℕ, ◌-◌, ◌==◌, ◌||◌, ◌&&◌, Bool, List}
use Rattle.std.specs.Prelude.{if◌then◌else◌, length, take, drop, codes, nat_eq, IsTrue}
use Rattle.std.specs.List.{starts_with, ends_with, before_first, after_first}
use Rattle.std.specs.Str.{bytes_eq}
use Rattle.desk_base.specs.Idstring.{is_idstring}
use Rattle.desk_base.specs.declared.profile.Profile.{Profile}
use Rattle.desk_base.specs.declared.profile.Profile.TheVariants.{Capitals, Either}
use Rattle.desk_tokens.specs.declared.token.Kind.{Kind}
use Rattle.desk_tokens.specs.declared.token.Kind.TheVariants.{Opening, Closing, And, Or, With}
use Rattle.desk_tokens.specs.declared.token.Kind.TheVariants.{Licence, LicenceOrLater, Reference, Bad}

-- `"LicenseRef-" idstring`
abbrev pub is_local_reference : List ℕ → Bool
is_local_reference w = starts_with nat_eq w (codes "LicenseRef-") && is_idstring (drop 11 w)

-- `idstring ":" "LicenseRef-" idstring`: the parts before and after the first colon
abbrev pub is_reference_of_document : List ℕ → Bool
is_reference_of_document w = is_idstring (before_first (λ b. b == 58) w)
    && is_local_reference (after_first (λ b. b == 58) w)

-- `["DocumentRef-" idstring ":"] "LicenseRef-" idstring`
abbrev pub is_reference : List ℕ → Bool
is_reference w = is_local_reference w
    || (starts_with nat_eq w (codes "DocumentRef-") && is_reference_of_document (drop 12 w))

-- a run that begins like this is a reference or no word at all
abbrev pub begins_like_reference : List ℕ → Bool
begins_like_reference w = starts_with nat_eq w (codes "LicenseRef-")
    || starts_with nat_eq w (codes "DocumentRef-")

-- the bytes before the last one
abbrev pub without_last : List ℕ → List ℕ
without_last w = take (length w - 1) w

-- a word without a plus at its end
abbrev pub without_plus : List ℕ → List ℕ
without_plus w = if ends_with nat_eq w (codes "+") then without_last w else w

-- a licence id directly followed by a plus
abbrev pub is_licence_or_later : List ℕ → Bool
is_licence_or_later w = ends_with nat_eq w (codes "+") && is_idstring (without_last w)

-- what a run that is no operator is
abbrev pub word_kind : List ℕ → Kind
word_kind w =
    if begins_like_reference w then (if is_reference w then Reference else Bad)
    else (if is_idstring w then Licence
    else (if is_licence_or_later w then LicenceOrLater
    else Bad))

-- an operator is written in capitals or, by the profile Either, also wholly in small letters; any
-- other mixture of case is a word
abbrev pub is_operator : Profile → List ℕ → List ℕ → List ℕ → Bool
is_operator Capitals capitals small w = bytes_eq w capitals
is_operator Either capitals small w = bytes_eq w capitals || bytes_eq w small

-- what a token is by a profile
abbrev pub kind_by : Profile → List ℕ → Kind
kind_by profile w =
    if bytes_eq w (codes "(") then Opening
    else (if bytes_eq w (codes ")") then Closing
    else (if is_operator profile (codes "AND") (codes "and") w then And
    else (if is_operator profile (codes "OR") (codes "or") w then Or
    else (if is_operator profile (codes "WITH") (codes "with") w then With
    else word_kind w))))

-- if the kind is that of a word, the bytes are such a word
abbrev pub IsWordOf : Kind → List ℕ → Type 0
IsWordOf Licence w = IsTrue (is_idstring w)
IsWordOf LicenceOrLater w = IsTrue (is_licence_or_later w)
IsWordOf Reference w = IsTrue (is_reference w)
IsWordOf _ w = Unit {0}
