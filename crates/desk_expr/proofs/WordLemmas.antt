-- What the kind of a token says about its bytes, and that words are well-formed terms.
use Rattle.std.proofs.Common.{◌≡◌, ◌∙◌, ℕ, List, [], ◌∷◌, length, Bool, true, false, refl, sym}
use Rattle.std.proofs.Common.{subst, ap, arith, add-zero, Some, None, drop, get_or, codes, nat_eq}
use Rattle.std.specs.Prelude.{nat_lt, ◌&&◌, ◌||◌, not, if◌then◌else◌, ◌-◌}
use Rattle.std.specs.Char.{to_ascii_lowercase}
use Rattle.std.specs.List.{list_all, ends_with}
use Rattle.std.specs.Str.{bytes_eq}
use Rattle.std.proofs.lemmas.Bool.Decides.{nat_tests}
use Rattle.std.proofs.lemmas.Str.Ascii.{lowercase-lowercase}
use Rattle.std.proofs.lemmas.Slice.Eq.{bytes_eq-Decides}
use Rattle.std.proofs.lemmas.List.{length-map, get_or-drop}
use Rattle.std.proofs.lemmas.Bool.{and_parts, and_from, or_left, or_right}
use Rattle.desk_base.specs.Idstring.{is_idstring_byte, is_idstring}
use Rattle.desk_base.specs.Folded.{folded}
use Rattle.desk_base.specs.declared.profile.Profile.{Profile}
use Rattle.desk_tokens.specs.declared.token.Kind.{Kind}
use Rattle.desk_tokens.specs.declared.token.Kind.TheVariants.{Opening, Closing, And, Or, With}
use Rattle.desk_tokens.specs.declared.token.Kind.TheVariants.{Licence, LicenceOrLater, Reference, Bad}
use Rattle.desk_tokens.specs.Words.{is_reference, begins_like_reference, is_licence_or_later}
use Rattle.desk_tokens.specs.Words.{without_last, is_operator, kind_by, IsWordOf}
use Rattle.desk_expr.specs.Words.{is_folded_id}
use Rattle.desk_expr.specs.Words.{is_exception, is_term}
use Rattle.desk_expr.specs.declared.term.Term.{Term}

-- ---- kinds

-- the test that a word of this kind passes: f for a reference, i for a licence, l for one with `+`
abbrev Passes : Kind → Bool → Bool → Bool → Type 0
Passes Licence f i l = i ≡ true
Passes LicenceOrLater f i l = l ≡ true
Passes Reference f i l = f ≡ true
Passes _ f i l = Unit {0}

passed : (o c a r w b f i l : Bool) →
    Passes (if o then Opening else (if c then Closing
    else (if a then And else (if r then Or
    else (if w then With else (if b then (if f then Reference else Bad)
    else (if i then Licence else (if l then LicenceOrLater else Bad)))))))) f i l
passed true c a r w b f i l = tt
passed false true a r w b f i l = tt
passed false false true r w b f i l = tt
passed false false false true w b f i l = tt
passed false false false false true b f i l = tt
passed false false false false false true true i l = refl
passed false false false false false true false i l = tt
passed false false false false false false f true l = refl
passed false false false false false false f false true = refl
passed false false false false false false f false false = tt

by_kind : (profile : Profile) (k : Kind) (w : List ℕ) → k ≡ kind_by profile w
    → Passes k (is_reference w) (is_idstring w) (is_licence_or_later w)
by_kind profile k w h =
    subst (λ (k : Kind). Passes k (is_reference w) (is_idstring w) (is_licence_or_later w)) (sym h)
    (passed (bytes_eq w (codes "(")) (bytes_eq w (codes ")"))
    (is_operator profile (codes "AND") (codes "and") w)
    (is_operator profile (codes "OR") (codes "or") w)
    (is_operator profile (codes "WITH") (codes "with") w) (begins_like_reference w) (is_reference w)
    (is_idstring w) (is_licence_or_later w))

-- a token that is a word is such a word, by each profile
pub word_of : (profile : Profile) (k : Kind) (w : List ℕ) → k ≡ kind_by profile w → IsWordOf k w
word_of profile Opening w h = tt
word_of profile Closing w h = tt
word_of profile And w h = tt
word_of profile Or w h = tt
word_of profile With w h = tt
word_of profile Licence w h = by_kind profile Licence w h
word_of profile LicenceOrLater w h = by_kind profile LicenceOrLater w h
word_of profile Reference w h = by_kind profile Reference w h
word_of profile Bad w h = tt

-- ---- folded ids

lowercase_byte : (b : ℕ) → is_idstring_byte b ≡ true
    → is_idstring_byte (to_ascii_lowercase b) ≡ true
lowercase_byte b h = grind (arith, nat_tests)

folded_bytes : (w : List ℕ) → list_all is_idstring_byte w ≡ true
    → list_all is_idstring_byte (folded w) ≡ true
folded_bytes [] h = refl
folded_bytes (b ∷ bs) h =
    let parts = and_parts (is_idstring_byte b) (list_all is_idstring_byte bs) h in
    and_from (is_idstring_byte (to_ascii_lowercase b)) (list_all is_idstring_byte (folded bs))
    (lowercase_byte b parts.0) (folded_bytes bs parts.1)

folded_idstring : (w : List ℕ) → is_idstring w ≡ true → is_idstring (folded w) ≡ true
folded_idstring w h =
    let parts = and_parts (nat_lt 0 (length w)) (list_all is_idstring_byte w) h in
    and_from (nat_lt 0 (length (folded w))) (list_all is_idstring_byte (folded w))
    (rw length-map parts.0) (folded_bytes w parts.1)

pub folded_twice : (w : List ℕ) → folded (folded w) ≡ folded w
folded_twice [] = refl
folded_twice (b ∷ bs) = (λ i. lowercase-lowercase b i ∷ folded_twice bs i)

-- a folded idstring is a folded id
pub folded_id : (w : List ℕ) → is_idstring w ≡ true → is_folded_id (folded w) ≡ true
folded_id w h =
    and_from (is_idstring (folded w)) (bytes_eq (folded (folded w)) (folded w))
    (folded_idstring w h) ((bytes_eq-Decides (folded (folded w)) (folded w)).1 (folded_twice w))

-- ---- well-formed terms

pub licence_is_term : (w k : List ℕ) → k ≡ folded w → is_idstring w ≡ true
    → is_term (record { key = k; plus = false; exception = None }) ≡ true
licence_is_term w k is h =
    rw is (and_from (is_folded_id (folded w) || (is_reference (folded w) && true)) true
    (or_left (is_folded_id (folded w)) (is_reference (folded w) && true) (folded_id w h)) refl)

pub or_later_is_term : (w k : List ℕ) → k ≡ folded (without_last w) → is_licence_or_later w ≡ true
    → is_term (record { key = k; plus = true; exception = None }) ≡ true
or_later_is_term w k is h =
    let id : is_idstring (without_last w) ≡ true =
    (and_parts (ends_with nat_eq w (codes "+")) (is_idstring (without_last w)) h).1 in
    rw is (and_from (is_folded_id (folded (without_last w))
    || (is_reference (folded (without_last w)) && false)) true
    (or_left (is_folded_id (folded (without_last w)))
    (is_reference (folded (without_last w)) && false) (folded_id (without_last w) id)) refl)

pub reference_is_term : (w k : List ℕ) → k ≡ w → is_reference w ≡ true
    → is_term (record { key = k; plus = false; exception = None }) ≡ true
reference_is_term w k is h =
    rw is (and_from (is_folded_id w || (is_reference w && true)) true
    (or_right (is_folded_id w) (is_reference w && true) (and_from (is_reference w) true h refl))
    refl)

-- a well-formed term is still well formed with another exception
pub excepted_is_term : (t : Term) (x : List ℕ) → is_term t ≡ true → is_folded_id x ≡ true
    → is_term (record t { exception = Some x }) ≡ true
excepted_is_term t x h k =
    and_from (is_folded_id t.key || (is_reference t.key && not t.plus)) (is_folded_id x)
    (and_parts (is_folded_id t.key || (is_reference t.key && not t.plus)) (is_exception t.exception)
    h).0 k

-- ---- the plus at the end

pub last_is_plus : (w : List ℕ) → is_licence_or_later w ≡ true → get_or w (length w - 1) 0 ≡ 43
last_is_plus w h =
    let ends : bytes_eq (codes "+") (drop (length w - 1) w) ≡ true =
    (and_parts (ends_with nat_eq w (codes "+")) (is_idstring (without_last w)) h).0 in
    let is : codes "+" ≡ drop (length w - 1) w =
    (bytes_eq-Decides (codes "+") (drop (length w - 1) w)).0 ends in
    ap (λ k. get_or w k 0) (sym (add-zero (length w - 1))) ∙ sym (get_or-drop (length w - 1) w 0 0)
    ∙ ap (λ l. get_or l 0 0) (sym is)
