-- A key that an object lists is found in it.
use Rattle.std.proofs.Common.{◌≡◌, List, [], ◌∷◌, Option, Some, None, String, Global, Ordering}
use Rattle.std.proofs.Common.{Less, Equal, Greater, nat_cmp, string_bytes, refl, sym, subst, ap}
use Rattle.std.proofs.Common.{◌∙◌}
use Rattle.std.specs.Prelude.{ℕ, ◌≢◌}
use Rattle.std.specs.Cmp.Lexicographic.{slice_cmp}
use Rattle.std.specs.List.{All}
use Rattle.std.specs.Map.{keys_of}
use Rattle.std.specs.Ordering.{match_ordering}
use Rattle.std.proofs.lemmas.List.Elements.{All-cons, All-nil, All-weaker}
use Rattle.serde_json.proofs.Views.{Entry, member_here}
use Rattle.serde_json.specs.Data.{Data, Members, null, boolean, number, string, array, object}
use Rattle.serde_json.specs.Find.{as_object, get, get_member}
use Rattle.serde_json.specs.View.{members_view}

some_is_there : (found : Option Data) (d : Data) → found ≡ Some d → found ≢ None
some_is_there found d is none = let both : Some d ≡ None = sym is ∙ none in cc

behind_one : (o : Ordering) (found : Option Data) (d : Data) → found ≢ None
    → match_ordering o found (Some d) found ≢ None
behind_one Less found d there = there
behind_one Equal found d there = some_is_there (Some d) d refl
behind_one Greater found d there = there

abbrev IsKey : List Entry → String Global → Type 0
IsKey entries key = get_member (string_bytes key) (members_view entries) ≢ None

keys_found : (entries : List Entry) → All (IsKey entries) (keys_of entries)
keys_found [] = All-nil (IsKey [])
keys_found (e ∷ es) = All-cons (IsKey (e ∷ es)) e.0 (keys_of es)
    (some_is_there _ _ (member_here (string_bytes e.0) e es refl))
    (All-weaker (IsKey es) (IsKey (e ∷ es))
    (λ key there. behind_one (slice_cmp nat_cmp (string_bytes key) (string_bytes e.0)) _ _ there)
    (keys_of es) (keys_found es))

get_of_object : (key : List ℕ) (d : Data) (members : Members) → Some members ≡ as_object d
    → get key d ≡ get_member key members
get_of_object key null members is = absurd (let both : Some members ≡ None = is in cc)
get_of_object key (boolean b) members is = absurd (let both : Some members ≡ None = is in cc)
get_of_object key (number n) members is = absurd (let both : Some members ≡ None = is in cc)
get_of_object key (string s) members is = absurd (let both : Some members ≡ None = is in cc)
get_of_object key (array ds) members is = absurd (let both : Some members ≡ None = is in cc)
get_of_object key (object ms) members is = let same : ms ≡ members = cc in ap (get_member key) same

-- each key that a value lists is found in it
pub keys_are_found : (d : Data) (entries : List Entry) → Some (members_view entries) ≡ as_object d
    → All (λ (key : String Global). get (string_bytes key) d ≢ None) (keys_of entries)
keys_are_found d entries is = All-weaker (IsKey entries)
    (λ (key : String Global). get (string_bytes key) d ≢ None)
    (λ key there. subst (λ found. found ≢ None)
    (sym (get_of_object (string_bytes key) d (members_view entries) is)) there) (keys_of entries)
    (keys_found entries)
