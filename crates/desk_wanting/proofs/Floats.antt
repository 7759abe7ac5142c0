-- Each number in a request is an integer, so its text is the compact one.
use Rattle.std.proofs.Common.{◌≡◌, ℕ, List, [], ◌∷◌, false, refl}
use Rattle.std.specs.Prelude.{map}
use Rattle.serde_json.specs.Data.{string}
use Rattle.serde_json.specs.View.{items_of}
use Rattle.serde_json.specs.Written.{has_float, items_have_float}
use Rattle.desk_wanting.specs.Requests.{choose_request}
use Rattle.desk_wanting.specs.declared.sole_choice.SoleChoice.{SoleChoice}

texts_have_no_float : (texts : List (List ℕ))
    → items_have_float (items_of (map string texts)) ≡ false
texts_have_no_float [] = refl
texts_have_no_float (text ∷ texts) = texts_have_no_float texts

pub request_has_no_float : (release : List ℕ) (c : SoleChoice)
    → has_float (choose_request release c) ≡ false
request_has_no_float release c = rw (texts_have_no_float c.terms) refl
