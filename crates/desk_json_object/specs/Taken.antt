-- What a text's tokens (RFC 8259) begin with, as the data that it is, and the tokens after it.
-- Arrays and objects nest no deeper than a depth.
use Rattle.std.specs.Prelude.{◌≡◌, ℕ, List, length, Option, Some}
use Rattle.json.specs.Json.{value, items, members}
use Rattle.json.specs.Token.{Token}
use Rattle.serde_json.specs.Data.{Data, Items, Members}
use Rattle.serde_json.specs.Read.{of_json, of_items, of_members, converted}

-- the value that the tokens begin with
abbrev pub data_at : ℕ → List Token → Option (Data × List Token)
data_at depth tokens = converted of_json (value depth tokens)

-- the items of an array up to its end
abbrev pub items_at : ℕ → List Token → Option (Items × List Token)
items_at depth tokens = converted of_items (items (value depth) (length tokens) tokens)

-- the members of an object up to its end, added to others
abbrev pub members_at : Members → ℕ → List Token → Option (Members × List Token)
members_at before depth tokens = converted (λ ms. of_members ms before)
    (members (value depth) (length tokens) tokens)

-- it was taken, up to these tokens
abbrev pub IsTaken : {X : Type 0} → Option (X × List Token) → List Token → Type 0
IsTaken {X} taken rest = (x : X) × (taken ≡ Some (x, rest))
