-- What the first token of a value says about it.
use Rattle.std.proofs.Common.{◌≡◌, ℕ, zero, suc, ◌-◌, ◌∷◌, List, Bor, Option, Some, None}
use Rattle.std.proofs.Common.{option_map, refl, sym, ap, ◌∙◌, arith}
use Rattle.json.specs.Json.{parse_map}
use Rattle.json.specs.Reads.{token_of}
use Rattle.json.specs.Token.{Token}
use Rattle.json.specs.declared.token.Token.{Token as Read}
use Rattle.json.specs.declared.token.Token.TheVariants.{BeginObject, EndObject, BeginArray}
use Rattle.json.specs.declared.token.Token.TheVariants.{EndArray, Key, String, Number, Bool, Null}
use Rattle.json.specs.declared.token.Token.TheVariants.{Bad}
use Rattle.json.proofs.Grammar.{value_is}
use Rattle.serde_json.specs.Data.{Data, Num, null, boolean, number, string, array, object, Items, Members, no_members}
use Rattle.serde_json.specs.Find.{as_str}
use Rattle.serde_json.specs.Read.{of_json, converted, number_of}
use Rattle.desk_json_object.specs.Spared.{spared}
use Rattle.desk_json_object.specs.Taken.{data_at, items_at, members_at}
use Rattle.desk_json_object.proofs.Taking.{data_at-array, data_at-object, data_at-too_deep, data_at-too_deep_object}

abbrev pub Tells : Read → Data → Type 0
Tells (String s) d = string s.now ≡ d
Tells (Number s) d = (n : Num) × (number n ≡ d)
Tells (Bool b) d = boolean b ≡ d
Tells Null d = null ≡ d
Tells BeginArray d = (ds : Items) × (array ds ≡ d)
Tells BeginObject d = (ms : Members) × (object ms ≡ d)
Tells EndObject d = ⊥
Tells EndArray d = ⊥
Tells (Key s) d = ⊥
Tells Bad d = ⊥

abbrev data_of : Option (Data × List Token) → Data
data_of None = null
data_of (Some p) = p.0

number_told : (ts : List Token) (n : Option Num) (d : Data) (rest : List Token)
    → option_map {U = Data × List Token} (λ b. (b, ts)) (option_map number n) ≡ Some (d, rest)
    → (n : Num) × (number n ≡ d)
number_told ts None d rest is = absurd (cc)
number_told ts (Some n) d rest is = (n, ap data_of is)

around_told : {A : Type 0} (g : A → Data) (taken : Option (A × List Token)) (d : Data)
    (rest : List Token) → parse_map g taken ≡ Some (d, rest) → (a : A) × (g a ≡ d)
around_told g None d rest is = absurd (cc)
around_told g (Some p) d rest is = (p.0, ap data_of is)

pub tells : (depth : ℕ) (ts : List Token) (first : Read) (d : Data) (rest : List Token)
    → data_at depth (token_of first ∷ ts) ≡ Some (d, rest) → Tells first d
tells depth ts (String s) d rest is = ap data_of
    (sym (ap (converted of_json) (value_is depth (Token.string s.now ∷ ts))) ∙ is)
tells depth ts (Number s) d rest is = number_told ts (number_of s.now) d rest
    (sym (ap (converted of_json) (value_is depth (Token.number s.now ∷ ts))) ∙ is)
tells depth ts (Bool b) d rest is = ap data_of
    (sym (ap (converted of_json) (value_is depth (Token.boolean b ∷ ts))) ∙ is)
tells depth ts Null d rest is = ap data_of
    (sym (ap (converted of_json) (value_is depth (Token.null ∷ ts))) ∙ is)
tells zero ts BeginArray d rest is = let none = data_at-too_deep zero ts refl in absurd (cc)
tells (suc k) ts BeginArray d rest is = around_told array (items_at (suc k - 1) ts) d rest
    (sym (data_at-array (suc k) ts (omega arith)) ∙ is)
tells zero ts BeginObject d rest is = let none = data_at-too_deep_object zero ts refl in absurd (cc)
tells (suc k) ts BeginObject d rest is = around_told object (members_at no_members (suc k - 1) ts) d
    rest (sym (data_at-object (suc k) ts (omega arith)) ∙ is)
tells depth ts EndObject d rest is = let none =
    ap (converted of_json) (value_is depth (Token.end_object ∷ ts)) in absurd (cc)
tells depth ts EndArray d rest is = let none =
    ap (converted of_json) (value_is depth (Token.end_array ∷ ts)) in absurd (cc)
tells depth ts (Key s) d rest is = let none =
    ap (converted of_json) (value_is depth (Token.key s.now ∷ ts)) in absurd (cc)
tells depth ts Bad d rest is = let none =
    ap (converted of_json) (value_is depth (Token.bad ∷ ts)) in absurd (cc)

pub not_text : (first : Read) (d : Data) → Tells first d
    → ((s : Bor (List ℕ)) → first ≡ String s → ⊥) → as_str d ≡ None
not_text (String s) d told not = absurd (not s refl)
not_text (Number s) d told not = ap as_str (sym told.1)
not_text (Bool b) d told not = ap as_str (sym told)
not_text Null d told not = ap as_str (sym told)
not_text BeginArray d told not = ap as_str (sym told.1)
not_text BeginObject d told not = ap as_str (sym told.1)
not_text EndObject d told not = absurd told
not_text EndArray d told not = absurd told
not_text (Key s) d told not = absurd told
not_text Bad d told not = absurd told

pub spared_null : (first : Read) (d : Data) → Tells first d
    → ((s : Bor (List ℕ)) → first ≡ String s → ⊥) → ((s : Bor (List ℕ)) → first ≡ Number s → ⊥)
    → (first ≡ BeginArray → ⊥)
    → spared d ≡ null
spared_null (String s) d told text num arr = absurd (text s refl)
spared_null (Number s) d told text num arr = absurd (num s refl)
spared_null (Bool b) d told text num arr = ap spared (sym told)
spared_null Null d told text num arr = ap spared (sym told)
spared_null BeginArray d told text num arr = absurd (arr refl)
spared_null BeginObject d told text num arr = ap spared (sym told.1)
spared_null EndObject d told text num arr = absurd told
spared_null EndArray d told text num arr = absurd told
spared_null (Key s) d told text num arr = absurd told
spared_null Bad d told text num arr = absurd told

pub no_object : (first : Read) (ms : Members) → Tells first (object ms) → (first ≡ BeginObject → ⊥)
    → ⊥
no_object (String s) ms told not = cc
no_object (Number s) ms told not = let is = told.1 in cc
no_object (Bool b) ms told not = cc
no_object Null ms told not = cc
no_object BeginArray ms told not = let is = told.1 in cc
no_object BeginObject ms told not = not refl
no_object EndObject ms told not = told
no_object EndArray ms told not = told
no_object (Key s) ms told not = told
no_object Bad ms told not = told
