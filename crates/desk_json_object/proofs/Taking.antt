-- Values, items and members that the grammar takes one after another, as the data that they are.
use Rattle.std.proofs.Common.{◌≡◌, ◌⊎◌, inl, inr, Bor, ℕ, zero, suc, ◌-◌, ◌<◌, ◌≤◌, List, ◌∷◌}
use Rattle.std.proofs.Common.{length, Option, Some, None, option_map}
use Rattle.std.proofs.Common.{option_and_then, refl, ap, ◌∙◌}
use Rattle.std.specs.Prelude as prelude
use Rattle.json.specs.Token.{Token}
use Rattle.json.specs.Reads.{token_of}
use Rattle.json.specs.declared.token.Token.{Token as Read}
use Rattle.json.specs.declared.token.Token.TheVariants.{String, Bool, Null, EndObject, EndArray, Key, Bad}
use Rattle.json.specs.Json as json
use Rattle.json.specs.Json.{Parse, parse_map, after_end_array, read_key, items_step, items, members, value}
use Rattle.json.proofs.Grammar.{value_is, value-begin_array, value-begin_object, items_end}
use Rattle.json.proofs.Grammar.{items_more, members_end, members_no_key, members_more}
use Rattle.serde_json.specs.Data.{Data, null, boolean, string, array, object, Items, item, no_items}
use Rattle.serde_json.specs.Data.{Members, no_members, put}
use Rattle.serde_json.specs.Read.{of_json, of_items, of_members, converted}
use Rattle.desk_json_object.specs.Taken.{data_at, items_at, members_at, IsTaken}

abbrev first_or : {A : Type 0} → A → Option A → A
first_or other None = other
first_or other (Some a) = a

-- what was converted has the same tokens after it
behind : {A : Type 0} (rest more : List Token) (made : Option A) (a : A)
    → option_map {U = A × List Token} (λ x. (x, rest)) made ≡ Some (a, more)
    → (rest ≡ more) × (made ≡ Some a)
behind rest more None a is = absurd (cc)
behind rest more (Some x) a is = let pair = ap (first_or (x, rest)) is in
    (ap (λ p. p.1) pair, ap (λ p. Some p.0) pair)

pub converted_from : {A B : Type 0} (f : A → Option B) (taken : Option (A × List Token)) (b : B)
    (rest : List Token) → converted f taken ≡ Some (b, rest)
    → (a : A) × (taken ≡ Some (a, rest)) × (f a ≡ Some b)
converted_from f None b rest is = absurd (cc)
converted_from f (Some p) b rest is = let both = behind p.1 rest (f p.0) b is in
    (p.0, ap (λ ts. Some (p.0, ts)) both.0, both.1)

unconverted : {A : Type 0} (rest : List Token) (made : Option A)
    → option_map {U = A × List Token} (λ x. (x, rest)) made ≡ None → made ≡ None
unconverted rest None is = refl
unconverted rest (Some x) is = absurd (cc)

-- a constructor around what was converted
around : {A B : Type 0} (g : A → B) (rest : List Token) (made : Option A)
    → option_map (λ b. (b, rest)) (option_map g made)
    ≡ parse_map g (option_map (λ a. (a, rest)) made)
around g rest None = refl
around g rest (Some a) = refl

of_array : (taken : Option (json.Items × List Token))
    → converted of_json (parse_map json.array taken) ≡ parse_map array (converted of_items taken)
of_array None = refl
of_array (Some p) = around array p.1 (of_items p.0)

of_object : (taken : Option (json.Members × List Token))
    → converted of_json (parse_map json.object taken)
    ≡ parse_map object (converted (λ ms. of_members ms no_members) taken)
of_object None = refl
of_object (Some p) = around object p.1 (of_members p.0 no_members)

pub data_at-array : (depth : ℕ) (ts : List Token) → 0 < depth
    → data_at depth (Token.begin_array ∷ ts) ≡ parse_map array (items_at (depth - 1) ts)
data_at-array depth ts some = ap (converted of_json) (value-begin_array depth ts some)
    ∙ of_array (items (value (depth - 1)) (length ts) ts)

pub data_at-object : (depth : ℕ) (ts : List Token) → 0 < depth
    → data_at depth (Token.begin_object ∷ ts)
    ≡ parse_map object (members_at no_members (depth - 1) ts)
data_at-object depth ts some = ap (converted of_json) (value-begin_object depth ts some)
    ∙ of_object (members (value (depth - 1)) (length ts) ts)

pub data_at-too_deep : (depth : ℕ) (ts : List Token) → depth ≡ 0
    → data_at depth (Token.begin_array ∷ ts) ≡ None
unfolding value
data_at-too_deep depth ts none = rw none refl

pub data_at-too_deep_object : (depth : ℕ) (ts : List Token) → depth ≡ 0
    → data_at depth (Token.begin_object ∷ ts) ≡ None
unfolding value
data_at-too_deep_object depth ts none = rw none refl

-- an item, or a member, before others
before_items : (j : json.Json) (d : Data) (more : Option (json.Items × List Token))
    → of_json j ≡ Some d
    → converted of_items (parse_map (json.item j) more)
    ≡ parse_map (item d) (converted of_items more)
before_items j d None is = refl
before_items j d (Some p) is = rw is (around (item d) p.1 (of_items p.0))

refused_item : (j : json.Json) (more : Option (json.Items × List Token)) → of_json j ≡ None
    → converted of_items (parse_map (json.item j) more) ≡ None
refused_item j None none = refl
refused_item j (Some p) none = rw none refl

no_item : (more : Parse json.Items) (taken : Option (json.Json × List Token))
    → converted of_json taken ≡ None
    → converted of_items (option_and_then (λ p. parse_map (json.item p.0) (more p.1)) taken) ≡ None
no_item more None none = refl
no_item more (Some p) none = refused_item p.0 (more p.1) (unconverted p.1 (of_json p.0) none)

before_members : (key : List ℕ) (j : json.Json) (d : Data) (before : Members)
    (more : Option (json.Members × List Token)) → of_json j ≡ Some d
    → converted (λ ms. of_members ms before) (parse_map (json.member key j) more)
    ≡ converted (λ ms. of_members ms (put key d before)) more
before_members key j d before None is = refl
before_members key j d before (Some p) is = rw is refl

refused_member : (key : List ℕ) (j : json.Json) (before : Members)
    (more : Option (json.Members × List Token)) → of_json j ≡ None
    → converted (λ ms. of_members ms before) (parse_map (json.member key j) more) ≡ None
refused_member key j before None none = refl
refused_member key j before (Some p) none = rw none refl

no_member : (key : List ℕ) (before : Members) (more : Parse json.Members)
    (taken : Option (json.Json × List Token)) → converted of_json taken ≡ None
    → converted (λ ms. of_members ms before)
    (option_and_then (λ p. parse_map (json.member key p.0) (more p.1)) taken) ≡ None
no_member key before more None none = refl
no_member key before more (Some p) none = refused_member key p.0 before (more p.1)
    (unconverted p.1 (of_json p.0) none)

-- the items, or the members, that are taken in at most this many turns
abbrev pub items_in : ℕ → ℕ → List Token → Option (Items × List Token)
items_in depth turns ts = converted of_items (items (value depth) turns ts)

abbrev pub members_in : Members → ℕ → ℕ → List Token → Option (Members × List Token)
members_in before depth turns ts = converted (λ ms. of_members ms before)
    (members (value depth) turns ts)

module _ (depth turns : ℕ) where
  pub item_taken : (ts rest : List Token) (d : Data) → 0 < turns → after_end_array ts ≡ None
      → data_at depth ts ≡ Some (d, rest)
      → items_in depth turns ts ≡ parse_map (item d) (items_in depth (turns - 1) rest)
  item_taken ts rest d some going is =
      let taken = converted_from of_json (value depth ts) d rest is in
      ap (converted of_items) (items_more (value depth) turns ts rest taken.0 some going taken.1)
      ∙ before_items taken.0 d _ taken.2

  pub items_ended : (ts rest : List Token) → length ts ≤ turns → after_end_array ts ≡ Some rest
      → items_in depth turns ts ≡ Some (no_items, rest)
  items_ended ts rest enough ended = ap (converted of_items)
      (items_end (value depth) turns ts rest enough ended)

  pub member_taken : (before : Members) (key : List ℕ) (ts inner rest : List Token) (d : Data)
      → 0 < turns → read_key ts ≡ Some (Some key, inner)
      → data_at depth inner ≡ Some (d, rest)
      → members_in before depth turns ts ≡ members_in (put key d before) depth (turns - 1) rest
  member_taken before key ts inner rest d some named is =
      let taken = converted_from of_json (value depth inner) d rest is in
      ap (converted (λ ms. of_members ms before))
      (members_more (value depth) turns key ts inner rest taken.0 some named taken.1)
      ∙ before_members key taken.0 d before _ taken.2

  pub members_ended : (before : Members) (ts rest : List Token) → length ts ≤ turns
      → read_key ts ≡ Some (None, rest)
      → members_in before depth turns ts ≡ Some (before, rest)
  members_ended before ts rest enough ended = ap (converted (λ ms. of_members ms before))
      (members_end (value depth) turns ts rest enough ended)

  pub key_refused : (before : Members) (ts : List Token) → read_key ts ≡ None
      → members_in before depth turns ts ≡ None
  key_refused before ts none = ap (converted (λ ms. of_members ms before))
      (members_no_key (value depth) turns ts none)

pub item_refused : (depth turns : ℕ) (ts : List Token) → after_end_array ts ≡ None
    → data_at depth ts ≡ None → items_in depth turns ts ≡ None
unfolding items
item_refused depth zero ts going none = refl
item_refused depth (suc turns) ts going none = ap (λ ended. converted of_items
    (items_step (value depth) (items (value depth) turns) ts ended)) going
    ∙ no_item _ (value depth ts) none

pub member_refused : (depth turns : ℕ) (before : Members) (key : List ℕ) (ts inner : List Token)
    → read_key ts ≡ Some (Some key, inner)
    → data_at depth inner ≡ None → members_in before depth turns ts ≡ None
unfolding members
member_refused depth zero before key ts inner named none = refl
member_refused depth (suc turns) before key ts inner named none = rw named
    (no_member key before (members (value depth) turns) (value depth inner) none)

pub same_items : (taken : Option (Items × List Token)) → taken ≡ parse_map (λ ds. ds) taken
same_items None = refl
same_items (Some p) = refl

pub twice_around : {A B C : Type 0} (f : B → C) (g : A → B) (taken : Option (A × List Token))
    → parse_map f (parse_map g taken) ≡ parse_map (λ a. f (g a)) taken
twice_around f g None = refl
twice_around f g (Some p) = refl

pub taken_around : {A B : Type 0} (g : A → B) (taken : Option (A × List Token))
    (outer : Option (B × List Token)) (rest : List Token)
    → outer ≡ parse_map g taken → IsTaken taken rest → IsTaken outer rest
taken_around g taken outer rest is found = (g found.0, is ∙ ap (parse_map g) found.1)

pub refused_around : {A B : Type 0} (g : A → B) (taken : Option (A × List Token))
    (outer : Option (B × List Token))
    → outer ≡ parse_map g taken → taken ≡ None → outer ≡ None
refused_around g taken outer is none = is ∙ ap (parse_map g) none

-- ---- a token that opens nothing

pub scalar_taken : (depth : ℕ) (ts : List Token) (first : Read)
    → ((s : Bor (List ℕ)) × (first ≡ String s))
    ⊎ (((b : prelude.Bool) × (first ≡ Bool b)) ⊎ (first ≡ Null))
    → IsTaken (data_at depth (token_of first ∷ ts)) ts
scalar_taken depth ts first (inl (s, is)) = (
  string s.now,
  ap (λ k. data_at depth (token_of k ∷ ts)) is
      ∙ ap (converted of_json) (value_is depth (Token.string s.now ∷ ts)),
)
scalar_taken depth ts first (inr (inl (b, is))) = (
  boolean b,
  ap (λ k. data_at depth (token_of k ∷ ts)) is
      ∙ ap (converted of_json) (value_is depth (Token.boolean b ∷ ts)),
)
scalar_taken depth ts first (inr (inr is)) = (
  null,
  ap (λ k. data_at depth (token_of k ∷ ts)) is
      ∙ ap (converted of_json) (value_is depth (Token.null ∷ ts)),
)

pub none_begins : (depth : ℕ) (ts : List Token) (first : Read)
    → (first ≡ EndObject) ⊎ ((first ≡ EndArray)
    ⊎ (((s : Bor (List ℕ)) × (first ≡ Key s)) ⊎ (first ≡ Bad)))
    → data_at depth (token_of first ∷ ts) ≡ None
none_begins depth ts first (inl is) = ap (λ k. data_at depth (token_of k ∷ ts)) is
    ∙ ap (converted of_json) (value_is depth (Token.end_object ∷ ts))
none_begins depth ts first (inr (inl is)) = ap (λ k. data_at depth (token_of k ∷ ts)) is
    ∙ ap (converted of_json) (value_is depth (Token.end_array ∷ ts))
none_begins depth ts first (inr (inr (inl (s, is)))) = ap (λ k. data_at depth (token_of k ∷ ts)) is
    ∙ ap (converted of_json) (value_is depth (Token.key s.now ∷ ts))
none_begins depth ts first (inr (inr (inr is))) = ap (λ k. data_at depth (token_of k ∷ ts)) is
    ∙ ap (converted of_json) (value_is depth (Token.bad ∷ ts))
