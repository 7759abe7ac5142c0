-- A request needs no more of an object than what is kept of it.
use Rattle.std.proofs.Common.{◌≡◌, ℕ, ◌+◌, ◌<◌, ◌≤◌, ◌==◌, ◌∷◌, Bool, true, false, List, Option}
use Rattle.std.proofs.Common.{Some, None, is_some, option_map, option_and_then, codes, Ordering}
use Rattle.std.proofs.Common.{Less, Equal, Greater, nat_cmp, refl, sym, ap, ◌∙◌, add-one, arith}
use Rattle.std.specs.Prelude.{unwrap_or, ◌&&◌, if◌then◌else◌}
use Rattle.std.specs.Str.{is_utf8}
use Rattle.std.specs.Ordering.{match_ordering}
use Rattle.std.specs.Cmp.Lexicographic.{slice_cmp}
use Rattle.std.proofs.lemmas.Str.{IsUtf8-from_is_utf8}
use Rattle.serde_json.specs.Data.{Data, null, boolean, number, string, array, object, Items}
use Rattle.serde_json.specs.Data.{no_items, item, Members, no_members, member}
use Rattle.serde_json.specs.Events.{members_len}
use Rattle.serde_json.specs.Find.{get_member, as_str, as_number, as_u64, as_array}
use Rattle.serde_json.specs.Read.{read}
use Rattle.desk_json_object.specs.Spared.{are_texts, spared, spared_members, IsObject}
use Rattle.desk_json.specs.Fields.{count, size, text_in, number_in, if_small, texts, texts_in}
use Rattle.desk_json.specs.Forms.{form_request, request_by}
use Rattle.desk_json.specs.Requests.{command_request, query_request, request_of, request_in}
use Rattle.desk_json.specs.declared.forms.Form.{Form}
use Rattle.desk_json.specs.declared.forms.Form.TheVariants as form
use Rattle.desk_json.specs.declared.request.Request.{Request}
use Rattle.desk_json.specs.declared.request.Request.TheVariants.{BadCommand}
use Rattle.desk_json.proofs.FormLemmas.{commands, queries, named_in, command_named, query_named}

-- ---- two objects in which the same is found are one request

by_words : (f g : List ℕ → Request) (other more : Request) (word : Option (List ℕ))
    → ((w : List ℕ) → f w ≡ g w) → other ≡ more
    → unwrap_or (option_map f word) other ≡ unwrap_or (option_map g word) more
by_words f g other more None each rest = rest
by_words f g other more (Some w) each rest = each w

module _ (d e : Data) (sizes : size e ≡ size d)
    (found : (key : List ℕ) → text_in key e ≡ text_in key d)
    (numbers : (key : List ℕ) → number_in key e ≡ number_in key d)
    (lists : (key : List ℕ) → texts_in key e ≡ texts_in key d) where
  same_form : (f : Form) → form_request f e ≡ form_request f d
  same_form form.Catalogue = rw (sizes, found (codes "text")) refl
  same_form form.Import = rw (sizes, numbers (codes "profile"), found (codes "text")) refl
  same_form form.Open = rw (sizes, found (codes "release"), found (codes "form")) refl
  same_form form.Attach = rw (sizes, found (codes "release"), numbers (codes "document")) refl
  same_form form.Choose = rw (
    sizes,
    found (codes "release"),
    numbers (codes "document"),
    found (codes "package"),
    lists (codes "terms"),
  ) refl
  same_form form.Freeze = rw (sizes, found (codes "release"), found (codes "day")) refl
  same_form form.Unchoose = rw (
    sizes,
    found (codes "release"),
    numbers (codes "document"),
    found (codes "package"),
  ) refl
  same_form form.Conclude = rw (
    sizes,
    numbers (codes "document"),
    found (codes "package"),
    found (codes "expression"),
  ) refl
  same_form form.Adopt = rw (
    sizes,
    numbers (codes "document"),
    found (codes "reference"),
    found (codes "licence"),
  ) refl
  same_form form.Meet = rw (
    sizes,
    numbers (codes "duty"),
    found (codes "day"),
    found (codes "text"),
  ) refl
  same_form form.Waive = rw (
    sizes,
    found (codes "until"),
    numbers (codes "duty"),
    found (codes "day"),
    found (codes "text"),
  ) refl
  same_form form.Reopen = rw (
    sizes,
    numbers (codes "duty"),
    found (codes "day"),
    found (codes "text"),
  ) refl
  same_form form.Withdraw = rw (
    sizes,
    found (codes "release"),
    found (codes "day"),
    found (codes "text"),
  ) refl
  same_form form.Close = rw (sizes, found (codes "day")) refl
  same_form form.Duties = rw (sizes, found (codes "release")) refl
  same_form form.Totals = rw (sizes, found (codes "release")) refl
  same_form form.Changes = rw (sizes, numbers (codes "duty")) refl
  same_form form.Findings = rw (sizes, numbers (codes "document")) refl
  same_form form.Release = rw (sizes, found (codes "release")) refl
  same_form form.Alternatives = rw (sizes, numbers (codes "document"), found (codes "package")) refl
  same_form form.Cheapest = rw (
    sizes,
    numbers (codes "document"),
    found (codes "package"),
    found (codes "form"),
  ) refl
  same_form form.Releases = rw (sizes) refl
  same_form form.Documents = rw (sizes) refl
  same_form form.OpenDuties = rw (sizes) refl
  same_form form.Wanting = rw (sizes, found (codes "release")) refl
  same_form form.Ready = rw (sizes, found (codes "day"), found (codes "release")) refl
  same_form form.Gaps = rw (sizes, found (codes "release")) refl

  same_by : (f : Option Form) → request_by f e ≡ request_by f d
  same_by None = refl
  same_by (Some f) = same_form f

  same_request : request_of e ≡ request_of d
  same_request =
      rw (found (codes "do"), found (codes "ask"))
      (by_words (λ word. command_request word e) (λ word. command_request word d) _ _
      (text_in (codes "do") d)
      (λ word. sym (command_named word e) ∙ same_by (named_in word commands) ∙ command_named word d)
      (by_words (λ word. query_request word e) (λ word. query_request word d) BadCommand BadCommand
      (text_in (codes "ask") d)
      (λ word. sym (query_named word e) ∙ same_by (named_in word queries) ∙ query_named word d)
      refl))

-- ---- what is kept is what is found

pub count_len : (ms : Members) → count ms ≡ members_len ms
count_len no_members = refl
count_len (member key d ms) = ap (λ n. n + 1) (count_len ms) ∙ add-one (members_len ms)

count_spared : (ms : Members) → count (spared_members ms) ≡ count ms
count_spared no_members = refl
count_spared (member key d ms) = ap (λ n. n + 1) (count_spared ms)

here : (o : Ordering) (d : Data) (rest more : Option Data) → more ≡ option_map spared rest
    → match_ordering o more (Some (spared d)) more
    ≡ option_map spared (match_ordering o rest (Some d) rest)
here Less d rest more is = is
here Equal d rest more is = refl
here Greater d rest more is = is

get_spared : (key : List ℕ) (ms : Members)
    → get_member key (spared_members ms) ≡ option_map spared (get_member key ms)
get_spared key no_members = refl
get_spared key (member name d ms) = here (slice_cmp nat_cmp key name) d (get_member key ms)
    (get_member key (spared_members ms)) (get_spared key ms)

as_if : {X : Type 0} (f : Data → Option X) (b : Bool) (ds : Items) → f null ≡ None
    → f (array ds) ≡ None → f (if b then array ds else null) ≡ None
as_if f true ds none other = other
as_if f false ds none other = none

str_spared : (d : Data) → as_str (spared d) ≡ as_str d
str_spared null = refl
str_spared (boolean b) = refl
str_spared (number n) = refl
str_spared (string s) = refl
str_spared (array ds) = as_if as_str (are_texts ds) ds refl refl
str_spared (object ms) = refl

number_spared : (d : Data) → as_number (spared d) ≡ as_number d
number_spared null = refl
number_spared (boolean b) = refl
number_spared (number n) = refl
number_spared (string s) = refl
number_spared (array ds) = as_if as_number (are_texts ds) ds refl refl
number_spared (object ms) = refl

-- a list of anything but texts has no texts
one_text : (s : Option (List ℕ)) (rest : Bool) (more : Option (List (List ℕ)))
    → (is_some s && rest) ≡ false → (rest ≡ false → more ≡ None)
    → option_and_then (λ text. option_map (λ others. text ∷ others) more) s ≡ None
one_text None rest more none others = refl
one_text (Some s) true more none others = absurd (cc)
one_text (Some s) false more none others = rw (others refl) refl

no_texts : (ds : Items) → are_texts ds ≡ false → texts ds ≡ None
no_texts no_items none = absurd (cc)
no_texts (item d ds) none = one_text (as_str d) (are_texts ds) (texts ds) none (no_texts ds)

listed : (b : Bool) (ds : Items) → are_texts ds ≡ b
    → option_and_then texts (as_array (if b then array ds else null)) ≡ texts ds
listed true ds are = refl
listed false ds are = sym (no_texts ds are)

texts_spared : (d : Data) → option_and_then texts (as_array (spared d))
    ≡ option_and_then texts (as_array d)
texts_spared null = refl
texts_spared (boolean b) = refl
texts_spared (number n) = refl
texts_spared (string s) = refl
texts_spared (array ds) = listed (are_texts ds) ds refl
texts_spared (object ms) = refl

-- a look into a member that may be there
into : {X : Type 0} (f : Data → Option X) (d : Option Data) → ((d : Data) → f (spared d) ≡ f d)
    → option_and_then f (option_map spared d) ≡ option_and_then f d
into f None each = refl
into f (Some d) each = each d

twice : {X Y : Type 0} (f : Y → Option X) (g : Data → Option Y) (d : Option Data)
    → option_and_then f (option_and_then g d) ≡ option_and_then (λ d. option_and_then f (g d)) d
twice f g None = refl
twice f g (Some d) = refl

pub request_spared : (ms : Members)
    → request_of (object (spared_members ms)) ≡ request_of (object ms)
request_spared ms =
    same_request (object ms) (object (spared_members ms)) (count_spared ms)
    (λ key. ap (option_and_then as_str) (get_spared key ms)
    ∙ into as_str (get_member key ms) str_spared)
    (λ key. ap (λ n. option_and_then if_small (option_and_then as_u64 n))
    (ap (option_and_then as_number) (get_spared key ms)
    ∙ into as_number (get_member key ms) number_spared))
    (λ key. twice texts as_array (get_member key (spared_members ms))
    ∙ ap (option_and_then (λ d. option_and_then texts (as_array d))) (get_spared key ms)
    ∙ into (λ d. option_and_then texts (as_array d)) (get_member key ms) texts_spared
    ∙ sym (twice texts as_array (get_member key ms)))

-- ---- what has more members than any request isn't one

module _ (d : Data) (many : 5 < size d) where
  other : (n : ℕ) → n ≤ 5 → (size d == n) ≡ false
  other n few = grind (arith, many, few)

  no_form : (f : Form) → form_request f d ≡ BadCommand
  no_form form.Catalogue = rw (other 2 (omega arith)) refl
  no_form form.Import = rw (other 2 (omega arith), other 3 (omega arith)) refl
  no_form form.Open = rw (other 3 (omega arith)) refl
  no_form form.Attach = rw (other 3 (omega arith)) refl
  no_form form.Choose = rw (other 5 (omega arith)) refl
  no_form form.Freeze = rw (other 3 (omega arith)) refl
  no_form form.Unchoose = rw (other 4 (omega arith)) refl
  no_form form.Conclude = rw (other 4 (omega arith)) refl
  no_form form.Adopt = rw (other 4 (omega arith)) refl
  no_form form.Meet = rw (other 4 (omega arith)) refl
  no_form form.Waive = rw (other 4 (omega arith), other 5 (omega arith)) refl
  no_form form.Reopen = rw (other 4 (omega arith)) refl
  no_form form.Withdraw = rw (other 4 (omega arith)) refl
  no_form form.Close = rw (other 2 (omega arith)) refl
  no_form form.Duties = rw (other 2 (omega arith)) refl
  no_form form.Totals = rw (other 2 (omega arith)) refl
  no_form form.Changes = rw (other 2 (omega arith)) refl
  no_form form.Findings = rw (other 2 (omega arith)) refl
  no_form form.Release = rw (other 2 (omega arith)) refl
  no_form form.Alternatives = rw (other 3 (omega arith)) refl
  no_form form.Cheapest = rw (other 4 (omega arith)) refl
  no_form form.Releases = rw (other 1 (omega arith)) refl
  no_form form.Documents = rw (other 1 (omega arith)) refl
  no_form form.OpenDuties = rw (other 1 (omega arith)) refl
  no_form form.Wanting = rw (other 2 (omega arith)) refl
  no_form form.Ready = rw (other 2 (omega arith), other 3 (omega arith)) refl
  no_form form.Gaps = rw (other 2 (omega arith)) refl

  none_by : (f : Option Form) → request_by f d ≡ BadCommand
  none_by None = refl
  none_by (Some f) = no_form f

  one_word : (word : Option (List ℕ)) (rest : Request) → rest ≡ BadCommand
      → unwrap_or (option_map (λ word. command_request word d) word) rest ≡ BadCommand
  one_word None rest bad = bad
  one_word (Some word) rest bad = sym (command_named word d) ∙ none_by (named_in word commands)

  other_word : (word : Option (List ℕ))
      → unwrap_or (option_map (λ word. query_request word d) word) BadCommand ≡ BadCommand
  other_word None = refl
  other_word (Some word) = sym (query_named word d) ∙ none_by (named_in word queries)

  no_request : request_of d ≡ BadCommand
  no_request = one_word (text_in (codes "do") d) _ (other_word (text_in (codes "ask") d))

no_request_in : (d : Data) → ((ms : Members) → d ≡ object ms → 5 < members_len ms)
    → request_of d ≡ BadCommand
no_request_in null many = refl
no_request_in (boolean b) many = refl
no_request_in (number n) many = refl
no_request_in (string s) many = refl
no_request_in (array ds) many = refl
no_request_in (object ms) many = no_request (object ms) (omega (arith, count_len ms, many ms refl))

by_value : (value : Option Data) → ((ms : Members) → value ≡ Some (object ms) → 5 < members_len ms)
    → unwrap_or (option_map request_of value) BadCommand ≡ BadCommand
by_value None many = refl
by_value (Some d) many = no_request_in d (λ ms is. many ms (ap Some is))

by_text : (bytes : List ℕ) (is : Bool) → is_utf8 bytes ≡ is
    → ((ms : Members) → IsObject bytes ms → 5 < members_len ms)
    → unwrap_or (option_map request_of (if is then read bytes else None)) BadCommand ≡ BadCommand
by_text bytes true is many = by_value (read bytes)
    (λ ms found. many ms (IsUtf8-from_is_utf8 bytes is, found))
by_text bytes false is many = refl

pub request_in-many : (bytes : List ℕ) → ((ms : Members) → IsObject bytes ms → 5 < members_len ms)
    → request_in bytes ≡ BadCommand
request_in-many bytes many = by_text bytes (is_utf8 bytes) refl many
