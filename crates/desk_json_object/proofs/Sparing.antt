-- What is kept of items and members that are read one after another.
use Rattle.std.proofs.Common.{◌≡◌, ℕ, suc, ◌<◌, ◌≤◌, ◌&&◌, Bool, true, false, List, [], ◌∷◌, ◌++◌}
use Rattle.std.proofs.Common.{Option, Some, None, is_some, option_map, option_and_then, Ordering}
use Rattle.std.proofs.Common.{Less, Equal, Greater, refl, sym, ap, ◌∙◌, arith}
use Rattle.std.proofs.Math.Bool.{and-false}
use Rattle.std.specs.Ordering.{nat_cmp, match_ordering}
use Rattle.std.specs.Cmp.Lexicographic.{slice_cmp}
use Rattle.json.specs.Json as json
use Rattle.json.specs.Json.{parse_map, members, value}
use Rattle.json.specs.Token.{Token}
use Rattle.serde_json.specs.Data.{Data, string, object, Items, no_items, item, Members, no_members, member, put}
use Rattle.serde_json.specs.Events.{members_len}
use Rattle.serde_json.specs.Find.{as_str, as_object}
use Rattle.serde_json.specs.Read.{of_json, of_members}
use Rattle.desk_json_object.specs.Seen.{texts_seen}
use Rattle.desk_json_object.specs.Kept.{joined}
use Rattle.desk_json_object.specs.Spared.{are_texts, spared, spared_members}
use Rattle.desk_json_object.proofs.Taking.{members_in, converted_from}

-- ---- items

pub joined_none : (ds : Items) → joined ds no_items ≡ ds
joined_none no_items = refl
joined_none (item d ds) = ap (item d) (joined_none ds)

joined_one : (before : Items) (d : Data) (behind : Items)
    → joined before (item d behind) ≡ joined (joined before (item d no_items)) behind
joined_one no_items d behind = refl
joined_one (item e before) d behind = ap (item e) (joined_one before d behind)

-- one more item is among those before the rest
pub joined_on : (before : Items) (d : Data) (taken : Option (Items × List Token))
    → parse_map (joined before) (parse_map (item d) taken)
    ≡ parse_map (joined (joined before (item d no_items))) taken
joined_on before d None = refl
joined_on before d (Some p) = ap (λ ds. Some (ds, p.1)) (joined_one before d p.0)

pub texts_seen-more : (texts : List (List ℕ)) (text : List ℕ)
    → texts_seen (texts ++ text ∷ []) ≡ joined (texts_seen texts) (item (string text) no_items)
texts_seen-more [] text = refl
texts_seen-more (first ∷ texts) text = ap (item (string first)) (texts_seen-more texts text)

both : (first rest : Bool) {more : Bool} → (first && rest) ≡ true → (rest ≡ true → more ≡ true)
    → (first && more) ≡ true
both true true are more = more refl
both true false are more = absurd (cc)
both false rest are more = absurd (cc)

pub texts_more : (before : Items) (s : List ℕ) → are_texts before ≡ true
    → are_texts (joined before (item (string s) no_items)) ≡ true
texts_more no_items s are = refl
texts_more (item d before) s are = both (is_some (as_str d)) (are_texts before) are
    (texts_more before s)

neither : (first rest more : Bool) → (first && rest) ≡ false → (rest ≡ false → more ≡ false)
    → (first && more) ≡ false
neither true true more none rest = absurd (cc)
neither true false more none rest = rest refl
neither false rest more none other = refl

-- what comes after anything but a text isn't a list of texts
pub no_texts_before : (before behind : Items) → are_texts before ≡ false
    → are_texts (joined before behind) ≡ false
no_texts_before no_items behind none = absurd (cc)
no_texts_before (item d before) behind none = neither (is_some (as_str d)) (are_texts before)
    (are_texts (joined before behind)) none (no_texts_before before behind)

pub no_text_more : (before : Items) (d : Data) → as_str d ≡ None
    → are_texts (joined before (item d no_items)) ≡ false
no_text_more no_items d none = rw none refl
no_text_more (item e before) d none = ap (λ rest. is_some (as_str e) && rest)
    (no_text_more before d none) ∙ and-false (is_some (as_str e))

-- ---- members

spared-match_ordering : (o : Ordering) (a b c : Members)
    → match_ordering o (spared_members a) (spared_members b) (spared_members c)
    ≡ spared_members (match_ordering o a b c)
spared-match_ordering Less a b c = refl
spared-match_ordering Equal a b c = refl
spared-match_ordering Greater a b c = refl

put_spared : (key : List ℕ) (d : Data) (ms : Members)
    → put key (spared d) (spared_members ms) ≡ spared_members (put key d ms)
put_spared key d no_members = refl
put_spared key d (member name e ms) =
    ap (λ more. match_ordering (slice_cmp nat_cmp key name)
    (member key (spared d) (member name (spared e) (spared_members ms)))
    (member name (spared d) (spared_members ms)) (member name (spared e) more))
    (put_spared key d ms)
    ∙ spared-match_ordering (slice_cmp nat_cmp key name) (member key d (member name e ms))
    (member name d ms) (member name e (put key d ms))

pub kept_on : (key : List ℕ) (d seen : Data) (found kept : Members) → spared_members found ≡ kept
    → spared d ≡ seen → spared_members (put key d found) ≡ put key seen kept
kept_on key d seen found kept before same = sym (put_spared key d found)
    ∙ ap (put key (spared d)) before ∙ ap (λ v. put key v kept) same

spared_len : (ms : Members) → members_len (spared_members ms) ≡ members_len ms
spared_len no_members = refl
spared_len (member key d ms) = ap suc (spared_len ms)

pub kept_len : (ms kept : Members) → spared_members ms ≡ kept → members_len ms ≡ members_len kept
kept_len ms kept same = sym (spared_len ms) ∙ ap members_len same

put_more_by : (o : Ordering) (key name : List ℕ) (d e : Data) (ms more : Members)
    → members_len ms ≤ members_len more
    → members_len (member name e ms)
    ≤ members_len (match_ordering o (member key d (member name e ms)) (member name d ms)
    (member name e more))
put_more_by Less key name d e ms more le = omega arith
put_more_by Equal key name d e ms more le = omega arith
put_more_by Greater key name d e ms more le = omega (arith, le)

put_more : (key : List ℕ) (d : Data) (ms : Members) → members_len ms ≤ members_len (put key d ms)
put_more key d no_members = omega arith
put_more key d (member name e ms) = put_more_by (slice_cmp nat_cmp key name) key name d e ms
    (put key d ms) (put_more key d ms)

abbrev or_found : Members → Option Members → Members
or_found found None = found
or_found found (Some ms) = ms

one_more : (d : Option Data) (key : List ℕ) (js : json.Members) (found ms : Members)
    → ((before : Members) → of_members js before ≡ Some ms → members_len before ≤ members_len ms)
    → option_and_then (λ d. of_members js (put key d found)) d ≡ Some ms
    → members_len found ≤ members_len ms
one_more None key js found ms others is = absurd (cc)
one_more (Some d) key js found ms others is = omega
    (arith, put_more key d found, others (put key d found) is)

found_more : (js : json.Members) (found ms : Members) → of_members js found ≡ Some ms
    → members_len found ≤ members_len ms
found_more json.no_members found ms is = let same = ap (or_found found) is in
    omega (arith, ap members_len same)
found_more (json.member key j js) found ms is = one_more (of_json j) key js found ms
    (λ before. found_more js before ms) is

-- members that are added to others are no fewer
pub too_many : (most depth turns : ℕ) (ts rest : List Token) (found ms : Members)
    → most < members_len found → members_in found depth turns ts ≡ Some (ms, rest)
    → most < members_len ms
too_many most depth turns ts rest found ms more is =
    let taken = converted_from (λ js. of_members js found) (members (value depth) turns ts) ms rest
    is in
    omega (arith, more, found_more taken.0 found ms taken.2)

abbrev members_of_object : Option (Data × List Token) → Option (Members × List Token)
members_of_object taken = option_and_then (λ p. option_map (λ ms. (ms, p.1)) (as_object p.0)) taken

object_back : (taken : Option (Members × List Token))
    → members_of_object (parse_map object taken) ≡ taken
object_back None = refl
object_back (Some p) = refl

-- the members of an object that was taken
pub object_from : (taken : Option (Members × List Token)) (outer : Option (Data × List Token))
    (ms : Members) (rest : List Token) → outer ≡ parse_map object taken
    → outer ≡ Some (object ms, rest) → taken ≡ Some (ms, rest)
object_from taken outer ms rest around is = sym (object_back taken)
    ∙ ap members_of_object (sym around ∙ is)
