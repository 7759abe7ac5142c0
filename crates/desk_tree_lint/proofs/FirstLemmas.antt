-- First mentions of keys.
use Rattle.std.proofs.Common.{◌≡◌, ◌∙◌, ◌+◌, ◌<◌, inl, inr, subst, sym, ℕ, zero, suc, Bool, true}
use Rattle.std.proofs.Common.{false, cond, List, [], ◌∷◌, ◌++◌, length, get_or, set, take, map}
use Rattle.std.proofs.Common.{Option, Some, None, ap, refl, arith, nat_cmp, is_eq, Less}
use Rattle.std.specs.Option.{option_copied}
use Rattle.std.specs.Prelude.{Result, OnOk, is_some, option_map, ◌||◌, not, filter}
use Rattle.std.specs.List.{flat_map, AllByRecursion}
use Rattle.std.specs.List.Sorted.{IsStrictlySortedBy}
use Rattle.std.specs.Str.{bytes_eq}
use Rattle.std.specs.Cmp.Lexicographic.{slice_cmp}
use Rattle.std.proofs.lemmas.Bool.{cases_Bool, false≢true, or_cases, not-false}
use Rattle.std.proofs.lemmas.List.{append_assoc, append-nil, flat_map_more, get_or-map, length-map}
use Rattle.std.proofs.lemmas.List.{map_more, map-set, take_more}
use Rattle.std.proofs.lemmas.Cmp.{nat_list_eq_equiv}
use Rattle.std.proofs.lemmas.Slice.Eq.{bytes_eq-Decides}
use Rattle.std.proofs.lemmas.Map.Text.{is_eq-slice_cmp}
use Rattle.std.proofs.Math.Bool.{or-true}
use Rattle.desk_base.specs.TextSets.{is_among}
use denote.Ref.{Bor}
use Rattle.desk_tree_lint.specs.declared.naming.Asked.{Asked}
use Rattle.desk_tree_lint.specs.declared.naming.Mention.{Mention}
use Rattle.desk_tree_infos.specs.declared.infos.FileInfo.{FileInfo}
use Rattle.desk_tree_infos.specs.declared.firsts.First.{First}
use Rattle.desk_tree_infos.specs.declared.information.Subject.TheVariants.{Licences}
use Rattle.desk_tree_infos.specs.Firsts.{first_in, firsts_behind, firsts_of}
use Rattle.desk_tree_infos.specs.Information.{or_else}
use Rattle.desk_tree_infos.proofs.AmongLemmas.{among-append}
use Rattle.desk_tree_lint.specs.Firsts.{AskedText, asked_in, asked_of, keys_asked, mention_in}
use Rattle.desk_tree_lint.specs.Firsts.{mentions_of, first_mentions, Holds}
use Rattle.desk_tree_lint.specs.Naming.{MentionText, mention, ids, mentions_by, mentions, first_with}
use Rattle.desk_tree_lint.specs.Texts.{key_of}

-- ---- one mention after others

or_inside : (b : Bool) (n : MentionText) (o x : Option MentionText)
    → cond b (Some n) (or_else o x) ≡ or_else (cond b (Some n) o) x
or_inside true n o x = refl
or_inside false n o x = refl

first_behind : (ms : List MentionText) (m : MentionText) (key : List ℕ)
    → first_with key (ms ++ m ∷ [])
    ≡ or_else (first_with key ms) (cond (bytes_eq (key_of m.id) key) (Some m) None)
first_behind [] m key = refl
first_behind (n ∷ ns) m key =
    ap (cond (bytes_eq (key_of n.id) key) (Some n)) (first_behind ns m key)
    ∙ or_inside (bytes_eq (key_of n.id) key) n (first_with key ns)
    (cond (bytes_eq (key_of m.id) key) (Some m) None)

known_one : (b : Bool) (m : MentionText) (old : Option MentionText)
    → (b ≡ true → is_some old ≡ true) → old ≡ or_else old (cond b (Some m) None)
known_one b m (Some x) some = refl
known_one true m None some = absurd (false≢true (some refl))
known_one false m None some = refl

pub some_shown : (o : Option Mention) → is_some (option_map mention_in o) ≡ is_some o
some_shown None = refl
some_shown (Some m) = refl

behind_none : (o : Option MentionText) → or_else o None ≡ o
behind_none (Some m) = refl
behind_none None = refl

module _ (ms : List MentionText) (m : MentionText) (key : List ℕ) where
  -- a mention is no first of another key
  other_key : bytes_eq (key_of m.id) key ≡ false → first_with key ms ≡ first_with key (ms ++ m ∷ [])
  other_key away = sym (first_behind ms m key
      ∙ ap (λ b. or_else (first_with key ms) (cond b (Some m) None)) away
      ∙ behind_none (first_with key ms))

  -- nor of a key that was mentioned before
  known_key : (bytes_eq (key_of m.id) key ≡ true → is_some (first_with key ms) ≡ true)
      → first_with key ms ≡ first_with key (ms ++ m ∷ [])
  known_key some = known_one (bytes_eq (key_of m.id) key) m (first_with key ms) some
      ∙ sym (first_behind ms m key)

  own_key : bytes_eq (key_of m.id) key ≡ true → first_with key ms ≡ None
      → Some m ≡ first_with key (ms ++ m ∷ [])
  own_key here none = sym (first_behind ms m key
      ∙ (λ j. or_else (none j) (cond (here j) (Some m) None)))

-- ---- the keys that are asked for

keys-of : (keys : List (List ℕ)) (ms : List MentionText)
    → map (λ (a : AskedText). a.key) (asked_of keys ms) ≡ keys
keys-of [] ms = refl
keys-of (k ∷ ks) ms = ap (λ l. k ∷ l) (keys-of ks ms)

keys-shown : (asked : List Asked)
    → map (λ (a : AskedText). a.key) (map asked_in asked) ≡ keys_asked asked
keys-shown [] = refl
keys-shown (a ∷ more) = ap (λ l. a.key.now ∷ l) (keys-shown more)

pub keys_held : (keys : List (List ℕ)) (ms : List MentionText) (asked : List Asked)
    → Holds keys ms asked → keys_asked asked ≡ keys
keys_held keys ms asked h = sym (keys-shown asked) ∙ ap (map (λ (a : AskedText). a.key)) h.firsts
    ∙ keys-of keys ms

-- keys of which both lists have the same firsts
asked_alike : (keys : List (List ℕ)) (ms ns : List MentionText)
    → ((key : List ℕ) → is_among keys key ≡ true → first_with key ms ≡ first_with key ns)
    → asked_of keys ms ≡ asked_of keys ns
asked_alike [] ms ns same = refl
asked_alike (k ∷ ks) ms ns same = λ j.
    record { key = k; first = same k (ap (λ b. b || is_among ks k) (nat_list_eq_equiv.refl k)) j }
    ∷ asked_alike ks ms ns (λ key among. same key
    (ap (λ b. bytes_eq k key || b) among ∙ or-true (bytes_eq k key))) j

less_than_each : (k : List ℕ) (ks : List (List ℕ)) (key : List ℕ)
    → AllByRecursion (λ y. slice_cmp nat_cmp k y ≡ Less) ks → is_among ks key ≡ true
    → slice_cmp nat_cmp k key ≡ Less
less_than_each k [] key all among = absurd (false≢true among)
less_than_each k (x ∷ xs) key all among =
    elim (cases_Bool (bytes_eq x key)) [
      | inl here ↦ subst (λ y. slice_cmp nat_cmp k y ≡ Less) ((bytes_eq-Decides x key).0 here) all.0
      | inr away ↦ less_than_each k xs key all.1 (ap (λ b. b || is_among xs key) (sym away) ∙ among)
    ]

pub here_among : (ks : List (List ℕ)) (p : ℕ) (d : List ℕ) → p < length ks
    → is_among ks (get_or ks p d) ≡ true
here_among [] p d within = absurd (omega (arith, within))
here_among (k ∷ ks) zero d within = ap (λ b. b || is_among ks k) (nat_list_eq_equiv.refl k)
here_among (k ∷ ks) (suc p) d within = ap (λ b. bytes_eq k (get_or ks p d) || b)
    (here_among ks p d (omega (arith, within))) ∙ or-true (bytes_eq k (get_or ks p d))

apart : (k key : List ℕ) → slice_cmp nat_cmp k key ≡ Less → bytes_eq k key ≡ false
apart k key less = sym (is_eq-slice_cmp k key) ∙ ap is_eq less

same_key : (k key : List ℕ) → k ≡ key → bytes_eq key k ≡ true
same_key k key is = ap (λ l. bytes_eq key l) is ∙ nat_list_eq_equiv.refl key

-- a mention is kept at the place of its key
at_place : (keys : List (List ℕ)) (ms : List MentionText) (m : MentionText) (p : ℕ) (d : List ℕ)
    → IsStrictlySortedBy (slice_cmp nat_cmp) keys → p < length keys → get_or keys p d ≡ key_of m.id
    → first_with (key_of m.id) ms ≡ None
    → set (asked_of keys ms) p (record { key = key_of m.id; first = Some m })
    ≡ asked_of keys (ms ++ m ∷ [])
unfolding IsStrictlySortedBy
at_place [] ms m p d up within is none = absurd (omega (arith, within))
at_place (k ∷ ks) ms m zero d up within is none = λ j.
    record {
      key = sym is j;
      first = own_key ms m k (same_key k (key_of m.id) is) (ap (λ l. first_with l ms) is ∙ none) j;
    }
    ∷ asked_alike ks ms (ms ++ m ∷ [])
    (λ key among. other_key ms m key
    (ap (λ l. bytes_eq l key) (sym is) ∙ apart k key (less_than_each k ks key up.0 among))) j
at_place (k ∷ ks) ms m (suc p) d up within is none =
    let less : slice_cmp nat_cmp k (get_or ks p d) ≡ Less =
    less_than_each k ks (get_or ks p d) up.0 (here_among ks p d (omega (arith, within))) in
    λ j. record {
      key = k;
      first = other_key ms m k (nat_list_eq_equiv.symm (key_of m.id) k
          ∙ ap (λ l. bytes_eq k l) (sym is) ∙ apart k (get_or ks p d) less) j;
    }
    ∷ at_place ks ms m p d up.1 (omega (arith, within)) is none j

-- what is kept at a place
kept_at : (keys : List (List ℕ)) (ms : List MentionText) (asked : List Asked) (p : ℕ) (d : Asked)
    (e : AskedText) → map asked_in asked ≡ asked_of keys ms → p < length asked
    → asked_in (get_or asked p d) ≡ get_or (asked_of keys ms) p e
kept_at keys ms asked p d e is within = sym (get_or-map asked_in asked p d e within)
    ∙ ap (λ l. get_or l p e) is

first_at : (keys : List (List ℕ)) (ms : List MentionText) (p : ℕ) (e : AskedText) → p < length keys
    → get_or (asked_of keys ms) p e
    ≡ record { key = get_or keys p e.key; first = first_with (get_or keys p e.key) ms }
first_at [] ms p e within = absurd (omega (arith, within))
first_at (k ∷ ks) ms zero e within = refl
first_at (k ∷ ks) ms (suc p) e within = first_at ks ms p e (omega (arith, within))

as_many : (keys : List (List ℕ)) (ms : List MentionText) (asked : List Asked)
    → map asked_in asked ≡ asked_of keys ms → length asked ≡ length keys
as_many keys ms asked is = sym (length-map asked asked_in) ∙ ap length is
    ∙ length-map keys (λ key. record { key = key; first = first_with key ms })

-- the key and the first mention at a place
pub held_at : (keys : List (List ℕ)) (ms : List MentionText) (asked : List Asked) (p : ℕ)
    (d : Asked) → Holds keys ms asked → p < length asked
    → (get_or keys p d.key.now ≡ (get_or asked p d).key.now)
    × (option_map mention_in (get_or asked p d).first ≡ first_with (get_or asked p d).key.now ms)
held_at keys ms asked p d h within =
    let e = asked_in d in
    let both = kept_at keys ms asked p d e h.firsts within
    ∙ first_at keys ms p e (subst (λ n. p < n) (as_many keys ms asked h.firsts) within) in
    let own = ap (λ (a : AskedText). a.key) both in (
      sym own,
      ap (λ (a : AskedText). a.first) both ∙ ap (λ key. first_with key ms) (sym own),
    )

none_shown : (o : Option Mention) → is_some o ≡ false → option_map mention_in o ≡ None
none_shown None is = refl
none_shown (Some m) is = absurd (false≢true (sym is))

-- a mention is kept where its key has none
pub kept_new : (m : Mention) (asked : List Asked) (name : List ℕ) (p : ℕ) (d : Asked)
    → name ≡ key_of m.id.now → p < length asked → (get_or asked p d).key.now ≡ name
    → is_some (get_or asked p d).first ≡ false
    → (keys : List (List ℕ)) (ms : List MentionText) → Holds keys ms asked
    → Holds keys (ms ++ mention_in m ∷ [])
    (set asked p (record (get_or asked p d) { first = Some m }))
kept_new m asked name p d is within own none keys ms h =
    let at = held_at keys ms asked p d h within in
    let key : (get_or asked p d).key.now ≡ key_of m.id.now = own ∙ is in
    record {
      ordered = h.ordered;
      firsts =
          map-set asked_in asked p (record (get_or asked p d) { first = Some m })
          ∙ (λ j. set (h.firsts j) p (record { key = key j; first = Some (mention_in m) }))
          ∙ at_place keys ms (mention_in m) p d.key.now h.ordered
          (subst (λ n. p < n) (as_many keys ms asked h.firsts) within) (at.0 ∙ key)
          (ap (λ l. first_with l ms) (sym key) ∙ sym at.1
          ∙ none_shown (get_or asked p d).first none);
    }

-- it changes nothing where its key has one
pub kept_before : (m : MentionText) (asked : List Asked) (name : List ℕ) (p : ℕ) (d : Asked)
    → name ≡ key_of m.id → p < length asked → (get_or asked p d).key.now ≡ name
    → is_some (get_or asked p d).first ≡ true
    → (keys : List (List ℕ)) (ms : List MentionText) → Holds keys ms asked
    → Holds keys (ms ++ m ∷ []) asked
kept_before m asked name p d is within own some keys ms h =
    let at = held_at keys ms asked p d h within in
    let known : is_some (first_with (key_of m.id) ms) ≡ true =
    ap is_some (ap (λ l. first_with l ms) (sym (own ∙ is)) ∙ sym at.1)
    ∙ some_shown (get_or asked p d).first ∙ some in
    record {
      ordered = h.ordered;
      firsts = h.firsts ∙ asked_alike keys ms (ms ++ m ∷ []) (λ key among. known_key ms m key
          (λ same. subst (λ l. is_some (first_with l ms) ≡ true)
          ((bytes_eq-Decides (key_of m.id) key).0 same) known));
    }

-- nor where its key isn't asked for
pub kept_nowhere : (m : MentionText) (asked : List Asked) (name : List ℕ) → name ≡ key_of m.id
    → (IsStrictlySortedBy (slice_cmp nat_cmp) (keys_asked asked)
    → is_among (keys_asked asked) name ≡ false)
    → (keys : List (List ℕ)) (ms : List MentionText) → Holds keys ms asked
    → Holds keys (ms ++ m ∷ []) asked
kept_nowhere m asked name is none keys ms h =
    let all = keys_held keys ms asked h in
    let away : is_among keys (key_of m.id) ≡ false =
    (λ j. is_among (sym all j) (sym is j))
    ∙ none (subst (IsStrictlySortedBy (slice_cmp nat_cmp)) (sym all) h.ordered) in
    record {
      ordered = h.ordered;
      firsts = h.firsts ∙ asked_alike keys ms (ms ++ m ∷ [])
          (λ key among. other_key ms m key (elim (cases_Bool (bytes_eq (key_of m.id) key)) [
            | inl here ↦ absurd (false≢true
                (sym away ∙ ap (is_among keys) ((bytes_eq-Decides (key_of m.id) key).0 here)
                ∙ among))
            | inr apart ↦ apart
          ]));
    }

-- the first of a key that stands at a place, and of one that stands at none
pub first_there : (asked : List Asked) (name : List ℕ) (p : ℕ) (d : Asked) → p < length asked
    → (get_or asked p d).key.now ≡ name
    → (keys : List (List ℕ)) (ms : List MentionText) → Holds keys ms asked
    → option_map mention_in (get_or asked p d).first ≡ first_with name ms
first_there asked name p d within own keys ms h = (held_at keys ms asked p d h within).1
    ∙ ap (λ l. first_with l ms) own

pub first_nowhere : (asked : List Asked) (name : List ℕ)
    → (IsStrictlySortedBy (slice_cmp nat_cmp) (keys_asked asked)
    → is_among (keys_asked asked) name ≡ false)
    → (keys : List (List ℕ)) (ms : List MentionText) → Holds keys ms asked
    → is_among keys name ≡ true → ⊥
first_nowhere asked name none keys ms h among =
    let all = keys_held keys ms asked h in
    false≢true (sym (none (subst (IsStrictlySortedBy (slice_cmp nat_cmp)) (sym all) h.ordered))
    ∙ ap (λ ks. is_among ks name) all ∙ among)

-- the same mentions are kept
pub holds_along : {T E : Type 0} (result : Result T E) (old new : List Asked)
    (more same : List MentionText) → more ≡ same
    → OnOk result ((keys : List (List ℕ)) (ms : List MentionText) → Holds keys ms old
    → Holds keys (ms ++ more) new)
    → OnOk result ((keys : List (List ℕ)) (ms : List MentionText) → Holds keys ms old
    → Holds keys (ms ++ same) new)
holds_along result old new more same is kept =
    subst (λ (l : List MentionText). OnOk result
    ((keys : List (List ℕ)) (ms : List MentionText) → Holds keys ms old → Holds keys (ms ++ l) new))
    is kept

-- those of one more file
pub mentions_more : (ms : List MentionText) (firsts : List First) (i : ℕ) (d : First)
    → i < length firsts
    → (ms ++ first_mentions (map first_in (take i firsts)))
    ++ mentions_of (first_in (get_or firsts i d)) ≡ ms
    ++ first_mentions (map first_in (take (i + 1) firsts))
mentions_more ms firsts i d within =
    flat_map_more mentions_of ms (map first_in (take i firsts)) (first_in (get_or firsts i d))
    ∙ ap (λ fs. ms ++ first_mentions fs) (sym (map_more first_in firsts i d within))

-- a mention that is lent
pub lent_shown : (lent : Option (Bor Mention)) (kept : Option Mention) → option_copied lent ≡ kept
    → option_map (λ (m : Bor Mention). mention_in m.now) lent ≡ option_map mention_in kept
lent_shown None kept is = ap (option_map mention_in) is
lent_shown (Some m) kept is = ap (option_map mention_in) is

-- ---- what brings no first

-- identifiers add no first mention after these, whichever file names them
abbrev pub BringNone : List MentionText → List (List ℕ) → Type 0
BringNone ms named = (path key : List ℕ)
    → first_with key (ms ++ map (mention path) named) ≡ first_with key ms

first_app : (key : List ℕ) (ms ns : List MentionText)
    → first_with key (ms ++ ns) ≡ or_else (first_with key ms) (first_with key ns)
first_app key [] ns = refl
first_app key (m ∷ ms) ns =
    ap (cond (bytes_eq (key_of m.id) key) (Some m)) (first_app key ms ns)
    ∙ or_inside (bytes_eq (key_of m.id) key) m (first_with key ms) (first_with key ns)

some_both : (b : Bool) (m n : MentionText) (x y : Option MentionText) → is_some x ≡ is_some y
    → is_some (cond b (Some m) x) ≡ is_some (cond b (Some n) y)
some_both true m n x y is = refl
some_both false m n x y is = is

-- whichever file names them
either_file : (one other key : List ℕ) (named : List (List ℕ))
    → is_some (first_with key (map (mention one) named))
    ≡ is_some (first_with key (map (mention other) named))
either_file one other key [] = refl
either_file one other key (id ∷ more) =
    some_both (bytes_eq (key_of id) key) (mention one id) (mention other id)
    (first_with key (map (mention one) more)) (first_with key (map (mention other) more))
    (either_file one other key more)

second_same : (x y z : Option MentionText) → is_some y ≡ is_some z
    → or_else (or_else x y) z ≡ or_else x y
second_same (Some m) y z is = refl
second_same None (Some m) z is = refl
second_same None None None is = refl
second_same None None (Some m) is = absurd (false≢true is)

still_none : (x y z : Option MentionText) → or_else x z ≡ x → or_else (or_else x y) z ≡ or_else x y
still_none (Some m) y z is = refl
still_none None (Some m) z is = refl
still_none None None z is = is

-- what was named before
pub named_again : (ms : List MentionText) (one : List ℕ) (named : List (List ℕ))
    → BringNone (ms ++ map (mention one) named) named
named_again ms one named path key =
    let own = map (mention one) named in
    first_app key (ms ++ own) (map (mention path) named)
    ∙ ap (λ o. or_else o (first_with key (map (mention path) named))) (first_app key ms own)
    ∙ second_same (first_with key ms) (first_with key own)
    (first_with key (map (mention path) named)) (either_file one path key named)
    ∙ sym (first_app key ms own)

-- nor after more mentions
pub none_behind : (ms more : List MentionText) (named : List (List ℕ)) → BringNone ms named
    → BringNone (ms ++ more) named
none_behind ms more named none path key =
    let new = map (mention path) named in
    first_app key (ms ++ more) new
    ∙ ap (λ o. or_else o (first_with key new)) (first_app key ms more)
    ∙ still_none (first_with key ms) (first_with key more) (first_with key new)
    (sym (first_app key ms new) ∙ none path key)
    ∙ sym (first_app key ms more)

-- one more licence
pub licences_more : (before : List MentionText) (path : List ℕ) (licences : List (List ℕ)) (i : ℕ)
    (d : List ℕ) → i < length licences
    → (before ++ flat_map (mentions_by path) (take i licences))
    ++ mentions_by path (get_or licences i d) ≡ before
    ++ flat_map (mentions_by path) (take (i + 1) licences)
licences_more before path licences i d within =
    flat_map_more (mentions_by path) before (take i licences) (get_or licences i d)
    ∙ ap (λ l. before ++ flat_map (mentions_by path) l) (sym (take_more licences i d within))

-- ---- what was named before is left out

-- the first of each key is the same in both
abbrev pub Alike : List MentionText → List MentionText → Type 0
Alike ms ns = (key : List ℕ) → first_with key ms ≡ first_with key ns

behind_alike : (ms ns more : List MentionText) → Alike ms ns → Alike (ms ++ more) (ns ++ more)
behind_alike ms ns more same key = first_app key ms more
    ∙ ap (λ o. or_else o (first_with key more)) (same key) ∙ sym (first_app key ns more)

-- a licence that adds no first mention is left out of others
left_out : (ms : List MentionText) (path licence : List ℕ) (more : List MentionText)
    → BringNone ms (ids licence) → Alike (ms ++ (mentions_by path licence ++ more)) (ms ++ more)
left_out ms path licence more none key =
    ap (first_with key) (sym (append_assoc ms (mentions_by path licence) more))
    ∙ behind_alike (ms ++ mentions_by path licence) ms more (none path) key

module _ (path : List ℕ) (keeps : List ℕ → Bool) where
  abbrev named : List (List ℕ) → List MentionText
  named licences = flat_map (mentions_by path) licences

  one_tested : (t : List ℕ) (ts : List (List ℕ)) (ms : List MentionText)
      → ((u : List ℕ) → keeps u ≡ false → BringNone ms (ids u))
      → ((ns : List MentionText) → ((u : List ℕ) → keeps u ≡ false → BringNone ns (ids u))
      → Alike (ns ++ named ts) (ns ++ named (filter keeps ts)))
      → (b : Bool) → keeps t ≡ b → Alike (ms ++ (mentions_by path t ++ named ts))
      (ms ++ named (cond b (t ∷ filter keeps ts) (filter keeps ts)))
  one_tested t ts ms none more true is key =
      ap (first_with key) (sym (append_assoc ms (mentions_by path t) (named ts)))
      ∙ more (ms ++ mentions_by path t)
      (λ u out. none_behind ms (mentions_by path t) (ids u) (none u out)) key
      ∙ ap (first_with key) (append_assoc ms (mentions_by path t) (named (filter keeps ts)))
  one_tested t ts ms none more false is key = left_out ms path t (named ts) (none t is) key
      ∙ more ms none key

  -- the licences of a file without some that add no first mention
  pub filtered_alike : (licences : List (List ℕ)) (ms : List MentionText)
      → ((t : List ℕ) → keeps t ≡ false → BringNone ms (ids t))
      → Alike (ms ++ flat_map (mentions_by path) licences)
      (ms ++ flat_map (mentions_by path) (filter keeps licences))
  filtered_alike [] ms none = λ key. refl
  filtered_alike (t ∷ ts) ms none = one_tested t ts ms none (filtered_alike ts) (keeps t) refl

-- a licence adds no first mention after those of a file that has it
named_there : (ms : List MentionText) (path : List ℕ) (licences : List (List ℕ)) (t : List ℕ)
    → is_among licences t ≡ true → BringNone (ms ++ flat_map (mentions_by path) licences) (ids t)
named_there ms path [] t has = absurd (false≢true has)
named_there ms path (u ∷ us) t has =
    subst (λ l. BringNone l (ids t))
    (append_assoc ms (mentions_by path u) (flat_map (mentions_by path) us))
    (elim (cases_Bool (bytes_eq u t)) [
      | inl here ↦ none_behind (ms ++ mentions_by path u) (flat_map (mentions_by path) us) (ids t)
          (subst (λ x. BringNone (ms ++ mentions_by path u) (ids x)) ((bytes_eq-Decides u t).0 here)
          (named_again ms path (ids u)))
      | inr away ↦ named_there (ms ++ mentions_by path u) path us t
          (ap (λ b. b || is_among us t) (sym away) ∙ has)
    ])

-- of all files
files_alike : (infos : List FileInfo) (known : List (List ℕ)) (ms ns : List MentionText)
    → Alike ms ns → ((t : List ℕ) → is_among known t ≡ true → BringNone ms (ids t))
    → Alike (ms ++ mentions infos) (ns ++ first_mentions (firsts_behind Licences known infos))
files_alike [] known ms ns same none key = ap (first_with key) (append-nil ms) ∙ same key
    ∙ ap (first_with key) (sym (append-nil ns))
files_alike (info ∷ infos) known ms ns same none key =
    let keeps : List ℕ → Bool = λ t. not (is_among known t) in
    let all = flat_map (mentions_by info.path) info.licences in
    let new = flat_map (mentions_by info.path) (filter keeps info.licences) in
    ap (first_with key) (sym (append_assoc ms all (mentions infos)))
    ∙ files_alike infos (known ++ info.licences) (ms ++ all) (ns ++ new)
    (λ k. filtered_alike info.path keeps info.licences ms
    (λ t out. none t (not-false (is_among known t) out)) k ∙ behind_alike ms ns new same k)
    (λ t has. elim (or_cases (is_among known t) (is_among info.licences t)
    (sym (among-append known info.licences t) ∙ has)) [
      | inl was ↦ none_behind ms all (ids t) (none t was)
      | inr own ↦ named_there ms info.path info.licences t own
    ]) key
    ∙ ap (first_with key) (append_assoc ns new
    (first_mentions (firsts_behind Licences (known ++ info.licences) infos)))

-- the first mention of a key is in the licences that files have first
pub mentions_alike : (infos : List FileInfo)
    → Alike (mentions infos) (first_mentions (firsts_of Licences infos))
mentions_alike infos = files_alike infos [] [] [] (λ key. refl) (λ t has. absurd (false≢true has))
