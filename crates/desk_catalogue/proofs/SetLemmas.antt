-- Sets of texts and of ids.
use Rattle.std.proofs.Common.{◌≡◌, ◌∙◌, ℕ, ◌+◌, ◌<◌, Bool, true, false, cond, List, [], ◌∷◌, ◌++◌}
use Rattle.std.proofs.Common.{length, get_or, drop, sym, ap, refl, nat_cmp}
use Rattle.std.specs.Prelude.{◌||◌, ◌&&◌, not}
use Rattle.std.specs.List.{list_all, list_any}
use Rattle.std.specs.BTreeMap.{is_at}
use Rattle.std.specs.BTreeSet.{BTreeSet, contains_by, Updates}
use Rattle.std.specs.Cmp.Lexicographic.{slice_cmp}
use Rattle.std.specs.Str.{bytes_eq}
use Rattle.std.proofs.lemmas.Map.Text.{is_eq-slice_cmp}
use Rattle.std.proofs.lemmas.List.{drop_more}
use Rattle.std.proofs.lemmas.List.Folds.{list_any-append}
use denote.Ref.{Bor}
use Rattle.desk_base.specs.Folded.{folded}
use Rattle.desk_catalogue.specs.declared.catalogue.LicenceText.{LicenceText}
use Rattle.desk_catalogue.specs.Kept.{is_text_of}
use Rattle.desk_catalogue.specs.Shown.{HasIds}
use Rattle.desk_base.specs.Borrowed.{texts}
use Rattle.desk_base.specs.TextSets.{is_among}
use Rattle.desk_base.proofs.Texts.{texts_turned}
use Rattle.desk_base.proofs.Bools.{cond_or_turned}

-- a text is found in a set if it is among its texts
pub has_text : (ks : List (Bor (List ℕ))) (q : List ℕ)
    → list_any (is_at (λ (k : Bor (List ℕ)). slice_cmp nat_cmp q k.now)) ks ≡ is_among (texts ks) q
has_text [] q = refl
has_text (k ∷ ks) q = (λ i. (is_eq-slice_cmp q k.now ∙ texts_turned q k.now) i || has_text ks q i)

-- a code that is known, and one that isn't
pub all_go : (known : List (List ℕ)) (listed : List (Bor (List ℕ))) (i : ℕ) (v : Bor (List ℕ))
    → i < length listed → is_among known (get_or listed i v).now ≡ true
    → list_all (is_among known) (texts (drop (i + 1) listed))
    ≡ list_all (is_among known) (texts (drop i listed))
all_go known listed i v within is =
    sym (ap (λ b. b && list_all (is_among known) (texts (drop (i + 1) listed))) is)
    ∙ ap (λ l. list_all (is_among known) (texts l)) (sym (drop_more listed i v within))

pub all_stop : (known : List (List ℕ)) (listed : List (Bor (List ℕ))) (i : ℕ) (v : Bor (List ℕ))
    → i < length listed → is_among known (get_or listed i v).now ≡ false
    → false ≡ list_all (is_among known) (texts (drop i listed))
all_stop known listed i v within is =
    sym (ap (λ b. b && list_all (is_among known) (texts (drop (i + 1) listed))) is)
    ∙ ap (λ l. list_all (is_among known) (texts l)) (sym (drop_more listed i v within))

-- ---- ids of texts

-- an id is new if none of the texts has it
pub is_new : (listed : List LicenceText) (seen : BTreeSet (List ℕ)) (text : LicenceText)
    (key : List ℕ) (added : Bool) → key ≡ folded text.licence → HasIds listed seen
    → added ≡ not (contains_by (slice_cmp nat_cmp key) seen)
    → not (list_any (is_text_of text.licence) listed) ≡ added
is_new listed seen text key added is has told = sym (told
    ∙ ap (λ k. not (contains_by (slice_cmp nat_cmp k) seen)) is ∙ ap not (has text.licence))

-- one more text
pub ids_more : (listed : List LicenceText) (text : LicenceText) (old new : BTreeSet (List ℕ))
    (key : List ℕ) → key ≡ folded text.licence → Updates (slice_cmp nat_cmp) old new key true
    → HasIds listed old → (more : List LicenceText) → more ≡ listed ++ text ∷ [] → HasIds more new
ids_more listed text old new key is h has more put = λ id.
    h.0 (folded id)
    ∙ (λ i. cond ((is_eq-slice_cmp key (folded id) ∙ ap (λ k. bytes_eq k (folded id)) is) i) true
    (has id i))
    ∙ cond_or_turned (is_text_of id text) (list_any (is_text_of id) listed)
    ∙ ap (λ b. list_any (is_text_of id) listed || b) (none_more (is_text_of id text))
    ∙ sym (list_any-append (is_text_of id) listed (text ∷ []))
    ∙ ap (list_any (is_text_of id)) (sym put)
  where
    none_more : (b : Bool) → b ≡ (b || false)
    none_more true = refl
    none_more false = refl
