-- The keys that licences use.
use Rattle.std.proofs.Common.{◌≡◌, ◌↔◌, ◌∙◌, ◌⊎◌, inl, inr, ℕ, zero, suc, Bool, true, false, cond}
use Rattle.std.proofs.Common.{◌+◌, ◌<◌, List, [], ◌∷◌, ◌++◌, length, get_or, drop, sym, subst, ap}
use Rattle.std.proofs.Common.{refl, arith}
use Rattle.std.specs.Prelude.{Contains, ◌||◌, not, filter}
use Rattle.std.proofs.lemmas.Bool.{cases_Bool, false≢true}
use Rattle.std.proofs.lemmas.List.{drop_more}
use Rattle.std.proofs.lemmas.List.Elements.{Contains-append_left, Contains-append_right, Contains-append_cases}
use Rattle.desk_expr.specs.declared.term.Term.{Term}
use Rattle.desk_expr.specs.Tree.{Tree}
use Rattle.desk_expr.specs.Occurring.{leaves, AreTermsOf}
use Rattle.desk_expr.specs.Spelling.{Spells, SpellsWithin}
use Rattle.desk_tree_infos.specs.declared.infos.FileInfo.{FileInfo}
use Rattle.std.specs.Prelude.{OnOk, Ok, Err, Result}
use Rattle.desk_tree_gather.specs.declared.files.SourceFile.{SourceFile}
use Rattle.desk_tree_infos.specs.Readers.{Reader}
use Rattle.desk_tree_gather.specs.Trees.{Read, tree_of}
use Rattle.desk_tree_gather.specs.Gathering.{gathered}
use Rattle.desk_tree_lint.specs.declared.lists.Lint.{Lint}
use Rattle.desk_tree_lint.specs.Texts.{text_files}
use Rattle.desk_tree_lint.specs.Lists.{lists_of, IsLint}
use Rattle.desk_tree_lint.specs.Used.{term_keys, keys_in, Uses, IsUsed, IsUsedIn, IsFirstUsed, SomeOf, AreUsed}
use Rattle.desk_tree_infos.specs.declared.information.Subject.TheVariants.{Licences}
use Rattle.desk_tree_infos.specs.Firsts.{firsts_behind, firsts_of}
use Rattle.std.specs.Str.{bytes_eq}
use Rattle.std.proofs.lemmas.Slice.Eq.{bytes_eq-Decides}
use Rattle.desk_base.proofs.SortedOnce.{same_sorted}
use Rattle.desk_base.proofs.Lists.{contains_cases, none_listed}
use Rattle.desk_base.specs.contracts.key.KeyOrd.TheImpl.Laws.{total-law}
use Rattle.desk_base.specs.TextSets.{is_among}
use Rattle.std.specs.Ordering.{nat_cmp}
use Rattle.std.specs.Cmp.Lexicographic.{slice_cmp}

-- ---- the keys of terms

keys_from : (ts : List Term) (key : List ℕ) → Contains (keys_in ts) key
    → (t : Term) × Contains ts t × Contains (term_keys t) key
keys_from [] key at = absurd (none_listed key at)
keys_from (t ∷ ts) key at =
    elim (Contains-append_cases (term_keys t) (keys_in ts) key at) [
      | inl own ↦ (t, (zero, omega arith, refl), own)
      | inr later ↦ let more = keys_from ts key later in
          (more.0, (suc more.1.0, omega (arith, more.1.1), more.1.2), more.2)
    ]

keys_to : (ts : List Term) (t : Term) (key : List ℕ) → Contains ts t → Contains (term_keys t) key
    → Contains (keys_in ts) key
keys_to [] t key at own = absurd (none_listed t at)
keys_to (x ∷ ts) t key at own =
    elim (contains_cases x ts t at) [
      | inl is ↦ Contains-append_left (term_keys x) (keys_in ts) key
          (subst (λ y. Contains (term_keys y) key) (sym is) own)
      | inr later ↦ Contains-append_right (term_keys x) (keys_in ts) key
          (keys_to ts t key later own)
    ]

keys_move : (xs ys : List Term) (key : List ℕ) → ((t : Term) → Contains xs t → Contains ys t)
    → Contains (keys_in xs) key → Contains (keys_in ys) key
keys_move xs ys key moves at = let found = keys_from xs key at in
    keys_to ys found.0 key (moves found.0 found.1) found.2

-- ---- the keys of a licence

within : (text : List ℕ) (e : Tree) → SpellsWithin text e → Spells text e
within text e h = (h.1, h.2, h.3)

-- the terms of the expression that a text spells give what it uses
pub uses_these : (text : List ℕ) (e : Tree) (ts : List Term) (old new : List (List ℕ))
    → SpellsWithin text e → AreTermsOf e ts
    → ((a b : Tree) → Spells text a → Spells text b → a ≡ b) → new ≡ old ++ keys_in ts
    → (key : List ℕ) → Contains new key ↔ (Contains old key ⊎ Uses text key)
uses_these text e ts old new spells are only added key = (
  (λ at. elim (Contains-append_cases old (keys_in ts) key (subst (λ l. Contains l key) added at)) [
    | inl before ↦ inl before
    | inr own ↦ inr (e, spells, keys_move ts (leaves e) key (λ t. (are.members t).0) own)
  ]),
  (λ h. subst (λ l. Contains l key) (sym added) (elim h [
    | inl before ↦ Contains-append_left old (keys_in ts) key before
    | inr found ↦ Contains-append_right old (keys_in ts) key
        (keys_move (leaves e) ts key (λ t. (are.members t).1)
        (subst (λ (x : Tree). Contains (keys_in (leaves x)) key)
        (only found.0 e (within text found.0 found.1) (within text e spells)) found.2))
  ])),
)

-- a text that spells no expression uses nothing
pub uses_none : (text : List ℕ) (old new : List (List ℕ)) → ((e : Tree) → SpellsWithin text e → ⊥)
    → new ≡ old
    → (key : List ℕ) → Contains new key ↔ (Contains old key ⊎ Uses text key)
uses_none text old new none same key = (
  (λ at. inl (subst (λ l. Contains l key) same at)),
  (λ h. subst (λ l. Contains l key) (sym same)
      (elim h [ inl before ↦ before | inr found ↦ absurd (none found.0 found.1) ])),
)

-- ---- one after another

-- one more item
pub some_more : {A : Type 0} (P : A → Type 0) (xs : List A) (i : ℕ) (d : A) (N O : Type 0)
    → i < length xs → (N ↔ (O ⊎ P (get_or xs i d)))
    → (N ⊎ SomeOf P (drop (i + 1) xs)) ↔ (O ⊎ SomeOf P (drop i xs))
some_more P xs i d N O below step =
    let cut = drop_more xs i d below in (
      (λ h. subst (λ l. O ⊎ SomeOf P l) (sym cut) (elim h [
        | inl n ↦ elim (step.0 n) [ inl o ↦ inl o | inr p ↦ inr (inl p) ]
        | inr later ↦ inr (inr later)
      ])),
      (λ h. elim (subst (λ l. O ⊎ SomeOf P l) cut h) [
        | inl o ↦ inl (step.1 (inl o))
        | inr here ↦ elim here [ inl p ↦ inl (step.1 (inr p)) | inr later ↦ inr later ]
      ]),
    )

pub along : {A B C : Type 0} → (A ↔ B) → (B ↔ C) → (A ↔ C)
along f g = ((λ a. g.0 (f.0 a)), (λ c. f.1 (g.1 c)))

-- the end
pub some_end : {A : Type 0} (P : A → Type 0) (xs : List A) (N : Type 0) → xs ≡ []
    → N ↔ (N ⊎ SomeOf P xs)
some_end P xs N none = (
  (λ n. inl n),
  (λ h. elim (subst (λ l. N ⊎ SomeOf P l) none h) [ inl n ↦ n | inr no_more ↦ absurd no_more ]),
)

-- the start, when nothing is known
pub some_start : {A X : Type 0} (P : A → Type 0) (xs : List A) (x : X) (known : List X) → known ≡ []
    → (Contains known x ⊎ SomeOf P xs) ↔ SomeOf P xs
some_start P xs x known none = (
  (λ h. elim h [
    | inl at ↦ absurd (none_listed x (subst (λ l. Contains l x) none at))
    | inr some ↦ some
  ]),
  (λ some. inr some),
)

-- the first of what is left goes to what is known
pub some_first : {A : Type 0} (P : A → Type 0) (x : A) (all rest : List A) (N O : Type 0)
    → all ≡ x ∷ rest → (N ↔ (O ⊎ P x)) → (N ⊎ SomeOf P rest) ↔ (O ⊎ SomeOf P all)
some_first P x all rest N O cut step = (
  (λ h. subst (λ l. O ⊎ SomeOf P l) (sym cut) (elim h [
    | inl n ↦ elim (step.0 n) [ inl o ↦ inl o | inr p ↦ inr (inl p) ]
    | inr later ↦ inr (inr later)
  ])),
  (λ h. elim (subst (λ l. O ⊎ SomeOf P l) cut h) [
    | inl o ↦ inl (step.1 (inl o))
    | inr here ↦ elim here [ inl p ↦ inl (step.1 (inr p)) | inr later ↦ inr later ]
  ]),
)

-- ---- by the texts that files have first

to_known : (key : List ℕ) (known : List (List ℕ)) (t : List ℕ) → is_among known t ≡ true
    → Uses t key → IsUsedIn known key
to_known key [] t has uses = absurd (false≢true has)
to_known key (u ∷ us) t has uses =
    elim (cases_Bool (bytes_eq u t)) [
      | inl here ↦ inl (subst (λ x. Uses x key) (sym ((bytes_eq-Decides u t).0 here)) uses)
      | inr away ↦ inr (to_known key us t (ap (λ b. b || is_among us t) (sym away) ∙ has) uses)
    ]

used_append : (key : List ℕ) (xs ys : List (List ℕ)) → IsUsedIn (xs ++ ys) key
    → IsUsedIn xs key ⊎ IsUsedIn ys key
used_append key [] ys h = inr h
used_append key (x ∷ xs) ys (inl here) = inl (inl here)
used_append key (x ∷ xs) ys (inr later) = elim (used_append key xs ys later)
    [ inl own ↦ inl (inr own) | inr other ↦ inr other ]

module _ (key : List ℕ) (known : List (List ℕ)) where
  abbrev keeps : List ℕ → Bool
  keeps t = not (is_among known t)

  to_one : (t : List ℕ) (ts : List (List ℕ))
      → (IsUsedIn ts key → IsUsedIn known key ⊎ IsUsedIn (filter keeps ts) key)
      → (b : Bool) → is_among known t ≡ b → Uses t key ⊎ IsUsedIn ts key
      → IsUsedIn known key ⊎ IsUsedIn (cond (not b) (t ∷ filter keeps ts) (filter keeps ts)) key
  to_one t ts more true has (inl own) = inl (to_known key known t has own)
  to_one t ts more true has (inr later) = more later
  to_one t ts more false has (inl own) = inr (inl own)
  to_one t ts more false has (inr later) = elim (more later)
      [ inl was ↦ inl was | inr new ↦ inr (inr new) ]

  to_filtered : (ts : List (List ℕ)) → IsUsedIn ts key
      → IsUsedIn known key ⊎ IsUsedIn (filter keeps ts) key
  to_filtered [] h = absurd h
  to_filtered (t ∷ ts) h = to_one t ts (to_filtered ts) (is_among known t) refl h

  from_one : (t : List ℕ) (ts : List (List ℕ)) → (IsUsedIn (filter keeps ts) key → IsUsedIn ts key)
      → (b : Bool) → IsUsedIn (cond b (t ∷ filter keeps ts) (filter keeps ts)) key
      → Uses t key ⊎ IsUsedIn ts key
  from_one t ts more true (inl own) = inl own
  from_one t ts more true (inr later) = inr (more later)
  from_one t ts more false later = inr (more later)

  from_filtered : (ts : List (List ℕ)) → IsUsedIn (filter keeps ts) key → IsUsedIn ts key
  from_filtered [] h = h
  from_filtered (t ∷ ts) h = from_one t ts (from_filtered ts) (keeps t) h

to_firsts : (key : List ℕ) (infos : List FileInfo) (known : List (List ℕ)) → IsUsed infos key
    → IsUsedIn known key ⊎ IsFirstUsed (firsts_behind Licences known infos) key
to_firsts key [] known h = absurd h
to_firsts key (info ∷ infos) known (inl own) = elim (to_filtered key known info.licences own)
    [ inl was ↦ inl was | inr new ↦ inr (inl new) ]
to_firsts key (info ∷ infos) known (inr later) =
    elim (to_firsts key infos (known ++ info.licences) later) [
      | inl was ↦ elim (used_append key known info.licences was) [
        | inl old ↦ inl old
        | inr own ↦ elim (to_filtered key known info.licences own)
            [ inl old ↦ inl old | inr new ↦ inr (inl new) ]
      ]
      | inr new ↦ inr (inr new)
    ]

from_firsts : (key : List ℕ) (infos : List FileInfo) (known : List (List ℕ))
    → IsFirstUsed (firsts_behind Licences known infos) key → IsUsed infos key
from_firsts key [] known h = absurd h
from_firsts key (info ∷ infos) known (inl new) = inl (from_filtered key known info.licences new)
from_firsts key (info ∷ infos) known (inr later) = inr (from_firsts key infos
    (known ++ info.licences) later)

-- what files use is what the texts that they have first use
pub used_first : (infos : List FileInfo) (key : List ℕ)
    → IsFirstUsed (firsts_of Licences infos) key ↔ IsUsed infos key
used_first infos key = (
  from_firsts key infos [],
  (λ h. elim (to_firsts key infos [] h) [ inl none ↦ absurd none | inr new ↦ new ]),
)

-- what is used is one list
pub used_once : (infos : List FileInfo) (a b : List (List ℕ)) → AreUsed infos a → AreUsed infos b
    → a ≡ b
used_once infos a b h k = same_sorted (slice_cmp nat_cmp) total-law a b h.ordered k.ordered
    (λ key. (
      (λ at. (k.members key).1 ((h.members key).0 at)),
      (λ at. (h.members key).1 ((k.members key).0 at)),
    ))

-- a tree has only one answer
found_once : {A : Type 0} (read : Read A) (a b : A) → read ≡ Ok a → read ≡ Ok b → a ≡ b
found_once read a b h k = let both : Ok a ≡ Ok b = sym h ∙ k in cc

pub lint_once : (r : Reader) (files : List SourceFile) (a b : Lint) → IsLint r files a
    → IsLint r files b → a ≡ b
lint_once r files a b h k =
    let infos : h.infos ≡ k.infos =
    found_once (gathered r files) h.infos k.infos h.is_gathered k.is_gathered in
    let tree : h.tree ≡ k.tree = found_once (tree_of files) h.tree k.tree h.is_tree k.is_tree in
    let keys : h.used ≡ k.used = used_once k.infos h.used k.used
    (subst (λ i. AreUsed i h.used) infos h.are_used) k.are_used in
    h.lists ∙ (λ j. lists_of (infos j) (keys j) (text_files (tree j))) ∙ sym k.lists

-- what follows from a call that succeeded
pub added_by : {T E : Type 0} {P Q : Type 0} (result : Result T E) → OnOk result P → (P → Q)
    → OnOk result Q
added_by (Ok x) holds next = next holds
added_by (Err e) holds next = tt
