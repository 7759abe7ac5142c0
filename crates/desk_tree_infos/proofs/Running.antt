-- The texts of a file, given by one walk down the folders.
use Rattle.std.proofs.Common.{◌≡◌, ◌∙◌, ℕ, ◌+◌, ◌<◌, true, false, cond, List, [], ◌∷◌, ◌++◌, length}
use Rattle.std.proofs.Common.{get_or, drop, Option, Some, None, option_map, option_to_list, sym, ap}
use Rattle.std.proofs.Common.{refl, append_assoc, filter}
use Rattle.std.specs.List.{flat_map, slice_get, cons_option}
use Rattle.std.proofs.lemmas.List.{append-nil}
use Rattle.desk_tree_annotations.specs.declared.annotation.Annotation.{Annotation}
use Rattle.desk_tree_annotations.specs.declared.annotation.Precedence.{Precedence}
use Rattle.desk_tree_annotations.specs.declared.annotation.Precedence.TheVariants.{Closest, Aggregate, Override}
use Rattle.desk_tree_infos.specs.declared.information.Subject.{Subject}
use Rattle.desk_tree_infos.specs.Information.{texts_of, is_override, is_aggregate, topmost}
use Rattle.desk_tree_infos.specs.Information.{aggregated, some_or, closest_texts, nearest, given}
use Rattle.desk_tree_infos.specs.Information.{given_by}
use Rattle.desk_tree_infos.specs.Sharing.{annotations_at, texts_at}
use Rattle.desk_tree_infos.proofs.SharingLemmas.{annotations_at-drop, texts_at-append, texts_at-one}

abbrev pub Texts : Type 0
Texts = List (List ℕ)

abbrev pub pick : Precedence → Texts → Texts → Texts → Texts
pick Override a b c = a
pick Aggregate a b c = b
pick Closest a b c = c

-- from the texts so far, and those of the nearest `closest` annotation so far
abbrev pub running : Subject → Texts → Texts → Texts → List Annotation → Texts
running of own done closest [] = done ++ some_or own closest
running of own done closest (a ∷ more) =
    pick a.precedence (done ++ texts_of of a) (running of own (done ++ texts_of of a) closest more)
    (running of own done (some_or (texts_of of a) closest) more)

-- what is given in the end, by the override nearest the root
abbrev Top : Type 0
Top = Option (List Annotation × Annotation)

abbrev ends : Subject → Texts → Texts → Texts → Texts → Texts → Top → Texts
ends of own done closest aggregates near (Some top) = done
    ++ (aggregated of top.0 ++ texts_of of top.1)
ends of own done closest aggregates near None = done
    ++ (aggregates ++ some_or own (some_or near closest))

abbrev above : Annotation → Top → Top
above a top = option_map (λ (t : List Annotation × Annotation). (a ∷ t.0, t.1)) top

some_or_assoc : (a b c : Texts) → some_or a (some_or b c) ≡ some_or (some_or a b) c
some_or_assoc [] b c = refl
some_or_assoc (x ∷ xs) b c = refl

some_or-none : (a c : Texts) → some_or (some_or a []) c ≡ some_or a c
some_or-none [] c = refl
some_or-none (x ∷ xs) c = refl

-- an aggregate and a closest annotation above the rest
by_aggregate : (of : Subject) (own done closest aggregates near : Texts) (a : Annotation)
    (top : Top) → is_aggregate a.precedence ≡ true
    → ends of own (done ++ texts_of of a) closest aggregates near top
    ≡ ends of own done closest (texts_of of a ++ aggregates) (some_or near []) (above a top)
by_aggregate of own done closest aggregates near a (Some top) is =
    append_assoc done (texts_of of a) (aggregated of top.0 ++ texts_of of top.1)
    ∙ ap (λ t. done ++ t) (sym (append_assoc (texts_of of a) (aggregated of top.0)
    (texts_of of top.1))
    ∙ ap (λ l. l ++ texts_of of top.1)
    (ap (λ b. flat_map (texts_of of)
    (cond b (a ∷ filter (λ x. is_aggregate x.precedence) top.0)
    (filter (λ x. is_aggregate x.precedence) top.0))) (sym is)))
by_aggregate of own done closest aggregates near a None is =
    append_assoc done (texts_of of a) (aggregates ++ some_or own (some_or near closest))
    ∙ ap (λ t. done ++ t) (sym (append_assoc (texts_of of a) aggregates
    (some_or own (some_or near closest)))
    ∙ ap (λ n. (texts_of of a ++ aggregates) ++ some_or own n) (sym (some_or-none near closest)))

by_closest : (of : Subject) (own done closest aggregates near : Texts) (a : Annotation) (top : Top)
    → is_aggregate a.precedence ≡ false
    → ends of own done (some_or (texts_of of a) closest) aggregates near top
    ≡ ends of own done closest aggregates (some_or near (texts_of of a)) (above a top)
by_closest of own done closest aggregates near a (Some top) is =
    ap (λ b. done ++ (flat_map (texts_of of)
    (cond b (a ∷ filter (λ x. is_aggregate x.precedence) top.0)
    (filter (λ x. is_aggregate x.precedence) top.0)) ++ texts_of of top.1)) (sym is)
by_closest of own done closest aggregates near a None is = ap (λ n. done
    ++ (aggregates ++ some_or own n)) (some_or_assoc near (texts_of of a) closest)

-- one annotation, whatever its precedence
abbrev Steps : Subject → Texts → Texts → Texts → Annotation → List Annotation → Precedence → Type 0
Steps of own done closest a more p =
    pick p (done ++ texts_of of a)
    (ends of own (done ++ texts_of of a) closest (aggregated of more) (nearest of more)
    (topmost more)) (ends of own done (some_or (texts_of of a) closest) (aggregated of more)
    (nearest of more) (topmost more))
    ≡ ends of own done closest
    (flat_map (texts_of of) (cond (is_aggregate p)
    (a ∷ filter (λ x. is_aggregate x.precedence) more)
    (filter (λ x. is_aggregate x.precedence) more)))
    (some_or (nearest of more) (closest_texts of p a))
    (cond (is_override p) (Some ([], a)) (above a (topmost more)))

step : (of : Subject) (own done closest : Texts) (a : Annotation) (more : List Annotation)
    (p : Precedence) → a.precedence ≡ p → Steps of own done closest a more p
step of own done closest a more Override is = refl
step of own done closest a more Aggregate is = by_aggregate of own done closest (aggregated of more)
    (nearest of more) a (topmost more) (ap is_aggregate is)
step of own done closest a more Closest is = by_closest of own done closest (aggregated of more)
    (nearest of more) a (topmost more) (ap is_aggregate is)

pick_along : (p : Precedence) (a b c b' c' : Texts) → b ≡ b' → c ≡ c'
    → pick p a b c ≡ pick p a b' c'
pick_along Override a b c b' c' e f = refl
pick_along Aggregate a b c b' c' e f = e
pick_along Closest a b c b' c' e f = f

runs_to : (of : Subject) (own done closest : Texts) (list : List Annotation)
    → running of own done closest list
    ≡ ends of own done closest (aggregated of list) (nearest of list) (topmost list)
runs_to of own done closest [] = refl
runs_to of own done closest (a ∷ more) =
    pick_along a.precedence _ _ _ _ _ (runs_to of own (done ++ texts_of of a) closest more)
    (runs_to of own done (some_or (texts_of of a) closest) more)
    ∙ step of own done closest a more a.precedence refl

at_first : (of : Subject) (own : Texts) (list : List Annotation) (top : Top)
    → ends of own [] [] (aggregated of list) (nearest of list) top ≡ given_by of own list top
at_first of own list (Some top) = refl
at_first of own list None = ap (λ n. aggregated of list ++ some_or own n) (none (nearest of list))
  where
    none : (n : Texts) → some_or n [] ≡ n
    none [] = refl
    none (x ∷ xs) = refl

-- from nothing, it gives the texts of the definition
pub running_gives : (of : Subject) (own : Texts) (list : List Annotation)
    → running of own [] [] list ≡ given of own list
running_gives of own list = runs_to of own [] [] list ∙ at_first of own list (topmost list)

-- ---- by the annotations' numbers

module _ (all : List Annotation) (of : Subject) (own : Texts) (numbers : List ℕ) (closest : Texts)
    (counting : List ℕ) (i d : ℕ) (a : Annotation) (within : i < length counting)
    (is : Some a ≡ slice_get all (get_or counting i d)) where
  abbrev rest : List Annotation
  rest = annotations_at all (drop (i + 1) counting)

  abbrev done : Texts
  done = texts_at all of numbers

  whole : pick a.precedence (done ++ texts_of of a)
      (running of own (done ++ texts_of of a) closest rest)
      (running of own done (some_or (texts_of of a) closest) rest)
      ≡ running of own done closest (annotations_at all (drop i counting))
  whole = sym (ap (running of own done closest)
      (annotations_at-drop all counting i d within ∙ ap (λ o. cons_option o rest) (sym is)))

  with_one : (grown : List ℕ) → grown ≡ numbers ++ get_or counting i d ∷ []
      → texts_at all of grown ≡ done ++ texts_of of a
  with_one grown added = ap (texts_at all of) added
      ∙ texts_at-append all of numbers (get_or counting i d ∷ [])
      ∙ ap (λ l. done ++ l) (texts_at-one all of (get_or counting i d) a (sym is))

  pub by_override : (grown : List ℕ) (nothing : Texts) → a.precedence ≡ Override
      → grown ≡ numbers ++ get_or counting i d ∷ [] → nothing ≡ []
      → texts_at all of grown ++ nothing
      ≡ running of own done closest (annotations_at all (drop i counting))
  by_override grown nothing override added none =
      ap (λ l. texts_at all of grown ++ l) none ∙ append-nil (texts_at all of grown)
      ∙ with_one grown added
      ∙ ap (λ p. pick p (done ++ texts_of of a)
      (running of own (done ++ texts_of of a) closest rest)
      (running of own done (some_or (texts_of of a) closest) rest)) (sym override)
      ∙ whole

  pub by_aggregate_at : (grown : List ℕ) (near : Texts) → a.precedence ≡ Aggregate
      → grown ≡ numbers ++ get_or counting i d ∷ [] → near ≡ closest
      → running of own (texts_at all of grown) near rest
      ≡ running of own done closest (annotations_at all (drop i counting))
  by_aggregate_at grown near aggregate added same =
      (λ j. running of own (with_one grown added j) (same j) rest)
      ∙ ap (λ p. pick p (done ++ texts_of of a)
      (running of own (done ++ texts_of of a) closest rest)
      (running of own done (some_or (texts_of of a) closest) rest)) (sym aggregate)
      ∙ whole

  pub by_closest_at : (same : List ℕ) (near : Texts) → a.precedence ≡ Closest → same ≡ numbers
      → near ≡ some_or (texts_of of a) closest
      → running of own (texts_at all of same) near rest
      ≡ running of own done closest (annotations_at all (drop i counting))
  by_closest_at same near is_closest kept nearer =
      (λ j. running of own (texts_at all of (kept j)) (nearer j) rest)
      ∙ ap (λ p. pick p (done ++ texts_of of a)
      (running of own (done ++ texts_of of a) closest rest)
      (running of own done (some_or (texts_of of a) closest) rest)) (sym is_closest)
      ∙ whole

nothing : (xs : Texts) → length xs ≡ 0 → xs ≡ []
nothing [] is = refl
nothing (x ∷ xs) is = absurd cc

-- if a file has no texts of its own
pub without_own : (all : List Annotation) (of : Subject) (numbers grown : List ℕ) (own : Texts)
    (closest : Option ℕ) → grown ≡ numbers ++ option_to_list closest → length own ≡ 0
    → texts_at all of grown ++ own ≡ texts_at all of numbers
    ++ some_or own (texts_at all of (option_to_list closest))
without_own all of numbers grown own closest added none =
    let no_own : own ≡ [] = nothing own none in
    (λ i. texts_at all of (added i) ++ no_own i)
    ∙ append-nil (texts_at all of (numbers ++ option_to_list closest))
    ∙ texts_at-append all of numbers (option_to_list closest)
    ∙ ap (λ o. texts_at all of numbers ++ some_or o (texts_at all of (option_to_list closest)))
    (sym no_own)
