-- Conclusions and adoptions: the last one counts, and none is recorded for a package for which a
-- choice is held.
use Rattle.std.proofs.Common.{◌≡◌, ℕ, Bool, true, false, cond, List, [], ◌∷◌, Some, None, refl, ap, ◌∙◌, subst}
use Rattle.std.specs.Prelude.{if◌then◌else◌, filter, find, not, ◌&&◌, ◌||◌, ◌==◌}
use Rattle.std.specs.List.{list_any}
use Rattle.std.specs.Option.{option_map}
use Rattle.std.specs.Str.{bytes_eq}
use Rattle.std.proofs.lemmas.Cmp.{on_total, then_total, nat_list_cmp_total, nat_cmp_total}
use Rattle.desk_model.specs.Lists.{latest, or_else, put, replaced, ascends}
use Rattle.desk_model.specs.Readings.{Readings}
use Rattle.desk_model.specs.Keys.{below_by, conclusion_order, adoption_order, is_conclusion, is_adoption}
use Rattle.desk_model.specs.Conclusions.{conclusions, conclusion_row, office_text, text_given}
use Rattle.desk_model.specs.Conclusions.{adoptions, adoption_row, licence_for, licence_given}
use Rattle.desk_model.specs.declared.row.AdoptionRow.{AdoptionRow}
use Rattle.desk_model.specs.declared.row.ConclusionRow.{ConclusionRow}
use Rattle.desk_model.specs.declared.command.Command.{Command}
use Rattle.desk_model.specs.declared.command.Command.TheVariants.{Conclude, Adopt}
use Rattle.desk_model.proofs.Orders.{IsOrder, order_of, ascends-put}
use Rattle.desk_model.proofs.Lists.{ascends-filter}
use Rattle.desk_base.proofs.Bools.{and_left, and_right}
use Rattle.desk_base.proofs.Texts.{texts_equal, same_text}
use Rattle.desk_base.proofs.Numbers.{numbers_equal, same_number}

-- A row instead of those with its key

found_put : {A : Type 0} (below : A → A → Bool) (test : A → Bool) (x : A) (xs : List A)
    → test x ≡ true → list_any test xs ≡ false → find test (put below x xs) ≡ Some x
found_put below test x [] e none = rw e refl
found_put below test x (y ∷ ys) e none =
    elim (below x y) as (λ b. find test (if b then x ∷ y ∷ ys else y ∷ put below x ys) ≡ Some x) [
      | true ↦ rw e refl
      | false ↦ rw (first none) (found_put below test x ys e (rest none))
    ]
  where
    or_none : (a b : Bool) → (a || b) ≡ false → (a ≡ false) × (b ≡ false)
    or_none true b e = cc
    or_none false b e = (refl, e)

    first : (test y || list_any test ys) ≡ false → test y ≡ false
    first n = (or_none (test y) (list_any test ys) n).0

    rest : (test y || list_any test ys) ≡ false → list_any test ys ≡ false
    rest n = (or_none (test y) (list_any test ys) n).1

pub passed_by : {A : Type 0} (below : A → A → Bool) (test : A → Bool) (x : A) (xs : List A)
    → test x ≡ false → find test (put below x xs) ≡ find test xs
passed_by below test x [] e = rw e refl
passed_by below test x (y ∷ ys) e =
    elim (below x y) as (λ b. find test (if b then x ∷ y ∷ ys else y ∷ put below x ys)
    ≡ find test (y ∷ ys)) [
      | true ↦ rw e refl
      | false ↦ ap (λ o. cond (test y) (Some y) o) (passed_by below test x ys e)
    ]

none_left : {A : Type 0} (at : A → Bool) (xs : List A)
    → list_any at (filter (λ y. not (at y)) xs) ≡ false
none_left at [] = refl
none_left at (x ∷ xs) = step (none_left at xs) (at x) refl
  where
    step : list_any at (filter (λ y. not (at y)) xs) ≡ false → (b : Bool) → at x ≡ b
        → list_any at (cond (not b) (x ∷ filter (λ y. not (at y)) xs) (filter (λ y. not (at y)) xs))
        ≡ false
    step rest true e = rest
    step rest false e = rw e rest

-- a test that rules out the other one finds what it found before
kept_by : {A : Type 0} (test at : A → Bool) → ((x : A) → test x ≡ true → at x ≡ false)
    → (xs : List A) → find test (filter (λ y. not (at y)) xs) ≡ find test xs
kept_by test at apart [] = refl
kept_by test at apart (x ∷ xs) = step (kept_by test at apart xs) (at x) (test x) refl refl
  where
    step : find test (filter (λ y. not (at y)) xs) ≡ find test xs → (b c : Bool) → at x ≡ b
        → test x ≡ c → find test (cond (not b) (x ∷ filter (λ y. not (at y)) xs)
        (filter (λ y. not (at y)) xs)) ≡ cond c (Some x) (find test xs)
    step rest true true e f = let no : at x ≡ false = apart x f in cc
    step rest true false e f = rest
    step rest false true e f = rw f refl
    step rest false false e f = rw f rest

replaced_here : {A : Type 0} (below : A → A → Bool) (at : A → Bool) (x : A) (xs : List A)
    → at x ≡ true → find at (replaced below at x xs) ≡ Some x
replaced_here below at x xs e = found_put below at x (filter (λ y. not (at y)) xs) e
    (none_left at xs)

replaced_elsewhere : {A : Type 0} (below : A → A → Bool) (test at : A → Bool) (x : A) (xs : List A)
    → ((y : A) → test y ≡ true → at y ≡ false) → test x ≡ false
    → find test (replaced below at x xs) ≡ find test xs
replaced_elsewhere below test at x xs apart e = passed_by below test x (filter (λ y. not (at y)) xs)
    e ∙ kept_by test at apart xs

-- Keys of a document's number and a text

pub own_key : (d : ℕ) (p : List ℕ) → ((d == d) && bytes_eq p p) ≡ true
own_key d p = rw (same_number d, same_text p) refl

pub key_number : (d d' : ℕ) (p p' : List ℕ) → ((d' == d) && bytes_eq p' p) ≡ true → d' ≡ d
key_number d d' p p' e = numbers_equal d' d (and_left (d' == d) (bytes_eq p' p) e)

pub key_text : (d d' : ℕ) (p p' : List ℕ) → ((d' == d) && bytes_eq p' p) ≡ true → p' ≡ p
key_text d d' p p' e = texts_equal p' p (and_right (d' == d) (bytes_eq p' p) e)

-- a row with one key has no other
other_key : (d d' n : ℕ) (p p' q : List ℕ) (b : Bool) → ((d' == d) && bytes_eq p' p) ≡ false
    → ((n == d) && bytes_eq q p) ≡ true → ((n == d') && bytes_eq q p') ≡ b → b ≡ false
other_key d d' n p p' q false e f g = refl
other_key d d' n p p' q true e f g =
    let at : n ≡ d = key_number d n p q f in
    let at' : n ≡ d' = key_number d' n p' q g in
    let text : q ≡ p = key_text d n p q f in
    let text' : q ≡ p' = key_text d' n p' q g in
    let again : ((d' == d) && bytes_eq p' p) ≡ true =
    subst (λ x. ((x == d) && bytes_eq p' p) ≡ true) at'
    (subst (λ x. ((n == d) && bytes_eq x p) ≡ true) text' f) in
    cc

-- The last conclusion

concluded_step : (h : List Command) (d d' : ℕ) (p p' text : List ℕ) (b : Bool)
    → is_conclusion d p (conclusion_row d' p' text) ≡ b
    → office_text (replaced (below_by conclusion_order) (is_conclusion d' p')
    (conclusion_row d' p' text) (conclusions h)) d p
    ≡ or_else (if b then Some text else None) (office_text (conclusions h) d p)
concluded_step h d d' p p' text true e =
    let n : d' ≡ d = key_number d d' p p' e in
    let t : p' ≡ p = key_text d d' p p' e in
    subst (λ x. office_text (replaced (below_by conclusion_order) (is_conclusion d' p')
    (conclusion_row d' p' text) (conclusions h)) x p ≡ Some text) n
    (subst (λ x. office_text (replaced (below_by conclusion_order) (is_conclusion d' p')
    (conclusion_row d' p' text) (conclusions h)) d' x ≡ Some text) t
    (ap (option_map (λ (row : ConclusionRow). row.expression))
    (replaced_here (below_by conclusion_order) (is_conclusion d' p') (conclusion_row d' p' text)
    (conclusions h) (own_key d' p'))))
concluded_step h d d' p p' text false e =
    ap (option_map (λ (row : ConclusionRow). row.expression))
    (replaced_elsewhere (below_by conclusion_order) (is_conclusion d p) (is_conclusion d' p')
    (conclusion_row d' p' text) (conclusions h)
    (λ y f. other_key d d' y.document p p' y.package_id (is_conclusion d' p' y) e f refl) e)

-- what the office concluded after a command
pub office_text_after : (c : Command) (h : List Command) (d : ℕ) (p : List ℕ)
    → office_text (conclusions (c ∷ h)) d p
    ≡ or_else (text_given d p c) (office_text (conclusions h) d p)
office_text_after (Conclude d' p' text) h d p = concluded_step h d d' p p' text
    (is_conclusion d p (conclusion_row d' p' text)) refl
office_text_after _ h d p = refl

pub last_conclusion : (h : List Command) (d : ℕ) (p : List ℕ)
    → office_text (conclusions h) d p ≡ latest (text_given d p) h
last_conclusion [] d p = refl
last_conclusion (c ∷ h) d p = office_text_after c h d p
    ∙ ap (or_else (text_given d p c)) (last_conclusion h d p)

-- The last adoption

adopted_step : (rows : List AdoptionRow) (d : ℕ) (reference : List ℕ) (row : AdoptionRow) (b : Bool)
    → is_adoption d reference row ≡ b
    → licence_for (replaced (below_by adoption_order) (is_adoption row.document row.reference) row
    rows) d reference ≡ or_else (if b then Some row.licence else None)
    (licence_for rows d reference)
adopted_step rows d reference row true e =
    let n : row.document ≡ d = key_number d row.document reference row.reference e in
    let t : row.reference ≡ reference = key_text d row.document reference row.reference e in
    subst (λ x. licence_for (replaced (below_by adoption_order)
    (is_adoption row.document row.reference) row rows) x reference ≡ Some row.licence) n
    (subst (λ x. licence_for (replaced (below_by adoption_order)
    (is_adoption row.document row.reference) row rows) row.document x ≡ Some row.licence) t
    (ap (option_map (λ (r : AdoptionRow). r.licence))
    (replaced_here (below_by adoption_order) (is_adoption row.document row.reference) row rows
    (own_key row.document row.reference))))
adopted_step rows d reference row false e =
    ap (option_map (λ (r : AdoptionRow). r.licence))
    (replaced_elsewhere (below_by adoption_order) (is_adoption d reference)
    (is_adoption row.document row.reference) row rows
    (λ y f. other_key d row.document y.document reference row.reference y.reference
    (is_adoption row.document row.reference y) e f refl) e)

adopted_after : (w : Readings) (c : Command) (h : List Command) (d : ℕ) (reference : List ℕ)
    → licence_for (adoptions w (c ∷ h)) d reference
    ≡ or_else (licence_given w d reference c) (licence_for (adoptions w h) d reference)
adopted_after w (Adopt d' r licence) h d reference = adopted_step (adoptions w h) d reference
    (adoption_row w d' r licence) (is_adoption d reference (adoption_row w d' r licence)) refl
adopted_after w _ h d reference = refl

pub last_adoption : (w : Readings) (h : List Command) (d : ℕ) (reference : List ℕ)
    → licence_for (adoptions w h) d reference ≡ latest (licence_given w d reference) h
last_adoption w [] d reference = refl
last_adoption w (c ∷ h) d reference = adopted_after w c h d reference
    ∙ ap (or_else (licence_given w d reference c)) (last_adoption w h d reference)

-- Both tables are sorted

ascends_replaced : {A : Type 0} (below : A → A → Bool) → IsOrder below
    → (at : A → Bool) (x : A) (xs : List A) → ascends below xs ≡ true
    → ascends below (replaced below at x xs) ≡ true
ascends_replaced below o at x xs up = ascends-put below o x (filter (λ y. not (at y)) xs)
    (ascends-filter below (λ y. not (at y)) xs up)

pub conclusion_is_order : IsOrder (below_by conclusion_order)
conclusion_is_order = order_of
    (then_total (on_total (λ row. row.document) nat_cmp_total)
    (on_total (λ row. row.package_id) nat_list_cmp_total))

pub adoption_is_order : IsOrder (below_by adoption_order)
adoption_is_order = order_of (then_total (on_total (λ row. row.document) nat_cmp_total)
    (on_total (λ row. row.reference) nat_list_cmp_total))

pub ascends_conclusions : (h : List Command)
    → ascends (below_by conclusion_order) (conclusions h) ≡ true
ascends_conclusions [] = refl
ascends_conclusions (Conclude d p text ∷ h) = ascends_replaced (below_by conclusion_order)
    conclusion_is_order (is_conclusion d p) (conclusion_row d p text) (conclusions h)
    (ascends_conclusions h)
ascends_conclusions (_ ∷ h) = ascends_conclusions h

pub ascends_adoptions : (w : Readings) (h : List Command)
    → ascends (below_by adoption_order) (adoptions w h) ≡ true
ascends_adoptions w [] = refl
ascends_adoptions w (Adopt d r licence ∷ h) =
    let row = adoption_row w d r licence in
    ascends_replaced (below_by adoption_order) adoption_is_order (is_adoption d row.reference) row
    (adoptions w h) (ascends_adoptions w h)
ascends_adoptions w (_ ∷ h) = ascends_adoptions w h
