-- What is chosen for a package, in the history and in its tables.
use Rattle.std.proofs.Common.{◌≡◌, ℕ, Bool, true, false, cond, List, [], ◌∷◌, ◌++◌, map, Option}
use Rattle.std.proofs.Common.{Some, None, sym, refl, ap, ◌∙◌, subst, append-nil}
use Rattle.std.specs.Prelude.{if◌then◌else◌, filter, ◌&&◌, ◌==◌, unwrap_or, not}
use Rattle.std.specs.List.{filter_map}
use Rattle.std.specs.Ordering.{is_lt, is_eq, ordering_reverse, nat_cmp}
use Rattle.std.specs.declared.cmp.Ordering.{Ordering}
use Rattle.std.specs.declared.cmp.Ordering.TheVariants.{Less, Equal, Greater}
use Rattle.std.specs.Cmp.Lexicographic.{slice_cmp}
use Rattle.std.specs.Str.{bytes_eq}
use Rattle.std.proofs.lemmas.Cmp.{nat_list_cmp_total, nat_cmp_total, tied_itself}
use Rattle.std.proofs.lemmas.Map.Text.{is_eq-slice_cmp}
use Rattle.std.proofs.lemmas.List.Elements.{filter-append}
use Rattle.std.proofs.Math.Path.{fun_ext}
use Rattle.std.proofs.lemmas.Bool.{and_from}
use Rattle.desk_model.specs.Lists.{latest, or_else, in_order}
use Rattle.desk_model.specs.Texts.{text_below, put_new, sorted_set}
use Rattle.desk_model.specs.Readings.{Readings}
use Rattle.desk_model.specs.Keys.{is_choice_of, is_choice_in, below_by, choice_order}
use Rattle.desk_model.specs.History.{term_set, terms_given, choice, is_package_of}
use Rattle.desk_model.specs.Raised.{chosen_in}
use Rattle.desk_model.specs.Tables.{tables, standing, choice_row, is_other_choice, is_choice_elsewhere}
use Rattle.desk_history.specs.FromTables.{choice_found, terms_found}
use Rattle.desk_history.proofs.Orders.{filter-in_order, choice_is_order, under, put_first}
use Rattle.desk_model.specs.declared.row.PackageRow.{PackageRow}
use Rattle.desk_model.specs.declared.row.ChoiceRow.{ChoiceRow}
use Rattle.desk_model.specs.declared.command.Command.{Command}
use Rattle.desk_model.specs.declared.command.Command.TheVariants.{Choose, Unchoose, Withdraw}
use Rattle.desk_model.proofs.Orders.{IsOrder, order_of}
use Rattle.desk_base.proofs.Bools.{and_left, and_right}
use Rattle.desk_base.proofs.Texts.{texts_equal, same_text}
use Rattle.desk_base.proofs.Numbers.{numbers_equal, same_number}

-- Sorted sets of texts

-- each text is below the ones after it
abbrev pub rises : List (List ℕ) → Bool
rises [] = true
rises (x ∷ xs) = under text_below x xs && rises xs

text_order : IsOrder (below_by (slice_cmp nat_cmp))
text_order = order_of nat_list_cmp_total

pub turns : (x y : List ℕ) (o : Ordering) → slice_cmp nat_cmp x y ≡ o → is_lt o ≡ false
    → bytes_eq x y ≡ false → text_below y x ≡ true
turns x y Less e f g = cc
turns x y Equal e f g = let same : is_eq (slice_cmp nat_cmp x y) ≡ bytes_eq x y =
    is_eq-slice_cmp x y in let yes : is_eq (slice_cmp nat_cmp x y) ≡ true = ap is_eq e in cc
turns x y Greater e f g = ap is_lt (nat_list_cmp_total.antisymm y x ∙ ap ordering_reverse e)

under_chain : (x y : List ℕ) (zs : List (List ℕ)) → text_below x y ≡ true
    → under text_below y zs ≡ true → under text_below x zs ≡ true
under_chain x y [] e all = refl
under_chain x y (z ∷ zs) e all =
    and_from (text_below x z) (under text_below x zs)
    (text_order.between x y z e (text_order.asym y z
    (and_left (text_below y z) (under text_below y zs) all)))
    (under_chain x y zs e (and_right (text_below y z) (under text_below y zs) all))

under-put_new : (x y : List ℕ) (zs : List (List ℕ)) → text_below y x ≡ true
    → under text_below y zs ≡ true → under text_below y (put_new x zs) ≡ true
under-put_new x y [] e all = and_from (text_below y x) true e refl
under-put_new x y (z ∷ zs) e all =
    elim (text_below x z) as (λ b. under text_below y
    (if b then x ∷ z ∷ zs else (if bytes_eq x z then z ∷ zs else z ∷ put_new x zs)) ≡ true) [
      | true ↦ and_from (text_below y x) (under text_below y (z ∷ zs)) e all
      | false ↦ elim (bytes_eq x z) as
          (λ b. under text_below y (if b then z ∷ zs else z ∷ put_new x zs) ≡ true) [
            | true ↦ all
            | false ↦ and_from (text_below y z) (under text_below y (put_new x zs))
                (and_left (text_below y z) (under text_below y zs) all)
                (under-put_new x y zs e (and_right (text_below y z) (under text_below y zs) all))
          ]
    ]

rises_step : (x y : List ℕ) (ys : List (List ℕ)) (b c : Bool) → text_below x y ≡ b
    → bytes_eq x y ≡ c → rises (y ∷ ys) ≡ true → rises (put_new x ys) ≡ true
    → rises (if b then x ∷ y ∷ ys else (if c then y ∷ ys else y ∷ put_new x ys)) ≡ true
rises_step x y ys true c e f up rest =
    and_from (under text_below x (y ∷ ys)) (rises (y ∷ ys))
    (and_from (text_below x y) (under text_below x ys) e
    (under_chain x y ys e (and_left (under text_below y ys) (rises ys) up))) up
rises_step x y ys false true e f up rest = up
rises_step x y ys false false e f up rest =
    and_from (under text_below y (put_new x ys)) (rises (put_new x ys))
    (under-put_new x y ys (turns x y (slice_cmp nat_cmp x y) refl e f)
    (and_left (under text_below y ys) (rises ys) up)) rest

rises-put_new : (x : List ℕ) (ys : List (List ℕ)) → rises ys ≡ true → rises (put_new x ys) ≡ true
rises-put_new x [] up = refl
rises-put_new x (y ∷ ys) up = rises_step x y ys (text_below x y) (bytes_eq x y) refl refl up
    (rises-put_new x ys (and_right (under text_below y ys) (rises ys) up))

pub rises-sorted_set : (xs : List (List ℕ)) → rises (sorted_set xs) ≡ true
rises-sorted_set [] = refl
rises-sorted_set (x ∷ xs) = rises-put_new x (sorted_set xs) (rises-sorted_set xs)

rises_none : (b : Bool) (o : Option (List (List ℕ))) → rises (unwrap_or o []) ≡ true
    → rises (unwrap_or (or_else (if b then Some [] else None) o) []) ≡ true
rises_none true o up = refl
rises_none false o up = up

rises_or : (w : Readings) (texts : List (List ℕ)) (b : Bool) (o : Option (List (List ℕ)))
    → rises (unwrap_or o []) ≡ true
    → rises (unwrap_or (or_else (if b then Some (term_set w texts) else None) o) []) ≡ true
rises_or w texts true o up = rises-sorted_set (filter_map w.term texts)
rises_or w texts false o up = up

pub rises-choice : (w : Readings) (h : List Command) (r : List ℕ) (d : ℕ) (p : List ℕ)
    → rises (choice w h r d p) ≡ true
rises-choice w [] r d p = refl
rises-choice w (Choose r' d' p' texts ∷ h) r d p = rises_or w texts (is_package_of r d p r' d' p')
    (latest (terms_given w r d p) h) (rises-choice w h r d p)
rises-choice w (Unchoose r' d' p' ∷ h) r d p = rises_none (is_package_of r d p r' d' p')
    (latest (terms_given w r d p) h) (rises-choice w h r d p)
rises-choice w (Withdraw r' day text ∷ h) r d p = rises_none (bytes_eq r' r)
    (latest (terms_given w r d p) h) (rises-choice w h r d p)
rises-choice w (_ ∷ h) r d p = rises-choice w h r d p

-- The rows of a package's choice

row_order : (r p a b : List ℕ) (d : ℕ)
    → below_by choice_order (choice_row r d p a) (choice_row r d p b) ≡ text_below a b
row_order r p a b d = rw (
  tied_itself nat_list_cmp_total r,
  tied_itself nat_cmp_total d,
  tied_itself nat_list_cmp_total p,
) refl

under-rows : (r p a : List ℕ) (d : ℕ) (terms : List (List ℕ)) → under text_below a terms ≡ true
    → under (below_by choice_order) (choice_row r d p a) (map (choice_row r d p) terms) ≡ true
under-rows r p a d [] all = refl
under-rows r p a d (t ∷ ts) all =
    and_from (below_by choice_order (choice_row r d p a) (choice_row r d p t))
    (under (below_by choice_order) (choice_row r d p a) (map (choice_row r d p) ts))
    (row_order r p a t d ∙ and_left (text_below a t) (under text_below a ts) all)
    (under-rows r p a d ts (and_right (text_below a t) (under text_below a ts) all))

in_order-rows : (r p : List ℕ) (d : ℕ) (terms : List (List ℕ)) → rises terms ≡ true
    → in_order (below_by choice_order) (map (choice_row r d p) terms) ≡ map (choice_row r d p) terms
in_order-rows r p d [] up = refl
in_order-rows r p d (t ∷ ts) up =
    rw (in_order-rows r p d ts (and_right (under text_below t ts) (rises ts) up))
    (put_first (below_by choice_order) (choice_row r d p t) (map (choice_row r d p) ts)
    (under-rows r p t d ts (and_left (under text_below t ts) (rises ts) up)))

-- a test and its opposite
against : {A : Type 0} (test : A → Bool) (x : A) (xs : List A) (b : Bool) → test x ≡ b
    → filter test (filter (λ x. not (test x)) xs) ≡ []
    → filter test (cond (not b) (x ∷ filter (λ x. not (test x)) xs) (filter (λ x. not (test x)) xs))
    ≡ []
against test x xs true e rest = rest
against test x xs false e rest = rw e rest

filter_against : {A : Type 0} (test : A → Bool) (xs : List A)
    → filter test (filter (λ x. not (test x)) xs) ≡ []
filter_against test [] = refl
filter_against test (x ∷ xs) = against test x xs (test x) refl (filter_against test xs)

-- a test and the opposite of one that it rules out
apart : {A : Type 0} (test other : A → Bool) (x : A) (xs : List A) (b c : Bool) → test x ≡ b
    → other x ≡ c → (b ≡ true → c ≡ false)
    → filter test (filter (λ x. not (other x)) xs) ≡ filter test xs
    → filter test (cond (not c) (x ∷ filter (λ x. not (other x)) xs)
    (filter (λ x. not (other x)) xs)) ≡ cond b (x ∷ filter test xs) (filter test xs)
apart test other x xs true true e f out rest = let no : true ≡ false = out refl in cc
apart test other x xs true false e f out rest = rw (e, rest) refl
apart test other x xs false true e f out rest = rest
apart test other x xs false false e f out rest = rw (e, rest) refl

filter_apart : {A : Type 0} (test other : A → Bool) → ((x : A) → test x ≡ true → other x ≡ false)
    → (xs : List A) → filter test (filter (λ x. not (other x)) xs) ≡ filter test xs
filter_apart test other out [] = refl
filter_apart test other out (x ∷ xs) = apart test other x xs (test x) (other x) refl refl (out x)
    (filter_apart test other out xs)

-- the keys of packages
pub record SamePackage (r p r' p' : List ℕ) (d d' : ℕ) : Type 0 where
  pub release : r' ≡ r
  pub document : d' ≡ d
  pub package_id : p' ≡ p

pub same_package : (r p r' p' : List ℕ) (d d' : ℕ) → is_package_of r d p r' d' p' ≡ true
    → SamePackage r p r' p' d d'
same_package r p r' p' d d' e =
    let front = and_left (bytes_eq r' r && (d' == d)) (bytes_eq p' p) e in
    record {
      release = texts_equal r' r (and_left (bytes_eq r' r) (d' == d) front);
      document = numbers_equal d' d (and_right (bytes_eq r' r) (d' == d) front);
      package_id = texts_equal p' p (and_right (bytes_eq r' r && (d' == d)) (bytes_eq p' p) e);
    }

same_key : (r p : List ℕ) (d : ℕ) → is_package_of r d p r d p ≡ true
same_key r p d = rw (same_text r, same_number d, same_text p) refl

-- a row of one package is not one of another
ruled_out : (r p r' p' : List ℕ) (d d' : ℕ) (row : ChoiceRow) (b : Bool)
    → is_package_of r d p r' d' p' ≡ false → is_choice_of r d p row ≡ true
    → is_choice_of r' d' p' row ≡ b → b ≡ false
ruled_out r p r' p' d d' row false e f g = refl
ruled_out r p r' p' d d' row true e f g =
    let a = same_package r p row.release row.package_id d row.document f in
    let b = same_package r' p' row.release row.package_id d' row.document g in
    let again : is_package_of r d p r' d' p' ≡ true =
    subst (λ x. is_package_of r d p x d' p' ≡ true) (sym a.release ∙ b.release)
    (subst (λ x. is_package_of r d p r x p' ≡ true) (sym a.document ∙ b.document)
    (subst (λ x. is_package_of r d p r d x ≡ true) (sym a.package_id ∙ b.package_id)
    (same_key r p d))) in
    cc

-- the rows of one package among the rows of one package
own_rows : (r p r' p' : List ℕ) (d d' : ℕ) (b : Bool) → is_package_of r d p r' d' p' ≡ b
    → (terms : List (List ℕ)) → filter (is_choice_of r d p) (map (choice_row r' d' p') terms)
    ≡ (if b then map (choice_row r' d' p') terms else [])
own_rows r p r' p' d d' true e [] = refl
own_rows r p r' p' d d' false e [] = refl
own_rows r p r' p' d d' true e (t ∷ ts) = rw e
    (ap (λ xs. choice_row r' d' p' t ∷ xs) (own_rows r p r' p' d d' true e ts))
own_rows r p r' p' d d' false e (t ∷ ts) = rw e (own_rows r p r' p' d d' false e ts)

-- one more choice
standing_step : (w : Readings) (h : List Command) (r p r' p' : List ℕ) (d d' : ℕ)
    (terms : List (List ℕ)) (b : Bool) → is_package_of r d p r' d' p' ≡ b
    → filter (is_choice_of r d p) (standing w h) ≡ map (choice_row r d p) (choice w h r d p)
    → filter (is_choice_of r d p)
    (map (choice_row r' d' p') terms ++ filter (is_other_choice r' d' p') (standing w h))
    ≡ map (choice_row r d p) (unwrap_or
    (or_else (if b then Some terms else None) (latest (terms_given w r d p) h)) [])
standing_step w h r p r' p' d d' terms true e rest =
    let same = same_package r p r' p' d d' e in
    filter-append (is_choice_of r d p) (map (choice_row r' d' p') terms)
    (filter (is_other_choice r' d' p') (standing w h))
    ∙ (ap (λ rows. rows ++ filter (is_choice_of r d p)
    (filter (is_other_choice r' d' p') (standing w h))) (own_rows r p r' p' d d' true e terms)
    ∙ (subst (λ x. map (choice_row r' d' p') terms
    ++ filter (is_choice_of x d p) (filter (is_other_choice r' d' p') (standing w h))
    ≡ map (choice_row x d p) terms) same.release
    (subst (λ x. map (choice_row r' d' p') terms
    ++ filter (is_choice_of r' x p) (filter (is_other_choice r' d' p') (standing w h))
    ≡ map (choice_row r' x p) terms) same.document
    (subst (λ x. map (choice_row r' d' p') terms
    ++ filter (is_choice_of r' d' x) (filter (is_other_choice r' d' p') (standing w h))
    ≡ map (choice_row r' d' x) terms) same.package_id
    (ap (λ rows. map (choice_row r' d' p') terms ++ rows)
    (filter_against (is_choice_of r' d' p') (standing w h))
    ∙ append-nil (map (choice_row r' d' p') terms))))))
standing_step w h r p r' p' d d' terms false e rest =
    filter-append (is_choice_of r d p) (map (choice_row r' d' p') terms)
    (filter (is_other_choice r' d' p') (standing w h))
    ∙ (ap (λ rows. rows ++ filter (is_choice_of r d p)
    (filter (is_other_choice r' d' p') (standing w h))) (own_rows r p r' p' d d' false e terms)
    ∙ (filter_apart (is_choice_of r d p) (is_choice_of r' d' p')
    (λ row f. ruled_out r p r' p' d d' row (is_choice_of r' d' p' row) e f refl) (standing w h)
    ∙ rest))

-- a release that is withdrawn
gone_step : {A : Type 0} (test other : A → Bool) (x : A) (xs : List A) (b c : Bool) → other x ≡ b
    → test x ≡ c → (test x ≡ true → other x ≡ true)
    → filter test (filter (λ x. not (other x)) xs) ≡ []
    → filter test (cond (not b) (x ∷ filter (λ x. not (other x)) xs)
    (filter (λ x. not (other x)) xs)) ≡ []
gone_step test other x xs true c e f all rest = rest
gone_step test other x xs false true e f all rest = let yes : other x ≡ true = all f in cc
gone_step test other x xs false false e f all rest = rw f rest

gone_with : {A : Type 0} (test other : A → Bool) → ((x : A) → test x ≡ true → other x ≡ true)
    → (xs : List A) → filter test (filter (λ x. not (other x)) xs) ≡ []
gone_with test other all [] = refl
gone_with test other all (x ∷ xs) = gone_step test other x xs (other x) (test x) refl refl (all x)
    (gone_with test other all xs)

of_release : (r p : List ℕ) (d : ℕ) (row : ChoiceRow) → is_choice_of r d p row ≡ true
    → is_choice_in r row ≡ true
of_release r p d row e = and_left (bytes_eq row.release r) (row.document == d)
    (and_left (bytes_eq row.release r && (row.document == d)) (bytes_eq row.package_id p) e)

elsewhere : (r r' p : List ℕ) (d : ℕ) (row : ChoiceRow) (b : Bool) → bytes_eq r' r ≡ false
    → is_choice_of r d p row ≡ true → is_choice_in r' row ≡ b → b ≡ false
elsewhere r r' p d row false e f g = refl
elsewhere r r' p d row true e f g =
    let a : row.release ≡ r = texts_equal row.release r (of_release r p d row f) in
    let b : row.release ≡ r' = texts_equal row.release r' g in
    let again : bytes_eq r' r ≡ true = subst (λ x. bytes_eq x r ≡ true) (sym a ∙ b) (same_text r) in
    cc

standing_withdrawn : (w : Readings) (h : List Command) (r p r' : List ℕ) (d : ℕ) (b : Bool)
    → bytes_eq r' r ≡ b → filter (is_choice_of r d p) (standing w h)
    ≡ map (choice_row r d p) (choice w h r d p)
    → filter (is_choice_of r d p) (filter (is_choice_elsewhere r') (standing w h))
    ≡ map (choice_row r d p) (unwrap_or
    (or_else (if b then Some [] else None) (latest (terms_given w r d p) h)) [])
standing_withdrawn w h r p r' d true e rest =
    gone_with (is_choice_of r d p) (is_choice_in r')
    (λ row f. subst (λ x. is_choice_in x row ≡ true) (sym (texts_equal r' r e))
    (of_release r p d row f)) (standing w h)
standing_withdrawn w h r p r' d false e rest = filter_apart (is_choice_of r d p) (is_choice_in r')
    (λ row f. elsewhere r r' p d row (is_choice_in r' row) e f refl) (standing w h) ∙ rest

pub standing-choice : (w : Readings) (h : List Command) (r : List ℕ) (d : ℕ) (p : List ℕ)
    → filter (is_choice_of r d p) (standing w h) ≡ map (choice_row r d p) (choice w h r d p)
standing-choice w [] r d p = refl
standing-choice w (Choose r' d' p' texts ∷ h) r d p = standing_step w h r p r' p' d d'
    (term_set w texts) (is_package_of r d p r' d' p') refl (standing-choice w h r d p)
standing-choice w (Unchoose r' d' p' ∷ h) r d p = standing_step w h r p r' p' d d' []
    (is_package_of r d p r' d' p') refl (standing-choice w h r d p)
standing-choice w (Withdraw r' day text ∷ h) r d p = standing_withdrawn w h r p r' d (bytes_eq r' r)
    refl (standing-choice w h r d p)
standing-choice w (_ ∷ h) r d p = standing-choice w h r d p

terms_of : (r p : List ℕ) (d : ℕ) (terms : List (List ℕ))
    → map (λ row. row.term) (map (choice_row r d p) terms) ≡ terms
terms_of r p d [] = refl
terms_of r p d (t ∷ ts) = ap (λ xs. t ∷ xs) (terms_of r p d ts)

pub terms-found : (w : Readings) (h : List Command) (r : List ℕ) (d : ℕ) (p : List ℕ)
    → terms_found (tables w h) r d p ≡ choice w h r d p
terms-found w h r d p =
    ap (map (λ row. row.term)) (filter-in_order (below_by choice_order) choice_is_order
    (is_choice_of r d p) (standing w h)
    ∙ (ap (in_order (below_by choice_order)) (standing-choice w h r d p)
    ∙ in_order-rows r p d (choice w h r d p) (rises-choice w h r d p)))
    ∙ terms_of r p d (choice w h r d p)

pub choice-found : (w : Readings) (h : List Command) (r : List ℕ)
    → choice_found (tables w h) r ≡ chosen_in w h r
choice-found w h r = fun_ext (λ (row : PackageRow). terms-found w h r row.document row.id)
