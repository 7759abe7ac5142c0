-- The places of releases, after a change of their rows.
use Rattle.std.proofs.Common.{◌≡◌, ℕ, ◌+◌, ◌≤◌, Bool, true, false, cond, List, [], ◌∷◌, length, map}
use Rattle.std.proofs.Common.{Option, Some, None, refl, sym, ap, ◌∙◌, arith, inl, inr, subst}
use Rattle.std.specs.Prelude.{find, if◌then◌else◌, ◌⊎◌, nat_le, unwrap_or}
use Rattle.std.specs.Option.{option_map}
use Rattle.std.specs.Str.{bytes_eq}
use Rattle.std.specs.Ordering.{nat_cmp, is_lt, ordering_reverse}
use Rattle.std.specs.Cmp.Lexicographic.{slice_cmp}
use Rattle.std.specs.declared.cmp.Ordering.{Ordering}
use Rattle.std.specs.declared.cmp.Ordering.TheVariants.{Less, Equal, Greater}
use Rattle.std.proofs.lemmas.Cmp.{nat_list_cmp_total}
use Rattle.desk_model.specs.Texts.{text_below}
use Rattle.desk_model.specs.Lists.{put, updated, or_else, IsIn}
use Rattle.desk_model.specs.Keys.{is_release, release_below}
use Rattle.desk_model.specs.declared.row.ReleaseRow.{ReleaseRow}
use Rattle.desk_model.specs.declared.row.DutyRow.{DutyRow}
use Rattle.desk_history.specs.Laws.{Ascends}
use Rattle.desk_tally.specs.Stands.{is_within, are_placed}
use Rattle.desk_tally.specs.Kept.{place_found, stand_of, ArePlaces}
use Rattle.desk_tally.specs.declared.stand.Stand.{Stand}
use Rattle.desk_base.proofs.Bools.{and_left, and_right}
use Rattle.desk_base.proofs.Texts.{texts_equal}

abbrev place_of : Option ReleaseRow → Option ℕ
place_of found = option_map (λ row. row.place) found

-- rows that are changed, but keep their names and places
alike : (b : Bool) (x y : ReleaseRow) (o p : Option ReleaseRow) → x.place ≡ y.place
    → place_of o ≡ place_of p → place_of (cond b (Some x) o) ≡ place_of (cond b (Some y) p)
alike true x y o p e f = ap Some e
alike false x y o p e f = f

pub found-updated : (test : ReleaseRow → Bool) (change : ReleaseRow → ReleaseRow)
    → ((row : ReleaseRow) → (change row).name ≡ row.name)
    → ((row : ReleaseRow) → (change row).place ≡ row.place)
    → (name : List ℕ) (rows : List ReleaseRow)
    → place_found (updated test change rows) name ≡ place_found rows name
found-updated test change names places name [] = refl
found-updated test change names places name (row ∷ rows) = either
    (found-updated test change names places name rows) (test row)
  where
    either : place_found (updated test change rows) name ≡ place_found rows name → (b : Bool)
        → place_found ((if b then change row else row) ∷ updated test change rows) name
        ≡ place_found (row ∷ rows) name
    either rest true =
        ap (λ n. place_of (cond (bytes_eq n name) (Some (change row))
        (find (is_release name) (updated test change rows)))) (names row)
        ∙ alike (is_release name row) (change row) row
        (find (is_release name) (updated test change rows)) (find (is_release name) rows)
        (places row) rest
    either rest false = alike (is_release name row) row row
        (find (is_release name) (updated test change rows)) (find (is_release name) rows) refl rest

pub length-updated : (test : ReleaseRow → Bool) (change : ReleaseRow → ReleaseRow)
    (rows : List ReleaseRow) → length (updated test change rows) ≡ length rows
length-updated test change [] = refl
length-updated test change (row ∷ rows) = omega (arith, length-updated test change rows)

pub places-updated : (rows later : List ReleaseRow)
    → ((name : List ℕ) → place_found later name ≡ place_found rows name)
    → length later ≡ length rows → ArePlaces rows → ArePlaces later
places-updated rows later same count old = record {
  within = λ name place e. let before = old.within name place (sym (same name) ∙ e) in
      (before.0, subst (λ n. place ≤ n) (sym count) before.1);
  apart = λ name other place e f. old.apart name other place (sym (same name) ∙ e)
      (sym (same other) ∙ f);
}

-- a row that is put in its place by name

pub length-put : (x : ReleaseRow) (rows : List ReleaseRow)
    → length (put release_below x rows) ≡ length rows + 1
length-put x [] = refl
length-put x (y ∷ ys) = either (length-put x ys) (release_below x y)
  where
    either : length (put release_below x ys) ≡ length ys + 1 → (b : Bool)
        → length (if b then x ∷ y ∷ ys else y ∷ put release_below x ys) ≡ length (y ∷ ys) + 1
    either more true = omega arith
    either more false = omega (arith, more)

-- rows stay in order when one more is put among them
in_put : (x z : ReleaseRow) (rows : List ReleaseRow) → IsIn z rows
    → IsIn z (put release_below x rows)
in_put x z [] is = absurd is
in_put x z (y ∷ ys) is = either (λ later. in_put x z ys later) is (release_below x y)
  where
    either : (IsIn z ys → IsIn z (put release_below x ys)) → IsIn z (y ∷ ys) → (b : Bool)
        → IsIn z (if b then x ∷ y ∷ ys else y ∷ put release_below x ys)
    either more there true = inr there
    either more (inl same) false = inl same
    either more (inr later) false = inr (more later)

pub ascends_before : (x : ReleaseRow) (rows : List ReleaseRow)
    → Ascends release_below (put release_below x rows) → Ascends release_below rows
ascends_before x [] up = tt
ascends_before x (y ∷ ys) up = either (ascends_before x ys) (release_below x y) up
  where
    either : (Ascends release_below (put release_below x ys) → Ascends release_below ys)
        → (b : Bool) → Ascends release_below (if b then x ∷ y ∷ ys else y ∷ put release_below x ys)
        → Ascends release_below (y ∷ ys)
    either before true above = above.1
    either before false above = (λ z is. above.0 z (in_put x z ys is), before above.1)

-- the row that is put, if no other has its name
abbrev own_place : ReleaseRow → List ℕ → Option ℕ
own_place x name = if bytes_eq x.name name then Some x.place else None

or-none : (o : Option ℕ) → or_else o None ≡ o
or-none None = refl
or-none (Some p) = refl

-- nothing is below itself
unlike : (o : Ordering) → o ≡ ordering_reverse o → is_lt o ≡ false
unlike Less e = cc
unlike Equal e = refl
unlike Greater e = refl

-- no row after one that x precedes has the name of x
none_behind : (x y : ReleaseRow) (ys : List ReleaseRow) (name : List ℕ) → x.name ≡ name
    → release_below x y ≡ true → ((z : ReleaseRow) → IsIn z ys → release_below z y ≡ false)
    → find (is_release name) ys ≡ None
none_behind x y [] name e below over = refl
none_behind x y (z ∷ zs) name e below over = either
    (none_behind x y zs name e below (λ w w_in. over w (inr w_in))) (bytes_eq z.name name) refl
  where
    either : find (is_release name) zs ≡ None → (b : Bool) → bytes_eq z.name name ≡ b
        → cond b (Some z) (find (is_release name) zs) ≡ None
    either rest true same =
        let names : z.name ≡ x.name = texts_equal z.name name same ∙ sym e in
        let no_less : release_below z y ≡ false = over z (inl refl) in
        let less : release_below z y ≡ true =
        ap (λ n. release_below (record z { name = n }) y) names ∙ below in
        cc
    either rest false same = rest

pub found-put : (x : ReleaseRow) (rows : List ReleaseRow) → Ascends release_below rows
    → (name : List ℕ) → place_found (put release_below x rows) name
    ≡ or_else (place_found rows name) (own_place x name)
found-put x [] up name = either (bytes_eq x.name name)
  where
    either : (b : Bool) → place_of (cond b (Some x) None) ≡ (if b then Some x.place else None)
    either true = refl
    either false = refl
found-put x (y ∷ ys) up name = before (found-put x ys up.1 name) (release_below x y) refl
  where
    later : place_found (put release_below x ys) name
        ≡ or_else (place_found ys name) (own_place x name) → (b : Bool)
        → place_of (cond b (Some y) (find (is_release name) (put release_below x ys)))
        ≡ or_else (place_of (cond b (Some y) (find (is_release name) ys))) (own_place x name)
    later rest true = refl
    later rest false = rest

    first : (b : Bool) → bytes_eq x.name name ≡ b → release_below x y ≡ true
        → place_of (cond b (Some x) (find (is_release name) (y ∷ ys)))
        ≡ or_else (place_found (y ∷ ys) name) (if b then Some x.place else None)
    first false e below = sym (or-none (place_found (y ∷ ys) name))
    first true e below =
        let own : x.name ≡ name = texts_equal x.name name e in
        let behind : find (is_release name) ys ≡ None = none_behind x y ys name own below up.0 in
        here own (bytes_eq y.name name) refl behind
      where
        here : x.name ≡ name → (b : Bool) → bytes_eq y.name name ≡ b
            → find (is_release name) ys ≡ None
            → Some x.place ≡ or_else (place_of (cond b (Some y) (find (is_release name) ys)))
            (Some x.place)
        here own true same behind =
            let names : y.name ≡ x.name = texts_equal y.name name same ∙ sym own in
            let less : text_below x.name x.name ≡ true = ap (λ n. text_below x.name n) (sym names)
            ∙ below in
            let not_less : text_below x.name x.name ≡ false =
            unlike (slice_cmp nat_cmp x.name x.name) (nat_list_cmp_total.antisymm x.name x.name) in
            cc
        here own false same behind = rw behind refl

    before : place_found (put release_below x ys) name
        ≡ or_else (place_found ys name) (own_place x name) → (b : Bool) → release_below x y ≡ b
        → place_found (if b then x ∷ y ∷ ys else y ∷ put release_below x ys) name
        ≡ or_else (place_found (y ∷ ys) name) (own_place x name)
    before rest true e = first (bytes_eq x.name name) refl e
    before rest false e = later rest (bytes_eq y.name name)

-- existing places are kept, and one more name has a place
or_cases : (o q : Option ℕ) (place : ℕ) → or_else o q ≡ Some place
    → (o ≡ Some place) ⊎ (q ≡ Some place)
or_cases None q place e = inr e
or_cases (Some p) q place e = inl e

own_cases : (b : Bool) (p place : ℕ) → (if b then Some p else None) ≡ Some place
    → (b ≡ true) × (p ≡ place)
own_cases true p place e = (refl, cc)
own_cases false p place e = cc

-- a name's place after a release was put: the one it had before, or that of the new release
after-put : (x : ReleaseRow) (rows : List ReleaseRow) → Ascends release_below rows
    → (name : List ℕ) (place : ℕ) → place_found (put release_below x rows) name ≡ Some place
    → (place_found rows name ≡ Some place) ⊎ ((x.name ≡ name) × (x.place ≡ place))
after-put x rows up name place e =
    elim (or_cases (place_found rows name) (own_place x name) place
    (sym (found-put x rows up name) ∙ e)) [
      | inl old ↦ inl old
      | inr own ↦ (let is = own_cases (bytes_eq x.name name) x.place place own in
          inr (texts_equal x.name name is.0, is.1))
    ]

pub places-put : (x : ReleaseRow) (rows : List ReleaseRow) → Ascends release_below rows
    → x.place ≡ length rows + 1 → ArePlaces rows → ArePlaces (put release_below x rows)
places-put x rows up next old = record {
  within = λ name place e. elim (after-put x rows up name place e) [
    | inl was ↦ (let before = old.within name place was in (
      before.0,
      (let more : place ≤ length (put release_below x rows) =
          omega (arith, before.1, length-put x rows) in more),
    ))
    | inr own ↦ (
      (let low : 1 ≤ place = omega (arith, own.1, next) in low),
      (let high : place ≤ length (put release_below x rows) =
          omega (arith, own.1, next, length-put x rows) in high),
    )
  ];
  apart = λ name other place e f. elim (after-put x rows up name place e) [
    | inl was ↦ elim (after-put x rows up other place f) [
      | inl too ↦ old.apart name other place was too
      | inr own ↦ absurd (omega (arith, own.1, next, (old.within name place was).1))
    ]
    | inr own ↦ elim (after-put x rows up other place f) [
      | inl was ↦ absurd (omega (arith, own.1, next, (old.within other place was).1))
      | inr too ↦ sym own.0 ∙ too.0
    ]
  ];
}

pub kept-put : (x : ReleaseRow) (rows : List ReleaseRow) → Ascends release_below rows
    → (name : List ℕ) (place : ℕ) → place_found rows name ≡ Some place
    → place_found (put release_below x rows) name ≡ Some place
kept-put x rows up name place e = found-put x rows up name
    ∙ ap (λ o. or_else o (own_place x name)) e

-- duties keep their places if those of their releases are kept
stays : (count : ℕ) (o p : Option ℕ) → is_within count (unwrap_or o 0) ≡ true
    → ((place : ℕ) → o ≡ Some place → p ≡ Some place) → unwrap_or p 0 ≡ unwrap_or o 0
stays count None p within same = let no_place : nat_le 1 0 ≡ true =
    and_left (nat_le 1 0) (nat_le 0 count) within in cc
stays count (Some place) p within same = ap (λ o. unwrap_or o 0) (same place refl)

pub stands-kept : (count : ℕ) (rows later : List ReleaseRow) (duty : List DutyRow)
    → are_placed count (map (stand_of rows) duty) ≡ true
    → ((name : List ℕ) (place : ℕ) → place_found rows name ≡ Some place
    → place_found later name ≡ Some place)
    → map (stand_of later) duty ≡ map (stand_of rows) duty
stands-kept count rows later [] placed same = refl
stands-kept count rows later (row ∷ duty) placed same =
    let place = unwrap_or (place_found rows row.release) 0 in
    let rest = stands-kept count rows later duty
    (and_right (is_within count place) (are_placed count (map (stand_of rows) duty)) placed) same in
    let here : unwrap_or (place_found later row.release) 0 ≡ place =
    stays count (place_found rows row.release) (place_found later row.release)
    (and_left (is_within count place) (are_placed count (map (stand_of rows) duty)) placed)
    (same row.release) in
    λ i. (let stand : Stand = record { place = here i; state = row.state } in stand) ∷ rest i
