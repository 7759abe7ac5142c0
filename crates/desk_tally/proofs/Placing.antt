-- Places, each of which is taken once.
use Rattle.std.proofs.Common.{◌≡◌, ℕ, zero, suc, ◌+◌, ◌<◌, ◌≤◌, Bool, true, false, cond, List, []}
use Rattle.std.proofs.Common.{◌∷◌, length, map, drop, get_or, Option, Some, refl, sym, ap, ◌∙◌}
use Rattle.std.proofs.Common.{arith, subst}
use Rattle.std.specs.Prelude.{find, ◌&&◌, ◌||◌, ◌==◌, not, slice_set}
use Rattle.std.specs.Option.{option_map}
use Rattle.std.specs.Str.{bytes_eq}
use Rattle.std.proofs.lemmas.Bool.Decides.{nat_tests}
use Rattle.std.proofs.lemmas.List.{length-map}
use Rattle.std.proofs.lemmas.Bool.{not-true}
use Rattle.desk_model.specs.Keys.{is_release}
use Rattle.desk_model.specs.Tables.{Tables}
use Rattle.desk_model.specs.declared.row.ReleaseRow.{ReleaseRow}
use Rattle.desk_tally.specs.Stands.{is_within, are_places}
use Rattle.desk_tally.specs.Kept.{AreCounted, IsKept, place_found}
use Rattle.desk_tally.specs.declared.stand.Stand.{Stand}
use Rattle.desk_tally.proofs.Bools.{within_low, within_high}
use Rattle.desk_base.proofs.Bools.{and_left, and_right, or_left, or_right}
use Rattle.desk_base.proofs.Texts.{texts_equal}

-- one more place is taken
taken_at : (marks : List Bool) (place other : ℕ) → place < length marks
    → get_or (slice_set marks place true) other false
    ≡ ((other == place) || get_or marks other false)
taken_at [] place other lt = absurd (omega (arith, lt))
taken_at (m ∷ ms) zero zero lt = refl
taken_at (m ∷ ms) zero (suc other) lt = let differ : (suc other == 0) ≡ false =
    grind (arith, nat_tests) in rw differ refl
taken_at (m ∷ ms) (suc place) zero lt = let differ : (0 == suc place) ≡ false =
    grind (arith, nat_tests) in rw differ refl
taken_at (m ∷ ms) (suc place) (suc other) lt =
    let same : (suc other == suc place) ≡ (other == place) = same_test other place in
    taken_at ms place other (omega (arith, lt)) ∙ ap (λ b. b || get_or ms other false) (sym same)
  where
    same_test : (a b : ℕ) → (suc a == suc b) ≡ (a == b)
    same_test a b = grind (arith, nat_tests)

pub taken_next : (count : ℕ) (marks : List Bool) (place : ℕ) (places : List ℕ)
    → place < length marks
    → are_places count (λ other. get_or (slice_set marks place true) other false) places
    ≡ are_places count (λ other. (other == place) || get_or marks other false) places
taken_next count marks place places lt = ap (λ (taken : ℕ → Bool). are_places count taken places)
    (λ i other. taken_at marks place other lt i)

pub place_next : (count i place : ℕ) (marks : List Bool) (places : List ℕ) (all : Bool)
    → drop i places ≡ place ∷ drop (i + 1) places → is_within count place ≡ true
    → get_or marks place false ≡ false → place < length marks
    → are_places count (λ other. get_or marks other false) (drop i places) ≡ all
    → are_places count (λ other. get_or (slice_set marks place true) other false)
    (drop (i + 1) places) ≡ all
place_next count i place marks places all split within free lt before =
    taken_next count marks place (drop (i + 1) places) lt
    ∙ (sym (rw (within, free) refl)
    ∙ (ap (are_places count (λ other. get_or marks other false)) (sym split) ∙ before))

-- a place that is found is within the count, and wasn't taken before
record IsFree (count : ℕ) (taken : ℕ → Bool) (place : ℕ) : Type 0 where
  within : is_within count place ≡ true
  free : taken place ≡ false

is_free : (count : ℕ) (taken : ℕ → Bool) (rows : List ReleaseRow) (name : List ℕ) (place : ℕ)
    → are_places count taken (map (λ row. row.place) rows) ≡ true
    → place_found rows name ≡ Some place → IsFree count taken place
is_free count taken [] name place all found = cc
is_free count taken (x ∷ xs) name place all found =
    either (is_free count (λ other. (other == x.place) || taken other) xs name place
    (and_right (not (taken x.place))
    (are_places count (λ other. (other == x.place) || taken other) (map (λ row. row.place) xs))
    rest)) (bytes_eq x.name name) refl found
  where
    rest : (not (taken x.place) && are_places count (λ other. (other == x.place) || taken other)
        (map (λ row. row.place) xs)) ≡ true
    rest = and_right (is_within count x.place)
        (not (taken x.place) && are_places count (λ other. (other == x.place) || taken other)
        (map (λ row. row.place) xs)) all

    either : (place_found xs name ≡ Some place
        → IsFree count (λ other. (other == x.place) || taken other) place) → (b : Bool)
        → bytes_eq x.name name ≡ b
        → option_map (λ (row : ReleaseRow). row.place) (cond b (Some x) (find (is_release name) xs))
        ≡ Some place → IsFree count taken place
    either later true e at =
        let is : x.place ≡ place = cc in
        subst (IsFree count taken) is
        (record {
          within = and_left (is_within count x.place)
              (not (taken x.place) && are_places count (λ other. (other == x.place) || taken other)
              (map (λ row. row.place) xs)) all;
          free = not-true (taken x.place)
              (and_left (not (taken x.place))
              (are_places count (λ other. (other == x.place) || taken other)
              (map (λ row. row.place) xs)) rest);
        })
    either later false e at = let free = later at in
        record { within = free.within; free = or_right (place == x.place) (taken place) free.free }

-- two names with the same place are the same
apart_in : (count : ℕ) (taken : ℕ → Bool) (rows : List ReleaseRow) (name other : List ℕ) (place : ℕ)
    → are_places count taken (map (λ row. row.place) rows) ≡ true
    → place_found rows name ≡ Some place → place_found rows other ≡ Some place → name ≡ other
apart_in count taken [] name other place all found too = cc
apart_in count taken (x ∷ xs) name other place all found too =
    either (apart_in count later_taken xs name other place later) (bytes_eq x.name name)
    (bytes_eq x.name other) refl refl found too
  where
    later_taken : ℕ → Bool
    later_taken n = (n == x.place) || taken n

    later : are_places count later_taken (map (λ row. row.place) xs) ≡ true
    later = and_right (not (taken x.place))
        (are_places count later_taken (map (λ row. row.place) xs))
        (and_right (is_within count x.place)
        (not (taken x.place) && are_places count later_taken (map (λ row. row.place) xs)) all)

    place_of : Bool → List ℕ → Option ℕ
    place_of b n = option_map (λ (row : ReleaseRow). row.place)
        (cond b (Some x) (find (is_release n) xs))

    -- the place of the first row isn't found after it
    not_behind : (n : List ℕ) → x.place ≡ place → place_found xs n ≡ Some place → ⊥
    not_behind n is at =
        let free : later_taken place ≡ false =
        (is_free count later_taken xs n place later at).free in
        let same : (place == x.place) ≡ true = grind (arith, nat_tests) in
        let differ : (place == x.place) ≡ false = or_left (place == x.place) (taken place) free in
        cc

    either : (place_found xs name ≡ Some place → place_found xs other ≡ Some place → name ≡ other)
        → (b d : Bool) → bytes_eq x.name name ≡ b → bytes_eq x.name other ≡ d
        → place_of b name ≡ Some place → place_of d other ≡ Some place → name ≡ other
    either both_later true true e f at too = sym (texts_equal x.name name e)
        ∙ texts_equal x.name other f
    either both_later true false e f at too = absurd (not_behind other
        (let is : x.place ≡ place = cc in is) too)
    either both_later false true e f at too = absurd (not_behind name
        (let is : x.place ≡ place = cc in is) at)
    either both_later false false e f at too = both_later at too

pub counted_are_kept : (places : List ℕ) (all : List Stand) (t : Tables)
    → are_places (length places) (λ place. false) places ≡ true → AreCounted places all t
    → IsKept (length places) all t
counted_are_kept places all t free from = record {
  opened = count;
  stands = from.stands;
  places = record {
    within = λ name place found. (let f =
        is_free (length places) (λ other. false) t.releases name place here found in (
          within_low (length places) place f.within,
          (let high : place ≤ length t.releases =
              omega (arith, within_high (length places) place f.within, count) in high),
        ));
    apart = λ name other place found too. apart_in (length places) (λ place. false) t.releases name
        other place here found too;
  };
  numbered = from.numbered;
}
  where
    count : length places ≡ length t.releases
    count = ap length from.releases ∙ length-map t.releases (λ row. row.place)

    here : are_places (length places) (λ place. false) (map (λ row. row.place) t.releases) ≡ true
    here = ap (are_places (length places) (λ place. false)) (sym from.releases) ∙ free
