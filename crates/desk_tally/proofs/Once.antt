-- The releases of a recorded history have the places from 1 to their number, each a different one.
use Rattle.std.proofs.Common.{◌≡◌, ℕ, ◌+◌, ◌≤◌, Bool, true, false, List, [], ◌∷◌, length, map, refl}
use Rattle.std.proofs.Common.{sym, ap, ◌∙◌, arith}
use Rattle.std.specs.Prelude.{if◌then◌else◌, ◌&&◌, ◌||◌, ◌==◌, not}
use Rattle.std.proofs.lemmas.Bool.Decides.{nat_tests}
use Rattle.std.proofs.lemmas.Bool.{and_from}
use Rattle.desk_model.specs.Lists.{put}
use Rattle.desk_model.specs.Keys.{release_below}
use Rattle.desk_model.specs.Readings.{Readings}
use Rattle.desk_model.specs.Tables.{Tables, release_row, release_rows}
use Rattle.desk_model.specs.History.{opened, names, place_in}
use Rattle.desk_model.specs.Answers.{IsHistory}
use Rattle.desk_model.specs.declared.row.ReleaseRow.{ReleaseRow}
use Rattle.desk_model.specs.declared.state.ReleaseState.TheVariants.{IsOpen}
use Rattle.desk_model.specs.declared.command.Command.{Command}
use Rattle.desk_model.specs.declared.command.Command.TheVariants.{OpenRelease}
use Rattle.desk_history.proofs.Steps.{recorded-rows}
use Rattle.desk_history.proofs.Lookups.{length-releases}
use Rattle.desk_history.proofs.Rows.{swap_or}
use Rattle.desk_tally.specs.Stands.{is_within, are_places}
use Rattle.desk_tally.proofs.Bools.{within_low, within_high, within_from}
use Rattle.desk_base.proofs.Bools.{and_left, and_right}
use Rattle.desk_base.proofs.Numbers.{equal_turned}

-- two places can be taken in either order
swapped : (wa wb ta tb same rest : Bool)
    → (wa && (not ta && (wb && (not (same || tb) && rest))))
    ≡ (wb && (not tb && (wa && (not (same || ta) && rest))))
swapped true true true true same rest = refl
swapped true true true false true rest = refl
swapped true true true false false rest = refl
swapped true true false true true rest = refl
swapped true true false true false rest = refl
swapped true true false false same rest = refl
swapped true false true tb same rest = refl
swapped true false false tb same rest = refl
swapped false true ta true same rest = refl
swapped false true ta false same rest = refl
swapped false false ta tb same rest = refl

swap-places : (count : ℕ) (taken : ℕ → Bool) (a b : ℕ) (places : List ℕ)
    → are_places count taken (a ∷ b ∷ places) ≡ are_places count taken (b ∷ a ∷ places)
swap-places count taken a b places =
    let later : Bool = are_places count (λ other. (other == a) || ((other == b) || taken other))
    places in
    ap (λ rest. is_within count a
    && (not (taken a) && (is_within count b && (not ((b == a) || taken b) && rest))))
    (ap (λ (t : ℕ → Bool). are_places count t places)
    (λ i other. swap_or (other == b) (other == a) (taken other) i))
    ∙ (swapped (is_within count a) (is_within count b) (taken a) (taken b) (b == a) later
    ∙ ap (λ same. is_within count b
    && (not (taken b) && (is_within count a && (not (same || taken a) && later))))
    (equal_turned b a))

-- a release that is put in its place by name takes its own place among the places
places-put : (count : ℕ) (taken : ℕ → Bool) (x : ReleaseRow) (rows : List ReleaseRow)
    → are_places count taken (map (λ row. row.place) (put release_below x rows))
    ≡ are_places count taken (x.place ∷ map (λ row. row.place) rows)
places-put count taken x [] = refl
places-put count taken x (y ∷ ys) = either
    (places-put count (λ other. (other == y.place) || taken other) x ys) (release_below x y)
  where
    either : are_places count (λ other. (other == y.place) || taken other)
        (map (λ row. row.place) (put release_below x ys))
        ≡ are_places count (λ other. (other == y.place) || taken other)
        (x.place ∷ map (λ row. row.place) ys)
        → (b : Bool) → are_places count taken
        (map (λ (row : ReleaseRow). row.place)
        (if b then x ∷ y ∷ ys else y ∷ put release_below x ys))
        ≡ are_places count taken (x.place ∷ y.place ∷ map (λ row. row.place) ys)
    either rest true = refl
    either rest false =
        ap (λ all. is_within count y.place && (not (taken y.place) && all)) rest
        ∙ swap-places count taken y.place x.place (map (λ (row : ReleaseRow). row.place) ys)

-- places that are taken once are still so if there is one more place, which is none of them
one_more : (count : ℕ) (taken more : ℕ → Bool) → ((n : ℕ) → n ≤ count → more n ≡ taken n)
    → (places : List ℕ) → are_places count taken places ≡ true
    → are_places (count + 1) more places ≡ true
one_more count taken more same [] all = refl
one_more count taken more same (p ∷ ps) all =
    let left : Bool = are_places count (λ other. (other == p) || taken other) ps in
    let right : Bool = are_places (count + 1) (λ other. (other == p) || more other) ps in
    let within : is_within count p ≡ true =
    and_left (is_within count p) (not (taken p) && left) all in
    let rest : (not (taken p) && left) ≡ true =
    and_right (is_within count p) (not (taken p) && left) all in
    and_from (is_within (count + 1) p) (not (more p) && right)
    (within_from (count + 1) p (within_low count p within)
    (omega (arith, within_high count p within)))
    (and_from (not (more p)) right
    (ap not (same p (within_high count p within)) ∙ and_left (not (taken p)) left rest)
    (one_more count (λ other. (other == p) || taken other) (λ other. (other == p) || more other)
    (λ n le. ap (λ b. (n == p) || b) (same n le)) ps (and_right (not (taken p)) left rest)))

with_next : (count : ℕ) (places : List ℕ) → are_places count (λ place. false) places ≡ true
    → are_places (count + 1) (λ place. false) ((count + 1) ∷ places) ≡ true
with_next count places all =
    and_from (is_within (count + 1) (count + 1))
    (are_places (count + 1) (λ other. (other == count + 1) || false) places)
    (within_from (count + 1) (count + 1) (omega arith) (omega arith))
    (one_more count (λ place. false) (λ other. (other == count + 1) || false) (λ n le. another n le)
    places all)
  where
    another : (n : ℕ) → n ≤ count → ((n == count + 1) || false) ≡ false
    another n le = let differ : (n == count + 1) ≡ false = grind (arith, nat_tests) in
        rw differ refl

column : (h : List Command) (ns : List (List ℕ))
    → map (λ (row : ReleaseRow). row.place) (map (release_row h) ns) ≡ map (place_in (opened h)) ns
column h [] = refl
column h (n ∷ ns) = ap (λ places. place_in (opened h) n ∷ places) (column h ns)

opened-once : (w : Readings) (h : List Command) → IsHistory w h
    → are_places (length (opened h)) (λ place. false) (map (place_in (opened h)) (names h)) ≡ true
opened-once w [] ok = refl
opened-once w (OpenRelease r f ∷ h) ok =
    let later : List Command = OpenRelease r f ∷ h in
    let rows : List ReleaseRow = release_rows h in
    let row : ReleaseRow = record {
      name = r;
      place = length rows + 1;
      form = f;
      state = IsOpen;
      revision = 0;
    } in
    let n : ℕ = length (opened h) in
    let put_in : release_rows later ≡ put release_below row rows =
    ap (λ (t : Tables). t.releases) (recorded-rows w h (OpenRelease r f) ok.1 ok.0) in
    let longer : length (opened later) ≡ n + 1 = omega arith in
    ap (λ k. are_places k (λ place. false) (map (place_in (opened later)) (names later))) longer
    ∙ (ap (are_places (n + 1) (λ place. false))
    (sym (column later (names later)) ∙ ap (map (λ (row : ReleaseRow). row.place)) put_in)
    ∙ (places-put (n + 1) (λ place. false) row rows
    ∙ (ap (λ k. are_places (n + 1) (λ place. false)
    ((k + 1) ∷ map (λ (row : ReleaseRow). row.place) rows)) (length-releases h)
    ∙ (ap (λ places. are_places (n + 1) (λ place. false) ((n + 1) ∷ places)) (column h (names h))
    ∙ with_next n (map (place_in (opened h)) (names h)) (opened-once w h ok.1)))))
opened-once w (_ ∷ h) ok = opened-once w h ok.1

pub releases-once : (w : Readings) (h : List Command) → IsHistory w h
    → are_places (length (opened h)) (λ place. false)
    (map (λ (row : ReleaseRow). row.place) (release_rows h)) ≡ true
releases-once w h ok = ap (are_places (length (opened h)) (λ place. false)) (column h (names h))
    ∙ opened-once w h ok
