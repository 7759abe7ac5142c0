-- States and words by their names, and profiles by their numbers.
use Rattle.std.proofs.Common.{◌≡◌, ℕ, pos, Bool, true, false, cond, List, [], ◌∷◌, find, Option, Some}
use Rattle.std.proofs.Common.{None, refl, sym, subst}
use Rattle.std.specs.Prelude.{is_some, unwrap_or, ◌||◌, if◌then◌else◌}
use Rattle.std.specs.Option.{option_map_or}
use Rattle.std.specs.Ordering.{int_eq}
use Rattle.std.specs.Str.{bytes_eq}
use Rattle.std.proofs.lemmas.Bool.Decides.{Decides-int_eq}
use Rattle.desk_base.proofs.Texts.{texts_equal}
use Rattle.desk_base.specs.Profiles.{profile_number}
use Rattle.desk_base.specs.declared.profile.Profile.TheVariants.{Capitals, Either}
use Rattle.desk_model.specs.Names.{duty_state_name, duty_state_named}
use Rattle.desk_model.specs.States.{state_after}
use Rattle.desk_model.specs.declared.state.DutyState.{DutyState}
use Rattle.desk_model.specs.declared.state.DutyState.TheVariants as duty
use Rattle.desk_model.specs.declared.state.Word.{Word}
use Rattle.desk_snapshot.specs.Changes.{are_moves, go_on, is_raising, last_change, leaves}
use Rattle.desk_snapshot.specs.Conditions.{is_profile, profile_of}
use Rattle.desk_snapshot.specs.declared.rows.StoredChange.{StoredChange}
use Rattle.desk_snapshot.specs.declared.rows.StoredReading.{StoredReading}
use Rattle.desk_snapshot.specs.declared.snapshot.Snapshot.{Snapshot}
use Rattle.desk_base.proofs.Bools.{and_right}

-- what is found by a name has it
pub has_name : {X : Type 0} (name : X → List ℕ) (xs : List X) (d : X) (text : List ℕ)
    → is_some (find (λ x. bytes_eq (name x) text) xs) ≡ true
    → name (unwrap_or (find (λ x. bytes_eq (name x) text) xs) d) ≡ text
has_name name [] d text some = absurd (cc)
has_name {X} name (x ∷ xs) d text some =
    by (has_name name xs d text) (bytes_eq (name x) text) refl some
  where
    by : (is_some (find (λ x. bytes_eq (name x) text) xs) ≡ true
        → name (unwrap_or (find (λ x. bytes_eq (name x) text) xs) d) ≡ text) → (b : Bool)
        → bytes_eq (name x) text ≡ b
        → is_some (cond b (Some x) (find (λ x. bytes_eq (name x) text) xs)) ≡ true
        → name (unwrap_or (cond b (Some x) (find (λ x. bytes_eq (name x) text) xs)) d) ≡ text
    by more true is some = texts_equal (name x) text is
    by more false is some = more some

pub some_of : {A : Type 0} (test : A → Bool) (o : Option A) → option_map_or test o false ≡ true
    → is_some o ≡ true
some_of test None is = absurd (cc)
some_of test (Some x) is = refl

-- ---- states of duties

own_state : (state : DutyState) → is_some (duty_state_named (duty_state_name state)) ≡ true
own_state duty.IsOpen = refl
own_state duty.Met = refl
own_state duty.Waived = refl
own_state duty.Withdrawn = refl

left_in : (state : List ℕ) (o : Option Word)
    → option_map_or (λ word. bytes_eq (duty_state_name (state_after word)) state) o false ≡ true
    → is_some (duty_state_named state) ≡ true
left_in state None is = absurd (cc)
left_in state (Some word) is = subst (λ (text : List ℕ). is_some (duty_state_named text) ≡ true)
    (texts_equal (duty_state_name (state_after word)) state is) (own_state (state_after word))

-- the state in which the changes of a duty left it has a name
pub state_moved : (s : Snapshot) (state : List ℕ) (rows : List StoredChange)
    → are_moves s state rows ≡ true → is_some (duty_state_named state) ≡ true
state_moved s state [] moved = absurd (cc)
state_moved s state (row ∷ rows) moved = left_in state _
    (and_right (go_on s row rows) (leaves state (last_change row rows))
    (and_right (is_raising row) _ moved))

-- ---- profiles

pub profile_back : (row : StoredReading) → is_profile row ≡ true
    → pos (profile_number (profile_of row)) ≡ row.profile
profile_back row is = by (int_eq row.profile (pos 2)) refl
  where
    second : (a b : Bool) → (a || b) ≡ true → b ≡ false → a ≡ true
    second true b e f = refl
    second false b e f = absurd (cc)

    by : (b : Bool) → int_eq row.profile (pos 2) ≡ b
        → pos (profile_number (if b then Either else Capitals)) ≡ row.profile
    by true e = sym ((Decides-int_eq row.profile (pos 2)).0 e)
    by false e = sym ((Decides-int_eq row.profile (pos 1)).0
        (second (int_eq row.profile (pos 1)) (int_eq row.profile (pos 2)) is e))
