-- What a freeze leaves.
use Rattle.std.proofs.Common.{Option, Some, None, ◌≡◌, ℕ, ◌+◌, ◌<◌, ◌≤◌, true, false, List, [], ◌∷◌}
use Rattle.std.proofs.Common.{◌++◌, length, map, sym, refl, ap, ◌∙◌, arith, length-append, add-zero}
use Rattle.std.proofs.Common.{inl, inr}
use Rattle.std.specs.Prelude.{is_some, ◌&&◌, nat_lt, nat_le, ◌==◌, unwrap_or}
use Rattle.std.specs.List.{flat_map, enumerate_from}
use Rattle.std.specs.Option.{option_map_or}
use Rattle.std.specs.Str.{bytes_eq}
use Rattle.std.proofs.lemmas.List.{length-map, map-append}
use Rattle.std.proofs.lemmas.List.Concat.{flat_map-append, flat_map_single}
use Rattle.std.proofs.lemmas.Bool.Decides.{nat_tests}
use Rattle.std.proofs.lemmas.List.FromFn.{length-enumerate_from}
use Rattle.std.proofs.lemmas.Simd.{map-map}
use Rattle.desk_model.specs.Lists.{put_all, in_order, updated}
use Rattle.desk_model.specs.Readings.{Readings}
use Rattle.desk_model.specs.Keys.{is_release, below_by, frozen_order}
use Rattle.desk_model.specs.History.{revisions, in_force, rules_in, attached, names, form_of}
use Rattle.desk_model.specs.declared.row.Owed.{Owed}
use Rattle.desk_model.specs.Conclusions.{adoptions}
use Rattle.desk_model.specs.Raised.{raised, owed_at, owed_for, numbered, shipped, chosen_in, frozen}
use Rattle.desk_model.specs.Raised.{frozen_at, frozen_for}
use Rattle.desk_model.specs.declared.row.Move.{Move}
use Rattle.desk_model.specs.Moves.{duties, duty_row, changes, moves, place, move_by, raises}
use Rattle.desk_model.specs.Moves.{duty_at, is_raised_for, all_changes}
use Rattle.desk_model.specs.declared.state.Word.TheVariants as word
use Rattle.desk_history.proofs.Moving.{in_range, known_at}
use Rattle.desk_model.specs.Tables.{tables, release_row, with_release_state}
use Rattle.desk_model.specs.Answers.{Freezing, freezing, walk, conclusion}
use Rattle.desk_history.specs.FromTables.{freezing_found, rules_found, form_found, choice_found}
use Rattle.desk_history.specs.FromTables.{owed_found, frozen_found, new_duty, raised_row}
use Rattle.desk_history.specs.FromTables.{new_duties}
use Rattle.desk_history.proofs.Rows.{updated-map, in_order-append}
use Rattle.desk_history.proofs.Lookups.{state-found, form-found, rules-found}
use Rattle.desk_history.proofs.Chosen.{choice-found}
use Rattle.desk_model.specs.declared.row.DutyRow.{DutyRow}
use Rattle.desk_model.specs.declared.row.ChangeRow.{ChangeRow}
use Rattle.desk_model.specs.declared.refusal.Refusal.{Refusal}
use Rattle.desk_model.specs.declared.state.ReleaseState.{ReleaseState}
use Rattle.desk_model.specs.declared.state.ReleaseState.TheVariants.{Frozen}
use Rattle.desk_model.specs.declared.command.Command.{Command}
use Rattle.desk_model.specs.declared.command.Command.TheVariants.{Freeze, Meet, Waive, Reopen, Withdraw}
use Rattle.desk_base.proofs.Texts.{text_tells, texts_turned}

-- What is looked up

pub owed-found : (w : Readings) (h : List Command) (r : List ℕ)
    → owed_found w (tables w h) r ≡ owed_at w h r
owed-found w h r =
    ap (λ rules. owed_for w (adoptions w h) rules (form_found (tables w h) r) r
    (choice_found (tables w h) r) (shipped w h r)) (rules-found w h)
    ∙ (ap (λ form. owed_for w (adoptions w h) (rules_in (in_force w h)) form r
    (choice_found (tables w h) r) (shipped w h r)) (form-found w h r)
    ∙ ap (λ chosen. owed_for w (adoptions w h) (rules_in (in_force w h))
    (unwrap_or (form_of h r) []) r chosen (shipped w h r)) (choice-found w h r))

pub frozen-found : (w : Readings) (h : List Command) (r : List ℕ)
    → frozen_found w (tables w h) r ≡ frozen_at w h r
frozen-found w h r =
    ap (λ rules. frozen_for w (adoptions w h) rules (form_found (tables w h) r) r
    (choice_found (tables w h) r) (shipped w h r)) (rules-found w h)
    ∙ (ap (λ form. frozen_for w (adoptions w h) (rules_in (in_force w h)) form r
    (choice_found (tables w h) r) (shipped w h r)) (form-found w h r)
    ∙ ap (λ chosen. frozen_for w (adoptions w h) (rules_in (in_force w h))
    (unwrap_or (form_of h r) []) r chosen (shipped w h r)) (choice-found w h r))

walk-found : (w : Readings) (h : List Command) (r : List ℕ)
    → walk w (adoptions w h) (rules_found (tables w h)) (form_found (tables w h) r) (conclusion w h)
    (choice_found (tables w h) r) (shipped w h r)
    ≡ walk w (adoptions w h) (rules_in (in_force w h)) (unwrap_or (form_of h r) []) (conclusion w h)
    (chosen_in w h r) (shipped w h r)
walk-found w h r =
    ap (λ rules. walk w (adoptions w h) rules (form_found (tables w h) r) (conclusion w h)
    (choice_found (tables w h) r) (shipped w h r)) (rules-found w h)
    ∙ (ap (λ form. walk w (adoptions w h) (rules_in (in_force w h)) form (conclusion w h)
    (choice_found (tables w h) r) (shipped w h r)) (form-found w h r)
    ∙ ap (λ chosen. walk w (adoptions w h) (rules_in (in_force w h)) (unwrap_or (form_of h r) [])
    (conclusion w h) chosen (shipped w h r)) (choice-found w h r))

pub length-duties : (w : Readings) (h : List Command) → length (duties w h) ≡ length (raised w h)
length-duties w h = length-map (numbered w h) (λ d. duty_row (place w h d.0) d)
    ∙ length-enumerate_from 1 (raised w h)

frozen_by : (a b : Freezing) → a.state ≡ b.state → a.attached ≡ b.attached → a.fault ≡ b.fault
    → a.raised ≡ b.raised → a.owed ≡ b.owed → a ≡ b
frozen_by a b state attached fault raised owed =
    let with : Option ReleaseState → ℕ → Option Refusal → ℕ → ℕ → Freezing =
    λ s n o old new. record { state = s; attached = n; fault = o; raised = old; owed = new } in
    ap (λ s. with s a.attached a.fault a.raised a.owed) state
    ∙ (ap (λ n. with b.state n a.fault a.raised a.owed) attached
    ∙ (ap (λ o. with b.state b.attached o a.raised a.owed) fault
    ∙ (ap (λ n. with b.state b.attached b.fault n a.owed) raised
    ∙ ap (λ n. with b.state b.attached b.fault b.raised n) owed)))

pub freezing-found : (w : Readings) (h : List Command) (r : List ℕ)
    → freezing_found w (tables w h) r ≡ freezing w h r
freezing-found w h r =
    frozen_by (freezing_found w (tables w h) r) (freezing w h r) (state-found w h r) refl
    (walk-found w h r) (length-duties w h)
    (ap (λ (owed : List Owed). length owed) (owed-found w h r))

-- Duties that are not raised yet don't move

pub raised_fewer : (w : Readings) (c : Command) (h : List Command)
    → length (raised w h) ≤ length (raised w (c ∷ h))
raised_fewer w (Freeze r day) h = omega (arith, length-append (raised w h) (owed_at w h r))
raised_fewer w c h = omega arith

pub beyond : (a b q : ℕ) → a + b < q → (nat_lt a q && nat_le q (a + b)) ≡ false
beyond a b q lt = grind (arith, nat_tests)

pub not_known : (q' q l : ℕ) → l < q → ((q' == q) && nat_le q l) ≡ false
not_known q' q l lt = grind (arith, nat_tests)

out_of_range : (q l : ℕ) → l < q → in_range 1 q l ≡ false
out_of_range q l lt = grind (arith, nat_tests)

raised_for_none : (r : List ℕ) (o : Option (ℕ × Owed)) → is_some o ≡ false
    → option_map_or (λ d. bytes_eq d.1.release r) o false ≡ false
raised_for_none r None e = refl
raised_for_none r (Some d) e = cc

unmoved_by : (w : Readings) (h : List Command) (c : Command) (q : ℕ) → length (raised w (c ∷ h)) < q
    → move_by w q c h [] ≡ None
unmoved_by w h (Freeze r day) q lt = let e : raises w h r q ≡ false =
    beyond (length (raised w h)) (length (owed_at w h r)) q
    (omega (arith, length-append (raised w h) (owed_at w h r))) in rw e refl
unmoved_by w h (Meet q' day text) q lt = rw (not_known q' q (length (raised w h)) lt) refl
unmoved_by w h (Waive q' day text until) q lt = rw (not_known q' q (length (raised w h)) lt) refl
unmoved_by w h (Reopen q' day text) q lt = rw (not_known q' q (length (raised w h)) lt) refl
unmoved_by w h (Withdraw r day text) q lt =
    let e : is_raised_for w h q r ≡ false =
    raised_for_none r (duty_at w h q) (known_at w h q ∙ out_of_range q (length (raised w h)) lt) in
    rw e refl
unmoved_by w h _ q lt = refl

pub unmoved : (w : Readings) (h : List Command) (q : ℕ) → length (raised w h) < q → moves w h q ≡ []
unmoved w [] q lt = refl
unmoved w (c ∷ h) q lt = rw (
  unmoved w h q (let le = raised_fewer w c h in omega arith),
  unmoved_by w h c q lt,
) refl

-- the numbers of a second list continue those of the first
pub numbered-append : {A : Type 0} (n : ℕ) (xs ys : List A)
    → enumerate_from n (xs ++ ys) ≡ enumerate_from n xs ++ enumerate_from (n + length xs) ys
numbered-append n [] ys = rw (add-zero n) refl
numbered-append n (x ∷ xs) ys = ap (λ zs. (n, x) ∷ zs)
    (numbered-append (n + 1) xs ys
    ∙ ap (λ k. enumerate_from (n + 1) xs ++ enumerate_from k ys) (omega arith))

map_numbered : {A B : Type 0} (f g : ℕ × A → B) (n : ℕ) (xs : List A)
    → ((k : ℕ) (x : A) → n ≤ k → k < n + length xs → f (k, x) ≡ g (k, x))
    → map f (enumerate_from n xs) ≡ map g (enumerate_from n xs)
map_numbered f g n [] same = refl
map_numbered f g n (x ∷ xs) same = rw (
  same n x (omega arith) (omega arith),
  map_numbered f g (n + 1) xs (λ k y le lt. same k y (omega arith) (omega arith)),
) refl

flat_map_numbered : {A B : Type 0} (f g : ℕ × A → List B) (n : ℕ) (xs : List A)
    → ((k : ℕ) (x : A) → n ≤ k → k < n + length xs → f (k, x) ≡ g (k, x))
    → flat_map f (enumerate_from n xs) ≡ flat_map g (enumerate_from n xs)
flat_map_numbered f g n [] same = refl
flat_map_numbered f g n (x ∷ xs) same = rw (
  same n x (omega arith) (omega arith),
  flat_map_numbered f g (n + 1) xs (λ k y le lt. same k y (omega arith) (omega arith)),
) refl

older_than : (a b k : ℕ) → k ≤ a → (nat_lt a k && nat_le k (a + b)) ≡ false
older_than a b k le = grind (arith, nat_tests)

newer_than : (a b k : ℕ) → a < k → k ≤ a + b → (nat_lt a k && nat_le k (a + b)) ≡ true
newer_than a b k lt le = grind (arith, nat_tests)

moves_older : (w : Readings) (h : List Command) (r day : List ℕ) (k : ℕ) → k ≤ length (raised w h)
    → moves w (Freeze r day ∷ h) k ≡ moves w h k
moves_older w h r day k le = let e : raises w h r k ≡ false =
    older_than (length (raised w h)) (length (owed_at w h r)) k le in rw e refl

abbrev raising : List ℕ → Move
raising day = record { day = day; word = word.Raised; body = []; last_day = None }

moves_newer : (w : Readings) (h : List Command) (r day : List ℕ) (k : ℕ) → length (raised w h) < k
    → k ≤ length (raised w h) + length (owed_at w h r)
    → moves w (Freeze r day ∷ h) k ≡ raising day ∷ []
moves_newer w h r day k lt le =
    let e : raises w h r k ≡ true =
    newer_than (length (raised w h)) (length (owed_at w h r)) k lt le in
    rw (e, unmoved w h k lt) refl

-- The rows

pub freeze-releases : (w : Readings) (h : List Command) (r day : List ℕ)
    → map (release_row (Freeze r day ∷ h)) (names h)
    ≡ updated (is_release r) (with_release_state Frozen (length (revisions h)))
    (map (release_row h) (names h))
freeze-releases w h r day = sym (updated-map (is_release r)
    (with_release_state Frozen (length (revisions h))) (release_row h)
    (release_row (Freeze r day ∷ h)) (λ n.
    elim (text_tells n r) [
      | inl e ↦ (let f : bytes_eq r n ≡ true = texts_turned r n ∙ e.0 in rw (e.0, f) refl)
      | inr e ↦ (let f : bytes_eq r n ≡ false = texts_turned r n ∙ e.0 in rw (e.0, f) refl)
    ]) (names h))

pub freeze-duties : (w : Readings) (h : List Command) (r day : List ℕ)
    → duties w (Freeze r day ∷ h) ≡ duties w h
    ++ map new_duty (enumerate_from (1 + length (raised w h)) (owed_at w h r))
freeze-duties w h r day =
    let new = owed_at w h r in
    let h' = Freeze r day ∷ h in
    let row : ℕ × Owed → DutyRow = λ d. duty_row (place w h d.0) d in
    let row' : ℕ × Owed → DutyRow = λ d. duty_row (place w h' d.0) d in
    ap (map row') (numbered-append 1 (raised w h) new)
    ∙ (map-append row' (enumerate_from 1 (raised w h))
    (enumerate_from (1 + length (raised w h)) new)
    ∙ (ap (λ rows. rows ++ map row' (enumerate_from (1 + length (raised w h)) new))
    (map_numbered row' row 1 (raised w h)
    (λ k d le lt. rw (moves_older w h r day k (omega arith)) refl))
    ∙ ap (λ rows. map row (enumerate_from 1 (raised w h)) ++ rows)
    (map_numbered row' new_duty (1 + length (raised w h)) new
    (λ k d le lt. rw (moves_newer w h r day k (omega arith) (omega arith)) refl))))

pub freeze-changes : (w : Readings) (h : List Command) (r day : List ℕ)
    → all_changes w (Freeze r day ∷ h) ≡ all_changes w h
    ++ map (raised_row day) (map new_duty
    (enumerate_from (1 + length (raised w h)) (owed_at w h r)))
freeze-changes w h r day =
    let new = owed_at w h r in
    let h' = Freeze r day ∷ h in
    let first = 1 + length (raised w h) in
    let rows : ℕ × Owed → List ChangeRow = λ d. changes w h d.0 in
    let rows' : ℕ × Owed → List ChangeRow = λ d. changes w h' d.0 in
    let one : ℕ × Owed → ChangeRow = λ d. raised_row day (new_duty d) in
    ap (flat_map rows') (numbered-append 1 (raised w h) new)
    ∙ (flat_map-append rows' (enumerate_from 1 (raised w h)) (enumerate_from first new)
    ∙ (ap (λ cs. cs ++ flat_map rows' (enumerate_from first new))
    (flat_map_numbered rows' rows 1 (raised w h)
    (λ k d le lt. rw (moves_older w h r day k (omega arith)) refl))
    ∙ ap (λ cs. flat_map rows (enumerate_from 1 (raised w h)) ++ cs)
    (flat_map_numbered rows' (λ d. one d ∷ []) first new
    (λ k d le lt. rw (moves_newer w h r day k (omega arith) (omega arith)) refl)
    ∙ (flat_map_single one (enumerate_from first new)
    ∙ sym (map-map (raised_row day) new_duty (enumerate_from first new))))))

-- the new duties, as they are made from the tables
pub new-duties : (w : Readings) (h : List Command) (r : List ℕ)
    → map new_duty (enumerate_from (1 + length (raised w h)) (owed_at w h r))
    ≡ new_duties w (tables w h) r
new-duties w h r =
    sym (ap (λ owed. map new_duty (enumerate_from (length (duties w h) + 1) owed))
    (owed-found w h r)
    ∙ (ap (λ n. map new_duty (enumerate_from (n + 1) (owed_at w h r))) (length-duties w h)
    ∙ ap (λ n. map new_duty (enumerate_from n (owed_at w h r)))
    (let e : length (raised w h) + 1 ≡ 1 + length (raised w h) = omega arith in e)))

pub freeze-frozen : (w : Readings) (h : List Command) (r day : List ℕ)
    → in_order (below_by frozen_order) (frozen w (Freeze r day ∷ h))
    ≡ put_all (below_by frozen_order) (frozen_found w (tables w h) r)
    (in_order (below_by frozen_order) (frozen w h))
freeze-frozen w h r day =
    in_order-append (below_by frozen_order) (frozen_at w h r) (frozen w h)
    ∙ ap (λ rows. put_all (below_by frozen_order) rows
    (in_order (below_by frozen_order) (frozen w h))) (sym (frozen-found w h r))
