-- The tables of a history answer and change as the history does.
use Rattle.std.proofs.Common.{◌≡◌, ℕ, Bool, true, false, List, ◌∷◌, Option, None, ◌++◌, map, sym}
use Rattle.std.proofs.Common.{refl, ap, ◌∙◌}
use Rattle.std.specs.Prelude.{if◌then◌else◌, IsTrue, is_some, filter}
use Rattle.desk_model.specs.Lists.{put_all}
use Rattle.desk_model.specs.Readings.{Readings}
use Rattle.desk_model.specs.Keys.{below_by, choice_order}
use Rattle.desk_model.specs.History.{form_of, term_set}
use Rattle.desk_model.specs.declared.row.Move.{Move}
use Rattle.desk_model.specs.Moves.{duties, all_changes}
use Rattle.desk_model.specs.declared.state.Word.TheVariants as word
use Rattle.desk_model.specs.Tables.{Tables, tables, applied, standing, choice_row, is_other_choice, is_choice_elsewhere}
use Rattle.desk_model.specs.Answers.{answer, IsHistory, is_recorded, noted, opening, open_answer}
use Rattle.desk_model.specs.Answers.{attach_answer, attaching, choose_answer, choosing}
use Rattle.desk_model.specs.Answers.{unchoose_answer, unchoosing, freeze_answer, withdraw_answer}
use Rattle.desk_model.specs.Answers.{close_answer, move_answer, moving}
use Rattle.desk_history.specs.FromTables.{answer_from, change_for, rows_noted, raised_row}
use Rattle.desk_history.specs.FromTables.{opening_found, unchoosing_found}
use Rattle.desk_history.proofs.Same.{same_tables}
use Rattle.desk_history.proofs.Rows.{in_order-append}
use Rattle.desk_history.proofs.Orders.{filter-in_order, choice_is_order}
use Rattle.desk_history.proofs.Lookups.{is_found, length-releases, state-found}
use Rattle.desk_history.proofs.Opening.{open-releases, open_free}
use Rattle.desk_history.proofs.Freezing.{freezing-found, freeze-releases, freeze-duties}
use Rattle.desk_history.proofs.Freezing.{freeze-changes, freeze-frozen, new-duties}
use Rattle.desk_history.proofs.Moving.{move-answer, recorded_known, named-duties, named-changes}
use Rattle.desk_history.proofs.Withdrawing.{withdrawn-releases, withdrawn-duties, withdrawn-changes}
use Rattle.desk_history.proofs.Withdrawing.{ended-duties, ended-changes, ended-count}
use Rattle.desk_history.proofs.Chosen.{terms-found}
use Rattle.desk_model.specs.declared.command.Command.{Command}
use Rattle.desk_model.specs.declared.command.Command.TheVariants.{LoadCatalogue, Import}
use Rattle.desk_model.specs.declared.command.Command.TheVariants.{OpenRelease, Attach, Choose}
use Rattle.desk_model.specs.declared.command.Command.TheVariants.{Unchoose, Freeze, Meet, Waive}
use Rattle.desk_model.specs.declared.command.Command.TheVariants.{Reopen, Withdraw, CloseDay}
use Rattle.desk_model.specs.declared.command.Command.TheVariants.{Conclude, Adopt}

open-answer : (w : Readings) (h : List Command) (r f : List ℕ)
    → answer_from w (tables w h) (OpenRelease r f) ≡ answer w h (OpenRelease r f)
open-answer w h r f =
    ap (λ b. open_answer r f (record (opening_found (tables w h) r) { is_taken = b }))
    (is_found w h r)
    ∙ ap (λ n. open_answer r f (record (opening w h r) { releases = n })) (length-releases h)

pub step-answer : (w : Readings) (h : List Command) (c : Command)
    → answer_from w (tables w h) c ≡ answer w h c
step-answer w h (LoadCatalogue text) = refl
step-answer w h (Import bytes profile) = refl
step-answer w h (OpenRelease r f) = open-answer w h r f
step-answer w h (Attach r d) = ap (λ s. attach_answer (record (attaching w h r d) { state = s }))
    (state-found w h r)
step-answer w h (Choose r d p texts) = ap (λ s. choose_answer w texts
    (record (choosing w h r d p) { state = s })) (state-found w h r)
step-answer w h (Freeze r day) = ap (freeze_answer day) (freezing-found w h r)
step-answer w h (Unchoose r d p) =
    ap (λ s. unchoose_answer d p (record (unchoosing_found (tables w h) r d p) { state = s }))
    (state-found w h r)
    ∙ ap (λ terms. unchoose_answer d p (record (unchoosing w h r d p) { chosen = terms }))
    (terms-found w h r d p)
step-answer w h (Meet q day text) = move-answer w h word.Met q day text None
step-answer w h (Waive q day text until) = move-answer w h word.Waived q day text until
step-answer w h (Reopen q day text) = move-answer w h word.Reopened q day text None
step-answer w h (Withdraw r day text) = ap (λ s. withdraw_answer day text (record { state = s }))
    (state-found w h r)
step-answer w h (CloseDay day) = ap (λ n. close_answer day (record { ended = n }))
    (ended-count w h day)
step-answer w h (Conclude d p text) = refl
step-answer w h (Adopt d reference licence) = refl

open-rows : (w : Readings) (h : List Command) (r f : List ℕ) → IsHistory w h
    → IsTrue (is_recorded (answer w h (OpenRelease r f)))
    → tables w (OpenRelease r f ∷ h)
    ≡ applied (change_for w (tables w h) (OpenRelease r f)) (tables w h)
open-rows w h r f ok recorded =
    let free : is_some (form_of h r) ≡ false = open_free r f (opening w h r) recorded in
    same_tables _ _ refl refl refl refl refl refl refl refl (open-releases w h r f ok free) refl
    refl refl refl refl

choose-rows : (w : Readings) (h : List Command) (r p : List ℕ) (d : ℕ) (texts : List (List ℕ))
    → tables w (Choose r d p texts ∷ h)
    ≡ applied (change_for w (tables w h) (Choose r d p texts)) (tables w h)
choose-rows w h r p d texts =
    same_tables _ _ refl refl refl refl refl refl refl refl refl refl
    (in_order-append (below_by choice_order) (map (choice_row r d p) (term_set w texts))
    (filter (is_other_choice r d p) (standing w h))
    ∙ ap (put_all (below_by choice_order) (map (choice_row r d p) (term_set w texts)))
    (sym (filter-in_order (below_by choice_order) choice_is_order (is_other_choice r d p)
    (standing w h))))
    refl refl refl

freeze-rows : (w : Readings) (h : List Command) (r day : List ℕ)
    → tables w (Freeze r day ∷ h) ≡ applied (change_for w (tables w h) (Freeze r day)) (tables w h)
freeze-rows w h r day =
    same_tables _ _ refl refl refl refl refl refl refl refl (freeze-releases w h r day) refl refl
    (freeze-frozen w h r day)
    (freeze-duties w h r day ∙ ap (λ rows. duties w h ++ rows) (new-duties w h r))
    (freeze-changes w h r day ∙ ap (λ rows. all_changes w h ++ map (raised_row day) rows)
    (new-duties w h r))

unchoose-rows : (w : Readings) (h : List Command) (r p : List ℕ) (d : ℕ)
    → tables w (Unchoose r d p ∷ h)
    ≡ applied (change_for w (tables w h) (Unchoose r d p)) (tables w h)
unchoose-rows w h r p d =
    same_tables _ _ refl refl refl refl refl refl refl refl refl refl
    (sym (filter-in_order (below_by choice_order) choice_is_order (is_other_choice r d p)
    (standing w h)))
    refl refl refl

-- a command that moves one duty
meet-rows : (w : Readings) (h : List Command) (q : ℕ) (day text : List ℕ)
    → IsTrue (is_recorded (move_answer word.Met day text None (moving w h q)))
    → tables w (Meet q day text ∷ h)
    ≡ applied (change_for w (tables w h) (Meet q day text)) (tables w h)
meet-rows w h q day text recorded =
    let known = recorded_known w h word.Met q day text None recorded in
    let m : Move = record { day = day; word = word.Met; body = text; last_day = None } in
    same_tables _ _ refl refl refl refl refl refl refl refl refl refl refl refl
    (named-duties w h q m known) (named-changes w h q m known)

waive-rows : (w : Readings) (h : List Command) (q : ℕ) (day text : List ℕ) (until : Option (List ℕ))
    → IsTrue (is_recorded (move_answer word.Waived day text until (moving w h q)))
    → tables w (Waive q day text until ∷ h)
    ≡ applied (change_for w (tables w h) (Waive q day text until)) (tables w h)
waive-rows w h q day text until recorded =
    let known = recorded_known w h word.Waived q day text until recorded in
    let m : Move = record { day = day; word = word.Waived; body = text; last_day = until } in
    same_tables _ _ refl refl refl refl refl refl refl refl refl refl refl refl
    (named-duties w h q m known) (named-changes w h q m known)

reopen-rows : (w : Readings) (h : List Command) (q : ℕ) (day text : List ℕ)
    → IsTrue (is_recorded (move_answer word.Reopened day text None (moving w h q)))
    → tables w (Reopen q day text ∷ h)
    ≡ applied (change_for w (tables w h) (Reopen q day text)) (tables w h)
reopen-rows w h q day text recorded =
    let known = recorded_known w h word.Reopened q day text None recorded in
    let m : Move = record { day = day; word = word.Reopened; body = text; last_day = None } in
    same_tables _ _ refl refl refl refl refl refl refl refl refl refl refl refl
    (named-duties w h q m known) (named-changes w h q m known)

-- commands that move many
withdraw-rows : (w : Readings) (h : List Command) (r day text : List ℕ)
    → tables w (Withdraw r day text ∷ h)
    ≡ applied (change_for w (tables w h) (Withdraw r day text)) (tables w h)
withdraw-rows w h r day text =
    same_tables _ _ refl refl refl refl refl refl refl refl (withdrawn-releases w h r day text) refl
    (sym (filter-in_order (below_by choice_order) choice_is_order (is_choice_elsewhere r)
    (standing w h)))
    refl (withdrawn-duties w h r day text) (withdrawn-changes w h r day text)

close-rows : (w : Readings) (h : List Command) (day : List ℕ)
    → tables w (CloseDay day ∷ h) ≡ applied (change_for w (tables w h) (CloseDay day)) (tables w h)
close-rows w h day = same_tables _ _ refl refl refl refl refl refl refl refl refl refl refl refl
    (ended-duties w h day) (ended-changes w h day)

pub recorded-rows : (w : Readings) (h : List Command) (c : Command) → IsHistory w h
    → IsTrue (is_recorded (answer w h c))
    → tables w (c ∷ h) ≡ applied (change_for w (tables w h) c) (tables w h)
recorded-rows w h (LoadCatalogue text) ok kept = refl
recorded-rows w h (Import bytes profile) ok kept = refl
recorded-rows w h (OpenRelease r f) ok kept = open-rows w h r f ok kept
recorded-rows w h (Attach r d) ok kept = refl
recorded-rows w h (Choose r d p texts) ok kept = choose-rows w h r p d texts
recorded-rows w h (Freeze r day) ok kept = freeze-rows w h r day
recorded-rows w h (Unchoose r d p) ok kept = unchoose-rows w h r p d
recorded-rows w h (Meet q day text) ok kept = meet-rows w h q day text kept
recorded-rows w h (Waive q day text until) ok kept = waive-rows w h q day text until kept
recorded-rows w h (Reopen q day text) ok kept = reopen-rows w h q day text kept
recorded-rows w h (Withdraw r day text) ok kept = withdraw-rows w h r day text
recorded-rows w h (CloseDay day) ok kept = close-rows w h day
recorded-rows w h (Conclude d p text) ok kept = refl
recorded-rows w h (Adopt d reference licence) ok kept = refl

noted_rows : (w : Readings) (h : List Command) (c : Command) (b : Bool)
    → (b ≡ true → tables w (c ∷ h) ≡ applied (change_for w (tables w h) c) (tables w h))
    → tables w (if b then c ∷ h else h)
    ≡ (if b then applied (change_for w (tables w h) c) (tables w h) else tables w h)
noted_rows w h c true same = same refl
noted_rows w h c false same = refl

pub step-rows : (w : Readings) (h : List Command) (c : Command) → IsHistory w h
    → rows_noted w (tables w h) c ≡ tables w (noted w h c)
step-rows w h c ok =
    ap (λ a. if is_recorded a then applied (change_for w (tables w h) c) (tables w h)
    else tables w h) (step-answer w h c)
    ∙ sym (noted_rows w h c (is_recorded (answer w h c)) (λ e. recorded-rows w h c ok e))

noted_ok : (w : Readings) (h : List Command) (c : Command) (b : Bool)
    → is_recorded (answer w h c) ≡ b → IsHistory w h → IsHistory w (if b then c ∷ h else h)
noted_ok w h c true e ok = (e, ok)
noted_ok w h c false e ok = ok

pub IsHistory-noted : (w : Readings) (h : List Command) (c : Command) → IsHistory w h
    → IsHistory w (noted w h c)
IsHistory-noted w h c ok = noted_ok w h c (is_recorded (answer w h c)) refl ok

-- the same for the rows that a store keeps
pub at_history : (w : Readings) (h : List Command) (c : Command) (t : Tables) → IsHistory w h
    → t ≡ tables w h → rows_noted w t c ≡ tables w (noted w h c)
at_history w h c t ok e = ap (λ u. rows_noted w u c) e ∙ step-rows w h c ok

pub answer_at_history : (w : Readings) (h : List Command) (c : Command) (t : Tables)
    → t ≡ tables w h → answer_from w t c ≡ answer w h c
answer_at_history w h c t e = ap (λ u. answer_from w u c) e ∙ step-answer w h c
