-- What a stop leaves of a desk after a command, and after one more command of a run.
use Rattle.std.proofs.Common.{◌≡◌, ◌<◌, arith, Bool, true, false, List, [], ◌∷◌, ◌++◌, length}
use Rattle.std.proofs.Common.{get_or, refl, sym, ap, subst, ◌∙◌, Result, Ok, Err}
use Rattle.std.specs.Prelude.{◌&&◌, ◌||◌, if◌then◌else◌, MatchBool}
use Rattle.std.specs.List.{list_all, list_any}
use Rattle.desk_model.specs.Readings.{Readings}
use Rattle.desk_model.specs.Tables.{Tables, tables}
use Rattle.desk_model.specs.Answers.{IsHistory, is_recorded, refused_alone}
use Rattle.desk_model.specs.Faults.{MayBecome, outcome_of}
use Rattle.desk_model.specs.Runs.{history_with, is_kept}
use Rattle.desk_model.specs.declared.command.Answer.{Answer}
use Rattle.desk_model.specs.declared.command.Command.{Command}
use Rattle.desk_model.specs.declared.command.Fault.{Fault}
use Rattle.desk_model.specs.declared.command.Outcome.{Outcome}
use Rattle.desk_model.specs.declared.command.Outcome.TheVariants.{Answered, Failed}
use Rattle.desk_access.specs.Seen.{Seen, Minds, Outlasts, Spared}
use Rattle.desk_core.specs.Desks.{AllSpareStore, CarriesOut, IsLeft, Secures, is_answered}

by_match : (b : Bool) {P Q : Type 0} → (b ≡ true → P) → (b ≡ false → Q) → MatchBool b P Q
by_match true p q = p refl
by_match false p q = q refl

pub AllSpareStore-push : (w : Readings) (cs : List Command) (os : List Outcome) (c : Command)
    (o : Outcome) → length os < length cs → c ≡ get_or cs (length os) c
    → AllSpareStore w cs os → MayBecome (λ fault. refused_alone w c ≡ false) o
    → AllSpareStore w cs (os ++ o ∷ [])
AllSpareStore-push w [] os c o lt at are one = absurd (omega arith)
AllSpareStore-push w (x ∷ cs) [] c o lt at are one = (
  subst (λ d. MayBecome (λ fault. refused_alone w d ≡ false) o) at one,
  tt,
)
AllSpareStore-push w (x ∷ cs) (p ∷ os) c o lt at are one = (
  are.0,
  AllSpareStore-push w cs os c o (omega arith) at are.1 one,
)

-- if no item of a list passes, neither does any before the last, nor the last
pub none_pushed : {X : Type 0} (p : X → Bool) (xs : List X) (x : X)
    → list_any p (xs ++ x ∷ []) ≡ false → (list_any p xs ≡ false) × (p x ≡ false)
none_pushed p [] x e = (refl, last (p x) e)
  where
    last : (b : Bool) → (b || false) ≡ false → b ≡ false
    last true e = e
    last false e = refl
none_pushed p (y ∷ xs) x e = first (p y) (none_pushed p xs x) e
  where
    first : (b : Bool) → (list_any p (xs ++ x ∷ []) ≡ false
        → (list_any p xs ≡ false) × (p x ≡ false))
        → (b || list_any p (xs ++ x ∷ [])) ≡ false → ((b || list_any p xs) ≡ false) × (p x ≡ false)
    first true rest e = absurd (cc)
    first false rest e = rest e

pub all_pushed : {X : Type 0} (p : X → Bool) (xs : List X) (x : X)
    → list_all p (xs ++ x ∷ []) ≡ true → (list_all p xs ≡ true) × (p x ≡ true)
all_pushed p [] x e = (refl, last (p x) e)
  where
    last : (b : Bool) → (b && true) ≡ true → b ≡ true
    last true e = refl
    last false e = e
all_pushed p (y ∷ xs) x e = first (p y) (all_pushed p xs x) e
  where
    first : (b : Bool) → (list_all p (xs ++ x ∷ []) ≡ true → (list_all p xs ≡ true) × (p x ≡ true))
        → (b && list_all p (xs ++ x ∷ [])) ≡ true → ((b && list_all p xs) ≡ true) × (p x ≡ true)
    first false rest e = absurd (cc)
    first true rest e = rest e

module _ {Left : Type 0} where
  pub keeps_after : (old new : Seen Left) (r : Result Answer Fault) → Minds old new r
      → is_kept (outcome_of r) ≡ false → Spared old new
  keeps_after old new (Ok a) m none = (m.1 none).kept.spared
  keeps_after old new (Err f) m none = m

  pub outlasts_after : (old new : Seen Left) (r : Result Answer Fault) → Minds old new r
      → Outlasts old new
  outlasts_after old new (Ok a) m = m.2
  outlasts_after old new (Err f) m = m.outlasts

  module _ (stands : Left → Tables → Type 0) (w : Readings) (c : Command)
      (old new : Seen Left) where
    pub stays_after : (r : Result Answer Fault) → CarriesOut stands w c old new r
        → is_answered (outcome_of r) ≡ true → new.is_honest → old.is_open → new.is_open
    stays_after (Ok a) d is clean shown = d.stays clean shown
    stays_after (Err f) d is clean shown = absurd (cc)

    pub left_after : (r : Result Answer Fault) → Minds old new r → CarriesOut stands w c old new r
        → new.is_honest → (h : List Command) → IsHistory w h → old.holds (tables w h)
        → (x : Left) → new.leaves x → IsLeft stands w h old c (outcome_of r) x
    left_after (Ok a) m d clean h ok held x left = by_match (is_recorded a)
        (λ kept. d.leaves kept clean h ok held x left)
        (λ none shown. (m.1 none).kept.leaves clean shown (tables w h) held x left)
    left_after (Err f) m d clean h ok held x left = λ shown. d clean shown h ok held x left

    left_by : (h : List Command) (b : Bool) (x : Left)
        → MatchBool b (stands x (tables w (c ∷ h))) (old.is_open → old.leaves x)
        → Secures stands (tables w h) old
        → stands x (tables w (if b then c ∷ h else h))
    left_by h true x m s = m
    left_by h false x m s = s.leaves x (m s.is_open)

    -- after an answer a stop leaves the tables of the history with its command and no others, if it
    -- left only those of the history before
    pub secures_after : (h : List Command) (o : Outcome) → is_answered o ≡ true
        → (old.is_open → new.is_open) → ((x : Left) → new.leaves x → IsLeft stands w h old c o x)
        → Secures stands (tables w h) old → Secures stands (tables w (history_with h c o)) new
    secures_after h (Answered a) is stays left s = record {
      is_open = stays s.is_open;
      leaves = λ x l. left_by h (is_recorded a) x (left x l) s;
    }
    secures_after h (Failed f) is stays left s = absurd (cc)
