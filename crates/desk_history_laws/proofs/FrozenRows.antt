-- The rows of the frozen terms are those of the freezes, and a release is frozen once.
use Rattle.std.proofs.Common.{◌≡◌, ◌≢◌, ℕ, List, [], ◌∷◌, ◌++◌, sym, ap, ◌∙◌, subst, inl}
use Rattle.std.specs.Prelude.{unwrap_or, IsTrue}
use Rattle.std.specs.Str.{bytes_eq}
use Rattle.desk_base.proofs.Texts.{same_text}
use Rattle.desk_model.specs.Lists.{IsIn, latest}
use Rattle.desk_model.specs.Readings.{Readings}
use Rattle.desk_model.specs.Keys.{below_by, frozen_order}
use Rattle.desk_model.specs.History.{in_force, rules_in, form_of, state_of, state_given}
use Rattle.desk_model.specs.Conclusions.{adoptions}
use Rattle.desk_model.specs.Raised.{frozen, frozen_at, frozen_for_terms, frozen_under, frozen_term}
use Rattle.desk_model.specs.Raised.{rule_adopted, shipped, chosen_in}
use Rattle.desk_model.specs.Answers.{answer, is_recorded, IsHistory}
use Rattle.desk_model.specs.Tables.{tables}
use Rattle.desk_model.specs.declared.row.FrozenRow.{FrozenRow}
use Rattle.desk_model.specs.declared.row.PackageRow.{PackageRow}
use Rattle.desk_model.specs.declared.state.ReleaseState.TheVariants.{IsOpen, Frozen, Withdrawn}
use Rattle.desk_model.specs.declared.command.Command.{Command}
use Rattle.desk_model.specs.declared.command.Command.TheVariants.{Freeze, Withdraw}
use Rattle.desk_history.specs.Laws.{IsFrozenTerm}
use Rattle.desk_history.proofs.Members.{in_left, in_right, in_flat_map}
use Rattle.desk_history.proofs.OwnKeys.{open_at, closed_still}
use Rattle.desk_history_laws.proofs.Members.{in_sorted, from_sorted}

frozen_grows : (w : Readings) (c : Command) (h : List Command) (f : FrozenRow) → IsIn f (frozen w h)
    → IsIn f (frozen w (c ∷ h))
frozen_grows w (Freeze r day) h f m = in_right f (frozen_at w h r) (frozen w h) m
frozen_grows w c h f m = m

frozen_there : (w : Readings) (later before : List Command) (r day : List ℕ) (f : FrozenRow)
    → IsIn f (frozen_at w before r) → IsIn f (frozen w (later ++ Freeze r day ∷ before))
frozen_there w [] before r day f m = in_left f (frozen_at w before r) (frozen w before) m
frozen_there w (c ∷ later) before r day f m = frozen_grows w c (later ++ Freeze r day ∷ before) f
    (frozen_there w later before r day f m)

frozen_by : (w : Readings) (h : List Command) (f : FrozenRow) (is : IsFrozenTerm w h f)
    → IsIn f (frozen_at w is.before f.release)
frozen_by w h f is =
    let before = is.before in
    let r = f.release in
    let licences = adoptions w before in
    let rules = rules_in (in_force w before) in
    let form = unwrap_or (form_of before r) [] in
    let same : frozen_term r is.row f.term is.rule ≡ f = λ i. record {
      release = r;
      document = sym is.document i;
      package_id = sym is.package_id i;
      term = f.term;
      rule = sym is.spelled i;
    } in
    let by_term : IsIn f (frozen_under r is.row f.term
    (rule_adopted w licences rules form is.row.document f.term)) = rw is.ruled (inl same) in
    in_flat_map (λ (p : PackageRow). frozen_for_terms w licences rules form r p
    (chosen_in w before r p)) is.row f (shipped w before r) is.ships
    (in_flat_map (λ (term : List ℕ). frozen_under r is.row term
    (rule_adopted w licences rules form is.row.document term)) f.term f
    (chosen_in w before r is.row) is.chosen by_term)

pub in_frozen : (w : Readings) (h : List Command) (f : FrozenRow) → IsFrozenTerm w h f
    → let t = tables w h in IsIn f t.frozen
in_frozen w h f is =
    in_sorted (below_by frozen_order) f (frozen w h)
    (subst (λ (hs : List Command). IsIn f (frozen w hs)) (sym is.split)
    (frozen_there w is.later is.before f.release is.day f (frozen_by w h f is)))

pub from_frozen : ((w : Readings) (h : List Command) (f : FrozenRow) → IsIn f (frozen w h)
    → IsFrozenTerm w h f)
    → (w : Readings) (h : List Command) (f : FrozenRow) → (let t = tables w h in IsIn f t.frozen)
    → IsFrozenTerm w h f
from_frozen held w h f m = held w h f (from_sorted (below_by frozen_order) f (frozen w h) m)

-- ---- a release is frozen once

pub still_closed : (c : Command) (h : List Command) (r : List ℕ) → state_of h r ≢ IsOpen
    → state_of (c ∷ h) r ≢ IsOpen
still_closed (Freeze r' day) h r closed = closed_still (bytes_eq r' r) Frozen
    (latest (state_given r) h) (λ e. cc) closed
still_closed (Withdraw r' day text) h r closed = closed_still (bytes_eq r' r) Withdrawn
    (latest (state_given r) h) (λ e. cc) closed
still_closed c h r closed = closed

pub closed_behind : (later before : List Command) (r day : List ℕ)
    → state_of (later ++ Freeze r day ∷ before) r ≢ IsOpen
closed_behind [] before r day = rw (same_text r) (λ e. cc)
closed_behind (c ∷ later) before r day = still_closed c (later ++ Freeze r day ∷ before) r
    (closed_behind later before r day)

-- there is no other freeze of the release before or after it
one_freeze : (w : Readings) (r day day' : List ℕ) (later before later' before' : List Command)
    → IsHistory w (later ++ Freeze r day ∷ before)
    → later ++ Freeze r day ∷ before ≡ later' ++ Freeze r day' ∷ before' → before ≡ before'
one_freeze w r day day' [] before [] before' ok e = cc
one_freeze w r day day' [] before (c ∷ later') before' ok e =
    let tail : before ≡ later' ++ Freeze r day' ∷ before' = cc in
    let opened : state_of before r ≡ IsOpen = open_at w before r day ok.0 in
    absurd (closed_behind later' before' r day' (ap (λ hs. state_of hs r) (sym tail) ∙ opened))
one_freeze w r day day' (c ∷ later) before [] before' ok e =
    let head : c ≡ Freeze r day' = cc in
    let rest = later ++ Freeze r day ∷ before in
    let opened : state_of rest r ≡ IsOpen =
    open_at w rest r day' (subst (λ d. IsTrue (is_recorded (answer w rest d))) head ok.0) in
    absurd (closed_behind later before r day opened)
one_freeze w r day day' (c ∷ later) before (c' ∷ later') before' ok e =
    let tail : later ++ Freeze r day ∷ before ≡ later' ++ Freeze r day' ∷ before' = cc in
    one_freeze w r day day' later before later' before' ok.1 tail

pub frozen_once : (w : Readings) (h later before later' before' : List Command)
    (r day day' : List ℕ) → IsHistory w h
    → h ≡ later ++ Freeze r day ∷ before → h ≡ later' ++ Freeze r day' ∷ before' → before ≡ before'
frozen_once w h later before later' before' r day day' ok e f =
    one_freeze w r day day' later before later' before' (subst (IsHistory w) e ok) (sym e ∙ f)
