-- What freezes add to a list, each for a term of a package that it ships.
use Rattle.std.proofs.Common.{◌≡◌, ℕ, List, [], ◌∷◌, ◌++◌, Option, Some, None, refl, ap, subst}
use Rattle.std.specs.Prelude.{unwrap_or}
use Rattle.std.specs.List.{flat_map}
use Rattle.desk_model.specs.Lists.{IsIn}
use Rattle.desk_model.specs.Readings.{Readings}
use Rattle.desk_model.specs.History.{in_force, rules_in, form_of}
use Rattle.desk_model.specs.Conclusions.{adoptions}
use Rattle.desk_model.specs.Raised.{chosen_in, rule_adopted, shipped}
use Rattle.desk_model.specs.declared.reading.Rule.{Rule}
use Rattle.desk_model.specs.declared.row.PackageRow.{PackageRow}
use Rattle.desk_model.specs.declared.command.Command.{Command}
use Rattle.desk_model.specs.declared.command.Command.TheVariants.{Freeze}
use Rattle.desk_history.proofs.Members.{from_flat_map}

-- a freeze is in the history, and this holds of its release and of the commands before it
pub record AtFreeze (h : List Command) (holds : List Command → List ℕ → Type 0) : Type 0 where
  pub later : List Command
  pub before : List Command
  pub release : List ℕ
  pub day : List ℕ
  pub split : h ≡ later ++ Freeze release day ∷ before
  pub is : holds before release

pub at_once : {holds : List Command → List ℕ → Type 0} (h : List Command) (r day : List ℕ)
    → holds h r → AtFreeze (Freeze r day ∷ h) holds
at_once h r day is = record {
  later = [];
  before = h;
  release = r;
  day = day;
  split = refl;
  is = is;
}

pub at_earlier : {holds : List Command → List ℕ → Type 0} (c : Command) (h : List Command)
    → AtFreeze h holds → AtFreeze (c ∷ h) holds
at_earlier c h at = record {
  later = c ∷ at.later;
  before = at.before;
  release = at.release;
  day = at.day;
  split = ap (λ hs. c ∷ hs) at.split;
  is = at.is;
}

-- the rule for a term of a package of a release
abbrev pub rule_of : Readings → List Command → List ℕ → PackageRow → List ℕ → Option Rule
rule_of w h r p term = rule_adopted w (adoptions w h) (rules_in (in_force w h))
    (unwrap_or (form_of h r) []) p.document term

-- it is in what a chosen term of a shipped package adds under its rule
pub record IsForTerm {B : Type 0} (w : Readings) (h : List Command) (r : List ℕ)
    (under : PackageRow → List ℕ → Option Rule → List B) (x : B) : Type 0 where
  pub row : PackageRow
  pub term : List ℕ
  pub rule : Rule
  pub ships : IsIn row (shipped w h r)
  pub chosen : IsIn term (chosen_in w h r row)
  pub ruled : rule_of w h r row term ≡ Some rule
  pub is : IsIn x (under row term (Some rule))

by_rule : {B : Type 0} (w : Readings) (h : List Command) (r : List ℕ)
    (under : PackageRow → List ℕ → Option Rule → List B) (x : B)
    → ((p : PackageRow) (term : List ℕ) → under p term None ≡ [])
    → (p : PackageRow) (term : List ℕ) (o : Option Rule) → IsIn p (shipped w h r)
    → IsIn term (chosen_in w h r p) → rule_of w h r p term ≡ o → IsIn x (under p term o)
    → IsForTerm w h r under x
by_rule w h r under x none p term None ships chosen e m = absurd (subst (IsIn x) (none p term) m)
by_rule w h r under x none p term (Some rule) ships chosen e m = record {
  row = p;
  term = term;
  rule = rule;
  ships = ships;
  chosen = chosen;
  ruled = e;
  is = m;
}

pub for_term : {B : Type 0} (w : Readings) (h : List Command) (r : List ℕ)
    (under : PackageRow → List ℕ → Option Rule → List B) (x : B)
    → ((p : PackageRow) (term : List ℕ) → under p term None ≡ [])
    → IsIn x (flat_map (λ p. flat_map (λ term. under p term (rule_of w h r p term))
    (chosen_in w h r p)) (shipped w h r)) → IsForTerm w h r under x
for_term w h r under x none m =
    let p = from_flat_map (λ (p : PackageRow). flat_map
    (λ term. under p term (rule_of w h r p term)) (chosen_in w h r p)) x (shipped w h r) m in
    let t = from_flat_map (λ (term : List ℕ). under p.0 term (rule_of w h r p.0 term)) x
    (chosen_in w h r p.0) p.2 in
    by_rule w h r under x none p.0 t.0 (rule_of w h r p.0 t.0) p.1 t.1 refl t.2
