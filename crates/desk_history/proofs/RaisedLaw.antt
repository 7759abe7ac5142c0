-- A duty is raised if and only if a freeze of its release raises it.
use Rattle.std.proofs.Common.{◌≡◌, ℕ, List, [], ◌∷◌, ◌++◌, map, sym, refl, ap, ◌∙◌, subst, inl, inr}
use Rattle.std.specs.Prelude.{unwrap_or}
use Rattle.desk_model.specs.Lists.{IsIn}
use Rattle.desk_model.specs.Readings.{Readings}
use Rattle.desk_model.specs.History.{in_force, rules_in, form_of}
use Rattle.desk_model.specs.Conclusions.{adoptions}
use Rattle.desk_model.specs.Raised.{IsRaised, raised, owed_at, owed_for_terms, owed_under}
use Rattle.desk_model.specs.Raised.{owed_code, rule_adopted, shipped, chosen_in}
use Rattle.desk_history.proofs.Freezes.{AtFreeze, at_earlier, at_once, for_term}
use Rattle.desk_history.proofs.Members.{in_left, in_right, in_cases, in_map, from_map, in_flat_map}
use Rattle.desk_model.specs.declared.reading.Rule.{Rule}
use Rattle.desk_model.specs.declared.row.PackageRow.{PackageRow}
use Rattle.desk_model.specs.declared.row.Owed.{Owed}
use Rattle.desk_model.specs.declared.command.Command.{Command}
use Rattle.desk_model.specs.declared.command.Command.TheVariants.{Freeze}

-- what is raised stays raised
raised_grows : (w : Readings) (c : Command) (h : List Command) (d : Owed) → IsIn d (raised w h)
    → IsIn d (raised w (c ∷ h))
raised_grows w (Freeze r day) h d m = in_left d (raised w h) (owed_at w h r) m
raised_grows w c h d m = m

raised_there : (w : Readings) (later before : List Command) (r day : List ℕ) (d : Owed)
    → IsIn d (owed_at w before r) → IsIn d (raised w (later ++ Freeze r day ∷ before))
raised_there w [] before r day d m = in_right d (raised w before) (owed_at w before r) m
raised_there w (c ∷ later) before r day d m = raised_grows w c (later ++ Freeze r day ∷ before) d
    (raised_there w later before r day d m)

same_owed : (d : Owed) (p : PackageRow) (rule : Rule) → d.document ≡ p.document
    → d.package_id ≡ p.id → d.rule ≡ rule.spelled → owed_code d.release p d.term rule d.code ≡ d
same_owed d p rule e f g =
    let owes : ℕ → List ℕ → List ℕ → Owed =
    λ n id spelled. record {
      release = d.release;
      document = n;
      package_id = id;
      term = d.term;
      code = d.code;
      rule = spelled;
    } in
    ap (λ (n : ℕ). owes n p.id rule.spelled) (sym e)
    ∙ (ap (λ (id : List ℕ). owes d.document id rule.spelled) (sym f)
    ∙ ap (λ (s : List ℕ). owes d.document d.package_id s) (sym g))

pub is_in_raised : (w : Readings) (h : List Command) (d : Owed) → IsRaised w h d
    → IsIn d (raised w h)
is_in_raised w h d is =
    let before = is.before in
    let licences = adoptions w before in
    let rules = rules_in (in_force w before) in
    let form = unwrap_or (form_of before d.release) [] in
    let r = d.release in
    let codes : IsIn d (map (owed_code r is.row d.term is.rule) is.rule.codes) =
    subst (λ (x : Owed). IsIn x (map (owed_code r is.row d.term is.rule) is.rule.codes))
    (same_owed d is.row is.rule is.document is.package_id is.spelled)
    (in_map (owed_code r is.row d.term is.rule) d.code is.rule.codes is.code) in
    let by_term : IsIn d (owed_under r is.row d.term
    (rule_adopted w licences rules form is.row.document d.term)) = rw is.owes codes in
    let by_package : IsIn d (owed_for_terms w licences rules form r is.row
    (chosen_in w before r is.row)) =
    in_flat_map (λ (term : List ℕ). owed_under r is.row term
    (rule_adopted w licences rules form is.row.document term)) d.term d
    (chosen_in w before r is.row) is.chosen by_term in
    let by_freeze : IsIn d (owed_at w before r) =
    in_flat_map (λ (p : PackageRow). owed_for_terms w licences rules form r p
    (chosen_in w before r p)) is.row d (shipped w before r) is.ships by_package in
    subst (λ (hs : List Command). IsIn d (raised w hs)) (sym is.split)
    (raised_there w is.later before r is.day d by_freeze)

raised_at : (w : Readings) (h : List Command) (d : Owed) → IsIn d (raised w h)
    → AtFreeze h (λ before r. IsIn d (owed_at w before r))
raised_at w [] d m = absurd m
raised_at w (Freeze r day ∷ h) d m = elim (in_cases d (raised w h) (owed_at w h r) m) [
  | inl l ↦ at_earlier (Freeze r day) h (raised_at w h d l)
  | inr n ↦ at_once h r day n
]
raised_at w (c ∷ h) d m = at_earlier c h (raised_at w h d m)

pub raised_in : (w : Readings) (h : List Command) (d : Owed) → IsIn d (raised w h) → IsRaised w h d
raised_in w h d m =
    let at = raised_at w h d m in
    let term = for_term w at.before at.release (owed_under at.release) d (λ p term. refl) at.is in
    let code = from_map (owed_code at.release term.row term.term term.rule) d term.rule.codes
    term.is in
    let owes : IsRaised w h (owed_code at.release term.row term.term term.rule code.0) = record {
      later = at.later;
      before = at.before;
      day = at.day;
      row = term.row;
      rule = term.rule;
      split = at.split;
      ships = term.ships;
      document = refl;
      package_id = refl;
      chosen = term.chosen;
      owes = term.ruled;
      code = code.1;
      spelled = refl;
    } in
    subst (IsRaised w h) code.2 owes
