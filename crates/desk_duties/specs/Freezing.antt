-- What the steps of a freeze have found.
use Rattle.std.specs.Prelude.{◌≡◌, ◌+◌, ℕ, List, [], ◌∷◌, length, nat_lt, nat_le, Option, Some, None}
use Rattle.desk_base.specs.Limits as most
use Rattle.desk_model.specs.Readings.{Readings}
use Rattle.std.specs.Prelude.{◌++◌}
use Rattle.desk_model.specs.History.{attached_to}
use Rattle.desk_model.specs.Lists.{or_else}
use Rattle.desk_model.specs.Tables.{Tables}
use Rattle.desk_history.specs.FromTables.{conclusion_found, rules_found, choice_found, shipped_found}
use Rattle.desk_duties.specs.declared.gathering.Gathered.{Gathered}
use Rattle.desk_model.specs.declared.command.Answer.{Answer}
use Rattle.desk_model.specs.declared.command.Answer.TheVariants as answered
use Rattle.desk_model.specs.Answers.{refused_first, unless, unconcluded, unchosen, first_unadopted}
use Rattle.desk_model.specs.Answers.{first_unruled, unruled, walk}
use Rattle.desk_model.specs.Raised.{owed_for, frozen_for, owed_for_terms, frozen_for_terms}
use Rattle.desk_model.specs.Raised.{owed_under, frozen_under, rule_adopted}
use Rattle.desk_model.specs.declared.reading.Conclusion.{Conclusion}
use Rattle.desk_model.specs.declared.reading.Rule.{Rule}
use Rattle.desk_model.specs.declared.row.AdoptionRow.{AdoptionRow}
use Rattle.desk_model.specs.declared.refusal.Limit.TheVariants as limit
use Rattle.desk_model.specs.declared.refusal.Refusal.{Refusal}
use Rattle.desk_model.specs.declared.refusal.Refusal.TheVariants as why
use Rattle.desk_model.specs.declared.row.PackageRow.{PackageRow}
use Rattle.desk_model.specs.declared.row.FrozenRow.{FrozenRow}
use Rattle.desk_model.specs.declared.row.Owed.{Owed}

-- a step of a freeze: it returns the refusal that is due, or none after it has added these rows and
-- duties
abbrev pub Gathers : Option Refusal → List FrozenRow → List Owed → Gathered → Gathered
    → Option Refusal → Type 0
Gathers due rows owed old new None = (due ≡ None) × (new.frozen.items ≡ old.frozen.items ++ rows)
    × (new.owed.items ≡ old.owed.items ++ owed)
Gathers due rows owed old new (Some refusal) = due ≡ Some refusal

-- the step for a term of a package
abbrev pub GathersTerm : Readings → List AdoptionRow → List Rule → List ℕ → List ℕ → PackageRow
    → List ℕ → Gathered → Gathered → Option Refusal → Type 0
GathersTerm w licences rules form r p term old new fault =
    let rule = rule_adopted w licences rules form p.document term in
    Gathers (unruled w licences rules form p term) (frozen_under r p term rule)
    (owed_under r p term rule) old new fault

-- the step for some terms of a package
abbrev pub GathersTerms : Readings → List AdoptionRow → List Rule → List ℕ → List ℕ → PackageRow
    → List (List ℕ) → Gathered → Gathered → Option Refusal → Type 0
GathersTerms w licences rules form r p terms old new fault =
    Gathers (first_unruled w licences rules form p terms)
    (frozen_for_terms w licences rules form r p terms)
    (owed_for_terms w licences rules form r p terms) old new fault

-- why a package can't be frozen, apart from rules: it has no conclusion, no choice, or a term that
-- isn't adopted
abbrev pub unready_package : Readings → List AdoptionRow → Option Conclusion → List (List ℕ)
    → PackageRow → Option Refusal
unready_package w licences conclusion terms p =
    or_else (unconcluded conclusion p)
    (or_else (unchosen p terms) (first_unadopted w licences p.document terms))

-- the same, including rules
abbrev pub unfit_package : Readings → List AdoptionRow → List Rule → List ℕ → Option Conclusion
    → List (List ℕ) → PackageRow → Option Refusal
unfit_package w licences rules form conclusion terms p =
    or_else (unready_package w licences conclusion terms p)
    (first_unruled w licences rules form p terms)

-- the step for a package, with the terms chosen for it
abbrev pub GathersPackage : Readings → Tables → List ℕ → List ℕ → PackageRow → Gathered → Gathered
    → Option Refusal → Type 0
GathersPackage w t form r p old new fault =
    Gathers (unfit_package w t.adoption (rules_found t) form (conclusion_found w t p)
    (choice_found t r p) p)
    (frozen_for_terms w t.adoption (rules_found t) form r p (choice_found t r p))
    (owed_for_terms w t.adoption (rules_found t) form r p (choice_found t r p)) old new fault

-- the walk over some packages
abbrev pub GathersAll : Readings → Tables → List ℕ → List ℕ → List PackageRow → Gathered → Gathered
    → Option Refusal → Type 0
GathersAll w t form r ps old new fault =
    Gathers (walk w t.adoption (rules_found t) form (conclusion_found w t) (choice_found t r) ps)
    (frozen_for w t.adoption (rules_found t) form r (choice_found t r) ps)
    (owed_for w t.adoption (rules_found t) form r (choice_found t r) ps) old new fault

-- The answer to a freeze, from one of its tests on: here, with this many new duties in addition to
-- the old ones
abbrev pub freeze_fits : ℕ → ℕ → Answer
freeze_fits old new = refused_first
    (unless (nat_le (old + new) most.duties) (why.Full limit.Duties) ∷ [])
    (answered.Frozen (old + 1) new)

-- here, for an open release that ships in this form
abbrev pub freeze_open_found : Readings → Tables → List ℕ → List ℕ → Answer
freeze_open_found w t r form =
    let new = length (owed_for w t.adoption (rules_found t) form r (choice_found t r)
    (shipped_found t r)) in
    refused_first (
    unless (nat_lt 0 (length (attached_to t.attached r))) why.EmptyRelease
    ∷ walk w t.adoption (rules_found t) form (conclusion_found w t) (choice_found t r)
    (shipped_found t r)
    ∷ unless (nat_le (length t.duty + new) most.duties) (why.Full limit.Duties)
    ∷ []) (answered.Frozen (length t.duty + 1) new)
