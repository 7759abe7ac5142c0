-- Everything that keeps a release from being frozen, each as the refusal that a freeze would get
-- once those before it are mended.
use Rattle.std.specs.Prelude.{ℕ, ◌==◌, ◌&&◌, ◌||◌, nat_lt, Bool, false, List, [], ◌∷◌, ◌++◌, length}
use Rattle.std.specs.Prelude.{Option, Some, None, is_some, unwrap_or, if◌then◌else◌}
use Rattle.std.specs.List.{filter_map, flat_map, list_any}
use Rattle.std.specs.Option.{option_and_then}
use Rattle.std.specs.Str.{bytes_eq}
use Rattle.desk_model.specs.Readings.{Readings}
use Rattle.desk_model.specs.History.{attached, attached_to, form_of, in_force, rules_in}
use Rattle.desk_model.specs.Conclusions.{adoptions}
use Rattle.desk_model.specs.Raised.{chosen_in, rule_adopted, shipped}
use Rattle.desk_model.specs.Answers.{conclusion, refused_first, release_state, unless, unready}
use Rattle.desk_model.specs.Answers.{unconcluded, unchosen, unadopted}
use Rattle.desk_model.specs.declared.reading.Conclusion.{Conclusion}
use Rattle.desk_model.specs.declared.reading.Rule.{Rule}
use Rattle.desk_model.specs.declared.refusal.Refusal.{Refusal}
use Rattle.desk_model.specs.declared.refusal.Refusal.TheVariants as why
use Rattle.desk_model.specs.declared.row.AdoptionRow.{AdoptionRow}
use Rattle.desk_model.specs.declared.row.PackageRow.{PackageRow}
use Rattle.desk_model.specs.declared.state.ReleaseState.{ReleaseState}
use Rattle.desk_model.specs.declared.command.Answer.{Answer}
use Rattle.desk_model.specs.declared.command.Answer.TheVariants as answered
use Rattle.desk_model.specs.declared.command.Command.{Command}

-- Packages

-- a term without a rule, other than a reference without adoption
abbrev pub unruled_alone : Readings → List AdoptionRow → List Rule → List ℕ → PackageRow → List ℕ
    → Option Refusal
unruled_alone w licences rules form p term =
    unless (is_some (rule_adopted w licences rules form p.document term)
    || is_some (unadopted w licences p.document term)) (why.NoRule p.document p.id term)

-- those of some refusals that apply
abbrev pub applying : List (Option Refusal) → List Refusal
applying refusals = filter_map (λ refusal. refusal) refusals

-- the refusals for a package's terms: first for references without adoption, then for the other
-- terms without a rule
abbrev pub term_refusals : Readings → List AdoptionRow → List Rule → List ℕ → List (List ℕ)
    → PackageRow → List Refusal
term_refusals w licences rules form terms p = filter_map (unadopted w licences p.document) terms
    ++ filter_map (unruled_alone w licences rules form p) terms

-- the refusals for a package with this conclusion and these terms
abbrev pub package_refusals : Readings → List AdoptionRow → List Rule → List ℕ → Option Conclusion
    → List (List ℕ) → PackageRow → List Refusal
package_refusals w licences rules form conclusion terms p =
    applying (unconcluded conclusion p ∷ unchosen p terms ∷ [])
    ++ term_refusals w licences rules form terms p

-- the same for all packages that a release with this form ships
abbrev pub shipped_refusals : Readings → List AdoptionRow → List Rule → List ℕ
    → (PackageRow → Option Conclusion) → (PackageRow → List (List ℕ)) → List PackageRow
    → List Refusal
shipped_refusals w licences rules form conclusion chosen ps = flat_map
    (λ p. package_refusals w licences rules form (conclusion p) (chosen p) p) ps

-- A reference of a document is listed once: its adoption mends it for all packages.

-- a refusal is for this reference of this document
abbrev pub names_reference : ℕ → List ℕ → Refusal → Bool
names_reference d reference (why.NotAdopted d' reference') = (d' == d)
    && bytes_eq reference' reference
names_reference d reference _ = false

-- a refusal is for a reference without adoption that these refusals name already
abbrev pub is_told : List Refusal → Refusal → Bool
is_told told (why.NotAdopted d reference) = list_any (names_reference d reference) told
is_told told _ = false

-- some refusals, without those for a reference that was named already, by these or by an earlier
-- one
abbrev pub told_once : List Refusal → List Refusal → List Refusal
told_once told [] = []
told_once told (x ∷ xs) = if is_told told x then told_once told xs
    else x ∷ told_once (told ++ x ∷ []) xs

-- Releases

-- a refusal alone, if it applies, or else these
abbrev pub alone_or : Option Refusal → List Refusal → List Refusal
alone_or None refusals = refusals
alone_or (Some refusal) refusals = refusal ∷ []

-- the refusals for an open release: that it has no document, or else those for its packages
abbrev pub open_refusals : ℕ → List Refusal → List Refusal
open_refusals attached refusals = alone_or (unless (nat_lt 0 attached) why.EmptyRelease)
    (told_once [] refusals)

-- what Wanting looks up: the release's state, how many documents are attached, the refusals for its
-- packages
pub record Obstacles : Type 0 where
  pub state : Option ReleaseState
  pub attached : ℕ
  pub refusals : List Refusal

-- Wanting: what keeps an open release from being frozen; an empty list if nothing does
abbrev pub wanting_answer : Obstacles → Answer
wanting_answer found = refused_first (
    unless (is_some found.state) why.UnknownRelease
    ∷ option_and_then unready found.state
    ∷ []) (answered.Wanting (open_refusals found.attached found.refusals))

-- what Wanting looks up in a history
abbrev pub obstacles : Readings → List Command → List ℕ → Obstacles
obstacles w h r =
    let form = unwrap_or (form_of h r) [] in
    record {
      state = release_state h r;
      attached = length (attached_to (attached h) r);
      refusals = shipped_refusals w (adoptions w h) (rules_in (in_force w h)) form (conclusion w h)
          (chosen_in w h r) (shipped w h r);
    }
