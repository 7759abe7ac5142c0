-- Everything that stands in the way of a freeze; for a release that isn't open, only that refusal.
use Rattle.std.specs.Prelude.{ℕ, List, [], ◌∷◌, length, is_some}
use Rattle.std.specs.List.{flat_map}
use Rattle.std.specs.Option.{option_and_then}
use Rattle.desk_model.specs.Readings.{Readings}
use Rattle.desk_model.specs.Tables.{Tables}
use Rattle.desk_model.specs.History.{attached_to}
use Rattle.desk_model.specs.Answers.{first_refusal, unless, unready}
use Rattle.desk_model.specs.Obstacles.{alone_or, open_refusals}
use Rattle.desk_model.specs.declared.refusal.Refusal.{Refusal}
use Rattle.desk_model.specs.declared.refusal.Refusal.TheVariants as why
use Rattle.desk_history.specs.FromTables.{form_found, refusals_found, shipped_found, state_found}

-- what stands in the way of a freeze of an open release with this form
abbrev pub open_wanting : Readings → Tables → List ℕ → List ℕ → List Refusal
open_wanting w t r form = open_refusals (length (attached_to t.attached r))
    (flat_map (refusals_found w t r form) (shipped_found t r))

-- what stands in the way of a freeze of a release
abbrev pub wanting_found : Readings → Tables → List ℕ → List Refusal
wanting_found w t r =
    alone_or (first_refusal (unless (is_some (state_found t r)) why.UnknownRelease
    ∷ option_and_then unready (state_found t r) ∷ []))
    (open_wanting w t r (form_found t r))
