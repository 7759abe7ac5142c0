-- The rows of one document and of one release that a store has read all at once.
use Rattle.std.specs.Prelude.{◌≡◌, ◌==◌, ◌+◌, ℕ, Bool, false, List, Option, Some, None, filter, min, IfSome, if◌then◌else◌}
use Rattle.std.specs.Str.{bytes_eq}
use Rattle.desk_model.specs.Keys.{is_choice_in}
use Rattle.desk_model.specs.Tables.{Tables}
use Rattle.desk_sql_layout.specs.Shown.{is_conclusion_in}
use Rattle.desk_sql_cache.specs.declared.repeated.Choices.{Choices}
use Rattle.desk_sql_cache.specs.declared.repeated.Conclusions.{Conclusions}

-- if they were read, they are the conclusions of their document
abbrev pub AreConclusions : Conclusions → Tables → Type 0
AreConclusions kept t = IfSome kept.rows
    (λ rows. rows.rows.items ≡ filter (is_conclusion_in kept.document) t.conclusion)

-- if they were read, they are the choices of their release
abbrev pub AreChoices : Choices → Tables → Type 0
AreChoices kept t = IfSome kept.rows
    (λ rows. IfSome kept.release (λ release. rows.rows.items
    ≡ filter (is_choice_in release) t.choice))

-- nothing was asked for yet, of no document (documents are numbered from 1)
abbrev pub no_conclusions : Conclusions
no_conclusions = record { document = 0; asked = 0; rows = None }

-- nothing was asked for yet, of no release
abbrev pub no_choices : Choices
no_choices = record { release = None; asked = 0; rows = None }

-- one more request in a row, as far as 32 bits count them
abbrev pub once_more : ℕ → ℕ
once_more asked = min (asked + 1) 4294967295

-- after one more request for a document
abbrev pub conclusions_asked : ℕ → Conclusions → Conclusions
conclusions_asked document kept = if kept.document == document
    then record kept { asked = once_more kept.asked }
    else record { document = document; asked = 1; rows = None }

-- they are of the release with this name
abbrev pub is_named : Option (List ℕ) → List ℕ → Bool
is_named None name = false
is_named (Some known) name = bytes_eq known name

-- after one more request for a release
abbrev pub choices_asked : List ℕ → Choices → Choices
choices_asked release kept = if is_named kept.release release
    then record kept { asked = once_more kept.asked }
    else record { release = Some release; asked = 1; rows = None }
