-- Refusals as a terminal shows them. What they say in words is left open here.
use Rattle.std.specs.Prelude.{◌≡◌, ◌==◌, ℕ, Bool, true, false, List, [], ◌∷◌, ◌++◌, codes, decimal}
use Rattle.std.specs.Prelude.{map, Option, Some, None, if◌then◌else◌}
use Rattle.std.specs.List.{flat_map}
use Rattle.desk_base.specs.Terminal.{shown}
use Rattle.desk_explain.specs.Explanations.{entries_named}
use Rattle.desk_explain.specs.declared.entry.Entry.{Entry}
use Rattle.desk_explain.specs.declared.entry.Kind.{Kind}
use Rattle.desk_explain.specs.declared.entry.Kind.TheVariants as of_kind
use Rattle.desk_lists.specs.Columns.{columns_text}
use Rattle.desk_model.specs.Names.{refusal_name}
use Rattle.desk_model.specs.FaultNumbers.{catalogue_fault_number, document_fault_number}
use Rattle.desk_model.specs.FaultNumbers.{expression_fault_number}
use Rattle.desk_model.specs.Numbers.{refusal_number}
use Rattle.desk_model.specs.declared.refusal.Refusal.{Refusal}
use Rattle.desk_model.specs.declared.refusal.Refusal.TheVariants as of_refusal
use Rattle.desk_answers.specs.declared.refusals.Subject.{Subject}
use Rattle.desk_answers.specs.declared.refusals.Subject.TheVariants as of_subject
use Rattle.desk_answers.specs.Rows.{wanting_names}
use Rattle.desk_answers.specs.declared.refusals.WantingLine.{WantingLine}
use denote.Ref.{Bor}

-- a value between words
unfoldable pub framed : List ℕ → List ℕ → List ℕ → List ℕ
framed before value after = before ++ value ++ after

-- the fault that a refusal reports, if it does
abbrev pub fault_of : Refusal → Option Subject
fault_of (of_refusal.BadDocument fault) = Some (of_subject.Document (document_fault_number fault))
fault_of (of_refusal.BadExpression fault) = Some (of_subject.Expression (expression_fault_number fault))
fault_of (of_refusal.BadCatalogue fault) = Some (of_subject.Catalogue (catalogue_fault_number fault))
fault_of _ = None

-- the kind of a refusal
abbrev pub is_refusal : Kind → Bool
is_refusal (of_kind.Refusal number requests) = true
is_refusal _ = false

-- the kind of the fault of a document with this number
abbrev pub is_document_fault : ℕ → Kind → Bool
is_document_fault wanted (of_kind.DocumentFault number) = wanted == number
is_document_fault wanted _ = false

-- the kind of the fault of an expression with this number
abbrev pub is_expression_fault : ℕ → Kind → Bool
is_expression_fault wanted (of_kind.ExpressionFault number) = wanted == number
is_expression_fault wanted _ = false

-- the kind of the fault of a catalogue with this number
abbrev pub is_catalogue_fault : ℕ → Kind → Bool
is_catalogue_fault wanted (of_kind.CatalogueFault number) = wanted == number
is_catalogue_fault wanted _ = false

-- whether a name of this kind is the subject's
abbrev pub is_of : Subject → Kind → Bool
is_of of_subject.Refusal kind = is_refusal kind
is_of (of_subject.Document wanted) kind = is_document_fault wanted kind
is_of (of_subject.Expression wanted) kind = is_expression_fault wanted kind
is_of (of_subject.Catalogue wanted) kind = is_catalogue_fault wanted kind

-- a line with a usual cause, if there is one
abbrev pub cause_text : Option (Bor (List ℕ)) → List ℕ
cause_text (Some cause) = framed (codes "usual cause: ") cause.now (codes "\n")
cause_text None = []

-- what the pages say that an entry for the subject usually comes from
abbrev pub cause_line : Subject → Entry → List ℕ
cause_line subject entry = if is_of subject entry.kind then cause_text entry.cause else []

-- the causes of the fault that a refusal reports
abbrev pub fault_causes : List (Bor (List Entry)) → Option Subject → List ℕ
fault_causes tables (Some subject) = flat_map (λ table. flat_map (cause_line subject) table.now) tables
fault_causes tables None = []

-- a text, or another if it is empty
abbrev pub or_other : List ℕ → List ℕ → List ℕ
or_other [] other = other
or_other text other = text

-- the causes of the fault or, if there are none, of the refusal with this name
abbrev pub causes_of : List (Bor (List Entry)) → List ℕ → Option Subject → List ℕ
causes_of tables name fault = or_other (fault_causes tables fault)
    (flat_map (cause_line of_subject.Refusal) (entries_named name tables))

-- a refusal by its name and its words, its usual cause, and where to read on
abbrev pub refused_text : List (Bor (List Entry)) → List ℕ → Option Subject → List ℕ → List ℕ
refused_text tables name fault words = framed (codes "refused: ") name (codes ": ")
    ++ shown words ++ codes "\n" ++ causes_of tables name fault
    ++ framed (codes "more: desk explain ") name (codes "\n")

-- a refusal, which says something in words
abbrev pub IsRefused : List (Bor (List Entry)) → Refusal → List ℕ → Type 0
IsRefused tables refusal text = (words : List ℕ)
    × (text ≡ refused_text tables (refusal_name refusal) (fault_of refusal) words)

-- the cells of a refusal that a freeze would meet
abbrev pub wanting_cells : WantingLine → List (List ℕ)
wanting_cells line = decimal (refusal_number line.refusal.now) ∷ refusal_name line.refusal.now
    ∷ line.words ∷ []

-- a row for each of these refusals
abbrev pub AreWanting : List Refusal → List ℕ → Type 0
AreWanting refusals text = (lines : List WantingLine)
    × (map (λ line. line.refusal.now) lines ≡ refusals)
    × (text ≡ columns_text (wanting_names ∷ map wanting_cells lines))
