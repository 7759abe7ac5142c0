-- The form that a word names in a table is the one that its request has.
use Rattle.std.proofs.Common.{◌≡◌, ◌<◌, ◌+◌, ℕ, Bool, true, false, codes, if◌then◌else◌, List, []}
use Rattle.std.proofs.Common.{◌∷◌, length, drop, get_or, add-one, drop-cons, Option, Some, None}
use Rattle.std.proofs.Common.{refl, ap, ◌∙◌}
use Rattle.std.specs.Prelude.{option_map, unwrap_or}
use Rattle.std.specs.Str.{bytes_eq}
use Rattle.serde_json.specs.Data.{Data}
use Rattle.desk_json.specs.Fields.{text_in}
use Rattle.desk_json.specs.Forms.{form_named, form_request, request_by}
use Rattle.desk_json.specs.Requests.{command_request, query_request, request_of, with_text}
use Rattle.desk_json.specs.declared.forms.Form.{Form}
use Rattle.desk_json.specs.declared.forms.Form.TheVariants as form
use Rattle.desk_json.specs.declared.forms.Name.{Name}
use Rattle.desk_json.specs.declared.request.Request.{Request}
use Rattle.desk_json.specs.declared.request.Request.TheVariants.{BadCommand}

-- the form that a word names in a list of words
abbrev pub named_in : List ℕ → List (List ℕ × Form) → Option Form
named_in word [] = None
named_in word (first ∷ more) = if bytes_eq word first.0 then Some first.1 else named_in word more

abbrev pub commands : List (List ℕ × Form)
commands = (codes "catalogue", form.Catalogue) ∷ (codes "import", form.Import)
    ∷ (codes "open", form.Open) ∷ (codes "attach", form.Attach) ∷ (codes "choose", form.Choose)
    ∷ (codes "freeze", form.Freeze) ∷ (codes "unchoose", form.Unchoose)
    ∷ (codes "conclude", form.Conclude) ∷ (codes "adopt", form.Adopt) ∷ (codes "meet", form.Meet)
    ∷ (codes "waive", form.Waive) ∷ (codes "reopen", form.Reopen)
    ∷ (codes "withdraw", form.Withdraw) ∷ (codes "close", form.Close) ∷ []

abbrev pub queries : List (List ℕ × Form)
queries = (codes "duties", form.Duties) ∷ (codes "totals", form.Totals)
    ∷ (codes "changes", form.Changes) ∷ (codes "findings", form.Findings)
    ∷ (codes "release", form.Release) ∷ (codes "alternatives", form.Alternatives)
    ∷ (codes "cheapest", form.Cheapest) ∷ (codes "releases", form.Releases)
    ∷ (codes "documents", form.Documents) ∷ (codes "open", form.OpenDuties)
    ∷ (codes "wanting", form.Wanting) ∷ (codes "ready", form.Ready)
    ∷ (codes "gaps", form.Gaps) ∷ []

-- whichever is chosen
chosen : (test : Bool) (first : Form) (other : Option Form) (d : Data) (request : Request)
    → request_by other d ≡ request
    → request_by (if test then Some first else other) d
    ≡ (if test then form_request first d else request)
chosen true first other d request same = refl
chosen false first other d request same = same

pub command_named : (word : List ℕ) (d : Data)
    → request_by (named_in word commands) d ≡ command_request word d
command_named word d = chosen _ form.Catalogue _ d _
    (chosen _ form.Import _ d _ (chosen _ form.Open _ d _
    (chosen _ form.Attach _ d _ (chosen _ form.Choose _ d _
    (chosen _ form.Freeze _ d _ (chosen _ form.Unchoose _ d _
    (chosen _ form.Conclude _ d _
    (chosen _ form.Adopt _ d _ (chosen _ form.Meet _ d _
    (chosen _ form.Waive _ d _ (chosen _ form.Reopen _ d _
    (chosen _ form.Withdraw _ d _ (chosen _ form.Close _ d _ refl)))))))))))))

pub query_named : (word : List ℕ) (d : Data)
    → request_by (named_in word queries) d ≡ query_request word d
query_named word d = chosen _ form.Duties _ d _
    (chosen _ form.Totals _ d _ (chosen _ form.Changes _ d _
    (chosen _ form.Findings _ d _
    (chosen _ form.Release _ d _ (chosen _ form.Alternatives _ d _
    (chosen _ form.Cheapest _ d _
    (chosen _ form.Releases _ d _
    (chosen _ form.Documents _ d _
    (chosen _ form.OpenDuties _ d _ (chosen _ form.Wanting _ d _
    (chosen _ form.Ready _ d _ (chosen _ form.Gaps _ d _ refl))))))))))))

-- the name at a place is the word, or the names after it decide
pub named_here : (word : List ℕ) (names : List Name) (place : ℕ) (name : Name)
    → place < length names
    → bytes_eq word (get_or names place name).word.now ≡ true
    → form_named word (drop place names) ≡ Some (get_or names place name).form
named_here word names place name low same = rw (drop-cons names place name, same) refl

pub named_behind : (word : List ℕ) (names : List Name) (place : ℕ) (name : Name)
    → place < length names
    → bytes_eq word (get_or names place name).word.now ≡ false
    → form_named word (drop place names) ≡ form_named word (drop (place + 1) names)
named_behind word names place name low other = rw (add-one, drop-cons names place name, other) refl

pub command_whole : (d : Data) (word : List ℕ) (found : Option Form)
    → Some word ≡ text_in (codes "do") d → found ≡ named_in word commands
    → request_by found d ≡ request_of d
command_whole d word found has same =
    ap (λ form. request_by form d) same ∙ command_named word d
    ∙ ap (λ (w : Option (List ℕ)). unwrap_or (option_map (λ word. command_request word d) w)
    (with_text (codes "ask") d (λ word. query_request word d))) has

pub query_whole : (d : Data) (word : List ℕ) (found : Option Form) → None ≡ text_in (codes "do") d
    → Some word ≡ text_in (codes "ask") d
    → found ≡ named_in word queries → request_by found d ≡ request_of d
query_whole d word found no_command has same =
    ap (λ form. request_by form d) same ∙ query_named word d
    ∙ ap (λ (w : Option (List ℕ)). unwrap_or (option_map (λ word. query_request word d) w)
    BadCommand) has
    ∙ ap (λ (w : Option (List ℕ)). unwrap_or (option_map (λ word. command_request word d) w)
    (with_text (codes "ask") d (λ word. query_request word d))) no_command
