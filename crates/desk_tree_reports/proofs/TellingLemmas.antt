-- Rows added one after another, as lines or as the items of a JSON array.
use Rattle.std.proofs.Common.{◌≡◌, ◌∙◌, ℕ, ◌+◌, ◌<◌, Bool, true, false, List, [], ◌∷◌, ◌++◌, length, get_or}
use Rattle.std.proofs.Common.{take, map, ap, sym, refl, subst, append_assoc, Option}
use Rattle.std.specs.List.{flat_map}
use Rattle.std.proofs.lemmas.List.{append-nil, map_more, take_more}
use Rattle.serde_json.specs.View.{items_of}
use Rattle.serde_json.specs.Written.{comma_if, items_text}
use Rattle.desk_tree_gather.specs.declared.flaw.Flaw.{Flaw}
use Rattle.desk_tree_problems.specs.declared.problems.Problems.{Problems}
use Rattle.desk_tree_problems.specs.declared.row.Kind.{Kind}
use Rattle.desk_tree_problems.specs.declared.row.Row.{Row}
use Rattle.desk_tree_reports.specs.declared.telling.Form.{Form}
use Rattle.desk_tree_reports.specs.declared.telling.Form.TheVariants.{Lines, Json}
use Rattle.desk_tree_reports.specs.declared.telling.Telling.{Telling}
use Rattle.desk_tree_reports.specs.Items.{row_json, row_value}
use Rattle.desk_tree_reports.specs.Lines.{line_if}
use Rattle.desk_tree_problems.specs.Rows.{IsFlawRow, AreFlawRows, dep5_rows, blank_row, missing_row}
use Rattle.desk_tree_problems.specs.Rows.{unused_row, bare_row, list_rows}
use Rattle.desk_tree_reports.specs.Telling.{row_text, rows_text, are_some, Tells, AddsRows}
use Rattle.desk_tree_reports.proofs.RowLemmas.{rows_more}

-- ---- the text of one row more

behind_others : (form : Form) (rows : List Row) (row : Row)
    → rows_text form true (rows ++ row ∷ []) ≡ rows_text form true rows ++ row_text form true row
behind_others form [] row = append-nil (row_text form true row)
behind_others form (r ∷ rs) row = ap (λ l. row_text form true r ++ l) (behind_others form rs row)
    ∙ sym (append_assoc (row_text form true r) (rows_text form true rs) (row_text form true row))

row_behind : (form : Form) (rows : List Row) (row : Row) → rows_text form false (rows ++ row ∷ [])
    ≡ rows_text form false rows ++ row_text form (are_some rows) row
row_behind form [] row = append-nil (row_text form false row)
row_behind form (r ∷ rs) row = ap (λ l. row_text form false r ++ l) (behind_others form rs row)
    ∙ sym (append_assoc (row_text form false r) (rows_text form true rs) (row_text form true row))

some_behind : (rows : List Row) (row : Row) → are_some (rows ++ row ∷ []) ≡ true
some_behind [] row = refl
some_behind (r ∷ rs) row = refl

pub adds_one : (form : Form) (row : Row) (old new : Telling)
    → new.text ≡ old.text ++ row_text form old.later row → new.later ≡ true
    → AddsRows form (row ∷ []) old new
adds_one form row old new grown now = λ start before tells. record {
  text = grown ∙ (λ j. tells.text j ++ row_text form (tells.later j) row)
      ∙ append_assoc start (rows_text form false before) (row_text form (are_some before) row)
      ∙ ap (λ l. start ++ l) (sym (row_behind form before row));
  later = now ∙ sym (some_behind before row);
}

-- ---- rows one after another

pub adds_none : (form : Form) (t : Telling) → AddsRows form [] t t
adds_none form t = λ start before tells.
    subst (λ rows. Tells form start rows t) (sym (append-nil before)) tells

pub adds_both : (form : Form) (xs ys : List Row) (a b c : Telling) → AddsRows form xs a b
    → AddsRows form ys b c → AddsRows form (xs ++ ys) a c
adds_both form xs ys a b c first second = λ start before tells.
    subst (λ rows. Tells form start rows c) (append_assoc before xs ys)
    (second start (before ++ xs) (first start before tells))

-- the row of one item more
pub adds_item : {A : Type 0} (form : Form) (row_of : A → Row) (xs : List A) (i : ℕ) (d : A)
    (row : Row) (a b c : Telling) → i < length xs → AddsRows form (map row_of (take i xs)) a b
    → row ≡ row_of (get_or xs i d) → AddsRows form (row ∷ []) b c
    → AddsRows form (map row_of (take (i + 1) xs)) a c
adds_item form row_of xs i d row a b c within so_far is adds =
    subst (λ rows. AddsRows form rows a c)
    (ap (λ r. map row_of (take i xs) ++ r ∷ []) is ∙ sym (map_more row_of xs i d within))
    (adds_both form (map row_of (take i xs)) (row ∷ []) a b c so_far adds)

pub adds_row : (form : Form) (xs : List Row) (i : ℕ) (d row : Row) (a b c : Telling)
    → i < length xs → AddsRows form (take i xs) a b → row ≡ get_or xs i d
    → AddsRows form (row ∷ []) b c → AddsRows form (take (i + 1) xs) a c
adds_row form xs i d row a b c within so_far is adds =
    subst (λ rows. AddsRows form rows a c)
    (ap (λ r. take i xs ++ r ∷ []) is ∙ sym (take_more xs i d within))
    (adds_both form (take i xs) (row ∷ []) a b c so_far adds)

-- the row of one flaw more
abbrev pub AddsFlaws : Form → List Flaw → Telling → Telling → Type 0
AddsFlaws form flaws a b = (told : List Row) × AreFlawRows flaws told × AddsRows form told a b

pub adds_flaw : (form : Form) (flaws : List Flaw) (i : ℕ) (d : Flaw) (row : Row) (a b c : Telling)
    → i < length flaws → AddsFlaws form (take i flaws) a b → IsFlawRow (get_or flaws i d) row
    → AddsRows form (row ∷ []) b c → AddsFlaws form (take (i + 1) flaws) a c
adds_flaw form flaws i d row a b c within so_far is adds = (
  so_far.0 ++ row ∷ [],
  rows_more flaws i d so_far.0 (so_far.0 ++ row ∷ []) row within so_far.1 is refl,
  adds_both form so_far.0 (row ∷ []) a b c so_far.2 adds,
)

-- ---- the whole

pub adds_all : (form : Form) (p : Problems) (told : List Row) (a b c d e f g : Telling)
    → AddsRows form (dep5_rows p.dep5) a b → AddsRows form told b c
    → AddsRows form (map blank_row p.blanks) c d → AddsRows form (map missing_row p.names) d e
    → AddsRows form (map unused_row p.unused) e f → AddsRows form (map bare_row p.bare) f g
    → AddsRows form (dep5_rows p.dep5 ++ (told ++ list_rows p)) a g
adds_all form p told a b c d e f g dep5 flaws blanks names unused bare =
    let U = map unused_row p.unused in
    let A = map bare_row p.bare in
    let N = map missing_row p.names in
    adds_both form (dep5_rows p.dep5) (told ++ list_rows p) a b g dep5
    (adds_both form told (list_rows p) b c g flaws
    (adds_both form (map blank_row p.blanks) (N ++ (U ++ A)) c d g blanks
    (adds_both form N (U ++ A) d e g names (adds_both form U A e f g unused bare))))

-- a text that was just begun
pub begun : (form : Form) (start : List ℕ) (t : Telling) → t.text ≡ start → t.later ≡ false
    → Tells form start [] t
begun form start t is none = record { text = is ∙ sym (append-nil start); later = none }

pub lines_are : (only : Option Kind) (later : Bool) (rows : List Row)
    → rows_text (Lines only) later rows ≡ flat_map (line_if only) rows
lines_are only later [] = refl
lines_are only later (r ∷ rs) = ap (λ l. line_if only r ++ l) (lines_are only true rs)

pub items_are : (later : Bool) (rows : List Row)
    → rows_text Json later rows ++ 93 ∷ [] ≡ items_text later (items_of (map row_value rows))
unfolding row_json
items_are later [] = refl
items_are later (r ∷ rs) =
    append_assoc (comma_if later ++ row_json r) (rows_text Json true rs) (93 ∷ [])
    ∙ ap (λ l. (comma_if later ++ row_json r) ++ l) (items_are true rs)
    ∙ append_assoc (comma_if later) (row_json r) (items_text true (items_of (map row_value rs)))
