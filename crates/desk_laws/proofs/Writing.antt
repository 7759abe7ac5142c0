-- The change of each command can be written.
use Rattle.std.proofs.Common.{◌≡◌, ℕ, ◌+◌, true, List, [], ◌∷◌, map, length, Result, Ok, Err, refl, arith, inl, inr}
use Rattle.std.specs.Prelude.{not, nat_lt, ◌==◌}
use Rattle.std.specs.List.{list_all}
use Rattle.std.specs.Result.{result_ok}
use Rattle.std.proofs.lemmas.Bool.Decides.{nat_tests}
use Rattle.std.proofs.lemmas.Bool.{and_from}
use Rattle.desk_base.specs.Idstring.{is_idstring, is_idstring_byte}
use Rattle.desk_base.proofs.Bools.{and_left, and_right}
use Rattle.desk_base.proofs.Numbers.{same_number}
use Rattle.desk_model.specs.Lists.{IsIn}
use Rattle.desk_model.specs.Readings.{Readings}
use Rattle.desk_model.specs.Tables.{Tables}
use Rattle.desk_model.specs.Texts.{text_below}
use Rattle.desk_model.specs.History.{rules_in, rule_row, packages_in, package_row}
use Rattle.desk_model.specs.declared.reading.Catalogue.{Catalogue}
use Rattle.desk_model.specs.declared.reading.Document.{Document}
use Rattle.desk_model.specs.declared.reading.Package.{Package}
use Rattle.desk_model.specs.declared.reading.Rule.{Rule}
use Rattle.desk_model.specs.declared.refusal.CatalogueFault.{CatalogueFault}
use Rattle.desk_model.specs.declared.refusal.DocumentFault.{DocumentFault}
use Rattle.desk_model.specs.declared.command.Command.{Command}
use Rattle.desk_model.specs.declared.command.Command.TheVariants.{LoadCatalogue, Import}
use Rattle.desk_history.specs.FromTables.{change_for}
use Rattle.desk_history.specs.Laws.{Rises, ListsInOrder, package_below}
use Rattle.desk_history_laws.specs.Ids.{ListsIds}
use Rattle.desk_sql_layout.specs.Cells.{is_word}
use Rattle.desk_sql_layout.specs.Writable.{rise, are_of, have_words, is_writable}

-- ---- codes

id_byte : (b : ℕ) → is_idstring_byte b ≡ true → not (b == 32) ≡ true
id_byte b e = grind (arith, nat_tests)

id_bytes : (bs : List ℕ) → list_all is_idstring_byte bs ≡ true
    → list_all (λ byte. not (byte == 32)) bs ≡ true
id_bytes [] all = refl
id_bytes (b ∷ bs) all =
    and_from (not (b == 32)) (list_all (λ byte. not (byte == 32)) bs)
    (id_byte b (and_left (is_idstring_byte b) (list_all is_idstring_byte bs) all))
    (id_bytes bs (and_right (is_idstring_byte b) (list_all is_idstring_byte bs) all))

id_is_word : (text : List ℕ) → is_idstring text ≡ true → is_word text ≡ true
id_is_word text e =
    and_from (nat_lt 0 (length text)) (list_all (λ byte. not (byte == 32)) text)
    (and_left (nat_lt 0 (length text)) (list_all is_idstring_byte text) e)
    (id_bytes text (and_right (nat_lt 0 (length text)) (list_all is_idstring_byte text) e))

are_words : (codes : List (List ℕ)) → list_all is_idstring codes ≡ true
    → list_all is_word codes ≡ true
are_words [] all = refl
are_words (code ∷ codes) all =
    and_from (is_word code) (list_all is_word codes)
    (id_is_word code (and_left (is_idstring code) (list_all is_idstring codes) all))
    (are_words codes (and_right (is_idstring code) (list_all is_idstring codes) all))

rules_have : (n : ℕ) (rules : List Rule)
    → ((rule : Rule) → IsIn rule rules → list_all is_idstring rule.codes ≡ true)
    → have_words (map (rule_row n) rules) ≡ true
rules_have n [] each = refl
rules_have n (rule ∷ rules) each =
    and_from (list_all is_word rule.codes) (have_words (map (rule_row n) rules))
    (are_words rule.codes (each rule (inl refl)))
    (rules_have n rules (λ other m. each other (inr m)))

pub read_have : (w : Readings) → ListsIds w
    → (n : ℕ) (text : List ℕ) (read : Result Catalogue CatalogueFault) → w.catalogue text ≡ read
    → have_words (map (rule_row n) (rules_in (result_ok read))) ≡ true
read_have w ids n text (Ok catalogue) e = rules_have n catalogue.rules
    (λ rule m. ids text catalogue rule e m)
read_have w ids n text (Err fault) e = refl

-- ---- packages

pub rows_are_of : (n : ℕ) (ps : List Package) → are_of n (map (package_row n) ps) ≡ true
rows_are_of n [] = refl
rows_are_of n (p ∷ ps) = and_from (n == n) (are_of n (map (package_row n) ps)) (same_number n)
    (rows_are_of n ps)

rows_rise : (n : ℕ) (ps : List Package) → Rises package_below ps
    → rise (map (package_row n) ps) ≡ true
rows_rise n [] up = refl
rows_rise n (p ∷ []) up = refl
rows_rise n (p ∷ q ∷ ps) up = and_from (text_below p.id q.id) (rise (map (package_row n) (q ∷ ps)))
    (up.0 q (inl refl)) (rows_rise n (q ∷ ps) up.1)

read_rise : (w : Readings) → ListsInOrder w
    → (n : ℕ) (bytes : List ℕ) (read : Result Document DocumentFault) → w.document bytes ≡ read
    → rise (map (package_row n) (packages_in (result_ok read))) ≡ true
read_rise w in_order n bytes (Ok document) e = rows_rise n document.packages
    (in_order.packages bytes document e)
read_rise w in_order n bytes (Err fault) e = refl

pub writable : (w : Readings) (t : Tables) (c : Command) → ListsInOrder w → ListsIds w
    → is_writable (change_for w t c) ≡ true
writable w t (LoadCatalogue text) in_order ids = read_have w ids (length t.catalogue + 1) text
    (w.catalogue text) refl
writable w t (Import bytes profile) in_order ids =
    let n = length t.document + 1 in
    let rows = map (package_row n) (packages_in (result_ok (w.document bytes))) in
    and_from (are_of n rows) (rise rows) (rows_are_of n
    (packages_in (result_ok (w.document bytes))))
    (read_rise w in_order n bytes (w.document bytes) refl)
writable w t c in_order ids = refl
