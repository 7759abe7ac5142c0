-- What is written of entries reads back.
use Rattle.std.proofs.Common.{◌≡◌, ◌∙◌, ℕ, ◌+◌, ◌≤◌, true, false, cond, List, [], ◌∷◌, ◌++◌}
use Rattle.std.proofs.Common.{length, ap, refl, sym, arith, append-nil, append_assoc}
use Rattle.std.specs.Prelude.{Ok, Err, ◌&&◌, nat_le, not}
use Rattle.std.proofs.lemmas.Bool.Decides.{nat_tests}
use Rattle.std.specs.List.{list_any}
use Rattle.toml.specs.Data.{table, item, push_item, items_depth, members_depth, members_have_valid_dates}
use Rattle.toml.specs.Data.{items_are_sorted, items_have_valid_dates, members_are_sorted}
use Rattle.desk_base.specs.Results.{then_read}
use Rattle.desk_fill.specs.declared.fault.Flaw.TheVariants.{BadName, NoList, Nothing, Twice}
use Rattle.desk_fill.specs.declared.fault.Part.TheVariants as part
use Rattle.desk_fill.specs.Reading.{count, each, fill_of_table, text_at, with_one_text, with_text}
use Rattle.desk_fill.specs.Values.{is_name, is_same_text, says_something}
use Rattle.desk_model.specs.declared.reading.LicenceText.{LicenceText}
use Rattle.desk_entries.specs.Sifting.{AreEntries}
use Rattle.desk_entries.specs.Written.{text_document, text_items, text_members}

pub text_items-push : (texts : List LicenceText) (text : LicenceText)
    → text_items (texts ++ text ∷ []) ≡ push_item (text_items texts) (table (text_members text))
text_items-push [] text = refl
text_items-push (t ∷ texts) text = ap (λ is. item (table (text_members t)) is) (text_items-push texts text)

-- ---- reading what is written

pub text_read : (n : ℕ) (text : LicenceText) → is_name text.title ≡ true
    → says_something text.body ≡ true → text_at n (table (text_members text)) ≡ Ok text
text_read n text named says =
    ap (λ b. cond (not b) (Err (BadName n))
    (cond (not (says_something text.body)) (Err (Nothing part.Text n)) (Ok text))) named
    ∙ ap (λ b. cond (not b) (Err (Nothing part.Text n)) (Ok text)) says

text_added : (before : List LicenceText) (n : ℕ) (text : LicenceText) → is_name text.title ≡ true
    → says_something text.body ≡ true → list_any (is_same_text text) before ≡ false
    → with_text before n (table (text_members text)) ≡ Ok (before ++ text ∷ [])
text_added before n text named says fresh =
    ap (λ r. then_read r (with_one_text before n)) (text_read n text named says)
    ∙ ap (λ b. cond b (Err (Twice part.Text n)) (Ok (before ++ text ∷ []))) fresh

read_texts : (before texts : List LicenceText) (n : ℕ) → AreEntries before texts
    → each with_text before n (text_items texts) ≡ Ok (before ++ texts)
read_texts before [] n are = ap Ok (sym (append-nil before))
read_texts before (text ∷ texts) n are =
    ap (λ r. then_read r (λ next. each with_text next (n + 1) (text_items texts)))
    (text_added before n text are.0 are.1 are.2)
    ∙ read_texts (before ++ text ∷ []) texts (n + 1) are.3
    ∙ ap Ok (append_assoc before (text ∷ []) texts)

count_texts : (texts : List LicenceText) → count (text_items texts) ≡ length texts
count_texts [] = refl
count_texts (text ∷ texts) = ap (λ n. n + 1) (count_texts texts) ∙ omega arith

pub read_document : (texts : List LicenceText) → AreEntries [] texts → length texts ≤ 10000
    → fill_of_table (text_document texts) ≡ Ok (record { texts = texts; credits = [] })
read_document texts are few =
    let count_is = count_texts texts in
    let fits : nat_le (count (text_items texts)) 10000 ≡ true = grind (arith, nat_tests) in
    ap (λ b. then_read (then_read (cond b (Ok (text_items texts)) (Err (NoList part.Text)))
    (each with_text [] 0)) (λ read. Ok (record { texts = read; credits = [] }))) fits
    ∙ ap (λ r. then_read r (λ read. Ok (record { texts = read; credits = [] })))
    (read_texts [] texts 0 are)

-- ---- what can be printed

depth_of_text : (texts : List LicenceText) → items_depth (text_items texts) ≤ 1
depth_of_text [] = omega arith
depth_of_text (text ∷ texts) = let more = depth_of_text texts in omega arith

pub depth_of_document : (texts : List LicenceText) → members_depth (text_document texts) ≤ 80
depth_of_document texts = let is = depth_of_text texts in omega arith

dates_of_texts : (texts : List LicenceText) → items_have_valid_dates (text_items texts) ≡ true
dates_of_texts [] = refl
dates_of_texts (text ∷ texts) = dates_of_texts texts

pub dates_of_document : (texts : List LicenceText)
    → members_have_valid_dates (text_document texts) ≡ true
dates_of_document texts = ap (λ b. b && true) (dates_of_texts texts)

sorted_texts : (texts : List LicenceText) → items_are_sorted (text_items texts) ≡ true
sorted_texts [] = refl
sorted_texts (text ∷ texts) = sorted_texts texts

pub sorted_document : (texts : List LicenceText) → members_are_sorted (text_document texts) ≡ true
sorted_document texts = ap (λ b. b && true) (sorted_texts texts)
