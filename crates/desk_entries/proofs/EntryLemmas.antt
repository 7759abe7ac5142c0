-- The texts of a folder are entries.
use Rattle.std.proofs.Common.{◌≡◌, ◌∙◌, Bool, true, false, cond, List, [], ◌∷◌, ◌++◌}
use Rattle.std.proofs.Common.{ap, refl, sym, append-nil, append_assoc, Option, Some, None}
use Rattle.std.specs.Prelude.{not}
use Rattle.std.specs.List.{list_any}
use Rattle.std.specs.Option.{option_or}
use Rattle.std.specs.Str.{is_utf8}
use Rattle.desk_fill.specs.Values.{is_name, is_same_text, says_something}
use Rattle.desk_model.specs.declared.reading.LicenceText.{LicenceText}
use Rattle.desk_tree_gather.specs.declared.files.SourceFile.{SourceFile}
use Rattle.desk_tree_lint.specs.Texts.{stem}
use Rattle.desk_entries.specs.Sifting.{AreEntries, if_repeated, is_direct, own_reason, reason_for}
use Rattle.desk_entries.specs.Sifting.{sifted, text_of, with_file, with_files, with_one}
use Rattle.desk_entries.specs.declared.sifting.Reason.{Reason}
use Rattle.desk_entries.specs.declared.sifting.Reason.TheVariants.{BadName, NotUtf8, Nothing}
use Rattle.desk_entries.specs.declared.sifting.Sifted.{Sifted}

entries_push : (before texts : List LicenceText) (text : LicenceText) → AreEntries before texts
    → is_name text.title ≡ true → says_something text.body ≡ true
    → list_any (is_same_text text) (before ++ texts) ≡ false → AreEntries before (texts ++ text ∷ [])
entries_push before [] text are named says fresh =
    (named, says, ap (list_any (is_same_text text)) (sym (append-nil before)) ∙ fresh, tt)
entries_push before (t ∷ texts) text are named says fresh = (
  are.0,
  are.1,
  are.2,
  entries_push (before ++ t ∷ []) texts text are.3 named says
      (ap (list_any (is_same_text text)) (append_assoc before (t ∷ []) texts) ∙ fresh),
)

unless_any : (a b c : Bool) → cond (not a) (Some BadName) (cond (not b) (Some NotUtf8)
    (cond (not c) (Some Nothing) None)) ≡ None → (a ≡ true) × (c ≡ true)
unless_any false b c is = cc
unless_any true false c is = cc
unless_any true true false is = cc
unless_any true true true is = (refl, refl)

none_of : (o : Option Reason) (b : Bool) → option_or o (if_repeated b) ≡ None
    → (o ≡ None) × (b ≡ false)
none_of None true is = cc
none_of None false is = (refl, refl)
none_of (Some reason) b is = cc

put : (s : Sifted) (file : SourceFile) (o : Option Reason) → reason_for s.texts file ≡ o
    → AreEntries [] s.texts → AreEntries [] (with_file s file o).texts
put s file None is are =
    let both = none_of (own_reason file) (list_any (is_same_text (text_of file)) s.texts) is in
    let own = unless_any (is_name (stem file.path)) (is_utf8 file.bytes) (says_something file.bytes)
    both.0 in
    entries_push [] s.texts (text_of file) are own.0 own.1 both.1
put s file (Some reason) is are = are

put_one : (s : Sifted) (file : SourceFile) (b : Bool) → AreEntries [] s.texts
    → AreEntries [] (cond b (with_file s file (reason_for s.texts file)) s).texts
put_one s file true are = put s file (reason_for s.texts file) refl are
put_one s file false are = are

put_all : (s : Sifted) (files : List SourceFile) → AreEntries [] s.texts
    → AreEntries [] (with_files s files).texts
put_all s [] are = are
put_all s (file ∷ files) are = put_all (with_one s file) files (put_one s file (is_direct file.path) are)

pub sifted_are_entries : (files : List SourceFile) → AreEntries [] (sifted files).texts
sifted_are_entries files = put_all (record { texts = []; left = [] }) files tt
