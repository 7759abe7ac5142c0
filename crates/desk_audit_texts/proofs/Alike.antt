-- Choices for one package in one release.
use Rattle.std.proofs.Common.{◌≡◌, ◌∙◌, Bool, true, ◌&&◌, Option, Some, Bor, sym, subst}
use Rattle.std.specs.Prelude.{IfSome}
use Rattle.std.specs.Ordering.{int_eq}
use Rattle.std.specs.Str.{bytes_eq}
use Rattle.std.proofs.lemmas.Bool.Decides.{Decides-int_eq}
use Rattle.std.proofs.lemmas.Bool.{and_parts}
use Rattle.desk_base.proofs.Texts.{texts_equal}
use Rattle.desk_model.specs.Readings.{Readings}
use Rattle.desk_snapshot.specs.Conditions.{is_choice}
use Rattle.desk_snapshot.specs.Rows.{is_choice_of}
use Rattle.desk_snapshot.specs.declared.rows.StoredChoice.{StoredChoice}
use Rattle.desk_snapshot.specs.declared.snapshot.Snapshot.{Snapshot}

-- the test of a choice depends only on its release, document and package
pub alike : (w : Readings) (s : Snapshot) (before row : StoredChoice)
    → is_choice_of before.release before.document before.package_id row ≡ true
    → is_choice w s row ≡ is_choice w s before
alike w s before row is =
    let parts = and_parts (bytes_eq row.release before.release)
    (int_eq row.document before.document && bytes_eq row.package_id before.package_id) is in
    let more = and_parts (int_eq row.document before.document)
    (bytes_eq row.package_id before.package_id) parts.1 in
    let release : row.release ≡ before.release = texts_equal row.release before.release parts.0 in
    let document : row.document ≡ before.document =
    (Decides-int_eq row.document before.document).0 more.0 in
    let id : row.package_id ≡ before.package_id =
    texts_equal row.package_id before.package_id more.1 in
    λ i. is_choice w s (record {
      release = release i;
      document = document i;
      package_id = id i;
      term = row.term;
    })

-- a choice is one that can be held if the one judged before it, for the same package, is
pub told_alike : (w : Readings) (s : Snapshot) (told : Option (Bor StoredChoice))
    (before : Bor StoredChoice) (row : StoredChoice) (is : Bool) → told ≡ Some before
    → is ≡ is_choice_of before.now.release before.now.document before.now.package_id row → is ≡ true
    → IfSome told (λ other. is_choice w s other.now ≡ true) → true ≡ is_choice w s row
told_alike w s told before row is at same holds given =
    let held : is_choice w s before.now ≡ true =
    subst (λ (t : Option (Bor StoredChoice)). IfSome t (λ other. is_choice w s other.now ≡ true)) at
    given in
    sym (alike w s before.now row (sym same ∙ holds) ∙ held)
