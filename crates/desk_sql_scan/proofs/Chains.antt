-- What reading tables does, one part after another.
use Rattle.std.proofs.Common.{◌≡◌, ◌∙◌, Ok, Err, Result}
use Rattle.std.specs.Result.{IsErrAnd}
use Rattle.desk_sql_layout.proofs.Clean.{clean_before}
use Rattle.sqlite.specs.Effect.{Database}
use Rattle.desk_model.specs.Tables.{Tables}
use Rattle.desk_model.specs.declared.command.Fault.{Fault}
use Rattle.desk_sql_scan.specs.Asked.{IsSpared}
use Rattle.desk_sql_scan.specs.Causes.{ScanFailsFor}
use Rattle.desk_sql_scan.specs.Scanning.{Scans}
use Rattle.desk_sql_scan.specs.Scans.{IsRead}
use Rattle.desk_sql_scan.specs.declared.source.Source.{Ghosts}
use Rattle.desk_sql_scan.proofs.Asked.{spared_then}
use Rattle.desk_sql_scan.proofs.Causes.{scan_after}
use Rattle.desk_sql_scan.proofs.Telling.{then_read}

module _ {S : Type 0} (g : Ghosts S) where
  -- what a fault leaves
  pub record Fails (old new : S) (fault : Fault) : Type 0 where
    pub spared : IsSpared (g.shows old) (g.shows new)
    pub ready : g.is_ready new
    pub same_reference : g.name new ≡ g.name old
    pub cause : ScanFailsFor (g.shows old) (g.shows new) fault

  pub fails_so : {A : Type 0} {Raw : A → Database → Type 0} {Is : A → Tables
      → Type 0} {old new : S} {fault : Fault} → Scans g old new (Err fault) Raw Is
      → Fails old new fault
  fails_so it = record {
    spared = it.asked;
    ready = it.ready;
    same_reference = it.same_reference;
    cause = it.cause;
  }

  -- after what was read
  pub then_fails : {A : Type 0} {Raw : A → Database → Type 0} {Is : A → Tables
      → Type 0} {a b c : S} {x : A} {fault : Fault} → Scans g a b (Ok x) Raw Is → Fails b c fault
      → Fails a c fault
  then_fails {a = a} {b = b} {c = c} {fault = fault} one two = record {
    spared = spared_then (g.shows a) (g.shows b) (g.shows c) one.asked two.spared;
    ready = two.ready;
    same_reference = two.same_reference ∙ one.same_reference;
    cause = scan_after (g.shows a) (g.shows b) (g.shows c) one.asked
        (clean_before (g.shows b) (g.shows c) (λ _. ⊥) two.spared.survives) fault two.cause;
  }

  -- `?` returns the fault
  pub hands_on : {A : Type 0} (Raw : A → Database → Type 0) (Is : A → Tables → Type 0) {old new : S}
      (r : Result A Fault) {fault : Fault} → IsErrAnd r (λ e. e ≡ fault) → Fails old new fault
      → Scans g old new r Raw Is
  hands_on Raw Is (Ok x) is it = absurd is
  hands_on Raw Is (Err e) is it = record {
    ok = tt;
    asked = it.spared;
    ready = it.ready;
    same_reference = it.same_reference;
    cause = rw is it.cause;
  }

  -- both parts
  pub then_scans : {A B : Type 0} {Raw : A → Database → Type 0} {Is : A → Tables → Type 0} {More : B
      → Database → Type 0} {Too : B → Tables → Type 0} {a b c : S} {x : A} {y : B}
      → Scans g a b (Ok x) Raw Is → Scans g b c (Ok y) More Too
      → Scans {A = A × B} g a c (Ok (x, y)) (λ p db. Raw p.0 db × More p.1 db)
      (λ p t. Is p.0 t × Too p.1 t)
  then_scans {A} {B} {Raw = Raw} {Is = Is} {More = More} {Too = Too} {a = a} {b = b} {c = c} {x = x}
      {y = y} one two =
      let both = then_read (Raw x) (More y) (Is x) (Too y) (g.shows a) (g.shows b) (g.shows c)
      one.ok two.ok in
      record {
        ok = both;
        asked = (both.survives, both.same);
        ready = two.ready;
        same_reference = two.same_reference ∙ one.same_reference;
        cause = tt;
      }

  -- as one value
  pub as_one : {A B : Type 0} {Raw : A → Database → Type 0} {Is : A → Tables → Type 0}
      (More : B → Database → Type 0) (Too : B → Tables → Type 0) {a b : S} {x : A} (y : B)
      → Scans g a b (Ok x) Raw Is
      → (IsRead (Raw x) (Is x) (g.shows a) (g.shows b)
      → IsRead (More y) (Too y) (g.shows a) (g.shows b)) → Scans g a b (Ok y) More Too
  as_one More Too y it so = record {
    ok = so it.ok;
    asked = it.asked;
    ready = it.ready;
    same_reference = it.same_reference;
    cause = tt;
  }
