-- Releases by their openings, freezes and attached documents.
use Rattle.std.proofs.Common.{◌≡◌, ℕ, ◌+◌, false, List, [], ◌∷◌, ◌++◌, length, Option, Some, sym, refl, ap, ◌∙◌, subst}
use Rattle.std.proofs.lemmas.Bool.{and_from}
use Rattle.std.specs.Prelude.{filter, unwrap_or, ◌==◌}
use Rattle.std.specs.List.{list_any, filter_map}
use Rattle.std.specs.Str.{bytes_eq}
use Rattle.desk_model.specs.Lists.{IsIn}
use Rattle.desk_model.specs.Readings.{Readings}
use Rattle.desk_model.specs.Keys.{below_by, attached_order, is_attached_to, is_shipped_by}
use Rattle.desk_model.specs.History.{opened, place_in, form_of, form_given, state_of, state_given}
use Rattle.desk_model.specs.History.{revision_of, revisions, attachment, attached, attached_to}
use Rattle.desk_model.specs.History.{packages}
use Rattle.desk_model.specs.Raised.{shipped}
use Rattle.desk_model.specs.declared.row.AttachedRow.{AttachedRow}
use Rattle.desk_model.specs.declared.row.PackageRow.{PackageRow}
use Rattle.desk_model.specs.declared.state.ReleaseState.TheVariants.{IsOpen}
use Rattle.desk_model.specs.declared.command.Command.{Command}
use Rattle.desk_model.specs.declared.command.Command.TheVariants.{OpenRelease, Attach, Freeze}
use Rattle.desk_base.proofs.Bools.{and_left, and_right, or_left, or_right}
use Rattle.desk_base.proofs.Numbers.{same_number, numbers_equal}
use Rattle.desk_base.proofs.Texts.{same_text, texts_equal}
use Rattle.desk_history.proofs.Members.{in_flat_map, from_flat_map}
use Rattle.desk_history_laws.specs.Filters.{last_given, opens, freezes}
use Rattle.desk_history_laws.specs.Shipping.{IsShipped}
use Rattle.desk_history_laws.proofs.Given.{latest-last}
use Rattle.desk_history_laws.proofs.Members.{in_filter, from_filter, in_filter_map, from_filter_map}
use Rattle.desk_history_laws.proofs.Members.{in_sorted, from_sorted}

pub last-form : (h : List Command) (r : List ℕ) → form_of h r ≡ last_given (form_given r) h
last-form h r = latest-last (form_given r) h

pub last-state : (h : List Command) (r : List ℕ)
    → state_of h r ≡ unwrap_or (last_given (state_given r) h) IsOpen
last-state h r = ap (λ o. unwrap_or o IsOpen) (latest-last (state_given r) h)

pub place-opened : (later before : List Command) (r form : List ℕ)
    → list_any (opens r) later ≡ false
    → place_in (opened (later ++ OpenRelease r form ∷ before)) r ≡ length (opened before) + 1
place-opened [] before r form none = rw (same_text r) refl
place-opened (OpenRelease r' f ∷ later) before r form none =
    rw (or_left (bytes_eq r' r) (list_any (opens r) later) none)
    (place-opened later before r form (or_right (bytes_eq r' r) (list_any (opens r) later) none))
place-opened (c ∷ later) before r form none = place-opened later before r form none

pub revision-frozen : (later before : List Command) (r day : List ℕ)
    → list_any (freezes r) later ≡ false
    → revision_of (later ++ Freeze r day ∷ before) r ≡ length (revisions before)
revision-frozen [] before r day none = rw (same_text r) refl
revision-frozen (Freeze r' d ∷ later) before r day none =
    rw (or_left (bytes_eq r' r) (list_any (freezes r) later) none)
    (revision-frozen later before r day
    (or_right (bytes_eq r' r) (list_any (freezes r) later) none))
revision-frozen (c ∷ later) before r day none = revision-frozen later before r day none

pub revision-unfrozen : (h : List Command) (r : List ℕ) → list_any (freezes r) h ≡ false
    → revision_of h r ≡ 0
revision-unfrozen [] r none = refl
revision-unfrozen (Freeze r' d ∷ h) r none =
    rw (or_left (bytes_eq r' r) (list_any (freezes r) h) none)
    (revision-unfrozen h r (or_right (bytes_eq r' r) (list_any (freezes r) h) none))
revision-unfrozen (c ∷ h) r none = revision-unfrozen h r none

-- what a release ships

abbrev row_of : List ℕ → ℕ → AttachedRow
row_of r d = record { release = r; document = d }

pub in_shipped : (w : Readings) (h : List Command) (r : List ℕ) (p : PackageRow) → IsShipped w h r p
    → IsIn p (shipped w h r)
in_shipped w h r p is =
    let there : IsIn (row_of r p.document) (attached_to (attached h) r) =
    in_filter (is_attached_to r) (row_of r p.document) (attached h) (same_text r)
    (in_sorted (below_by attached_order) (row_of r p.document) (filter_map attachment h)
    (in_filter_map attachment (Attach r p.document) (row_of r p.document) h refl is.attached)) in
    in_flat_map (λ (row : AttachedRow). filter (is_shipped_by row.document) (packages w h))
    (row_of r p.document) p (attached_to (attached h) r) there
    (in_filter (is_shipped_by p.document) p (packages w h)
    (and_from (p.document == p.document) p.shipped (same_number p.document) is.ships) is.listed)

-- what gives an attachment is the Attach of it
pub attaches : (c : Command) (row : AttachedRow) → attachment c ≡ Some row
    → c ≡ Attach row.release row.document
attaches (Attach r d) row e =
    let same : row_of r d ≡ row = ap (λ (o : Option AttachedRow). unwrap_or o (row_of r d)) e in
    ap (λ (a : AttachedRow). Attach a.release a.document) same
attaches c row e = cc

pub from_shipped : (w : Readings) (h : List Command) (r : List ℕ) (p : PackageRow)
    → IsIn p (shipped w h r) → IsShipped w h r p
from_shipped w h r p m =
    let found = from_flat_map (λ (row : AttachedRow). filter (is_shipped_by row.document)
    (packages w h)) p (attached_to (attached h) r) m in
    let row : AttachedRow = found.0 in
    let mine = from_filter (is_attached_to r) row (attached h) found.1 in
    let ships = from_filter (is_shipped_by row.document) p (packages w h) found.2 in
    let entry = from_filter_map attachment row h
    (from_sorted (below_by attached_order) row (filter_map attachment h) mine.1) in
    let release : row.release ≡ r = texts_equal row.release r mine.0 in
    let document : row.document ≡ p.document =
    sym (numbers_equal p.document row.document
    (and_left (p.document == row.document) p.shipped ships.0)) in
    record {
      attached =
          subst (λ (c : Command). IsIn c h)
          (attaches entry.0 row entry.2
          ∙ (ap (λ (n : List ℕ). Attach n row.document) release
          ∙ ap (λ (d : ℕ). Attach r d) document)) entry.1;
      listed = ships.1;
      ships = and_right (p.document == row.document) p.shipped ships.0;
    }
