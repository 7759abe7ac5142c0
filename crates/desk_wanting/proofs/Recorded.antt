-- The tables of a recorded history find their packages.
use Rattle.std.proofs.Common.{◌≡◌, ◌∙◌, ◌+◌, ℕ, Bool, true, false, List, [], ◌∷◌, length, Option}
use Rattle.std.proofs.Common.{Some, None, refl, ap, subst, inl, inr}
use Rattle.std.specs.Prelude.{find, is_some, IsTrue}
use Rattle.std.specs.Option.{option_or}
use Rattle.std.specs.Ordering.{is_lt, nat_cmp, ordering_then}
use Rattle.std.specs.Cmp.Lexicographic.{slice_cmp}
use Rattle.std.specs.Result.{result_ok}
use Rattle.std.proofs.lemmas.Cmp.{on_total, then_total, nat_list_cmp_total, nat_cmp_total}
use Rattle.std.proofs.lemmas.List.Folds.{find-append}
use Rattle.std.proofs.lemmas.Bool.{and_from}
use Rattle.desk_base.proofs.Numbers.{same_number}
use Rattle.desk_base.proofs.Texts.{same_text}
use Rattle.desk_model.specs.Keys.{attached_order, below_by, is_document, is_package, package_order}
use Rattle.desk_model.specs.Lists.{IsIn}
use Rattle.desk_model.specs.Readings.{Readings}
use Rattle.desk_model.specs.Tables.{tables}
use Rattle.desk_model.specs.History.{attached, documents, namespace_in}
use Rattle.desk_model.specs.Answers.{attach_answer, attaching, has_document, is_recorded, IsHistory}
use Rattle.desk_model.specs.declared.command.Command.{Command}
use Rattle.desk_model.specs.declared.command.Command.TheVariants.{Attach, Import}
use Rattle.desk_model.specs.declared.row.AttachedRow.{AttachedRow}
use Rattle.desk_model.specs.declared.row.DocumentRow.{DocumentRow}
use Rattle.desk_model.specs.declared.row.PackageRow.{PackageRow}
use Rattle.desk_model.specs.declared.state.ReleaseState.{ReleaseState}
use Rattle.desk_model.proofs.Orders.{IsOrder, order_of}
use Rattle.desk_history.specs.Laws.{AreSortedAsListed, Rises}
use Rattle.desk_history.proofs.Concluding.{key_number, key_text}
use Rattle.desk_history.proofs.Distinct.{from_put}
use Rattle.desk_wanting.specs.Premises.{FindsPackages}

-- Documents

or_some : {A : Type 0} (o p : Option A) → is_some o ≡ true → is_some (option_or o p) ≡ true
or_some None p e = absurd (cc)
or_some (Some x) p e = refl

known_more : (w : Readings) (c : Command) (h : List Command) (d : ℕ) → has_document w h d ≡ true
    → has_document w (c ∷ h) d ≡ true
known_more w (Import bytes profile) h d e =
    let row : DocumentRow = record {
      number = length (documents w h) + 1;
      namespace = namespace_in (result_ok (w.document bytes));
      bytes = bytes;
      profile = profile;
    } in
    ap is_some (find-append (is_document d) (documents w h) (row ∷ []))
    ∙ or_some (find (is_document d) (documents w h)) (find (is_document d) (row ∷ [])) e
known_more w c h d e = e

attach_needs : (state : Option ReleaseState) (known again : Bool) (n : ℕ)
    → IsTrue (is_recorded (attach_answer
    (record { state = state; has_document = known; is_attached = again; attached = n })))
    → known ≡ true
attach_needs None known again n is = absurd (cc)
attach_needs (Some state) true again n is = refl
attach_needs (Some state) false again n is = absurd (cc)

attached_stands : (w : Readings) (h : List Command) → IsHistory w h → (row : AttachedRow)
    → IsIn row (attached h) → has_document w h row.document ≡ true
attached_stands w [] is row m = absurd m
attached_stands w (Attach r d ∷ h) is row m =
    elim (from_put (below_by attached_order) row (record { release = r; document = d }) (attached h)
    m) [
      | inl same ↦ subst (λ (x : AttachedRow). has_document w h x.document ≡ true) same
          (attach_needs (attaching w h r d).state (has_document w h d)
          (attaching w h r d).is_attached (attaching w h r d).attached is.0)
      | inr old ↦ attached_stands w h is.1 row old
    ]
attached_stands w (c ∷ h) is row m = known_more w c h row.document (attached_stands w h is.1 row m)

-- Packages

package_is_order : IsOrder (below_by package_order)
package_is_order = order_of (then_total (on_total (λ row. row.document) nat_cmp_total)
    (on_total (λ row. row.id) nat_list_cmp_total))

own_key : (x : PackageRow) → is_package x.document x.id x ≡ true
own_key x = and_from _ _ (same_number x.document) (same_text x.id)

not_under_itself : (x : PackageRow) → below_by package_order x x ≡ true → ⊥
not_under_itself x e = let no = package_is_order.asym x x e in absurd (cc)

abbrev against : PackageRow → ℕ → List ℕ → Bool
against x d id = is_lt (ordering_then (nat_cmp x.document d) (slice_cmp nat_cmp x.id id))

other_before : (x p : PackageRow) (xs : List PackageRow) (b : Bool)
    → is_package p.document p.id x ≡ b → below_by package_order x p ≡ true
    → find (is_package p.document p.id) xs ≡ Some p
    → find (is_package p.document p.id) (x ∷ xs) ≡ Some p
other_before x p xs false e low found = rw e found
other_before x p xs true e low found =
    let d = key_number p.document x.document p.id x.id e in
    let id = key_text p.document x.document p.id x.id e in
    absurd (not_under_itself x (ap (λ n. against x n x.id) d
    ∙ (ap (λ text. against x p.document text) id ∙ low)))

own_found : (xs : List PackageRow) → Rises (below_by package_order) xs → (p : PackageRow)
    → IsIn p xs → find (is_package p.document p.id) xs ≡ Some p
own_found [] rise p m = absurd m
own_found (x ∷ xs) rise p m =
    elim m [
      | inl same ↦ subst (λ (q : PackageRow). find (is_package q.document q.id) (x ∷ xs) ≡ Some q)
          same (rw (own_key x) refl)
      | inr later ↦ other_before x p xs (is_package p.document p.id x) refl (rise.0 p later)
          (own_found xs rise.1 p later)
    ]

pub finds : (w : Readings) (h : List Command) → AreSortedAsListed (tables w h) → IsHistory w h
    → FindsPackages (tables w h)
finds w h sorted is = record {
  documents = attached_stands w h is;
  packages = own_found _ sorted.packages;
}
