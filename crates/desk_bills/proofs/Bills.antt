-- The bill of a release, put together from what was looked up.
use Rattle.std.proofs.Common.{◌≡◌, ◌∙◌, inl, inr, ℕ, Bool, true, false, cond, List, [], ◌∷◌, map}
use Rattle.std.proofs.Common.{Some, sym, ap, refl, subst}
use Rattle.std.specs.Prelude.{◌==◌, ◌&&◌, filter, find, IfSome}
use Rattle.std.specs.List.{flat_map}
use Rattle.std.specs.Option.{option_map_or}
use Rattle.std.specs.Str.{bytes_eq}
use Rattle.std.proofs.lemmas.Bool.{cases_Bool}
use Rattle.std.proofs.lemmas.Slice.Eq.{bytes_eq-Decides}
use Rattle.desk_base.proofs.Bools.{contrary}
use Rattle.desk_model.specs.Readings.{Readings}
use Rattle.desk_model.specs.Tables.{Tables}
use Rattle.desk_model.specs.Bills.{bill_answer, bill_line, bill_of, bill_text, first_uses}
use Rattle.desk_model.specs.Bills.{frozen_terms, package_texts, revision_text, texts_named}
use Rattle.desk_model.specs.Keys.{is_frozen_of, is_release}
use Rattle.desk_model.specs.declared.bill.Bill.{Bill}
use Rattle.desk_model.specs.declared.bill.BillLine.{BillLine}
use Rattle.desk_model.specs.declared.bill.BillText.{BillText}
use Rattle.desk_model.specs.declared.bill.TextOf.{TextOf}
use Rattle.desk_model.specs.declared.row.FrozenRow.{FrozenRow}
use Rattle.desk_model.specs.declared.row.PackageRow.{PackageRow}
use Rattle.desk_model.specs.declared.row.ReleaseRow.{ReleaseRow}
use Rattle.desk_model.specs.declared.state.ReleaseState.TheVariants.{Frozen}
use Rattle.desk_model.specs.declared.refusal.Refusal.TheVariants as why
use Rattle.desk_model.specs.declared.command.Answer.{Answer}
use Rattle.desk_model.specs.declared.command.Answer.TheVariants as answered
use Rattle.desk_model.specs.declared.command.Query.TheVariants as query
use Rattle.desk_history.specs.FromTables.{queried_from, release_found, shipped_found}

-- what passes the second test isn't removed by the first
filter_after : {A : Type 0} (p q : A → Bool) → ((x : A) → q x ≡ true → p x ≡ true) → (xs : List A)
    → filter q (filter p xs) ≡ filter q xs
filter_after p q within [] = refl
filter_after {A} p q within (x ∷ xs) = go (filter_after p q within xs) (p x) refl (q x) refl
  where
    go : filter q (filter p xs) ≡ filter q xs → (a : Bool) → p x ≡ a → (b : Bool) → q x ≡ b
        → filter q (cond a (x ∷ filter p xs) (filter p xs)) ≡ cond b (x ∷ filter q xs) (filter q xs)
    go rest true pe b qe = ap (λ (c : Bool). cond c (x ∷ filter q (filter p xs))
        (filter q (filter p xs))) qe ∙ ap (λ (l : List A). cond b (x ∷ l) l) rest
    go rest false pe true qe = absurd (contrary (p x) (within x qe) pe)
    go rest false pe false qe = rest

-- the terms of a package are among those of its release
among : (frozen : List FrozenRow) (r : List ℕ) (p : PackageRow)
    → frozen_terms (filter (λ row. bytes_eq row.release r) frozen) r p ≡ frozen_terms frozen r p
among frozen r p = filter_after (λ row. bytes_eq row.release r) (is_frozen_of r p.document p.id)
    (λ row is. first (bytes_eq row.release r) (row.document == p.document)
    (first (bytes_eq row.release r && (row.document == p.document)) (bytes_eq row.package_id p.id)
    is)) frozen
  where
    first : (a b : Bool) → (a && b) ≡ true → a ≡ true
    first true b e = refl
    first false b e = e

-- the bill from the terms of the release alone
pub bill_among : (w : Readings) (t : Tables) (ps : List PackageRow) (row : ReleaseRow)
    → bill_of w t.catalogue t.extracted (filter (λ f. bytes_eq f.release row.name) t.frozen) ps row
    ≡ bill_of w t.catalogue t.extracted t.frozen ps row
bill_among w t ps row = λ i. record {
  release = row.name;
  form = row.form;
  lines = map (λ p. record {
    name = p.name;
    version = p.version;
    rules = map (λ (f : FrozenRow). f.rule) (among t.frozen row.name p i);
    copyright = p.copyright;
  }) ps;
  texts = map (bill_text w (revision_text t.catalogue row.revision) t.extracted)
      (first_uses (flat_map (λ p. flat_map (λ (f : FrozenRow). texts_named w f.document f.term)
      (among t.frozen row.name p i)) ps));
}

pub bill_found : (w : Readings) (t : Tables) (row : ReleaseRow) (frozen : List FrozenRow)
    (packages ps : List PackageRow) (uses : List TextOf) (lines : List BillLine)
    (texts : List BillText)
    → frozen ≡ filter (λ f. bytes_eq f.release row.name) t.frozen → packages ≡ ps
    → lines ≡ map (bill_line frozen row.name) packages
    → uses ≡ first_uses (flat_map (package_texts w frozen row.name) packages)
    → texts ≡ map (bill_text w (revision_text t.catalogue row.revision) t.extracted) uses
    → (let bill : Bill = record {
      release = row.name;
      form = row.form;
      lines = lines;
      texts = texts;
    } in bill) ≡ bill_of w t.catalogue t.extracted t.frozen ps row
bill_found w t row frozen packages ps uses lines texts found ships has names are =
    let told = bill_text w (revision_text t.catalogue row.revision) t.extracted in
    let all_lines : lines ≡ map (bill_line (filter (λ f. bytes_eq f.release row.name) t.frozen)
    row.name) ps =
    has ∙ (λ i. map (bill_line (found i) row.name) (ships i)) in
    let all_texts : texts ≡ map told (first_uses
    (flat_map (package_texts w (filter (λ f. bytes_eq f.release row.name) t.frozen) row.name) ps)) =
    are ∙ (ap (map told) names ∙ (λ i. map told
    (first_uses (flat_map (package_texts w (found i) row.name) (ships i))))) in
    (λ i. record { release = row.name; form = row.form; lines = all_lines i; texts = all_texts i })
    ∙ bill_among w t ps row

-- a release that is found has the name that it was looked up by
named_by : (rows : List ReleaseRow) (r : List ℕ)
    → IfSome (find (is_release r) rows) (λ row. row.name ≡ r)
named_by [] r = tt
named_by (x ∷ rows) r =
    elim (cases_Bool (is_release r x)) [
      | inl same ↦ subst (λ b. IfSome (cond b (Some x) (find (is_release r) rows))
          (λ row. row.name ≡ r)) (sym same) ((bytes_eq-Decides x.name r).0 same)
      | inr other ↦ subst (λ b. IfSome (cond b (Some x) (find (is_release r) rows))
          (λ row. row.name ≡ r)) (sym other) (named_by rows r)
    ]

-- the answer of a frozen release
pub bill_told : (w : Readings) (t : Tables) (r : List ℕ) (row : ReleaseRow) (bill : Bill)
    → Some row ≡ release_found t r → row.state ≡ Frozen
    → bill ≡ bill_of w t.catalogue t.extracted t.frozen (shipped_found t row.name) row
    → answered.Bill bill ≡ queried_from w t (query.Bill r)
bill_told w t r row bill found state is =
    let name : row.name ≡ r = subst (λ o. IfSome o (λ row. row.name ≡ r)) (sym found)
    (named_by t.releases r) in
    let answer : ReleaseRow → Answer =
    λ x. bill_answer (bill_of w t.catalogue t.extracted t.frozen (shipped_found t r) x) x.state in
    ap answered.Bill (is ∙ ap (λ n. bill_of w t.catalogue t.extracted t.frozen (shipped_found t n)
    row) name)
    ∙ ap (λ s. bill_answer (bill_of w t.catalogue t.extracted t.frozen (shipped_found t r) row) s)
    (sym state)
    ∙ ap (λ o. option_map_or answer o (answered.Refused why.UnknownRelease)) found
