-- What is among the gaps of a release.
use Rattle.std.proofs.Common.{◌≡◌, ◌∙◌, ◌⊎◌, inl, inr, ℕ, Bool, true, false, List, [], ◌∷◌, ◌++◌}
use Rattle.std.proofs.Common.{Option, Some, None, arith, refl, sym, ap, subst}
use Rattle.std.specs.Prelude.{◌==◌, ◌≢◌, not, is_some, if◌then◌else◌}
use Rattle.std.specs.List.{flat_map, list_any}
use Rattle.std.specs.Option.{option_map}
use Rattle.std.proofs.lemmas.Bool.{false≢true}
use Rattle.std.proofs.lemmas.Bool.Decides.{nat_tests}
use Rattle.desk_model.specs.Answers.{release_state}
use Rattle.desk_model.specs.Gaps.{copyright_gaps, gap, gaps_answer, gaps_of, one_if, says_nothing}
use Rattle.desk_model.specs.Gaps.{shipment_gaps, text_gaps, texts_needed, twice_gaps, Sources}
use Rattle.desk_model.specs.History.{attached, attached_to, form_of, state_of}
use Rattle.desk_model.specs.Lists.{IsIn}
use Rattle.desk_model.specs.Queries.{queried, sources}
use Rattle.desk_model.specs.Raised.{chosen_in, shipped}
use Rattle.desk_model.specs.Readings.{Readings}
use Rattle.desk_model.specs.Tables.{release_row}
use Rattle.desk_model.specs.declared.bill.TextOf.{TextOf}
use Rattle.desk_model.specs.declared.bill.TextOf.TheVariants.{Licence, Reference}
use Rattle.desk_model.specs.declared.command.Answer.{Answer}
use Rattle.desk_model.specs.declared.command.Answer.TheVariants as answered
use Rattle.desk_model.specs.declared.command.Command.{Command}
use Rattle.desk_model.specs.declared.command.Query.TheVariants as query
use Rattle.desk_model.specs.declared.gap.Gap.{Gap}
use Rattle.desk_model.specs.declared.gap.GapKind.{GapKind}
use Rattle.desk_model.specs.declared.gap.GapKind.TheVariants as missing
use Rattle.desk_model.specs.declared.refusal.Refusal.TheVariants as why
use Rattle.desk_model.specs.declared.row.AttachedRow.{AttachedRow}
use Rattle.desk_model.specs.declared.row.ExtractedRow.{ExtractedRow}
use Rattle.desk_model.specs.declared.row.PackageRow.{PackageRow}
use Rattle.desk_model.specs.declared.state.ReleaseState.{ReleaseState}
use Rattle.desk_model.specs.declared.state.ReleaseState.TheVariants as state
use Rattle.desk_history.proofs.Members.{from_flat_map, in_cases, in_flat_map, in_left, in_right}

-- When gaps are listed

abbrev answer_by : Bool → List Gap → ReleaseState → Answer
answer_by known gaps s = if known then gaps_answer gaps s else answered.Refused why.UnknownRelease

abbrev gaps_in : Readings → List Command → List ℕ → List Gap
gaps_in w h r = gaps_of w (sources w h (chosen_in w h r) (release_row h r))

listed_by : (form : Option (List ℕ)) (s : ReleaseState) (all : List Gap)
    → (option_map (λ (f : List ℕ). s) form ≡ Some state.IsOpen)
    ⊎ (option_map (λ (f : List ℕ). s) form ≡ Some state.Frozen)
    → answer_by (is_some form) all s ≡ answered.Gaps all
listed_by None s all (inl e) = absurd (cc)
listed_by None s all (inr e) = absurd (cc)
listed_by (Some form) state.IsOpen all e = refl
listed_by (Some form) state.Frozen all e = refl
listed_by (Some form) state.Withdrawn all (inl e) = absurd (cc)
listed_by (Some form) state.Withdrawn all (inr e) = absurd (cc)

pub listed : (w : Readings) (h : List Command) (r : List ℕ)
    → (release_state h r ≡ Some state.IsOpen) ⊎ (release_state h r ≡ Some state.Frozen)
    → (gaps : List Gap) × (queried w h (query.Gaps r) ≡ answered.Gaps gaps)
listed w h r e = (gaps_in w h r, listed_by (form_of h r) (state_of h r) (gaps_in w h r) e)

told_by : (known : Bool) (s : ReleaseState) (all gaps : List Gap)
    → answer_by known all s ≡ answered.Gaps gaps → all ≡ gaps
told_by false s all gaps e = absurd (cc)
told_by true state.IsOpen all gaps e = cc
told_by true state.Frozen all gaps e = cc
told_by true state.Withdrawn all gaps e = absurd (cc)

-- they are those of the definition
are_those : (w : Readings) (h : List Command) (r : List ℕ) (gaps : List Gap)
    → queried w h (query.Gaps r) ≡ answered.Gaps gaps → gaps_in w h r ≡ gaps
are_those w h r gaps e = told_by (is_some (form_of h r)) (state_of h r) (gaps_in w h r) gaps e

-- What is among them

one_there : (b : Bool) (g : Gap) → b ≡ true → IsIn g (one_if b g)
one_there true g e = inl refl
one_there false g e = absurd (false≢true e)

one_only : (b : Bool) (g found : Gap) → IsIn found (one_if b g) → (b ≡ true) × (found ≡ g)
one_only true g found (inl e) = (refl, sym e)
one_only true g found (inr m) = absurd m
one_only false g found m = absurd m

pub copyright_there : (w : Readings) (h : List Command) (r : List ℕ) (gaps : List Gap)
    (p : PackageRow) → queried w h (query.Gaps r) ≡ answered.Gaps gaps
    → IsIn p (shipped w h r) → says_nothing p.copyright ≡ true
    → IsIn (gap missing.Copyright p.document p.id) gaps
copyright_there w h r gaps p e ships nothing =
    let from : Sources = sources w h (chosen_in w h r) (release_row h r) in
    let g : Gap = gap missing.Copyright p.document p.id in
    subst (λ (all : List Gap). IsIn g all) (are_those w h r gaps e)
    (in_right g (flat_map (text_gaps w from.catalogue from.extracted)
    (texts_needed w from.terms from.shipped)) _
    (in_left g (flat_map copyright_gaps from.shipped) _
    (in_flat_map copyright_gaps p g from.shipped ships
    (one_there (says_nothing p.copyright) g nothing))))

no_document : (d : ℕ) (ps : List PackageRow)
    → ((p : PackageRow) → IsIn p ps → p.document ≢ d) → not (list_any (λ p. p.document == d) ps)
    ≡ true
no_document d [] none = refl
no_document d (p ∷ ps) none = go (p.document == d) refl (none p (inl refl))
    (no_document d ps (λ q m. none q (inr m)))
  where
    go : (b : Bool) → (p.document == d) ≡ b → p.document ≢ d
        → not (list_any (λ p. p.document == d) ps) ≡ true
        → not (list_any (λ p. p.document == d) (p ∷ ps)) ≡ true
    go true same other rest = absurd (other (grind (arith, nat_tests, same)))
    go false same other rest = rw same rest

pub shipment_there : (w : Readings) (h : List Command) (r : List ℕ) (gaps : List Gap)
    (row : AttachedRow) → queried w h (query.Gaps r) ≡ answered.Gaps gaps
    → IsIn row (attached_to (attached h) r)
    → ((p : PackageRow) → IsIn p (shipped w h r) → p.document ≢ row.document)
    → IsIn (gap missing.Shipment row.document []) gaps
shipment_there w h r gaps row e is none =
    let from : Sources = sources w h (chosen_in w h r) (release_row h r) in
    let g : Gap = gap missing.Shipment row.document [] in
    subst (λ (all : List Gap). IsIn g all) (are_those w h r gaps e)
    (in_right g (flat_map (text_gaps w from.catalogue from.extracted)
    (texts_needed w from.terms from.shipped)) _
    (in_right g (flat_map copyright_gaps from.shipped) _
    (in_left g (flat_map (shipment_gaps from.shipped) from.attached) _
    (in_flat_map (shipment_gaps from.shipped) row g from.attached is
    (one_there _ g (no_document row.document from.shipped none))))))

-- What is not

abbrev is_copyright : GapKind → Bool
is_copyright missing.Copyright = true
is_copyright _ = false

other_kind : (found : Gap) → is_copyright found.kind ≡ false → found.kind ≡ missing.Copyright → ⊥
other_kind found other e = false≢true (sym other ∙ ap is_copyright e)

of_kind : (kind : GapKind) (b : Bool) (d : ℕ) (s : List ℕ) (found : Gap)
    → IsIn found (one_if b (gap kind d s)) → found.kind ≡ kind
of_kind kind b d s found m = ap (λ (g : Gap). g.kind) (one_only b (gap kind d s) found m).1

text_kind : (w : Readings) (catalogue : Option (List ℕ)) (extracted : List ExtractedRow)
    (text : TextOf) (found : Gap) → IsIn found (text_gaps w catalogue extracted text)
    → found.kind ≡ missing.Text
text_kind w catalogue extracted (Licence id) found m = of_kind missing.Text _ 0 id found m
text_kind w catalogue extracted (Reference d s) found m = of_kind missing.Text _ d s found m

pub copyright_only : (w : Readings) (h : List Command) (r : List ℕ) (gaps : List Gap) (found : Gap)
    → queried w h (query.Gaps r) ≡ answered.Gaps gaps → IsIn found gaps
    → found.kind ≡ missing.Copyright → (p : PackageRow) × IsIn p (shipped w h r)
    × (says_nothing p.copyright ≡ true) × (found ≡ gap missing.Copyright p.document p.id)
copyright_only w h r gaps found e is kind = by_part (in_cases found texts _
    (subst (λ (all : List Gap). IsIn found all) (sym (are_those w h r gaps e)) is))
  where
    from : Sources
    from = sources w h (chosen_in w h r) (release_row h r)

    texts : List Gap
    texts = flat_map (text_gaps w from.catalogue from.extracted)
        (texts_needed w from.terms from.shipped)

    Wanted : Type 0
    Wanted = (p : PackageRow) × IsIn p (shipped w h r) × (says_nothing p.copyright ≡ true)
        × (found ≡ gap missing.Copyright p.document p.id)

    not_of : (other : GapKind) → is_copyright other ≡ false → found.kind ≡ other → Wanted
    not_of other apart same = absurd (other_kind found (ap is_copyright same ∙ apart) kind)

    last : IsIn found (flat_map (twice_gaps from.shipped) from.shipped) → Wanted
    last m = let one = from_flat_map (twice_gaps from.shipped) found from.shipped m in
        not_of missing.Twice refl (of_kind missing.Twice _ one.0.document one.0.id found one.2)

    ships : IsIn found (flat_map (shipment_gaps from.shipped) from.attached)
        ⊎ IsIn found (flat_map (twice_gaps from.shipped) from.shipped) → Wanted
    ships (inl m) = let one = from_flat_map (shipment_gaps from.shipped) found from.attached m in
        not_of missing.Shipment refl (of_kind missing.Shipment _ one.0.document [] found one.2)
    ships (inr m) = last m

    rest : IsIn found (flat_map copyright_gaps from.shipped)
        ⊎ IsIn found (flat_map (shipment_gaps from.shipped) from.attached
        ++ flat_map (twice_gaps from.shipped) from.shipped) → Wanted
    rest (inl m) =
        let one = from_flat_map copyright_gaps found from.shipped m in
        let is = one_only (says_nothing one.0.copyright)
        (gap missing.Copyright one.0.document one.0.id) found one.2 in
        (one.0, one.1, is.0, is.1)
    rest (inr m) = ships (in_cases found (flat_map (shipment_gaps from.shipped) from.attached)
        (flat_map (twice_gaps from.shipped) from.shipped) m)

    by_part : IsIn found texts ⊎ IsIn found (flat_map copyright_gaps from.shipped
        ++ (flat_map (shipment_gaps from.shipped) from.attached
        ++ flat_map (twice_gaps from.shipped) from.shipped)) → Wanted
    by_part (inl m) = let one = from_flat_map (text_gaps w from.catalogue from.extracted) found
        (texts_needed w from.terms from.shipped) m in
        not_of missing.Text refl (text_kind w from.catalogue from.extracted one.0 found one.2)
    by_part (inr m) = rest (in_cases found (flat_map copyright_gaps from.shipped)
        (flat_map (shipment_gaps from.shipped) from.attached
        ++ flat_map (twice_gaps from.shipped) from.shipped) m)
