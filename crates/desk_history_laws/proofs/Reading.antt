-- A right reading, from what decides whether a text is an expression, what the verdict on terms is,
-- and what all bytes spell.
use Rattle.std.proofs.Common.{◌≡◌, ◌∙◌, ◌⊎◌, inl, inr, ℕ, Bool, true, false, List, [], ◌∷◌, Option}
use Rattle.std.proofs.Common.{Some, None, sym, subst, ap, refl}
use Rattle.std.proofs.lemmas.Bool.{cases_Bool}
use Rattle.std.specs.Prelude.{is_some, Result}
use Rattle.desk_fields.specs.declared.fault.DocFault.{DocFault}
use Rattle.desk_expr.specs.declared.term.Term.{Term}
use Rattle.desk_expr.specs.Tree.{Tree}
use Rattle.desk_expr.specs.Spelling.{SpellsWithinBy}
use Rattle.desk_model.specs.Readings.{Readings}
use Rattle.desk_base.specs.declared.profile.Profile.{Profile}
use Rattle.desk_model.specs.declared.refusal.ExpressionFault.{ExpressionFault}
use Rattle.desk_model.specs.declared.refusal.ExpressionFault.TheVariants.{Unexpected}
use Rattle.desk_model.specs.declared.reading.Verdict.{Verdict}
use Rattle.desk_model.specs.declared.reading.Verdict.TheVariants.{NotEnough}
use Rattle.desk_catalogue.specs.Reading.{catalogue_of}
use Rattle.desk_catalogue.specs.Terms.{IsTermOf}
use Rattle.desk_catalogue.proofs.TermsRead.{reading, terms_read}
use Rattle.desk_tagvalue.specs.Documents.{Spells}
use Rattle.desk_tagvalue.specs.Parts.{DocumentText}
use Rattle.desk_tagvalue.proofs.ReadLemmas.{spells_once}
use Rattle.desk_alts.proofs.TreeOrStop.{tree_or_stop, stops_spell_nothing}
use Rattle.desk_alts.proofs.TreeStops.{one_stop}
use Rattle.desk_texts.specs.Catalogues.{kept_catalogue, licence_text_in}
use Rattle.desk_texts.specs.Documents.{Keeps}
use Rattle.desk_texts.specs.Expressions.{word_place, IsExpression, IsRead, Tells, fault_of, IsFault, IsVerdict, Judges}
use Rattle.desk_texts.specs.Terms.{IsTerm, AreTerms, AreAllTerms, reference_in, is_licence}
use Rattle.desk_texts.specs.Terms.{adopted_as, licence_id_in, exception_in}
use Rattle.desk_texts.specs.Right.{AreRight}
use Rattle.desk_history_laws.proofs.Findings.{rows_exist, rows_once}
use Rattle.desk_history_laws.proofs.Listings.{listing_of, listing_once, terms_of as all_terms}
use Rattle.desk_history_laws.proofs.Listings.{terms_once, price_of, price_once}
use Rattle.desk_texts.specs.Listings.{Lists, HasTerms, Prices}
use Rattle.desk_model.specs.declared.reading.Cheapest.{Cheapest}
use Rattle.desk_model.specs.declared.reading.ListFault.{ListFault}
use Rattle.desk_texts.specs.Findings.{Finds}
use Rattle.desk_history_laws.proofs.Ships.{something_kept, kept_once}
use Rattle.desk_history_laws.proofs.Verdicts.{judged_once}
use Rattle.desk_findings.specs.Fields.{is_no_licence}

-- ---- terms

term_in : (text : List ℕ) (p : Option (List ℕ)) → IsTermOf text p
    → (o : Option Term) × IsTerm text o
term_in text (Some printed) is = (Some is.0, is.1)
term_in text None is = (None, is)

term_read : (text : List ℕ) → (o : Option Term) × IsTerm text o
term_read text = let found = reading text in term_in text found.0 found.1

more_terms : (text : List ℕ) (texts : List (List ℕ)) (o : Option Term) (p : Option (List Term))
    → IsTerm text o → AreAllTerms texts p → (q : Option (List Term)) × AreAllTerms (text ∷ texts) q
more_terms text texts (Some t) (Some ts) is are = (Some (t ∷ ts), (is, are))
more_terms text texts (Some t) None is are = (None, λ us h. no_more us h)
  where
    no_more : (us : List Term) → AreTerms (text ∷ texts) us → ⊥
    no_more [] h = h
    no_more (u ∷ us) h = are us h.1
more_terms text texts None p is are = (None, λ us h. no_first us h)
  where
    no_first : (us : List Term) → AreTerms (text ∷ texts) us → ⊥
    no_first [] h = h
    no_first (u ∷ us) h = is u h.0

terms_of : (texts : List (List ℕ)) → (o : Option (List Term)) × AreAllTerms texts o
terms_of [] = (Some [], tt)
terms_of (text ∷ texts) = let first = term_read text in let rest = terms_of texts in
    more_terms text texts first.0 rest.0 first.1 rest.1

-- ---- expressions, documents

abbrev pub Decides : Profile → List ℕ → Type 0
Decides profile text = ((e : Tree) × SpellsWithinBy profile text e)
    ⊎ ((e : Tree) → SpellsWithinBy profile text e → ⊥)

tells_once : (profile : Profile) (text : List ℕ) (o : Option Tree) (tells : Bool)
    → IsRead profile text o → Tells profile text tells → is_some o ≡ tells
tells_once profile text (Some e) true is says = refl
tells_once profile text (Some e) false is says = absurd (says e is)
tells_once profile text None true is says = absurd (is says.0 says.1)
tells_once profile text None false is says = refl

-- why a value isn't an expression: it spells a tree or stops, and never both
faulted_tree : (profile : Profile) (text : List ℕ) → (e : Tree) × SpellsWithinBy profile text e
    → (f : Option ExpressionFault) × IsFault profile text f
faulted_tree profile text found = elim (cases_Bool (is_no_licence text)) [
  | inl none ↦ (Some (Unexpected (word_place text)), inr (found, none, refl))
  | inr some ↦ (None, (found.0, (some, found.1)))
]

pub faulted : (profile : Profile) (text : List ℕ)
    → (f : Option ExpressionFault) × IsFault profile text f
faulted profile text = elim (tree_or_stop profile text) [
  | inl found ↦ faulted_tree profile text found
  | inr stop ↦ (Some (fault_of stop.0), inl (stop.0, stop.1, stop.2, refl))
]

pub faulted_once : (profile : Profile) (text : List ℕ) (f g : Option ExpressionFault)
    → IsFault profile text f → IsFault profile text g → f ≡ g
faulted_once profile text None None h k = refl
faulted_once profile text None (Some g) h (inl (stop, is, told, same)) = absurd (stops_spell_nothing
    profile text stop h.0 told is h.1.1)
faulted_once profile text None (Some g) h (inr (found, none, same)) = let both = sym none ∙ h.1.0 in
    absurd (cc)
faulted_once profile text (Some f) None (inl (stop, is, told, same)) k = absurd (stops_spell_nothing
    profile text stop k.0 told is k.1.1)
faulted_once profile text (Some f) None (inr (found, none, same)) k = let both = sym none ∙ k.1.0 in
    absurd (cc)
faulted_once profile text (Some f) (Some g) (inl (stop, is, told, same)) (inl (
  stop',
  is',
  told',
  same',
)) =
    ap Some (same ∙ ap fault_of (one_stop profile text stop stop' told told' is is') ∙ sym same')
faulted_once profile text (Some f) (Some g) (inl (stop, is, told, same)) (inr (
  found,
  none,
  same',
)) = absurd (stops_spell_nothing profile text stop found.0 told is found.1)
faulted_once profile text (Some f) (Some g) (inr (found, none, same)) (inl (
  stop,
  is,
  told,
  same',
)) = absurd (stops_spell_nothing profile text stop found.0 told is found.1)
faulted_once profile text (Some f) (Some g) (inr (found, none, same)) (inr (
  found',
  none',
  same',
)) = ap Some (same ∙ sym same')

module _
    (tree : (profile : Profile) (text : List ℕ) → Decides profile text)
    (verdict : (e : Tree) (ts : List Term) → (v : Verdict) × IsVerdict e ts v)
    (document : (bytes : List ℕ) → (r : Result DocumentText DocFault) × Spells bytes r)
  where
    expression_in : (profile : Profile) (text : List ℕ) → is_no_licence text ≡ false
        → Decides profile text → (o : Option Tree) × IsRead profile text o
    expression_in profile text some (inl (e, spells)) = (Some e, (some, spells))
    expression_in profile text some (inr none) = (None, λ e is. none e is.1)

    no_expression : (profile : Profile) (text : List ℕ) → is_no_licence text ≡ true → (e : Tree)
        → IsExpression profile text e → ⊥
    no_expression profile text none e is = let both = sym none ∙ is.0 in cc

    pub expression_read : (profile : Profile) (text : List ℕ)
        → (o : Option Tree) × IsRead profile text o
    expression_read profile text = elim (cases_Bool (is_no_licence text)) [
      | inl none ↦ (None, no_expression profile text none)
      | inr some ↦ expression_in profile text some (tree profile text)
    ]

    told_by : (profile : Profile) (text : List ℕ) (o : Option Tree) → IsRead profile text o
        → (tells : Bool) × Tells profile text tells
    told_by profile text (Some e) is = (true, (e, is))
    told_by profile text None none = (false, none)

    -- whether a text is an expression
    pub told : (profile : Profile) (text : List ℕ) → (tells : Bool) × Tells profile text tells
    told profile text = let found = expression_read profile text in
        told_by profile text found.0 found.1

    judge : (profile : Profile) (text : List ℕ) (words : List (List ℕ)) (o : Option Tree)
        (p : Option (List Term)) → IsRead profile text o → AreAllTerms words p
        → (v : Verdict) × Judges profile text words v
    judge profile text words (Some e) (Some ts) is are = let found = verdict e ts in
        (found.0, inl (e, ts, is, are, found.1))
    judge profile text words (Some e) None is none = (
      NotEnough,
      inr (λ f ts other are. none ts are, refl),
    )
    judge profile text words None p none are = (NotEnough, inr (λ e ts is these. none e is, refl))

    pub judged : (profile : Profile) (text : List ℕ) (words : List (List ℕ))
        → (v : Verdict) × Judges profile text words v
    judged profile text words = let e = expression_read profile text in let ts = terms_of words in
        judge profile text words e.0 ts.0 e.1 ts.1

    -- the sets of terms under which the expression of a text is true, its terms, and the cheapest
    -- set
    pub sets : (profile : Profile) (text : List ℕ)
        → (r : Result (List (List (List ℕ))) ListFault) × Lists profile text r
    sets profile text = let e = expression_read profile text in listing_of profile text e.0 e.1

    pub own_terms : (profile : Profile) (text : List ℕ)
        → (terms : List (List ℕ)) × HasTerms profile text terms
    own_terms profile text = let e = expression_read profile text in all_terms profile text e.0 e.1

    pub price : (profile : Profile) (text : List ℕ) (cost : List ℕ → Option ℕ)
        → (r : Result (Option Cheapest) ListFault) × Prices profile text cost r
    price profile text cost = let e = expression_read profile text in
        price_of profile text cost e.0 e.1

    pub standard : Readings
    standard = record {
      catalogue = λ text. kept_catalogue (catalogue_of terms_read.0 text);
      document = λ bytes. (something_kept (document bytes).0).0;
      term = terms_read.0;
      reference = reference_in;
      is_licence = is_licence;
      adopted_as = adopted_as;
      licence_id = licence_id_in;
      exception = exception_in;
      licence_text = λ text. licence_text_in (catalogue_of terms_read.0 text);
      is_expression = λ profile text. is_some (expression_read profile text).0;
      expression_fault = λ profile text. (faulted profile text).0;
      verdict = λ profile text words. (judged profile text words).0;
      findings = λ profile bytes. (rows_exist profile (document bytes).0).0;
      alternatives = λ profile text. (sets profile text).0;
      terms = λ profile text. (own_terms profile text).0;
      cheapest = λ profile text cost. (price profile text cost).0;
    }

    pub standard_is_right : AreRight standard
    unfolding standard expression_read judged sets own_terms price
    standard_is_right = record {
      term = terms_read.1;
      catalogue = λ text. refl;
      document = λ bytes read kept spells keeps.
          kept_once read (something_kept (document bytes).0).0 kept
          (subst (λ r. Keeps r (something_kept (document bytes).0).0)
          (spells_once bytes (document bytes).0 read (document bytes).1 spells)
          (something_kept (document bytes).0).1) keeps;
      reference = λ term. refl;
      licence = λ term. refl;
      adopted = λ licence term. refl;
      licence_id = λ term. refl;
      exception = λ term. refl;
      licence_text = λ text id. refl;
      expression = λ profile text tells says. tells_once profile text
          (expression_read profile text).0 tells (expression_read profile text).1 says;
      fault = λ profile text f is. faulted_once profile text (faulted profile text).0 f
          (faulted profile text).1 is;
      verdict = λ profile text words v judges. judged_once profile text words
          (judged profile text words).0 v (judged profile text words).1 judges;
      alternatives = λ profile text listing lists. listing_once profile text (sets profile text).0
          listing (sets profile text).1 lists;
      terms = λ profile text terms has. terms_once profile text (own_terms profile text).0 terms
          (own_terms profile text).1 has;
      cheapest = λ profile text cost priced prices. price_once profile text cost
          (price profile text cost).0 priced (price profile text cost).1 prices;
      findings = λ profile bytes read rows spells finds.
          rows_once profile read (rows_exist profile (document bytes).0).0 rows
          (subst (λ r. Finds profile r (rows_exist profile (document bytes).0).0)
          (spells_once bytes (document bytes).0 read (document bytes).1 spells)
          (rows_exist profile (document bytes).0).1) finds;
    }
