-- The sets of terms under which the expression of a value is true: each value has one listing, one
-- list of terms, and by each cost one cheapest set or none.
use Rattle.std.proofs.Common.{◌≡◌, ◌∙◌, ◌⊎◌, inl, inr, ℕ, List, [], map, Option, Some, None, sym, subst, ap, refl}
use Rattle.std.specs.Prelude.{Result, Ok, Err}
use Rattle.desk_base.specs.declared.profile.Profile.{Profile}
use Rattle.desk_expr.specs.declared.term.Term.{Term}
use Rattle.desk_expr.specs.Tree.{Tree}
use Rattle.desk_expr.specs.Printing.{printed_term}
use Rattle.desk_expr.specs.Occurring.{AreTermsOf}
use Rattle.desk_alts.specs.Sets.{HasMoreTerms, HasWideFront}
use Rattle.desk_alts.specs.Faults.{IsListable}
use Rattle.desk_alts.specs.Costs.{IsCheapest, HasNoCosts}
use Rattle.desk_alts.proofs.ListingExists.{terms_exist, one_list_of_terms, one_listing}
use Rattle.desk_alts.proofs.Listings.{listing_exists, listable_has_no_fault}
use Rattle.desk_alts.proofs.CheapestExists.{cheapest_exists, one_cheapest, cheapest_has_costs}
use Rattle.desk_model.specs.declared.reading.Cheapest.{Cheapest}
use Rattle.desk_model.specs.declared.reading.ListFault.{ListFault}
use Rattle.desk_model.specs.declared.reading.ListFault.TheVariants.{TooManyTerms, TooMany}
use Rattle.desk_texts.specs.Expressions.{IsRead}
use Rattle.desk_texts.specs.Listings.{IsListFault, IsListing, Lists, HasTerms, cost_of, IsPriced, Prices}
use Rattle.desk_history_laws.proofs.Verdicts.{one_tree}

-- ---- faults

abbrev HasFault : Tree → Type 0
HasFault e = HasMoreTerms 128 e ⊎ ((HasMoreTerms 128 e → ⊥) × HasWideFront e)

fault_exists : (e : Tree) → HasFault e → (fault : ListFault) × IsListFault e fault
fault_exists e (inl more) = (TooManyTerms, more)
fault_exists e (inr wide) = (TooMany, wide)

some_fault : (e : Tree) (fault : ListFault) → IsListFault e fault → HasFault e
some_fault e TooManyTerms is = inl is
some_fault e TooMany is = inr is

one_fault : (e : Tree) (f g : ListFault) → IsListFault e f → IsListFault e g → f ≡ g
one_fault e TooManyTerms TooManyTerms h k = refl
one_fault e TooManyTerms TooMany h k = absurd (k.0 h)
one_fault e TooMany TooManyTerms h k = absurd (h.0 k)
one_fault e TooMany TooMany h k = refl

-- ---- listings of an expression

listed : (e : Tree) → (r : Result (List (List (List ℕ))) ListFault) × IsListing e r
listed e = elim (listing_exists e) [
  | inl found ↦ (Ok (map (map printed_term) found.1), (found.0, found.1, found.2, refl))
  | inr fault ↦ let told = fault_exists e fault in (Err told.0, told.1)
]

listed_once : (e : Tree) (a b : Result (List (List (List ℕ))) ListFault) → IsListing e a
    → IsListing e b → a ≡ b
listed_once e (Ok sets) (Ok others) h k = ap Ok
    (h.3 ∙ (ap (map (map printed_term)) (one_listing e h.1 k.1 h.2 k.2) ∙ sym k.3))
listed_once e (Ok sets) (Err fault) h k = absurd (listable_has_no_fault e h.0
    (some_fault e fault k))
listed_once e (Err fault) (Ok sets) h k = absurd (listable_has_no_fault e k.0
    (some_fault e fault h))
listed_once e (Err f) (Err g) h k = ap Err (one_fault e f g h k)

-- ---- the cheapest set of an expression

priced_by : (cost : List ℕ → Option ℕ) (e : Tree) → IsListable e
    → ((price : ℕ) × (set : List Term) × IsCheapest (cost_of cost) e price set)
    ⊎ HasNoCosts (cost_of cost) e
    → (r : Result (Option Cheapest) ListFault) × IsPriced cost e r
priced_by cost e listable (inl found) = (
  Ok (Some (record { cost = found.0; terms = map printed_term found.1 })),
  (listable, found.1, found.2, refl),
)
priced_by cost e listable (inr none) = (Ok None, (listable, none))

priced : (cost : List ℕ → Option ℕ) (e : Tree)
    → (r : Result (Option Cheapest) ListFault) × IsPriced cost e r
priced cost e = elim (listing_exists e) [
  | inl found ↦ priced_by cost e found.0 (cheapest_exists (cost_of cost) e)
  | inr fault ↦ let told = fault_exists e fault in (Err told.0, told.1)
]

one_found : (cost : List ℕ → Option ℕ) (e : Tree) (a b : Cheapest) (s r : List Term)
    → IsCheapest (cost_of cost) e a.cost s → a.terms ≡ map printed_term s
    → IsCheapest (cost_of cost) e b.cost r → b.terms ≡ map printed_term r → a ≡ b
one_found cost e a b s r h told k told' =
    let same = one_cheapest (cost_of cost) e a.cost b.cost s r h k in
    let terms : a.terms ≡ b.terms = told ∙ (ap (map printed_term) same.1 ∙ sym told') in
    let price : a.cost ≡ b.cost = same.0 in
    λ i. record { cost = price i; terms = terms i }

priced_once : (cost : List ℕ → Option ℕ) (e : Tree) (a b : Result (Option Cheapest) ListFault)
    → IsPriced cost e a → IsPriced cost e b → a ≡ b
priced_once cost e (Ok (Some a)) (Ok (Some b)) h k = ap (λ (c : Cheapest). Ok (Some c))
    (one_found cost e a b h.1 k.1 h.2 h.3 k.2 k.3)
priced_once cost e (Ok (Some a)) (Ok None) h k = absurd (cheapest_has_costs (cost_of cost) e a.cost
    h.1 h.2 k.1)
priced_once cost e (Ok None) (Ok (Some b)) h k = absurd (cheapest_has_costs (cost_of cost) e b.cost
    k.1 k.2 h.1)
priced_once cost e (Ok None) (Ok None) h k = refl
priced_once cost e (Ok (Some a)) (Err fault) h k = absurd (listable_has_no_fault e h.0
    (some_fault e fault k))
priced_once cost e (Ok None) (Err fault) h k = absurd (listable_has_no_fault e h.0
    (some_fault e fault k))
priced_once cost e (Err fault) (Ok (Some b)) h k = absurd (listable_has_no_fault e k.0
    (some_fault e fault h))
priced_once cost e (Err fault) (Ok None) h k = absurd (listable_has_no_fault e k.0
    (some_fault e fault h))
priced_once cost e (Err f) (Err g) h k = ap Err (one_fault e f g h k)

-- ---- those of a value

pub listing_of : (profile : Profile) (text : List ℕ) (o : Option Tree) → IsRead profile text o
    → (r : Result (List (List (List ℕ))) ListFault) × Lists profile text r
listing_of profile text (Some e) is = let found = listed e in (found.0, inl (e, is, found.1))
listing_of profile text None none = (Ok [], inr (none, refl))

pub listing_once : (profile : Profile) (text : List ℕ)
    (a b : Result (List (List (List ℕ))) ListFault) → Lists profile text a → Lists profile text b
    → a ≡ b
listing_once profile text a b (inl (e, is, h)) (inl (f, is', k)) = listed_once e a b h
    (subst (λ (x : Tree). IsListing x b) (one_tree profile text f e is' is) k)
listing_once profile text a b (inl (e, is, h)) (inr (none, k)) = absurd (none e is)
listing_once profile text a b (inr (none, h)) (inl (f, is', k)) = absurd (none f is')
listing_once profile text a b (inr (none, h)) (inr (none', k)) = h ∙ sym k

pub terms_of : (profile : Profile) (text : List ℕ) (o : Option Tree) → IsRead profile text o
    → (terms : List (List ℕ)) × HasTerms profile text terms
terms_of profile text (Some e) is = let found = terms_exist e in
    (map printed_term found.0, inl (e, found.0, is, found.1, refl))
terms_of profile text None none = ([], inr (none, refl))

pub terms_once : (profile : Profile) (text : List ℕ) (a b : List (List ℕ)) → HasTerms profile text a
    → HasTerms profile text b → a ≡ b
terms_once profile text a b (inl (e, ts, is, are, h)) (inl (f, us, is', are', k)) =
    let same : us ≡ ts = one_list_of_terms f us ts are'
    (subst (λ (x : Tree). AreTermsOf x ts) (one_tree profile text e f is is') are) in
    h ∙ (ap (map printed_term) (sym same) ∙ sym k)
terms_once profile text a b (inl (e, ts, is, are, h)) (inr (none, k)) = absurd (none e is)
terms_once profile text a b (inr (none, h)) (inl (f, us, is', are', k)) = absurd (none f is')
terms_once profile text a b (inr (none, h)) (inr (none', k)) = h ∙ sym k

pub price_of : (profile : Profile) (text : List ℕ) (cost : List ℕ → Option ℕ) (o : Option Tree)
    → IsRead profile text o → (r : Result (Option Cheapest) ListFault) × Prices profile text cost r
price_of profile text cost (Some e) is = let found = priced cost e in
    (found.0, inl (e, is, found.1))
price_of profile text cost None none = (Ok None, inr (none, refl))

pub price_once : (profile : Profile) (text : List ℕ) (cost : List ℕ → Option ℕ)
    (a b : Result (Option Cheapest) ListFault) → Prices profile text cost a
    → Prices profile text cost b → a ≡ b
price_once profile text cost a b (inl (e, is, h)) (inl (f, is', k)) = priced_once cost e a b h
    (subst (λ (x : Tree). IsPriced cost x b) (one_tree profile text f e is' is) k)
price_once profile text cost a b (inl (e, is, h)) (inr (none, k)) = absurd (none e is)
price_once profile text cost a b (inr (none, h)) (inl (f, is', k)) = absurd (none f is')
price_once profile text cost a b (inr (none, h)) (inr (none', k)) = h ∙ sym k
