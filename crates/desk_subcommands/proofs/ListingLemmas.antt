-- The lines of a listing, one by one, and that there is only one listing.
use Rattle.std.proofs.Common.{◌≡◌, ◌∙◌, ℕ, suc, ◌+◌, ◌<◌, List, [], ◌∷◌, ◌++◌, length, get_or, take}
use Rattle.std.proofs.Common.{codes, sym, ap, subst, refl, append_assoc, arith}
use Rattle.std.specs.Prelude.{IfOk}
use Rattle.std.proofs.Common.{Result, Ok, Err}
use Rattle.std.specs.declared.alloc.AllocError.{AllocError}
use Rattle.std.proofs.lemmas.List.{take_more, append-nil}
use Rattle.desk_base.specs.declared.profile.Profile.{Profile}
use Rattle.desk_expr.specs.declared.term.Term.{Term}
use Rattle.desk_expr.specs.declared.fault.ParseFault.{ParseFault}
use Rattle.desk_expr.specs.Tree.{Tree}
use Rattle.desk_expr.specs.Spelling.{SpellsWithinBy}
use Rattle.desk_expr.specs.Printing.{printed_term}
use Rattle.desk_expr.proofs.ParseLemmas.{one_within}
use Rattle.desk_subcommands.specs.declared.report.Report.TheVariants.{Fault}
use Rattle.desk_subcommands.specs.declared.listing.Listing.{Listing}
use Rattle.desk_subcommands.specs.declared.listing.Listing.TheVariants.{Sets, TooManyTerms, TooMany, Unread}
use Rattle.desk_subcommands.specs.Report.{text_of}
use Rattle.desk_subcommands.specs.Listing.{IsListing, IsListingOf, set_text, sets_text}
use Rattle.desk_subcommands.specs.Listing.{listing_text, listing_status, ListsOnce}
use Rattle.desk_alts.proofs.TreeStops.{one_stop}
use Rattle.desk_alts.proofs.ListingExists.{one_listing}

-- ---- the lines

-- what is between the terms so far and the next one
abbrev pub between : List Term → List ℕ
between [] = []
between (t ∷ ts) = codes ", "

set_pushed : (ts : List Term) (t : Term)
    → set_text (ts ++ t ∷ []) ≡ set_text ts ++ (between ts ++ printed_term t)
set_pushed [] t = refl
set_pushed (x ∷ []) t = refl
set_pushed (x ∷ y ∷ ys) t =
    ap (λ (l : List ℕ). printed_term x ++ (codes ", " ++ l)) (set_pushed (y ∷ ys) t)
    ∙ (ap (λ (l : List ℕ). printed_term x ++ l)
    (sym (append_assoc (codes ", ") (set_text (y ∷ ys)) (codes ", " ++ printed_term t)))
    ∙ sym (append_assoc (printed_term x) (codes ", " ++ set_text (y ∷ ys))
    (codes ", " ++ printed_term t)))

pub set_more : (ts : List Term) (i : ℕ) (t : Term) (start old mid new : List ℕ) → i < length ts
    → t ≡ get_or ts i t → old ≡ start ++ set_text (take i ts)
    → mid ≡ old ++ between (take i ts) → new ≡ mid ++ printed_term t
    → new ≡ start ++ set_text (take (i + 1) ts)
set_more ts i t start old mid new within is so_far step last =
    let next : take (i + 1) ts ≡ take i ts ++ t ∷ [] = take_more ts i t within
    ∙ ap (λ (x : Term). take i ts ++ x ∷ []) (sym is) in
    let grown = ap set_text next ∙ set_pushed (take i ts) t in
    last
    ∙ (ap (λ (l : List ℕ). l ++ printed_term t)
    (step ∙ ap (λ (l : List ℕ). l ++ between (take i ts)) so_far)
    ∙ (append_assoc (start ++ set_text (take i ts)) (between (take i ts)) (printed_term t)
    ∙ (append_assoc start (set_text (take i ts)) (between (take i ts) ++ printed_term t)
    ∙ ap (λ (l : List ℕ). start ++ l) (sym grown))))

sets_pushed : (ss : List (List Term)) (s : List Term)
    → sets_text (ss ++ s ∷ []) ≡ sets_text ss ++ (set_text s ++ 10 ∷ [])
sets_pushed [] s = append-nil (set_text s ++ 10 ∷ [])
sets_pushed (x ∷ xs) s = ap (λ (l : List ℕ). (set_text x ++ 10 ∷ []) ++ l) (sets_pushed xs s)
    ∙ sym (append_assoc (set_text x ++ 10 ∷ []) (sets_text xs) (set_text s ++ 10 ∷ []))

pub sets_more : (ss : List (List Term)) (i : ℕ) (s : List Term) (old mid new : List ℕ)
    → i < length ss → s ≡ get_or ss i s → old ≡ sets_text (take i ss) → mid ≡ old ++ set_text s
    → new ≡ mid ++ 10 ∷ [] → new ≡ sets_text (take (i + 1) ss)
sets_more ss i s old mid new within is so_far step last =
    let next : take (i + 1) ss ≡ take i ss ++ s ∷ [] = take_more ss i s within
    ∙ ap (λ (x : List Term). take i ss ++ x ∷ []) (sym is) in
    last
    ∙ (ap (λ (l : List ℕ). l ++ 10 ∷ []) (step ∙ ap (λ (l : List ℕ). l ++ set_text s) so_far)
    ∙ (append_assoc (sets_text (take i ss)) (set_text s) (10 ∷ [])
    ∙ sym (ap sets_text next ∙ sets_pushed (take i ss) s)))

-- ---- one listing

abbrev SameListed : Listing → Listing → Type 0
SameListed a b = (listing_text a ≡ listing_text b) × (listing_status a ≡ listing_status b)

one_of_tree : (tree : Tree) (a b : Listing) → IsListingOf tree a → IsListingOf tree b
    → SameListed a b
one_of_tree tree (Sets xs) (Sets ys) h k = (
  ap sets_text (one_listing tree xs.items ys.items h.1 k.1),
  refl,
)
one_of_tree tree (Sets xs) TooManyTerms h k = absurd (h.0.0 k)
one_of_tree tree (Sets xs) TooMany h k = absurd (h.0.1 k.1)
one_of_tree tree (Sets xs) (Unread f) h k = absurd k
one_of_tree tree TooManyTerms (Sets ys) h k = absurd (k.0.0 h)
one_of_tree tree TooManyTerms TooManyTerms h k = (refl, refl)
one_of_tree tree TooManyTerms TooMany h k = absurd (k.0 h)
one_of_tree tree TooManyTerms (Unread f) h k = absurd k
one_of_tree tree TooMany (Sets ys) h k = absurd (k.0.1 h.1)
one_of_tree tree TooMany TooManyTerms h k = absurd (h.0 k)
one_of_tree tree TooMany TooMany h k = (refl, refl)
one_of_tree tree TooMany (Unread f) h k = absurd k
one_of_tree tree (Unread f) b h k = absurd h

module _ (profile : Profile) (expression : List ℕ) where
  abbrev Listed : Listing → Type 0
  Listed listing = (tree : Tree) × SpellsWithinBy profile expression tree × IsListingOf tree listing

  one_spelled : (a b : Listing) → Listed a → Listed b → SameListed a b
  one_spelled a b (tree, spells, is) (tree', spells', is') =
      let same : tree' ≡ tree = one_within profile expression tree' tree spells' spells in
      one_of_tree tree a b is (subst (λ t. IsListingOf t b) same is')

  one_fault : (f g : ParseFault) → IsListing profile expression (Unread f)
      → IsListing profile expression (Unread g) → SameListed (Unread f) (Unread g)
  one_fault f g h k = (
    ap (λ x. text_of (Fault x) ++ 10 ∷ []) (one_stop profile expression f g h.1 k.1 h.2 k.2),
    refl,
  )

  from_spelled : (a b : Listing) → Listed a → IsListing profile expression b → SameListed a b
  from_spelled a (Sets ys) h k = one_spelled a (Sets ys) h k
  from_spelled a TooManyTerms h k = one_spelled a TooManyTerms h k
  from_spelled a TooMany h k = one_spelled a TooMany h k
  from_spelled a (Unread g) h k = absurd (k.0 h.0 h.1)

  from_unread : (f : ParseFault) (b : Listing) → IsListing profile expression (Unread f)
      → IsListing profile expression b → SameListed (Unread f) b
  from_unread f (Sets ys) h k = absurd (h.0 k.0 k.1)
  from_unread f TooManyTerms h k = absurd (h.0 k.0 k.1)
  from_unread f TooMany h k = absurd (h.0 k.0 k.1)
  from_unread f (Unread g) h k = one_fault f g h k

  one_told : (a b : Listing) → IsListing profile expression a → IsListing profile expression b
      → SameListed a b
  one_told (Sets xs) b h k = from_spelled (Sets xs) b h k
  one_told TooManyTerms b h k = from_spelled TooManyTerms b h k
  one_told TooMany b h k = from_spelled TooMany b h k
  one_told (Unread f) b h k = from_unread f b h k

pub lists_once : (profile : Profile) (expression : List ℕ) → ListsOnce profile expression
lists_once profile expression text other status another (a, is, same, number) (
  b,
  is',
  same',
  number',
) =
    let both = one_told profile expression a b is is' in
    (same ∙ (both.0 ∙ sym same'), number ∙ (both.1 ∙ sym number'))

-- ---- the steps of the code

pub between_next : (ts : List Term) (i : ℕ) → i < length ts → codes ", " ≡ between (take (i + 1) ts)
between_next ts i within =
    let after : suc i ≡ i + 1 = omega arith in
    by_head ts within ∙ ap (λ n. between (take n ts)) after
  where
    by_head : (us : List Term) → i < length us → codes ", " ≡ between (take (suc i) us)
    by_head [] none = absurd (omega arith)
    by_head (u ∷ us) some = refl

reported : (profile : Profile) (expression : List ℕ) (tree : Tree) (listing : Listing)
    → SpellsWithinBy profile expression tree → IsListingOf tree listing
    → IsListing profile expression listing
reported profile expression tree (Sets sets) spells is = (tree, spells, is)
reported profile expression tree TooManyTerms spells is = (tree, spells, is)
reported profile expression tree TooMany spells is = (tree, spells, is)
reported profile expression tree (Unread fault) spells is = absurd is

pub listing_reported : (profile : Profile) (expression : List ℕ) (tree : Tree)
    (r : Result Listing AllocError) → SpellsWithinBy profile expression tree
    → IfOk r (IsListingOf tree) → IfOk r (IsListing profile expression)
listing_reported profile expression tree (Ok listing) spells is = reported profile expression tree
    listing spells is
listing_reported profile expression tree (Err error) spells is = tt
