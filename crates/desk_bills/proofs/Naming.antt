-- Texts that terms name, if those that a term names again are left out.
use Rattle.std.proofs.Common.{◌≡◌, ◌∙◌, inl, inr, ℕ, ◌+◌, ◌<◌, Bool, true, false, cond, List, []}
use Rattle.std.proofs.Common.{◌∷◌, ◌++◌, length, take, get_or, Option, None, Some, sym, ap, refl}
use Rattle.std.proofs.Common.{subst}
use Rattle.std.specs.Prelude.{◌||◌, filter, if◌then◌else◌}
use Rattle.std.specs.List.{flat_map, list_any}
use Rattle.std.specs.BTreeSet.{Updates, contains_by}
use Rattle.std.specs.Cmp.Lexicographic.{slice_cmp}
use Rattle.std.specs.Ordering.{nat_cmp}
use Rattle.std.specs.Option.{option_map_or}
use Rattle.std.specs.Str.{bytes_eq}
use Rattle.std.proofs.lemmas.Bool.{cases_Bool, false≢true, or_right, or_left}
use Rattle.std.proofs.lemmas.List.{append_assoc, append-nil, take_more}
use Rattle.std.proofs.lemmas.List.Concat.{flat_map-append}
use Rattle.std.proofs.lemmas.List.Folds.{list_any-append}
use Rattle.std.proofs.lemmas.Map.Text.{is_eq-slice_cmp}
use Rattle.std.proofs.lemmas.Slice.Eq.{bytes_eq-Decides}
use denote.Ref.{Bor}
use Rattle.desk_model.specs.Bills.{first_uses, is_same_text, texts_named}
use Rattle.desk_model.specs.Readings.{Readings}
use Rattle.desk_model.specs.declared.bill.TextOf.{TextOf}
use Rattle.desk_model.specs.declared.bill.TextOf.TheVariants.{Licence, Reference}
use Rattle.desk_bills.specs.Billing.{Adds, AreAmong, AreNamed, is_licence, is_met, main_text}
use Rattle.desk_bills.specs.declared.texts.Named.{Named}
use Rattle.desk_bills.proofs.Kept.{kept_next, left_next}
use Rattle.desk_bills.proofs.Uses.{first_uses-append, same_itself}

-- One of two lists

covered : (a b : Bool) → (b ≡ true → a ≡ true) → (a || b) ≡ a
covered true b within = refl
covered false true within = absurd (false≢true (within refl))
covered false false within = refl

-- what is among texts is among those and more
among_more : (xs more texts : List TextOf) → AreAmong xs texts → AreAmong (xs ++ more) texts
among_more xs more texts within x e =
    list_any-append (is_same_text x) xs more
    ∙ or_left (list_any (is_same_text x) xs) (list_any (is_same_text x) more) (within x e)

among_last : (xs texts : List TextOf) → AreAmong (xs ++ texts) texts
among_last xs texts x e =
    list_any-append (is_same_text x) xs texts
    ∙ or_right (list_any (is_same_text x) xs) (list_any (is_same_text x) texts) e

-- Texts that are there add nothing

same_any : (xs texts : List TextOf) → AreAmong xs texts → (x : TextOf)
    → list_any (is_same_text x) (xs ++ texts) ≡ list_any (is_same_text x) xs
same_any xs texts within x =
    list_any-append (is_same_text x) xs texts
    ∙ covered (list_any (is_same_text x) xs) (list_any (is_same_text x) texts) (within x)

same_one : (xs : List TextOf) (x : TextOf) → list_any (is_same_text x) xs ≡ true
    → first_uses (xs ++ x ∷ []) ≡ first_uses xs
same_one xs x e = first_uses-append xs x
    ∙ ap (λ b. if b then first_uses xs else first_uses xs ++ x ∷ []) e

same_uses : (xs texts : List TextOf) → AreAmong xs texts → first_uses (xs ++ texts) ≡ first_uses xs
same_uses xs [] within = ap first_uses (append-nil xs)
same_uses xs (x ∷ texts) within =
    ap first_uses (sym (append_assoc xs (x ∷ []) texts))
    ∙ same_uses (xs ++ x ∷ []) texts
    (among_more xs (x ∷ []) texts
    (λ y e. within y (or_right (is_same_text y x) (list_any (is_same_text y) texts) e)))
    ∙ same_one xs x (within x (or_left (is_same_text x x) (list_any (is_same_text x) texts)
    (same_itself x)))

-- The same texts added on either side

both_any : (ns xs texts : List TextOf)
    → ((x : TextOf) → list_any (is_same_text x) ns ≡ list_any (is_same_text x) xs)
    → (x : TextOf) → list_any (is_same_text x) (ns ++ texts)
    ≡ list_any (is_same_text x) (xs ++ texts)
both_any ns xs texts same x =
    list_any-append (is_same_text x) ns texts
    ∙ ap (λ b. b || list_any (is_same_text x) texts) (same x)
    ∙ sym (list_any-append (is_same_text x) xs texts)

both_uses : (ns xs texts : List TextOf) → first_uses ns ≡ first_uses xs
    → ((x : TextOf) → list_any (is_same_text x) ns ≡ list_any (is_same_text x) xs)
    → first_uses (ns ++ texts) ≡ first_uses (xs ++ texts)
both_uses ns xs [] uses same = ap first_uses (append-nil ns) ∙ uses
    ∙ ap first_uses (sym (append-nil xs))
both_uses ns xs (x ∷ texts) uses same =
    let one : first_uses (ns ++ x ∷ []) ≡ first_uses (xs ++ x ∷ []) =
    first_uses-append ns x
    ∙ (λ i. if same x i then uses i else uses i ++ x ∷ [])
    ∙ sym (first_uses-append xs x) in
    ap first_uses (sym (append_assoc ns (x ∷ []) texts))
    ∙ both_uses (ns ++ x ∷ []) (xs ++ x ∷ []) texts one (both_any ns xs (x ∷ []) same)
    ∙ ap first_uses (append_assoc xs (x ∷ []) texts)

-- A term

-- a term without a reference names the same texts in each document
pub named_anywhere : (w : Readings) (d e : ℕ) (term : List ℕ)
    → is_licence (main_text w d term) ≡ true → texts_named w e term ≡ texts_named w d term
named_anywhere w d e term is = go (w.reference term) is
  where
    go : (r : Option (List ℕ)) → is_licence
        (option_map_or (λ reference. Reference d reference) r (Licence (w.licence_id term))) ≡ true
        → (let rest : List TextOf = option_map_or (λ id. Licence id ∷ []) (w.exception term) [] in
        option_map_or (λ reference. Reference e reference) r (Licence (w.licence_id term)) ∷ rest
        ≡ option_map_or (λ reference. Reference d reference) r (Licence (w.licence_id term)) ∷ rest)
    go None is = refl
    go (Some reference) is = absurd (false≢true is)

-- it was met, and what it names is there
pub met_again : (w : Readings) (d : ℕ) (term : Bor (List ℕ)) (named : Named)
    → is_met named term ≡ true → Adds w (texts_named w d term.now) named named
met_again w d term named is = λ xs are.
    let texts = texts_named w d term.now in
    let within = are.met term is d in
    record {
      uses = are.uses ∙ sym (same_uses xs texts within);
      same = λ x. are.same x ∙ sym (same_any xs texts within x);
      met = λ other was e. among_more xs texts (texts_named w e other.now) (are.met other was e);
    }

-- its texts are added to those that were named
pub put_texts : (w : Readings) (texts : List TextOf) (old new : Named)
    → new.texts.items ≡ old.texts.items ++ texts → new.met ≡ old.met → Adds w texts old new
put_texts w texts old new put met = λ xs are.
    record {
      uses = ap first_uses put ∙ both_uses old.texts.items xs texts are.uses are.same;
      same = λ x. ap (list_any (is_same_text x)) put ∙ both_any old.texts.items xs texts are.same x;
      met = λ term is d. among_more xs texts (texts_named w d term.now)
          (are.met term (ap (contains_by (λ k. slice_cmp nat_cmp term.now k.now)) (sym met) ∙ is)
          d);
    }

-- the term was met, after its texts were added
pub met_more : (w : Readings) (d : ℕ) (term : Bor (List ℕ)) (old mid new : Named)
    → is_licence (main_text w d term.now) ≡ true
    → new.texts.items ≡ mid.texts.items
    → Updates (λ x y. slice_cmp nat_cmp x.now y.now) mid.met new.met term true
    → Adds w (texts_named w d term.now) old mid → Adds w (texts_named w d term.now) old new
met_more w d term old mid new is_anywhere put updates adds = λ xs are.
    let texts = texts_named w d term.now in
    let had = adds xs are in
    record {
      uses = ap first_uses put ∙ had.uses;
      same = λ x. ap (list_any (is_same_text x)) put ∙ had.same x;
      met = λ other is e. elim (cases_Bool (bytes_eq term.now other.now)) [
        | inl same ↦ subst (λ (ts : List TextOf). AreAmong (xs ++ texts) ts)
            (sym (named_anywhere w d e term.now is_anywhere)
            ∙ ap (texts_named w e) ((bytes_eq-Decides term.now other.now).0 same))
            (among_last xs texts)
        | inr differs ↦ had.met other
            (sym (updates.0 other ∙ ap (λ b. cond b true (is_met mid other))
            (is_eq-slice_cmp term.now other.now ∙ differs)) ∙ is) e
      ];
    }

-- One more row

-- it passes, and what it names is added
pub named_next : {X : Type 0} (w : Readings) (f : X → List TextOf) (p : X → Bool) (xs : List X)
    (i : ℕ) (x : X) (a b c : Named) → i < length xs → x ≡ get_or xs i x → p x ≡ true
    → Adds w (flat_map f (filter p (take i xs))) a b → Adds w (f x) b c
    → Adds w (flat_map f (filter p (take (i + 1) xs))) a c
named_next {X} w f p xs i x a b c within is passes first second = λ ys are.
    let before = filter p (take i xs) in
    let whole : flat_map f (filter p (take (i + 1) xs)) ≡ flat_map f before ++ f x =
    ap (flat_map f) (kept_next p xs i x within is passes)
    ∙ (flat_map-append f before (x ∷ [])
    ∙ ap (λ (l : List TextOf). flat_map f before ++ l) (append-nil (f x))) in
    subst (λ (l : List TextOf). AreNamed w l c)
    (append_assoc ys (flat_map f before) (f x) ∙ ap (λ (l : List TextOf). ys ++ l) (sym whole))
    (second (ys ++ flat_map f before) (first ys are))

-- it doesn't
pub named_same : {X : Type 0} (w : Readings) (f : X → List TextOf) (p : X → Bool) (xs : List X)
    (i : ℕ) (x : X) (a b : Named) → i < length xs → x ≡ get_or xs i x → p x ≡ false
    → Adds w (flat_map f (filter p (take i xs))) a b
    → Adds w (flat_map f (filter p (take (i + 1) xs))) a b
named_same {X} w f p xs i x a b within is fails first =
    subst (λ (rows : List X). Adds w (flat_map f rows) a b)
    (sym (left_next p xs i x within is fails)) first

-- One more item

-- what the items so far name, with what the next one names
pub named_so_far : {X : Type 0} (f : X → List TextOf) (xs : List X) (i : ℕ) (x : X) → i < length xs
    → x ≡ get_or xs i x → flat_map f (take (i + 1) xs) ≡ flat_map f (take i xs) ++ f x
named_so_far {X} f xs i x within is =
    ap (flat_map f) (take_more xs i x within ∙ ap (λ (y : X). take i xs ++ y ∷ []) (sym is))
    ∙ (flat_map-append f (take i xs) (x ∷ [])
    ∙ ap (λ (l : List TextOf). flat_map f (take i xs) ++ l) (append-nil (f x)))

pub named_more : {X : Type 0} (w : Readings) (f : X → List TextOf) (xs : List X) (i : ℕ) (x : X)
    (a b c : Named) → i < length xs → x ≡ get_or xs i x → Adds w (flat_map f (take i xs)) a b
    → Adds w (f x) b c → Adds w (flat_map f (take (i + 1) xs)) a c
named_more w f xs i x a b c within is first second = λ ys are.
    let before = flat_map f (take i xs) in
    subst (λ (l : List TextOf). AreNamed w l c)
    (append_assoc ys before (f x)
    ∙ ap (λ (l : List TextOf). ys ++ l) (sym (named_so_far f xs i x within is)))
    (second (ys ++ before) (first ys are))
