-- What filling finds, and what it leaves as it is.
use Rattle.std.proofs.Common.{◌≡◌, ◌∙◌, ℕ, ◌+◌, Bool, true, false, cond, List, [], ◌∷◌}
use Rattle.std.proofs.Common.{map, Option, Some, None, sym, ap, subst, refl, arith, inl, inr}
use Rattle.std.specs.Prelude.{Contains, IsSomeAnd, count_by, find, option_map}
use Rattle.std.specs.List.{flat_map}
use Rattle.std.specs.Option.{option_or}
use Rattle.std.proofs.lemmas.Bool.{cond-false, cond-true}
use Rattle.std.proofs.lemmas.List.Sums.{sum_by-cons}
use Rattle.desk_base.proofs.Lists.{contains_cases}
use Rattle.desk_base.proofs.SortedOnce.{is_head, is_later}
use Rattle.desk_model.specs.declared.bill.Bill.{Bill}
use Rattle.desk_model.specs.declared.bill.BillLine.{BillLine}
use Rattle.desk_model.specs.declared.bill.BillText.{BillText}
use Rattle.desk_model.specs.declared.reading.LicenceText.{LicenceText}
use Rattle.desk_fill.specs.declared.fill.Credit.{Credit}
use Rattle.desk_fill.specs.declared.fill.Fill.{Fill}
use Rattle.desk_fill.specs.Filling.{credit_for, filled, filled_line, filled_text, fits, gaps_of, is_text_of, lacks_body}
use Rattle.desk_fill.specs.Filling.{lacks_credit, text_for}

-- ---- what stays

none_of : (b : Bool) (n : ℕ) → cond b 1 0 + n ≡ 0 → (b ≡ false) × (n ≡ 0)
none_of true n e = absurd (omega arith)
none_of false n e = (refl, omega arith)

all_stay : {X : Type 0} (p : X → Bool) (f : X → X) → ((x : X) → p x ≡ false → f x ≡ x)
    → (xs : List X) → count_by p xs ≡ 0 → map f xs ≡ xs
all_stay p f stays [] none = refl
all_stay p f stays (x ∷ xs) none =
    let both : (p x ≡ false) × (count_by p xs ≡ 0) = none_of (p x) (count_by p xs)
    (sym (sum_by-cons (λ y. cond (p y) 1 0) x xs) ∙ none) in
    (λ i. stays x both.0 i ∷ all_stay p f stays xs both.1 i)

all_twice : {X : Type 0} (f : X → X) → ((x : X) → f (f x) ≡ f x) → (xs : List X)
    → map f (map f xs) ≡ map f xs
all_twice f twice [] = refl
all_twice f twice (x ∷ xs) = λ i. twice x i ∷ all_twice f twice xs i

or_twice : {X : Type 0} (o p : Option X) → option_or o (option_or o p) ≡ option_or o p
or_twice None p = refl
or_twice (Some x) p = refl

module _ (fills : List Fill) where
  abbrev line_with : BillLine → BillLine
  line_with line = record line { copyright = option_or (credit_for fills line) line.copyright }

  abbrev text_with : BillText → BillText
  text_with text = record text { body = option_or (text_for fills text.title) text.body }

  pub line_stays : (line : BillLine) → lacks_credit line ≡ false → filled_line fills line ≡ line
  line_stays line given = cond-false (lacks_credit line) (line_with line) line given

  pub text_stays : (text : BillText) → lacks_body text ≡ false → filled_text fills text ≡ text
  text_stays text given = cond-false (lacks_body text) (text_with text) text given

  line_twice : (line : BillLine) → filled_line fills (filled_line fills line) ≡ filled_line fills line
  line_twice line = go (lacks_credit line) refl
    where
      again : (b : Bool) → cond b (line_with (line_with line)) (line_with line) ≡ line_with line
      again false = refl
      again true = λ i. record line { copyright = or_twice (credit_for fills line) line.copyright i }

      go : (b : Bool) → lacks_credit line ≡ b
          → filled_line fills (filled_line fills line) ≡ filled_line fills line
      go false is = ap (filled_line fills) (line_stays line is)
      go true is =
          let put = cond-true (lacks_credit line) (line_with line) line is in
          ap (filled_line fills) put ∙ again (lacks_credit (line_with line)) ∙ sym put

  text_twice : (text : BillText) → filled_text fills (filled_text fills text) ≡ filled_text fills text
  text_twice text = go (lacks_body text) refl
    where
      again : (b : Bool) → cond b (text_with (text_with text)) (text_with text) ≡ text_with text
      again false = refl
      again true = λ i. record text { body = or_twice (text_for fills text.title) text.body i }

      go : (b : Bool) → lacks_body text ≡ b
          → filled_text fills (filled_text fills text) ≡ filled_text fills text
      go false is = ap (filled_text fills) (text_stays text is)
      go true is =
          let put = cond-true (lacks_body text) (text_with text) text is in
          ap (filled_text fills) put ∙ again (lacks_body (text_with text)) ∙ sym put

  pub bill_twice : (bill : Bill) → filled fills (filled fills bill) ≡ filled fills bill
  bill_twice bill = λ i. record bill {
    lines = all_twice (filled_line fills) line_twice bill.lines i;
    texts = all_twice (filled_text fills) text_twice bill.texts i;
  }

  pub bill_stays : (bill : Bill) → (gaps_of bill).credits ≡ 0 → (gaps_of bill).texts ≡ 0
      → filled fills bill ≡ bill
  bill_stays bill credits texts = λ i. record bill {
    lines = all_stay lacks_credit (filled_line fills) line_stays bill.lines credits i;
    texts = all_stay lacks_body (filled_text fills) text_stays bill.texts texts i;
  }

  pub names_stay : (line : BillLine) → ((filled_line fills line).name ≡ line.name)
      × ((filled_line fills line).version ≡ line.version)
      × ((filled_line fills line).rules ≡ line.rules)
  names_stay line = go (lacks_credit line)
    where
      go : (b : Bool) → ((cond b (line_with line) line).name ≡ line.name)
          × ((cond b (line_with line) line).version ≡ line.version)
          × ((cond b (line_with line) line).rules ≡ line.rules)
      go true = (refl, refl, refl)
      go false = (refl, refl, refl)

  pub titles_stay : (text : BillText) → (filled_text fills text).title ≡ text.title
  titles_stay text = go (lacks_body text)
    where
      go : (b : Bool) → (cond b (text_with text) text).title ≡ text.title
      go true = refl
      go false = refl

-- ---- what is filled

by_case : {X : Type 0} (p : X → Bool) (y : X) (ys : List X) (b : Bool) → p y ≡ b
    → (b ≡ false → IsSomeAnd (find p ys) (λ x. Contains ys x × (p x ≡ true)))
    → IsSomeAnd (cond b (Some y) (find p ys)) (λ x. Contains (y ∷ ys) x × (p x ≡ true))
by_case p y ys true is later = (is_head y ys, is)
by_case {X = X} p y ys false is later = weaker (find p ys) (later refl)
  where
    weaker : (o : Option X) → IsSomeAnd o (λ x. Contains ys x × (p x ≡ true))
        → IsSomeAnd o (λ x. Contains (y ∷ ys) x × (p x ≡ true))
    weaker None h = h
    weaker (Some x) h = (is_later y ys x h.0, h.1)

find_met : {X : Type 0} (p : X → Bool) (xs : List X) (x : X) → Contains xs x → p x ≡ true
    → IsSomeAnd (find p xs) (λ y. Contains xs y × (p y ≡ true))
find_met p [] x at is = absurd (let within = at.1 in omega (arith, within))
find_met p (y ∷ ys) x at is = by_case p y ys (p y) refl (λ differs. elim (contains_cases y ys x at) [
  | inl same ↦ absurd (let e : true ≡ false = sym is ∙ ap p (sym same) ∙ differs in cc)
  | inr later ↦ find_met p ys x later is
])

-- what is found is said
said : {X : Type 0} (p : X → Bool) (say : X → List ℕ) (xs : List X) (o : Option X) (old : Option (List ℕ))
    → IsSomeAnd o (λ y. Contains xs y × (p y ≡ true))
    → IsSomeAnd (option_or (option_map say o) old)
    (λ text. (y : X) × Contains xs y × (p y ≡ true) × (text ≡ say y))
said p say xs None old h = absurd h
said p say xs (Some y) old h = (y, h.0, h.1, refl)

pub credit_filled : (fills : List Fill) (line : BillLine) (credit : Credit)
    → Contains (flat_map (λ fill. fill.credits) fills) credit → fits line credit ≡ true
    → lacks_credit line ≡ true → IsSomeAnd (filled_line fills line).copyright (λ text.
    (found : Credit) × Contains (flat_map (λ fill. fill.credits) fills) found
    × (fits line found ≡ true) × (text ≡ found.text))
credit_filled fills line credit at is gap =
    let all = flat_map (λ (fill : Fill). fill.credits) fills in
    let Met = λ (l : BillLine). IsSomeAnd l.copyright (λ text.
    (found : Credit) × Contains all found × (fits line found ≡ true) × (text ≡ found.text)) in
    subst Met (sym (cond-true (lacks_credit line) (line_with fills line) line gap))
    (said (fits line) (λ (c : Credit). c.text) all (find (fits line) all) line.copyright
    (find_met (fits line) all credit at is))

pub text_filled : (fills : List Fill) (text : BillText) (own : LicenceText)
    → Contains (flat_map (λ fill. fill.texts) fills) own → is_text_of text.title own ≡ true
    → lacks_body text ≡ true → IsSomeAnd (filled_text fills text).body (λ body.
    (found : LicenceText) × Contains (flat_map (λ fill. fill.texts) fills) found
    × (is_text_of text.title found ≡ true) × (body ≡ found.body))
text_filled fills text own at is gap =
    let all = flat_map (λ (fill : Fill). fill.texts) fills in
    let same = is_text_of text.title in
    let Met = λ (t : BillText). IsSomeAnd t.body (λ body.
    (found : LicenceText) × Contains all found × (same found ≡ true) × (body ≡ found.body)) in
    subst Met (sym (cond-true (lacks_body text) (text_with fills text) text gap))
    (said same (λ (t : LicenceText). t.body) all (find same all) text.body
    (find_met same all own at is))
