-- Tests of texts, by the calls that make them.
use Rattle.std.proofs.Common.{◌≡◌, ◌∙◌, ℕ, List, length, drop, sym, subst, ap, arith}
use Rattle.std.proofs.Common.{Bool, true, false, Option, Some, None, eqb}
use Rattle.std.specs.Prelude.{◌↔◌, IfNone, IfSome, IsTrue, MatchOption, nat_lt}
use Rattle.std.specs.List.{starts_with, list_all}
use Rattle.std.specs.Str.Pattern.{FindsTextPrefix, StripsPrefix}
use Rattle.std.specs.Str.{IsCharBoundary}
use Rattle.std.proofs.lemmas.Str.Pattern.{starts_text}
use Rattle.std.proofs.lemmas.Bool.Decides.{same_from_decides, nat_tests}
use Rattle.std.proofs.lemmas.Bool.{and_parts, and_from}
use denote.Ref.{Bor}
use Rattle.desk_base.specs.Idstring.{is_idstring_byte, IsIdstring}
use Rattle.desk_base.proofs.Lists.{all_test, test_all}
use Rattle.desk_tagvalue.specs.Ids.{is_id}

abbrev pub Strips : List ℕ → List ℕ → Option (Bor (List ℕ)) → Type 0
Strips p s r = MatchOption r (FindsTextPrefix p s None)
    (λ x. StripsPrefix (FindsTextPrefix p) s x.now)

pub behind_none : (p s : List ℕ) (r : Option (Bor (List ℕ))) → Strips p s r
    → IfNone r (starts_with eqb s p ≡ false)
behind_none p s None h = sym (starts_text false p s h)
behind_none p s (Some x) h = tt

pub behind_some : (p s : List ℕ) (r : Option (Bor (List ℕ))) → Strips p s r
    → IfSome r (λ x. starts_with eqb s p ≡ true)
behind_some p s None h = tt
behind_some p s (Some x) h = sym (starts_text true p s
    (h.0, h.1, subst (IsCharBoundary s) (sym h.1.0) h.1.2))

pub behind_rest : (p s : List ℕ) (r : Option (Bor (List ℕ))) → Strips p s r
    → IfSome r (λ x. x.now ≡ drop (length p) s)
behind_rest p s None h = tt
behind_rest p s (Some x) h = h.2 ∙ ap (λ n. drop n s) h.1.0

pub id_test : (r : Bool) (text : List ℕ) → IsTrue r ↔ IsIdstring text → r ≡ is_id text
id_test r text h =
    same_from_decides {P = IsIdstring text} r (is_id text) (h.0, h.1) (
      λ e. let parts = and_parts (nat_lt 0 (length text)) (list_all is_idstring_byte text) e in
          (let some = parts.0 in grind (arith, nat_tests), test_all is_idstring_byte text parts.1),
      λ is. and_from (nat_lt 0 (length text)) (list_all is_idstring_byte text)
          (let some = is.0 in grind (arith, nat_tests)) (all_test is_idstring_byte text is.1),
    )
