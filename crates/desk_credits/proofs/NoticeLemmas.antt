-- Notices, and one more.
use Rattle.std.proofs.Common.{◌≡◌, ◌∙◌, ℕ, Bool, true, false, cond, List, [], ◌∷◌, ◌++◌, ap, refl, sym, subst}
use Rattle.std.proofs.Common.{◌+◌, append_assoc, Option, Some, None}
use Rattle.std.specs.Prelude.{◌||◌}
use Rattle.std.specs.Str.{bytes_eq}
use Rattle.std.specs.List.{cons_option}
use Rattle.std.specs.Option.{option_to_list}
use Rattle.std.proofs.lemmas.List.Elements.{filter_map-append}
use Rattle.desk_base.proofs.Bools.{cond_or}
use Rattle.desk_base.specs.Lines.{CutsInto, IsLine, LineText}
use Rattle.desk_credits.specs.declared.notice.Notice.{Notice}
use Rattle.desk_credits.specs.Finding.{found_at, found_on}
use Rattle.desk_credits.specs.Notices.{is_known, with_notice, with_notices}

pub with_notices-append : (ns a b : List Notice)
    → with_notices ns (a ++ b) ≡ with_notices (with_notices ns a) b
with_notices-append ns [] b = refl
with_notices-append ns (n ∷ a) b = with_notices-append (with_notice ns n) a b

either : (b c d : Bool) → (b || cond c true d) ≡ cond c true (b || d)
either true true d = refl
either true false d = refl
either false c d = refl

-- one more notice is known
pub is_known-push : (ns : List Notice) (n : Notice) (text : List ℕ)
    → is_known (ns ++ n ∷ []) text ≡ cond (bytes_eq n.text text) true (is_known ns text)
is_known-push [] n text = sym (cond_or (bytes_eq n.text text) false)
is_known-push (m ∷ ns) n text = ap (λ b. bytes_eq m.text text || b) (is_known-push ns n text)
    ∙ either (bytes_eq m.text text) (bytes_eq n.text text) (is_known ns text)

-- ---- the notices of lines

one_found : (o : Option Notice) → cons_option o [] ≡ option_to_list o
one_found None = refl
one_found (Some n) = refl

found_push : (path : List ℕ) (before : List LineText) (line : LineText)
    → found_on path (before ++ line ∷ []) ≡ found_on path before ++ option_to_list (found_at path line)
found_push path before line = filter_map-append (found_at path) before (line ∷ [])
    ∙ ap (λ ns. found_on path before ++ ns) (one_found (found_at path line))

-- the notice of one more line
pub line_added : (path : List ℕ) (old had new : List Notice) (before : List LineText) (line : LineText)
    → had ≡ with_notices old (found_on path before)
    → new ≡ with_notices had (option_to_list (found_at path line))
    → new ≡ with_notices old (found_on path (before ++ line ∷ []))
line_added path old had new before line were adds =
    let here = option_to_list (found_at path line) in
    adds ∙ ap (λ ns. with_notices ns here) were
    ∙ sym (with_notices-append old (found_on path before) here)
    ∙ ap (with_notices old) (sym (found_push path before line))

-- the lines of what is behind one more line complete all lines
pub cut_on : (number : ℕ) (bytes rest after : List ℕ) (before : List LineText) (line : LineText)
    → ((more : List LineText) → CutsInto number rest more → CutsInto 1 bytes (before ++ more))
    → line.number ≡ number → IsLine rest line.text line.end after
    → (more : List LineText) → CutsInto (number + 1) after more
    → CutsInto 1 bytes ((before ++ line ∷ []) ++ more)
cut_on number bytes rest after before line goes numbered is more cuts =
    subst (CutsInto 1 bytes) (sym (append_assoc before (line ∷ []) more))
    (goes (line ∷ more) (after, numbered, is, cuts))
