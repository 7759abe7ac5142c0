-- What is left of a list, after one front and then another.
use Rattle.std.proofs.Common.{◌≡◌, ◌≢◌, List, [], ◌∷◌, ◌++◌, Some, None, refl, sym, ap, ◌∙◌, append_assoc, append-nil}
use Rattle.std.specs.Prelude.{Option}
use Rattle.std.proofs.lemmas.List.{append_cancel_left}
use Rattle.desk_audit_texts.specs.Left.{IsLeft}

pub left_on : {A : Type 0} (all front rows more : List A) (left : Option (List A))
    → all ≡ front ++ rows → IsLeft rows more left
    → IsLeft all (front ++ more) left
left_on all front rows more None e none =
    λ rest h. none rest (append_cancel_left front rows (more ++ rest)
    (sym e ∙ h ∙ append_assoc front more rest))
left_on all front rows more (Some rest) e h = e ∙ ap (λ l. front ++ l) h
    ∙ sym (append_assoc front more rest)

pub not_used_up : {A : Type 0} (all front : List A) (left : Option (List A)) → IsLeft all front left
    → left ≢ Some [] → all ≢ front
not_used_up all front None h more e = h [] (e ∙ sym (append-nil front))
not_used_up all front (Some []) h more e = more refl
not_used_up all front (Some (x ∷ xs)) h more e =
    let none : [] ≡ x ∷ xs = append_cancel_left front [] (x ∷ xs) (append-nil front ∙ sym e ∙ h) in
    cc
