-- The text of a reply that has rows is that of its rows, one by one.
use Rattle.std.proofs.Common.{◌≡◌, ℕ, List, [], ◌∷◌, ◌++◌, true, map, codes, append_assoc, refl, sym, ap, ◌∙◌}
use Rattle.std.specs.List.{flat_map}
use Rattle.std.proofs.lemmas.List.Folds.{flat_map-map}
use Rattle.desk_base.proofs.Lists.{append_four}
use Rattle.serde_json.specs.Data.{Data}
use Rattle.serde_json.specs.View.{items_of}
use Rattle.serde_json.specs.Written.{compact_text, items_text}
use Rattle.serde_json.proofs.OnLiterals.{serde_json_on_literals}
use Rattle.desk_json.specs.Replies.{rows_reply}
use Rattle.desk_json.specs.Rows.{behind_a_comma}

later_rows : (ds : List Data)
    → items_text true (items_of ds) ≡ flat_map behind_a_comma ds ++ 93 ∷ []
later_rows [] = refl
later_rows (d ∷ ds) = ap (λ text. 44 ∷ (compact_text d ++ text)) (later_rows ds)
    ∙ ap (λ text. 44 ∷ text) (sym (append_assoc (compact_text d) (flat_map behind_a_comma ds)
    (93 ∷ [])))

closed : (d : Data) (ds : List Data)
    → (compact_text d ++ (flat_map behind_a_comma ds ++ 93 ∷ [])) ++ 125 ∷ [] ≡ compact_text d
    ++ (flat_map behind_a_comma ds ++ codes "]}")
closed d ds =
    append_assoc (compact_text d) (flat_map behind_a_comma ds ++ 93 ∷ []) (125 ∷ [])
    ∙ ap (λ text. compact_text d ++ text)
    (append_assoc (flat_map behind_a_comma ds) (93 ∷ []) (125 ∷ []))

reply_text : (d : Data) (ds : List Data)
    → compact_text (rows_reply (d ∷ ds)) ≡ codes "{\"rows\":["
    ++ (compact_text d ++ (flat_map behind_a_comma ds ++ codes "]}"))
unfolding serde_json_on_literals
reply_text d ds =
    ap (λ text. codes "{\"rows\":[" ++ ((compact_text d ++ text) ++ 125 ∷ [])) (later_rows ds)
    ∙ ap (λ text. codes "{\"rows\":[" ++ text) (closed d ds)

-- what the text of such a reply is made of
pub reply_by_rows : {R : Type 0} (json : R → Data) (d : Data) (rows : List R)
    (front first opened filled text : List ℕ)
    → front ≡ codes "{\"rows\":[" → first ≡ compact_text d → opened ≡ front ++ first
    → filled ≡ opened ++ flat_map (λ row. behind_a_comma (json row)) rows
    → text ≡ filled ++ codes "]}"
    → text ≡ compact_text (rows_reply (d ∷ map json rows))
reply_by_rows json d rows front first opened filled text e1 e2 e3 e4 e5 =
    e5
    ∙ ap (λ t. t ++ codes "]}") (e4
    ∙ ap (λ t. t ++ flat_map (λ row. behind_a_comma (json row)) rows)
    (e3 ∙ ap (λ t. t ++ first) e1 ∙ ap (λ t. codes "{\"rows\":[" ++ t) e2))
    ∙ append_four (codes "{\"rows\":[") (compact_text d)
    (flat_map (λ row. behind_a_comma (json row)) rows) (codes "]}")
    ∙ ap (λ t. codes "{\"rows\":[" ++ (compact_text d ++ (t ++ codes "]}")))
    (sym (flat_map-map behind_a_comma json rows))
    ∙ sym (reply_text d (map json rows))

pub reply_of_none : codes "{\"rows\":[]}" ≡ compact_text (rows_reply [])
unfolding serde_json_on_literals
reply_of_none = refl
