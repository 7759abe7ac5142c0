-- Rows and their parts, as lines and as the items of a JSON array.
use Rattle.std.proofs.Common.{◌≡◌, ◌∙◌, ℕ, List, [], ◌∷◌, ◌++◌, false, map, ap, sym, refl, append_assoc, Option}
use Rattle.std.proofs.Common.{Some, None, IsUtf8}
use Rattle.std.specs.Prelude.{IfSome, codes, decimal, option_map}
use Rattle.std.proofs.lemmas.List.{append-nil}
use Rattle.std.proofs.lemmas.List.Concat.{flat_map-append}
use denote.Ref.{Bor}
use Rattle.json.specs.Print.{print, print_from, quoted, escape, escape_byte}
use Rattle.json.specs.Token.{Token, begin_object, key, string}
use Rattle.serde_json.specs.View.{items_of}
use Rattle.serde_json.specs.Written.{compact_text, items_text}
use Rattle.desk_tree_lint.specs.declared.naming.Name.{Name}
use Rattle.desk_tree_problems.specs.declared.row.Row.{Row}
use Rattle.desk_tree_reports.specs.declared.telling.Form.TheVariants.{Json}
use Rattle.desk_tree_reports.specs.declared.ways.Way.{Way}
use Rattle.desk_tree_reports.specs.declared.ways.Way.TheVariants as way
use Rattle.desk_tree_reports.specs.Items.{line_value, row_json, line_token, line_text, row_front, path_member}
use Rattle.desk_tree_reports.specs.Items.{missing_front, missing_end, row_value}
use Rattle.desk_base.specs.Terminal.{shown}
use Rattle.desk_base.proofs.Lists.{append_four}
use Rattle.desk_tree_reports.specs.Lines.{row_line}
use Rattle.desk_tree_reports.specs.Pieces.{share_text}
use Rattle.desk_tree_reports.specs.Reports.{json_text}
use Rattle.desk_tree_problems.specs.Rows.{kind_name, named_words, text_words, missing_row}
use Rattle.desk_tree_reports.specs.Telling.{rows_text}
use Rattle.desk_tree_reports.specs.Ways.{rendered}
use Rattle.desk_tree_reports.proofs.ShownLemmas.{front_shown, message_shown, shown_parts}
use Rattle.desk_tree_reports.proofs.TellingLemmas.{items_are}

-- ---- an item up to its path

front_at : (kind message : List ℕ) (line : Option ℕ)
    → print (begin_object ∷ key (codes "kind") ∷ string kind ∷ key (codes "line") ∷ line_token line
    ∷ key (codes "message") ∷ string message ∷ [])
    ≡ codes "{\"kind\":" ++ (quoted kind ++ (codes ",\"line\":"
    ++ (line_text line ++ (codes ",\"message\":" ++ quoted message))))
unfolding print_from escape_byte
front_at kind message None = ap (λ l. codes "{\"kind\":" ++ (quoted kind ++ (codes ",\"line\":"
    ++ (codes "null" ++ (codes ",\"message\":" ++ l))))) (append-nil (quoted message))
front_at kind message (Some line) = ap (λ l. codes "{\"kind\":" ++ (quoted kind
    ++ (codes ",\"line\":" ++ (decimal line ++ (codes ",\"message\":" ++ l)))))
    (append-nil (quoted message))

-- what is printed if these tokens are added one after another
pub front_printed : (row : Row) (a b c d e f : List Token) → a ≡ []
    → b ≡ a ++ begin_object ∷ []
    → c ≡ b ++ key (codes "kind") ∷ string (kind_name row.kind) ∷ []
    → d ≡ c ++ key (codes "line") ∷ [] → e ≡ d ++ line_token row.line ∷ []
    → f ≡ e ++ key (codes "message") ∷ string row.message ∷ [] → print f ≡ row_front row
unfolding row_front
front_printed row a b c d e f is to_b to_c to_d to_e to_f =
    ap print (to_f ∙ ap (λ l. l ++ key (codes "message") ∷ string row.message ∷ [])
    (to_e ∙ ap (λ l. l ++ line_token row.line ∷ [])
    (to_d ∙ ap (λ l. l ++ key (codes "line") ∷ [])
    (to_c ∙ ap (λ l. l ++ key (codes "kind") ∷ string (kind_name row.kind) ∷ [])
    (to_b ∙ ap (λ l. l ++ begin_object ∷ []) is)))))
    ∙ front_at (kind_name row.kind) row.message row.line

pub text_printed : (text : List ℕ) → print (string text ∷ []) ≡ quoted text
unfolding print_from
text_printed text = append-nil (quoted text)

-- ---- an item whole

line_is : (line : Option ℕ) → compact_text (line_value line) ≡ line_text line
line_is None = refl
line_is (Some line) = refl

joined : (k f l g m x : List ℕ)
    → (k ++ (f ++ (l ++ (g ++ m)))) ++ x ≡ k ++ (f ++ (l ++ (g ++ (m ++ x))))
joined k f l g m x =
    append_assoc k (f ++ (l ++ (g ++ m))) x
    ∙ ap (λ y. k ++ y) (append_assoc f (l ++ (g ++ m)) x
    ∙ ap (λ y. f ++ y) (append_assoc l (g ++ m) x ∙ ap (λ y. l ++ y) (append_assoc g m x)))

pub item_is : (row : Row) → row_front row ++ path_member row.path ≡ row_json row
unfolding row_json row_front path_member escape_byte
item_is row =
    let rest = codes ",\"path\":" ++ (quoted row.path ++ codes "}") in
    ap (λ l. codes "{\"kind\":" ++ l) (joined (quoted (kind_name row.kind)) (codes ",\"line\":")
    (line_text row.line) (codes ",\"message\":") (quoted row.message) rest)
    ∙ ap (λ l. codes "{\"kind\":" ++ (quoted (kind_name row.kind) ++ (codes ",\"line\":" ++ (l
    ++ (codes ",\"message\":" ++ (quoted row.message ++ rest)))))) (sym (line_is row.line))

-- ---- a text that is missing

escaped_named : (path : Option (List ℕ)) → escape (named_words path)
    ≡ share_text (option_map (rendered way.NamedItem) path)
escaped_named None = refl
escaped_named (Some path) = refl

pub missing_item_is : (name : Name) → missing_front
    ++ (escape name.id ++ (share_text (option_map (rendered way.NamedItem) name.path)
    ++ (escape (text_words name.id) ++ missing_end)))
    ≡ codes "," ++ row_json (missing_row name)
unfolding row_json missing_front missing_end escape_byte
missing_item_is name =
    let id = name.id in
    let named = named_words name.path in
    let words = text_words id in
    let end = codes "\",\"path\":\"LICENSES/\"}" in
    ap (λ l. codes ",{\"kind\":\"Missing\",\"line\":null,\"message\":\"no text of " ++ l)
    (ap (λ l. escape id ++ (l ++ (escape words ++ end))) (sym (escaped_named name.path))
    ∙ ap (λ l. escape id ++ l) (sym (append_assoc (escape named) (escape words) end))
    ∙ sym (append_assoc (escape id) (escape named ++ escape words) end)
    ∙ ap (λ l. l ++ end) (ap (λ l. escape id ++ l) (sym (flat_map-append escape_byte named words))
    ∙ sym (flat_map-append escape_byte id (named ++ words)))
    ∙ sym (append_assoc (escape (id ++ (named ++ words))) (34 ∷ [])
    (codes ",\"path\":\"LICENSES/\"}")))

pub missing_line_is : (name : Name) → IsUtf8 name.id → IfSome name.path IsUtf8
    → (codes "LICENSES/: no text of " ++ shown name.id)
    ++ (share_text (option_map (rendered way.NamedLine) name.path)
    ++ (shown (text_words name.id) ++ codes "\n"))
    ≡ row_line (missing_row name)
missing_line_is name id_text path_text =
    let id = name.id in
    let named = share_text (option_map (rendered way.NamedLine) name.path) in
    let words = shown (text_words id) in
    ap (λ l. codes "LICENSES/: no text of " ++ l)
    (ap (λ l. shown id ++ l) (sym (append_assoc named words (codes "\n")))
    ∙ sym (append_assoc (shown id) (named ++ words) (codes "\n"))
    ∙ ap (λ l. l ++ codes "\n") (sym (shown_parts id name.path id_text path_text)))
    ∙ sym (λ i. front_shown i ++ (codes ": "
    ++ (message_shown (id ++ (named_words name.path ++ text_words id)) i ++ codes "\n")))

-- what is kept of the file that names a licence
pub named_is : (w : Way) (path : Option (Bor (List ℕ)))
    → share_text (option_map (λ (p : Bor (List ℕ)). rendered w p.now) path)
    ≡ share_text (option_map (rendered w) (option_map (λ (p : Bor (List ℕ)). p.now) path))
named_is w None = refl
named_is w (Some path) = refl

pub added_five : (old front id named words end : List ℕ)
    → ((((old ++ front) ++ id) ++ named) ++ words) ++ end
    ≡ old ++ (front ++ (id ++ (named ++ (words ++ end))))
added_five old front id named words end =
    append_assoc (((old ++ front) ++ id) ++ named) words end
    ∙ append_four (old ++ front) id named (words ++ end)
    ∙ append_assoc old front (id ++ (named ++ (words ++ end)))

-- ---- the whole

regroup : (f d g r : List ℕ) → ((f ++ (d ++ g)) ++ r) ++ 93 ∷ 125 ∷ 10 ∷ []
    ≡ (f ++ (d ++ (g ++ ((r ++ 93 ∷ []) ++ 125 ∷ [])))) ++ 10 ∷ []
regroup f d g r =
    let all = 93 ∷ 125 ∷ 10 ∷ [] in
    let items = (r ++ 93 ∷ []) ++ 125 ∷ [] in
    append_assoc (f ++ (d ++ g)) r all ∙ append_assoc f (d ++ g) (r ++ all)
    ∙ ap (λ l. f ++ l) (append_assoc d g (r ++ all))
    ∙ sym (append_assoc f (d ++ (g ++ items)) (10 ∷ [])
    ∙ ap (λ l. f ++ l) (append_assoc d (g ++ items) (10 ∷ [])
    ∙ ap (λ l. d ++ l) (append_assoc g items (10 ∷ [])
    ∙ ap (λ l. g ++ l) (append_assoc (r ++ 93 ∷ []) (125 ∷ []) (10 ∷ [])
    ∙ append_assoc r (93 ∷ []) (125 ∷ 10 ∷ [])))))

pub json_is : (rows : List Row) (covered : ℕ) (front text new : List ℕ)
    → front ≡ codes "{\"covered\":" ++ (decimal covered ++ codes ",\"problems\":[")
    → text ≡ front ++ rows_text Json false rows → new ≡ text ++ codes "]}\n"
    → new ≡ json_text rows covered
unfolding escape_byte
json_is rows covered front text new is to_text to_new =
    let head = codes "{\"covered\":" in
    let middle = codes ",\"problems\":[" in
    to_new ∙ ap (λ l. l ++ codes "]}\n") (to_text ∙ ap (λ l. l ++ rows_text Json false rows) is)
    ∙ regroup head (decimal covered) middle (rows_text Json false rows)
    ∙ ap (λ l. (head ++ (decimal covered ++ (middle ++ (l ++ 125 ∷ [])))) ++ 10 ∷ [])
    (items_are false rows)
