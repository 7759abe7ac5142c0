-- The lists, one item after another.
use Rattle.std.proofs.Common.{◌≡◌, ◌∙◌, ℕ, ◌+◌, ◌<◌, Bool, true, false, cond, not, List, [], ◌∷◌}
use Rattle.std.proofs.Common.{◌++◌, length, get_or, drop, map, sym, ap, refl, append_assoc}
use Rattle.std.specs.Prelude.{filter, ◌||◌}
use Rattle.std.proofs.lemmas.List.{drop_more}
use denote.Ref.{Bor}
use Rattle.desk_base.specs.Borrowed.{texts}
use Rattle.desk_base.specs.TextSets.{is_among}
use Rattle.desk_tree_lint.specs.declared.texts.LicenceText.{LicenceText}
use Rattle.desk_tree_lint.specs.Texts.{TextFile}
use Rattle.desk_tree_infos.specs.declared.infos.FileInfo.{FileInfo}
use Rattle.desk_tree_infos.specs.declared.infos.Outline.{Outline}
use Rattle.desk_tree_infos.specs.Sharing.{OutlineText, outline_of, outline_in}
use Rattle.desk_tree_lint.specs.Lists.{missing, unused, is_bare, bare, bare_in}
use Rattle.desk_tree_lint.specs.Shown.{only, text_in, texts_in}

key_kept : (b : Bool) (x text : List ℕ) (rest : List (List ℕ)) → text ≡ x
    → only b text ++ rest ≡ cond b (x ∷ rest) rest
key_kept true x text rest is = ap (λ t. t ∷ rest) is
key_kept false x text rest is = refl

pub missing_more : (used : List (Bor (List ℕ))) (listed : List TextFile) (i : ℕ)
    (d : Bor (List ℕ)) (done : List (List ℕ)) (b : Bool) (text : List ℕ) → i < length used
    → text ≡ (get_or used i d).now → b ≡ not (is_among (map (λ (t : TextFile). t.key) listed)
    (get_or used i d).now)
    → (done ++ only b text) ++ missing (texts (drop (i + 1) used)) listed ≡ done
    ++ missing (texts (drop i used)) listed
missing_more used listed i d done b text within is lacks =
    let rest = missing (texts (drop (i + 1) used)) listed in
    let x = (get_or used i d).now in
    append_assoc done (only b text) rest
    ∙ ap (λ l. done ++ l) (key_kept b x text rest is ∙ ap (λ t. cond t (x ∷ rest) rest) lacks
    ∙ sym (ap (λ l. missing (texts l) listed) (drop_more used i d within)))

path_kept : (b : Bool) (x : TextFile) (path : List ℕ) (rest : List TextFile) → path ≡ x.path
    → only b path ++ map (λ (t : TextFile). t.path) rest
    ≡ map (λ (t : TextFile). t.path) (cond b (x ∷ rest) rest)
path_kept true x path rest is = ap (λ t. t ∷ map (λ (t : TextFile). t.path) rest) is
path_kept false x path rest is = refl

pub unused_more : (used : List (List ℕ)) (listed : List LicenceText) (i : ℕ) (d : LicenceText)
    (done : List (List ℕ)) (b : Bool) (path : List ℕ) → i < length listed
    → path ≡ (text_in (get_or listed i d)).path
    → b ≡ not (is_among used (text_in (get_or listed i d)).key)
    → (done ++ only b path) ++ unused used (texts_in (drop (i + 1) listed)) ≡ done
    ++ unused used (texts_in (drop i listed))
unused_more used listed i d done b path within is needless =
    let rest = filter (λ (t : TextFile). not (is_among used t.key))
    (texts_in (drop (i + 1) listed)) in
    let x = text_in (get_or listed i d) in
    append_assoc done (only b path) (map (λ (t : TextFile). t.path) rest)
    ∙ ap (λ l. done ++ l) (path_kept b x path rest is
    ∙ ap (λ t. map (λ (t : TextFile). t.path) (cond t (x ∷ rest) rest)) needless
    ∙ sym (ap (λ l. unused used (texts_in l)) (drop_more listed i d within)))

outline_kept : (b : Bool) (x : OutlineText) (path : List ℕ) (rest : List OutlineText)
    → path ≡ x.path
    → only b path ++ map (λ (o : OutlineText). o.path) rest
    ≡ map (λ (o : OutlineText). o.path) (cond b (x ∷ rest) rest)
outline_kept true x path rest is = ap (λ t. t ∷ map (λ (o : OutlineText). o.path) rest) is
outline_kept false x path rest is = refl

pub bare_more : (outlines : List Outline) (i : ℕ) (d : Outline) (done : List (List ℕ)) (b : Bool)
    (path : List ℕ) → i < length outlines
    → path ≡ (get_or outlines i d).path.now
    → b ≡ ((get_or outlines i d).no_notice || (get_or outlines i d).no_licence)
    → (done ++ only b path) ++ bare_in (map outline_in (drop (i + 1) outlines)) ≡ done
    ++ bare_in (map outline_in (drop i outlines))
bare_more outlines i d done b path within is lacks =
    let rest = filter (λ (o : OutlineText). o.no_notice || o.no_licence)
    (map outline_in (drop (i + 1) outlines)) in
    let x = outline_in (get_or outlines i d) in
    append_assoc done (only b path) (map (λ (o : OutlineText). o.path) rest)
    ∙ ap (λ l. done ++ l) (outline_kept b x path rest is
    ∙ ap (λ t. map (λ (o : OutlineText). o.path) (cond t (x ∷ rest) rest)) lacks
    ∙ sym (ap (λ l. bare_in (map outline_in l)) (drop_more outlines i d within)))

one_bare : (b : Bool) (info : FileInfo) (outlines : List OutlineText) (infos : List FileInfo)
    → map (λ (o : OutlineText). o.path) outlines ≡ map (λ (i : FileInfo). i.path) infos
    → map (λ (o : OutlineText). o.path) (cond b (outline_of info ∷ outlines) outlines)
    ≡ map (λ (i : FileInfo). i.path) (cond b (info ∷ infos) infos)
one_bare true info outlines infos is = ap (λ l. info.path ∷ l) is
one_bare false info outlines infos is = is

pub bare-outlined : (infos : List FileInfo) → bare_in (map outline_of infos) ≡ bare infos
bare-outlined [] = refl
bare-outlined (info ∷ infos) =
    one_bare (is_bare info) info (filter (λ (o : OutlineText). o.no_notice || o.no_licence)
    (map outline_of infos)) (filter is_bare infos) (bare-outlined infos)
