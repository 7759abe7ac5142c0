-- The parts of a document, one field at a time.
use Rattle.std.proofs.Common.{◌≡◌, ◌∙◌, ℕ, suc, ◌+◌, ◌<◌, List, [], ◌∷◌, ◌++◌, length, drop, take}
use Rattle.std.proofs.Common.{get_or, sym, ap, refl, arith, Bool, true, false, cond, append_assoc}
use Rattle.std.specs.Prelude.{map, filter, not, is_some}
use Rattle.std.specs.List.{prefix_len}
use Rattle.std.proofs.lemmas.List.{take_more, drop_more, map-append}
use Rattle.desk_fields.specs.declared.tag.Tag.{Tag}
use Rattle.desk_fields.specs.declared.tag.Tag.TheVariants as tags
use Rattle.desk_fields.specs.Tags.{same_tag}
use Rattle.desk_tagvalue.specs.declared.entries.Entry.{Entry}
use Rattle.desk_tagvalue.specs.Entries.{EntryText, entry_text}
use Rattle.desk_tagvalue.specs.Sections.{section_begun}
use Rattle.desk_tagvalue.specs.Faults.{begins}
use Rattle.desk_tagvalue.specs.Parts.{head_of, is_inside, Section, section_at, sections_of, parts_of, begins_with}

take_next : {X : Type 0} (n : ℕ) (b : X) (xs : List X) → take (1 + n) (b ∷ xs) ≡ b ∷ take n xs
take_next n b xs = let e : 1 + n ≡ suc n = omega arith in ap (λ k. take k (b ∷ xs)) e

pub head_inside : (e : EntryText) (es : List EntryText) → begins e ≡ false
    → head_of (e ∷ es) ≡ e ∷ head_of es
head_inside e es h =
    ap (λ b. take (cond (not b) (1 + prefix_len is_inside es) 0) (e ∷ es)) h
    ∙ take_next (prefix_len is_inside es) e es

-- the head of what is left, after what was passed over
pub head_step : (xs : List Entry) (i : ℕ) (d : Entry) (all : List EntryText) → i < length xs
    → begins (entry_text (get_or xs i d)) ≡ false
    → all ≡ map entry_text (take i xs) ++ head_of (map entry_text (drop i xs))
    → all ≡ map entry_text (take (i + 1) xs) ++ head_of (map entry_text (drop (i + 1) xs))
head_step xs i d all lt inside inv =
    let x = get_or xs i d in
    let rest = head_of (map entry_text (drop (i + 1) xs)) in
    inv ∙ ap (λ l. map entry_text (take i xs) ++ head_of (map entry_text l)) (drop_more xs i d lt)
    ∙ ap (λ l. map entry_text (take i xs) ++ l)
    (head_inside (entry_text x) (map entry_text (drop (i + 1) xs)) inside)
    ∙ sym (append_assoc (map entry_text (take i xs)) (entry_text x ∷ []) rest)
    ∙ ap (λ l. l ++ rest) (sym (map-append entry_text (take i xs) (x ∷ []))
    ∙ ap (map entry_text) (sym (take_more xs i d lt)))

-- which tags begin a section
pub package_begins : (t : Tag) → same_tag t tags.PackageName ≡ true
    → is_some (section_begun t) ≡ true
package_begins tags.PackageName h = refl
package_begins t h = absurd cc

pub file_begins : (t : Tag) → same_tag t tags.FileName ≡ true → is_some (section_begun t) ≡ true
file_begins tags.FileName h = refl
file_begins t h = absurd cc

pub snippet_begins : (t : Tag) → same_tag t tags.SnippetIdentifier ≡ true
    → is_some (section_begun t) ≡ true
snippet_begins tags.SnippetIdentifier h = refl
snippet_begins t h = absurd cc

pub licence_begins : (t : Tag) → same_tag t tags.LicenseIdentifier ≡ true
    → is_some (section_begun t) ≡ true
licence_begins tags.LicenseIdentifier h = refl
licence_begins t h = absurd cc

-- a part that begins here
pub part_here : {T : Type 0} (tag : Tag) (says : Section → T) (e : EntryText) (es : List EntryText)
    → same_tag e.tag tag ≡ true → begins e ≡ true
    → parts_of tag says (e ∷ es) ≡ says (section_at e es) ∷ parts_of tag says es
part_here tag says e es is begun =
    ap (λ b. map says (filter (begins_with tag)
    (cond b (section_at e es ∷ sections_of es) (sections_of es)))) begun
    ∙ ap (λ b. map says (cond b (section_at e es ∷ filter (begins_with tag) (sections_of es))
    (filter (begins_with tag) (sections_of es)))) is

pub no_part_here : {T : Type 0} (tag : Tag) (says : Section → T) (e : EntryText)
    (es : List EntryText) → same_tag e.tag tag ≡ false
    → parts_of tag says (e ∷ es) ≡ parts_of tag says es
no_part_here tag says e es is =
    let cases : (v : Bool) → begins e ≡ v → parts_of tag says (e ∷ es) ≡ parts_of tag says es =
    λ v. elim v as (λ v. begins e ≡ v → parts_of tag says (e ∷ es) ≡ parts_of tag says es) [
      | true ↦ λ begun.
          ap (λ b. map says (filter (begins_with tag)
          (cond b (section_at e es ∷ sections_of es) (sections_of es)))) begun
          ∙ ap (λ b. map says (cond b (section_at e es ∷ filter (begins_with tag) (sections_of es))
          (filter (begins_with tag) (sections_of es)))) is
      | false ↦ λ inside. ap (λ b. map says
          (filter (begins_with tag) (cond b (section_at e es ∷ sections_of es) (sections_of es))))
          inside
    ] in
    cases (begins e) refl
