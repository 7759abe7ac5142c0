-- Findings, field by field.
use Rattle.std.proofs.Common.{◌≡◌, ◌∙◌, ℕ, ◌+◌, ◌<◌, Bool, List, [], ◌∷◌, ◌++◌, length, take, drop}
use Rattle.std.proofs.Common.{get_or, ap, sym, append_assoc, append-nil}
use Rattle.std.specs.Prelude.{map}
use Rattle.std.specs.List.{flat_map}
use Rattle.desk_tagvalue.specs.declared.entries.Entry.{Entry}
use Rattle.desk_tagvalue.specs.declared.sections.SectionKind.{SectionKind}
use Rattle.desk_tagvalue.specs.Entries.{entry_text}
use Rattle.desk_tagvalue.specs.Faults.{kind_after}
use Rattle.desk_tagvalue.specs.Sections.{section_begun}
use Rattle.std.proofs.lemmas.List.{map_push, take_more}
use Rattle.std.proofs.lemmas.Grind.{flat_map-append}
use Rattle.desk_bom.proofs.LoopLemmas.{seen_more}
use Rattle.desk_model.specs.declared.finding.Finding.{Finding}
use Rattle.desk_model.specs.declared.finding.FindingKind.{FindingKind}
use Rattle.desk_findings.specs.Kinds.{noted}
use Rattle.desk_findings.specs.Fields.{FieldAt, fields_in, packages_after}

pub noted_as : (x y : List Finding) (a b : Bool) (m n : ℕ) (kind : FindingKind)
    → y ≡ x ++ noted a m kind → a ≡ b → m ≡ n → y ≡ x ++ noted b n kind
noted_as x y a b m n kind is same line = is ∙ ap (λ v. x ++ noted v m kind) same
    ∙ ap (λ l. x ++ noted b l kind) line

pub joined : (o a b c d e f g h i x1 x2 x3 x4 x5 x6 x7 x8 x9 : List Finding) → x1 ≡ o ++ a
    → x2 ≡ x1 ++ b → x3 ≡ x2 ++ c → x4 ≡ x3 ++ d → x5 ≡ x4 ++ e → x6 ≡ x5 ++ f → x7 ≡ x6 ++ g
    → x8 ≡ x7 ++ h → x9 ≡ x8 ++ i
    → x9 ≡ o ++ (a ++ (b ++ (c ++ (d ++ (e ++ (f ++ (g ++ (h ++ i))))))))
joined o a b c d e f g h i x1 x2 x3 x4 x5 x6 x7 x8 x9 p1 p2 p3 p4 p5 p6 p7 p8 p9 =
    p9 ∙ ap (λ l. l ++ i) (p8 ∙ ap (λ l. l ++ h)
    (p7 ∙ ap (λ l. l ++ g) (p6 ∙ ap (λ l. l ++ f)
    (p5 ∙ ap (λ l. l ++ e) (p4 ∙ ap (λ l. l ++ d)
    (p3 ∙ ap (λ l. l ++ c) (p2 ∙ ap (λ l. l ++ b) p1)))))))
    ∙ simp append_assoc

pub field_more : (gives : FieldAt → List Finding) (kind after : SectionKind) (p n : ℕ)
    (xs : List Entry) (i : ℕ) (d : Entry) (found new : List Finding) → i < length xs
    → after ≡ kind_after (section_begun (entry_text (get_or xs i d)).tag) kind
    → n ≡ packages_after p (entry_text (get_or xs i d))
    → new ≡ found ++ gives (record {
      section = after;
      packages = n;
      entry = entry_text (get_or xs i d);
    })
    → new ++ flat_map gives (fields_in after n (map entry_text (drop (i + 1) xs))) ≡ found
    ++ flat_map gives (fields_in kind p (map entry_text (drop i xs)))
field_more gives kind after p n xs i d found new inside is_after is_n is_new =
    let e = entry_text (get_or xs i d) in
    let rest = map entry_text (drop (i + 1) xs) in
    ap (λ l. l ++ flat_map gives (fields_in after n rest)) is_new
    ∙ append_assoc found (gives (record { section = after; packages = n; entry = e }))
    (flat_map gives (fields_in after n rest))
    ∙ ap (λ s. found ++ (gives (record { section = s; packages = n; entry = e })
    ++ flat_map gives (fields_in s n rest))) is_after
    ∙ ap (λ m. found ++ (gives (record {
      section = kind_after (section_begun e.tag) kind;
      packages = m;
      entry = e;
    }) ++ flat_map gives (fields_in (kind_after (section_begun e.tag) kind) m rest))) is_n
    ∙ ap (λ l. found ++ flat_map gives (fields_in kind p l))
    (sym (seen_more entry_text xs i d inside))

-- what one more item gives, after what those before it give
pub gathered_more : {X Y : Type 0} (view : X → Y) (gives : Y → List Finding) (xs : List X) (i : ℕ)
    (d : X) (start found new : List Finding) → i < length xs
    → found ≡ start ++ flat_map gives (map view (take i xs))
    → new ≡ found ++ gives (view (get_or xs i d))
    → new ≡ start ++ flat_map gives (map view (take (i + 1) xs))
gathered_more view gives xs i d start found new inside before is =
    let x = view (get_or xs i d) in
    let parted = ap (λ l. flat_map gives (map view l)) (take_more xs i d inside)
    ∙ ap (flat_map gives) (map_push view (take i xs) (get_or xs i d))
    ∙ (flat_map-append gives (map view (take i xs)) (x ∷ [])
    ∙ ap (λ l. flat_map gives (map view (take i xs)) ++ l) (append-nil (gives x))) in
    is ∙ ap (λ l. l ++ gives x) before
    ∙ append_assoc start (flat_map gives (map view (take i xs))) (gives x)
    ∙ ap (λ l. start ++ l) (sym parted)
