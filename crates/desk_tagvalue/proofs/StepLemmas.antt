-- One more field.
use Rattle.std.proofs.Common.{◌≡◌, ◌∙◌, ◌+◌, List, [], ◌∷◌, ◌++◌, length, drop, sym, subst, ap}
use Rattle.std.proofs.Common.{arith, Bool, true, false, cond, Some, None, length-append}
use Rattle.std.specs.Prelude.{map, reverse, count_by, is_some}
use Rattle.std.proofs.lemmas.List.{reverse-append, map-append, drop-append-le}
use Rattle.std.proofs.Math.Seq.{drop-append_seam}
use Rattle.std.proofs.lemmas.List.Sums.{sum_by-cons}
use Rattle.desk_tagvalue.specs.declared.entries.Entry.{Entry}
use Rattle.desk_tagvalue.specs.declared.faults.Ids.{Ids}
use Rattle.desk_tagvalue.specs.declared.faults.Seen.{Seen}
use Rattle.desk_tagvalue.specs.declared.sections.SectionKind.{SectionKind}
use Rattle.desk_tagvalue.specs.Entries.{EntryText, entry_text}
use Rattle.desk_tagvalue.specs.Sections.{section_begun}
use Rattle.desk_tagvalue.specs.Faults.{begins, kind_of, kind_after, section}
use Rattle.desk_tagvalue.specs.Seen.{newest, HoldsIds, Knows}

pub newest_push : (xs : List Entry) (x : Entry) → newest (xs ++ (x ∷ [])) ≡ entry_text x ∷ newest xs
newest_push xs x = ap reverse (map-append entry_text xs (x ∷ []))
    ∙ reverse-append (map entry_text xs) (entry_text x ∷ [])

pub count_one : (e : EntryText) (es : List EntryText) (v : Bool) → begins e ≡ v
    → count_by begins (e ∷ es) ≡ cond v 1 0 + count_by begins es
count_one e es v h = sum_by-cons (λ x. cond (begins x) 1 0) e es
    ∙ ap (λ b. cond b 1 0 + count_by begins es) h

section_inside : (e : EntryText) (es : List EntryText) → begins e ≡ false
    → section (e ∷ es) ≡ e ∷ section es
section_inside e es h = ap (λ b. cond b (e ∷ []) (e ∷ section es)) h

section_new : (e : EntryText) (es : List EntryText) → begins e ≡ true → section (e ∷ es) ≡ e ∷ []
section_new e es h = ap (λ b. cond b (e ∷ []) (e ∷ section es)) h

-- a field inside a section
pub knows_inside : (before : List Entry) (x : Entry) (s : Seen) (ids : Ids) → Knows before s
    → section_begun x.tag ≡ None → HoldsIds (entry_text x ∷ newest before) ids
    → Knows (before ++ (x ∷ [])) (record {
      kind = s.kind;
      start = s.start;
      elements = s.elements;
      ids = ids;
    })
knows_inside before x s ids k none holds =
    let e = entry_text x in
    let bs = newest before in
    let push = newest_push before x in
    let inside : begins e ≡ false = ap is_some none in
    record {
      kind = k.kind ∙ ap (λ o. kind_after o (kind_of bs)) (sym none) ∙ ap kind_of (sym push);
      start = let h = k.start in let len = length-append before (x ∷ []) in omega arith;
      here = ap section push ∙ section_inside e bs inside ∙ ap (λ l. e ∷ l) k.here
          ∙ sym (newest_push (drop s.start before) x)
          ∙ ap newest (sym (drop-append-le s.start before (x ∷ []) k.start));
      elements = let c = count_one e bs false inside in let h = k.elements in
          let p = ap (count_by begins) push in omega arith;
      ids = subst (λ l. HoldsIds l ids) (sym push) holds;
    }

-- a field that begins a section
pub knows_begun : (before : List Entry) (x : Entry) (s : Seen) (ids : Ids) (kind : SectionKind)
    → Knows before s → section_begun x.tag ≡ Some kind → HoldsIds (entry_text x ∷ newest before) ids
    → Knows (before ++ (x ∷ [])) (record {
      kind = kind;
      start = length before;
      elements = s.elements + 1;
      ids = ids;
    })
knows_begun before x s ids kind k some holds =
    let e = entry_text x in
    let bs = newest before in
    let push = newest_push before x in
    let begun : begins e ≡ true = ap is_some some in
    record {
      kind = ap (λ o. kind_after o (kind_of bs)) (sym some) ∙ ap kind_of (sym push);
      start = let len = length-append before (x ∷ []) in omega arith;
      here = ap section push ∙ section_new e bs begun
          ∙ ap newest (sym (drop-append_seam before (x ∷ [])));
      elements = let c = count_one e bs true begun in let h = k.elements in
          let p = ap (count_by begins) push in omega arith;
      ids = subst (λ l. HoldsIds l ids) (sym push) holds;
    }
