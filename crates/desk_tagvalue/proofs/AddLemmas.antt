-- Lines added one after another.
use Rattle.std.proofs.Common.{◌≡◌, ◌∙◌, ℕ, ◌+◌, ◌-◌, ◌<◌, List, [], ◌++◌, length, get_or, drop, sym}
use Rattle.std.proofs.Common.{subst, ap, arith, inl, inr, append_assoc, append-nil, length-append}
use Rattle.std.specs.Prelude.{All, codes}
use Rattle.std.specs.Fmt.{decimal}
use Rattle.hex.specs.Hex.{encode_lower}
use Rattle.std.proofs.lemmas.Grind.{flat_map-append}
use Rattle.std.proofs.lemmas.List.{get_or_append_left, drop_more}
use Rattle.std.proofs.lemmas.List.Elements.{All-append, All-nil}
use Rattle.std.proofs.Math.Seq.{get_or-append_right}
use Rattle.desk_tagvalue.specs.declared.drafts.Draft.{Draft}
use Rattle.desk_tagvalue.specs.declared.drafts.DraftFile.{DraftFile}
use Rattle.desk_tagvalue.specs.declared.writing.WriteFault.{WriteFault}
use Rattle.desk_tagvalue.specs.Drafts.{LineText, spelled, text_of_lines, lines_of_file, file_lines}
use Rattle.desk_tagvalue.specs.Drafts.{files_lines, head_lines, draft_lines}
use Rattle.desk_tagvalue.specs.Written.{Stands, Adds, IsStopped}

pub all_front : {X : Type 0} (P : X → Type 0) (xs ys : List X) → All P (xs ++ ys) → All P xs
all_front P xs ys h = λ k d lt.
    let len = length-append xs ys in
    subst P (get_or_append_left xs ys d k lt) (h k d (omega arith))

pub all_back : {X : Type 0} (P : X → Type 0) (xs ys : List X) → All P (xs ++ ys) → All P ys
all_back P xs ys h = λ k d lt.
    let len = length-append xs ys in
    let at : length xs + k - length xs ≡ k = omega arith in
    subst P (get_or-append_right xs ys (length xs + k) d (omega arith) ∙ ap (λ i. get_or ys i d) at)
    (h (length xs + k) d (omega arith))

pub adds_none : (a : List ℕ) → Adds a [] a
adds_none a = record { text = sym (append-nil a); stand = All-nil Stands }

pub adds_more : (a b c : List ℕ) (ls ms : List LineText) → Adds a ls b → Adds b ms c
    → Adds a (ls ++ ms) c
adds_more a b c ls ms h k = record {
  text = k.text ∙ ap (λ t. t ++ text_of_lines ms) h.text
      ∙ append_assoc a (text_of_lines ls) (text_of_lines ms)
      ∙ ap (λ t. a ++ t) (sym (flat_map-append spelled ls ms));
  stand = All-append Stands ls ms h.stand k.stand;
}

pub stops_front : (ls ms : List LineText) (e : WriteFault) → IsStopped ls e → IsStopped (ls ++ ms) e
stops_front ls ms e (inl m) = inl m
stops_front ls ms e (inr b) = inr (b.0, λ all. b.1 (all_front Stands ls ms all))

pub stops_back : (ls ms : List LineText) (e : WriteFault) → IsStopped ms e → IsStopped (ls ++ ms) e
stops_back ls ms e (inl m) = inl m
stops_back ls ms e (inr b) = inr (b.0, λ all. b.1 (all_back Stands ls ms all))

-- the lines of a file, from its texts
pub file_texts : (k : ℕ) (f : DraftFile) (name id checksum : List ℕ) → name ≡ codes "./" ++ f.path
    → id ≡ codes "SPDXRef-File-" ++ decimal k → checksum ≡ codes "SHA1: " ++ encode_lower f.digest
    → lines_of_file name id checksum f ≡ file_lines k f
file_texts k f name id checksum is_name is_id is_checksum =
    ap (λ n. lines_of_file n id checksum f) is_name
    ∙ ap (λ i. lines_of_file (codes "./" ++ f.path) i checksum f) is_id
    ∙ ap (λ s. lines_of_file (codes "./" ++ f.path) (codes "SPDXRef-File-" ++ decimal k) s f)
    is_checksum

-- the lines of a file, and of those after it
pub one_file : (k : ℕ) (files : List DraftFile) (i : ℕ) (d : DraftFile) → i < length files
    → files_lines k (drop i files) ≡ file_lines k (get_or files i d)
    ++ files_lines (k + 1) (drop (i + 1) files)
one_file k files i d lt = ap (files_lines k) (drop_more files i d lt)

pub file_added : (old out next : List ℕ) (files : List DraftFile) (i : ℕ) (x : DraftFile)
    → i < length files → x ≡ get_or files i x → Adds out (file_lines (i + 1) x) next
    → ((new : List ℕ) → Adds out (files_lines (i + 1) (drop i files)) new
    → Adds old (files_lines 1 files) new)
    → (new : List ℕ) → Adds next (files_lines (i + 1 + 1) (drop (i + 1) files)) new
    → Adds old (files_lines 1 files) new
file_added old out next files i x lt is added inv new h =
    let rest = files_lines (i + 1 + 1) (drop (i + 1) files) in
    inv new (subst (λ l. Adds out l new)
    (ap (λ f. file_lines (i + 1) f ++ rest) is ∙ sym (one_file (i + 1) files i x lt))
    (adds_more out next new (file_lines (i + 1) x) rest added h))

pub file_stands : (files : List DraftFile) (i : ℕ) (x : DraftFile) → i < length files
    → All Stands (files_lines (i + 1) (drop i files))
    → All Stands (files_lines (i + 1 + 1) (drop (i + 1) files))
file_stands files i x lt h = all_back Stands (file_lines (i + 1) (get_or files i x))
    (files_lines (i + 1 + 1) (drop (i + 1) files))
    (subst (All Stands) (one_file (i + 1) files i x lt) h)

pub file_stops : (files : List DraftFile) (i : ℕ) (x : DraftFile) (e : WriteFault)
    → i < length files → x ≡ get_or files i x
    → (All Stands (files_lines 1 files) → All Stands (files_lines (i + 1) (drop i files)))
    → IsStopped (file_lines (i + 1) x) e → IsStopped (files_lines 1 files) e
file_stops files i x e lt is inv (inl m) = inl m
file_stops files i x e lt is inv (inr b) =
    inr (
      b.0,
      λ all. b.1 (subst (λ f. All Stands (file_lines (i + 1) f)) (sym is)
          (all_front Stands (file_lines (i + 1) (get_or files i x))
          (files_lines (i + 1 + 1) (drop (i + 1) files))
          (subst (All Stands) (one_file (i + 1) files i x lt) (inv all)))),
    )

pub draft_added : (d : Draft) (a b c : List ℕ) → a ≡ [] → Adds a (head_lines d) b
    → Adds b (files_lines 1 d.files) c → Adds [] (draft_lines d) c
draft_added d a b c none head files = subst (λ x. Adds x (draft_lines d) c) none
    (adds_more a b c (head_lines d) (files_lines 1 d.files) head files)
