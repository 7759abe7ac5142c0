-- What is read back.
use Rattle.std.proofs.Common.{◌≡◌, ℕ, ◌<◌, List, [], ◌∷◌, ◌++◌, length, subst, refl, arith, Bool}
use Rattle.std.proofs.Common.{false, Ok, Err, ◌⊎◌, inl, inr, get_or}
use Rattle.std.specs.Prelude.{IsTrue, ◌↔◌, codes}
use Rattle.desk_fields.specs.declared.fault.DocFault.{DocFault}
use Rattle.desk_fields.specs.Cutting.{Reads, FieldText, behind_mark}
use Rattle.desk_fields.proofs.OneReading.{reads_once}
use Rattle.desk_fields.specs.declared.tag.Tag.{Tag}
use Rattle.desk_fields.specs.declared.tag.Tag.TheVariants as tags
use Rattle.desk_fields.specs.Tags.{tag_name}
use Rattle.std.specs.Prelude.{map}
use Rattle.std.proofs.lemmas.List.{get_or-map, length-map}
use Rattle.std.proofs.lemmas.List.Elements.{All-get_or}
use Rattle.desk_tagvalue.specs.declared.drafts.DraftLine.{DraftLine}
use Rattle.desk_tagvalue.specs.declared.writing.WriteFault.{WriteFault}
use Rattle.desk_tagvalue.specs.declared.writing.WriteFault.TheVariants as faults
use Rattle.desk_tagvalue.specs.Drafts.{LineText, blank, one_line, in_text, spelled, line_text}
use Rattle.desk_tagvalue.specs.Written.{Stands, IsStopped}

pub only_reading : (t : List ℕ) (fs : List FieldText) (g : FieldText) (b : Bool) → Reads 1 t (Ok fs)
    → IsTrue b ↔ (fs ≡ g ∷ []) → IsTrue b ↔ Reads 1 t (Ok (g ∷ []))
only_reading t fs g b reads h = (
  λ is. subst (λ l. Reads 1 t (Ok l)) (h.0 is) reads,
  λ again. h.1 (let e = reads_once 1 t (Ok fs) (Ok (g ∷ [])) reads again in cc),
)

pub no_reading : (t : List ℕ) (f m : DocFault) (g : FieldText) → (f ≡ m) ⊎ Reads 1 t (Err f)
    → (f ≡ m → ⊥) → IsTrue false ↔ Reads 1 t (Ok (g ∷ []))
no_reading t f m g (inl is) other = absurd (other is)
no_reading t f m g (inr reads) other = (
  λ h. absurd cc,
  λ again. absurd (let e = reads_once 1 t (Err f) (Ok (g ∷ [])) reads again in cc),
)

-- no tag begins with a byte order mark
pub mark_behind : (tag : Tag) (rest : List ℕ) → behind_mark rest ≡ rest
    → behind_mark (tag_name tag ++ rest) ≡ tag_name tag ++ rest
mark_behind tags.ReadOver rest h = h
mark_behind tags.Unknown rest h = h
mark_behind tag rest h = refl

pub no_mark : (l : LineText) → behind_mark (spelled l) ≡ spelled l
no_mark blank = refl
no_mark (one_line tag value) = mark_behind tag (codes ": " ++ (value ++ (10 ∷ []))) refl
no_mark (in_text tag value) = mark_behind tag
    (codes ": <text>" ++ (value ++ (codes "</text>" ++ (10 ∷ [])))) refl

-- one line that isn't read back stops them all
pub stopped_at : (lines : List DraftLine) (i : ℕ) (d : DraftLine) (e : WriteFault)
    → i < length lines → (e ≡ faults.Memory)
    ⊎ ((e ≡ faults.BadValue) × (Stands (line_text (get_or lines i d)) → ⊥))
    → IsStopped (map line_text lines) e
stopped_at lines i d e lt (inl m) = inl m
stopped_at lines i d e lt (inr b) =
    let len = length-map lines line_text in
    inr (
      b.0,
      λ all. b.1 (subst Stands (get_or-map line_text lines i d (line_text d) lt)
          (All-get_or Stands (map line_text lines) i (line_text d) (omega arith) all)),
    )
