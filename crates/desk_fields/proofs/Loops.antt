-- The loops over pieces and over fields.
use Rattle.std.proofs.Common.{◌≡◌, ◌∙◌, ℕ, List, [], ◌∷◌, ◌++◌, sym, subst, ap, refl, append_assoc}
use Rattle.std.specs.Prelude.{Result, Ok, Err, Option, Some, None}
use Rattle.desk_base.specs.declared.lines.LineEnd.{LineEnd}
use Rattle.desk_fields.specs.declared.fault.DocFault.{DocFault}
use Rattle.desk_fields.specs.declared.scan.Field.{Field}
use Rattle.desk_fields.specs.declared.scan.Found.{Found}
use Rattle.desk_fields.specs.Pieces.{Piece, given}
use Rattle.desk_fields.specs.Cutting.{Begins, Reads, done, more, fails, FieldText, with_front}
use Rattle.desk_fields.specs.Cutting.{with_piece, onto, line_after}
use Rattle.desk_fields.specs.Found.{IsFound, IsGiven}
use Rattle.desk_fields.specs.NextField.{Skips, here, further, IsNext, FailsNext, Reaches}

gives_none : (line : ℕ) (g : Option (List ℕ × List ℕ)) → IsGiven line g None → g ≡ None
gives_none line None h = refl
gives_none line (Some g) h = absurd h

gives_some : (line : ℕ) (g : Option (List ℕ × List ℕ)) (f : Field) → IsGiven line g (Some f)
    → (f.line ≡ line) × (g ≡ Some (f.tag.now, f.value.now))
gives_some line None f h = absurd h
gives_some line (Some g) f h = (h.0, λ i. Some (sym h.1 i, sym h.2 i))

-- one more piece
reached : (line : ℕ) (text : List ℕ) (at : ℕ) (whole : List ℕ) (p : Piece) (end : LineEnd)
    (found : Option Field) (after : ℕ) (rest : List ℕ)
    → Skips line text at whole → Begins whole p end rest → after ≡ line_after at p
    → IsGiven at (given p) found → Reaches line text found after rest
reached line text at whole p end None after rest skips begins behind g =
    subst (λ n. Skips line text n rest) (sym behind)
    (further at whole p end rest skips begins (gives_none at (given p) g))
reached line text at whole p end (Some f) after rest skips begins behind g =
    let is = gives_some at (given p) f g in
    record {
      whole = whole;
      skips = subst (λ n. Skips line text n whole) (sym is.0) skips;
      piece = p;
      end = end;
      begins = begins;
      gives = is.1;
      behind = behind ∙ ap (λ n. line_after n p) (sym is.0);
    }

pub reaches_next : (line : ℕ) (text : List ℕ) (before : Found) (f : Found) → before.field ≡ None
    → Reaches line text before.field before.line before.rest.now
    → IsFound before.line before.rest.now f
    → Reaches line text f.field f.line f.rest.now
reaches_next line text before f none reaches found =
    reached line text before.line before.rest.now found.piece found.end f.field f.line f.rest.now
    (subst (λ o. Reaches line text o before.line before.rest.now) none reaches) found.begins
    found.next found.field

passes : (line : ℕ) (p : Piece) (r : Result (List FieldText) DocFault) → given p ≡ None
    → with_piece line p r ≡ r
passes line p (Ok fs) none = ap (λ g. Ok (onto line g fs)) none
passes line p (Err f) none = refl

-- what is read after skipped pieces is read before them
reads_skipped : (line : ℕ) (text : List ℕ) (at : ℕ) (whole : List ℕ) → Skips line text at whole
    → (r : Result (List FieldText) DocFault) → Reads at whole r → Reads line text r
reads_skipped line text at whole here r h = h
reads_skipped line text at whole (further m w p end rest skips begins none) r h =
    reads_skipped line text m w skips r
    (subst (Reads m w) (passes m p r none) (more m w p end rest r begins h))

pub reads_end : (line : ℕ) (text : List ℕ) (at : ℕ) → Skips line text at []
    → Reads line text (Ok [])
reads_end line text at skips = reads_skipped line text at [] skips (Ok []) (done at)

pub reads_fault : (line : ℕ) (text : List ℕ) (f : DocFault) → FailsNext line text f
    → Reads line text (Err f)
reads_fault line text f h = reads_skipped line text h.at h.whole h.skips (Err f)
    (fails h.at h.whole f h.fails)

with_field : (f : FieldText) (p : Piece) (r : Result (List FieldText) DocFault)
    → given p ≡ Some (f.tag, f.value) → with_piece f.line p r ≡ with_front (f ∷ []) r
with_field f p (Ok fs) is = ap (λ g. Ok (onto f.line g fs)) is
with_field f p (Err e) is = refl

pub reads_field : (line : ℕ) (text : List ℕ) (f : FieldText) (after : ℕ) (rest : List ℕ)
    → IsNext line text f after rest → (r : Result (List FieldText) DocFault) → Reads after rest r
    → Reads line text (with_front (f ∷ []) r)
reads_field line text f after rest n r h =
    let later = more f.line n.whole n.piece n.end rest r n.begins
    (subst (λ k. Reads k rest r) n.behind h) in
    reads_skipped line text f.line n.whole n.skips (with_front (f ∷ []) r)
    (subst (Reads f.line n.whole) (with_field f n.piece r n.gives) later)

front_append : (fs : List FieldText) (f : FieldText) (r : Result (List FieldText) DocFault)
    → with_front fs (with_front (f ∷ []) r) ≡ with_front (fs ++ (f ∷ [])) r
front_append fs f (Ok gs) = ap Ok (sym (append_assoc fs (f ∷ []) gs))
front_append fs f (Err e) = refl

-- one more field
pub step_field : (whole : List ℕ) (fs : List FieldText) (line : ℕ) (text : List ℕ) (f : FieldText)
    (after : ℕ) (rest : List ℕ) → IsNext line text f after rest
    → ((r : Result (List FieldText) DocFault) → Reads line text r → Reads 1 whole (with_front fs r))
    → (r : Result (List FieldText) DocFault) → Reads after rest r
    → Reads 1 whole (with_front (fs ++ (f ∷ [])) r)
step_field whole fs line text f after rest n inv r h =
    subst (Reads 1 whole) (front_append fs f r)
    (inv (with_front (f ∷ []) r) (reads_field line text f after rest n r h))
