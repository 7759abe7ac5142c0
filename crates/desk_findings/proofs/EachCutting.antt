-- A text has exactly one cutting into pieces, and its reading is what that says.
use Rattle.std.proofs.Common.{◌≡◌, ◌∙◌, ◌↔◌, ℕ, List, [], ◌∷◌, ap, sym, subst, refl}
use Rattle.std.specs.Prelude.{Option, Some, None, Result, Ok, Err}
use Rattle.desk_base.proofs.LinesOnce.{line_some}
use Rattle.desk_fields.specs.declared.fault.DocFault.{DocFault}
use Rattle.desk_fields.specs.Pieces.{bytes_of}
use Rattle.desk_fields.specs.Cutting.{Begins, Fails, Reads, done, more, fails, FieldText}
use Rattle.desk_fields.specs.Cutting.{with_piece, line_after, Cut, IsCutting, said_by}
use Rattle.desk_fields.proofs.OnePiece.{begins_once}
use Rattle.desk_fields.proofs.OneReading.{begins_fails, fails_once, fails_some, not_nothing}
use Rattle.desk_findings.proofs.EachText.{each_text}

-- a cutting of a text with this result
pub record CutFor (line : ℕ) (whole : List ℕ) (r : Result (List FieldText) DocFault) : Type 0 where
  pub cuts : List Cut
  pub fault : Option DocFault
  pub is : IsCutting line whole cuts fault
  pub says : r ≡ said_by line cuts fault

-- one piece before a cutting
one_before : (line : ℕ) (whole : List ℕ) (c : Cut) (after : List ℕ) (cuts : List Cut)
    (fault : Option DocFault) → Begins whole c.piece c.end after
    → IsCutting (line_after line c.piece) after cuts fault → IsCutting line whole (c ∷ cuts) fault
one_before line whole c after cuts None begins is = (after, begins, is)
one_before line whole c after cuts (Some f) begins is = (is.0, (after, begins, is.1), is.2)

says_before : (line : ℕ) (c : Cut) (cuts : List Cut) (fault : Option DocFault)
    → with_piece line c.piece (said_by (line_after line c.piece) cuts fault)
    ≡ said_by line (c ∷ cuts) fault
says_before line c cuts None = refl
says_before line c cuts (Some f) = refl

cut_for : (line : ℕ) (whole : List ℕ) (r : Result (List FieldText) DocFault) → Reads line whole r
    → CutFor line whole r
cut_for line whole r (done n) = record { cuts = []; fault = None; is = refl; says = refl }
cut_for line whole r (more n w p e rest b begins later) =
    let c : Cut = record { piece = p; end = e } in
    let more_cuts = cut_for (line_after line p) rest b later in
    record {
      cuts = c ∷ more_cuts.cuts;
      fault = more_cuts.fault;
      is = one_before line whole c rest more_cuts.cuts more_cuts.fault begins more_cuts.is;
      says = ap (with_piece line p) more_cuts.says
          ∙ says_before line c more_cuts.cuts more_cuts.fault;
    }
cut_for line whole r (fails n w f h) = record {
  cuts = [];
  fault = Some f;
  is = (whole, refl, h);
  says = refl;
}

reads_cut : (line : ℕ) (whole : List ℕ) (cuts : List Cut) (fault : Option DocFault)
    → IsCutting line whole cuts fault → Reads line whole (said_by line cuts fault)
reads_cut line whole [] None is = subst (λ t. Reads line t (Ok [])) (sym is) (done line)
reads_cut line whole [] (Some f) is = fails line whole f
    (subst (λ t. Fails line t f) (sym is.1) is.2)
reads_cut line whole (c ∷ cuts) None is = more line whole c.piece c.end is.0 _ is.1
    (reads_cut (line_after line c.piece) is.0 cuts None is.2)
reads_cut line whole (c ∷ cuts) (Some f) is = more line whole c.piece c.end is.1.0 (Err f) is.1.1
    (reads_cut (line_after line c.piece) is.1.0 cuts (Some f) (is.0, is.1.2, is.2))

pub reading_is_cutting : (line : ℕ) (whole : List ℕ) (r : Result (List FieldText) DocFault)
    → Reads line whole r ↔ ((cuts : List Cut) × (fault : Option DocFault)
    × IsCutting line whole cuts fault × (r ≡ said_by line cuts fault))
reading_is_cutting line whole r = (
  (λ h. let c = cut_for line whole r h in (c.cuts, c.fault, c.is, c.says)),
  (λ c. subst (Reads line whole) (sym c.3) (reads_cut line whole c.0 c.1 c.2)),
)

pub each_text_is_cut : (line : ℕ) (whole : List ℕ)
    → (cuts : List Cut) × (fault : Option DocFault) × IsCutting line whole cuts fault
each_text_is_cut line whole = let r = each_text line whole in let c = cut_for line whole r.0 r.1 in
    (c.cuts, c.fault, c.is)

-- ---- and only one

starts : (line : ℕ) (whole : List ℕ) (c : Cut) (cuts : List Cut) (fault : Option DocFault)
    → IsCutting line whole (c ∷ cuts) fault
    → (after : List ℕ) × Begins whole c.piece c.end after
    × IsCutting (line_after line c.piece) after cuts fault
starts line whole c cuts None is = is
starts line whole c cuts (Some f) is = (is.1.0, is.1.1, (is.0, is.1.2, is.2))

not_both : (line : ℕ) (whole : List ℕ) (fault : Option DocFault) (c : Cut) (after : List ℕ)
    → IsCutting line whole [] fault → Begins whole c.piece c.end after → ⊥
not_both line whole None c after is begins = not_nothing whole is
    (line_some whole (bytes_of c.piece) c.end after begins.cut begins.ends)
not_both line whole (Some f) c after is begins = begins_fails line whole c.piece c.end after f
    begins (subst (λ t. Fails line t f) (sym is.1) is.2)

same_end : (line : ℕ) (whole : List ℕ) (f g : Option DocFault) → IsCutting line whole [] f
    → IsCutting line whole [] g → f ≡ g
same_end line whole None None a b = refl
same_end line whole None (Some g) a b = absurd (not_nothing whole a
    (fails_some line whole g (subst (λ t. Fails line t g) (sym b.1) b.2)))
same_end line whole (Some f) None a b = absurd (not_nothing whole b
    (fails_some line whole f (subst (λ t. Fails line t f) (sym a.1) a.2)))
same_end line whole (Some f) (Some g) a b = ap Some (fails_once line whole f g
    (subst (λ t. Fails line t f) (sym a.1) a.2) (subst (λ t. Fails line t g) (sym b.1) b.2))

pub one_cutting : (line : ℕ) (whole : List ℕ) (cs ds : List Cut) (f g : Option DocFault)
    → IsCutting line whole cs f → IsCutting line whole ds g → (cs ≡ ds) × (f ≡ g)
one_cutting line whole [] [] f g a b = (refl, same_end line whole f g a b)
one_cutting line whole [] (d ∷ ds) f g a b = let s = starts line whole d ds g b in
    absurd (not_both line whole f d s.0 a s.1)
one_cutting line whole (c ∷ cs) [] f g a b = let s = starts line whole c cs f a in
    absurd (not_both line whole g c s.0 b s.1)
one_cutting line whole (c ∷ cs) (d ∷ ds) f g a b =
    let s = starts line whole c cs f a in
    let t = starts line whole d ds g b in
    let z = begins_once whole c.piece c.end s.0 d.piece d.end t.0 s.1 t.1 in
    let there : IsCutting (line_after line c.piece) s.0 ds g =
    subst (λ x. IsCutting (line_after line c.piece) x ds g) (sym z.2)
    (subst (λ p. IsCutting (line_after line p) t.0 ds g) (sym z.0) t.2) in
    let later = one_cutting (line_after line c.piece) s.0 cs ds f g s.2 there in
    ((λ i. record { piece = z.0 i; end = z.1 i } ∷ later.0 i), later.1)
