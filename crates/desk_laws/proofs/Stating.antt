-- Each file states some notices and licences itself, or none.
use Rattle.std.proofs.Common.{◌≡◌, ◌≢◌, ◌∙◌, ◌⊎◌, inl, inr, ℕ, ◌<◌, List, [], ◌∷◌, ◌++◌, length, ap, refl, arith}
use Rattle.std.specs.Prelude.{codes, Option, Some, None}
use Rattle.std.specs.Str.{is_utf8}
use Rattle.std.proofs.lemmas.Bool.{cases_eq, cases_Bool}
use Rattle.std.proofs.lemmas.Str.{IsUtf8-from_is_utf8, is_utf8-from_IsUtf8}
use Rattle.desk_findings.proofs.States.{same_text}
use Rattle.desk_fields.specs.Text.{trim_end, trimmed}
use Rattle.desk_fields.proofs.Closing.{Closing, open_text, closed, closing}
use Rattle.desk_tree_annotations.specs.Runs.{RunText}
use Rattle.desk_tree_annotations.specs.Tags.{IsClose, IsBare, Tells, Counts, seen_after, TagText}
use Rattle.desk_tree_annotations.specs.Tags.{onto, Gives, IsInfo, notice_tag, licence_tag}
use Rattle.desk_tree_annotations.proofs.EachRun.{shown_within}
use Rattle.desk_tree_infos.specs.Readers.{Stated}

-- ---- values

abbrev Ended : List ℕ → List ℕ → Type 0
Ended p t = ((f : List ℕ) × (t ≡ f ++ p)) ⊎ ((f : List ℕ) → t ≡ f ++ p → ⊥)

no_end : (p : List ℕ) (c : ℕ) (t : List ℕ) → (c ∷ t ≢ p) → ((f : List ℕ) → t ≡ f ++ p → ⊥)
    → (f : List ℕ) → c ∷ t ≡ f ++ p → ⊥
no_end p c t here later [] e = here e
no_end p c t here later (d ∷ f) e = let tail : t ≡ f ++ p = cc in later f tail

no_end_of_nil : (p : List ℕ) → ([] ≢ p) → (f : List ℕ) → [] ≡ f ++ p → ⊥
no_end_of_nil p here [] e = here e
no_end_of_nil p here (d ∷ f) e = absurd cc

ended_behind : (p : List ℕ) (c : ℕ) (t : List ℕ) → (c ∷ t ≢ p) → Ended p t → Ended p (c ∷ t)
ended_behind p c t here (inl found) = inl (c ∷ found.0, ap (λ l. c ∷ l) found.1)
ended_behind p c t here (inr none) = inr (no_end p c t here none)

ended : (p t : List ℕ) → Ended p t
ended p [] =
    elim (same_text [] p) [
      | inl is ↦ inl ([], is)
      | inr other ↦ inr (no_end_of_nil p other)
    ]
ended p (c ∷ t) =
    elim (same_text (c ∷ t) p) [
      | inl is ↦ inl ([], is)
      | inr other ↦ ended_behind p c t other (ended p t)
    ]

abbrev Bared : List ℕ → Type 0
Bared t = (value : List ℕ) × IsBare t value

closed_by : (t close front : List ℕ) → IsClose close → t ≡ front ++ close → Bared t
closed_by t close front is cut = (trim_end front, inl (front, close, is, cut, refl))

no_close : (t : List ℕ) → ((f : List ℕ) → t ≡ f ++ codes "*/" → ⊥)
    → ((f : List ℕ) → t ≡ f ++ codes "-->" → ⊥) → ((f : List ℕ) → t ≡ f ++ codes "*)" → ⊥)
    → ((f : List ℕ) → t ≡ f ++ codes "-}" → ⊥)
    → (front close : List ℕ) → IsClose close → t ≡ front ++ close → ⊥
no_close t a b c d front close (inl is) cut = a front (cut ∙ ap (λ x. front ++ x) is)
no_close t a b c d front close (inr (inl is)) cut = b front (cut ∙ ap (λ x. front ++ x) is)
no_close t a b c d front close (inr (inr (inl is))) cut = c front (cut ∙ ap (λ x. front ++ x) is)
no_close t a b c d front close (inr (inr (inr is))) cut = d front (cut ∙ ap (λ x. front ++ x) is)

bared_by : (t : List ℕ) → Ended (codes "*/") t → Ended (codes "-->") t → Ended (codes "*)") t
    → Ended (codes "-}") t → Bared t
bared_by t (inl f) b c d = closed_by t (codes "*/") f.0 (inl refl) f.1
bared_by t (inr x) (inl f) c d = closed_by t (codes "-->") f.0 (inr (inl refl)) f.1
bared_by t (inr x) (inr y) (inl f) d = closed_by t (codes "*)") f.0 (inr (inr (inl refl))) f.1
bared_by t (inr x) (inr y) (inr z) (inl f) = closed_by t (codes "-}") f.0 (inr (inr (inr refl))) f.1
bared_by t (inr x) (inr y) (inr z) (inr w) = (t, inr (no_close t x y z w, refl))

bared : (t : List ℕ) → Bared t
bared t = bared_by t (ended (codes "*/") t) (ended (codes "-->") t) (ended (codes "*)") t)
    (ended (codes "-}") t)

abbrev Told : List ℕ → Type 0
Told after = (o : Option (List ℕ)) × Tells after o

told_by : (after value : List ℕ) → IsBare (trimmed after) value → Told after
told_by after [] is = (None, ([], is, λ some. absurd (omega arith)))
told_by after (b ∷ bs) is =
    elim (cases_Bool (is_utf8 (b ∷ bs))) [
      | inl text ↦ (Some (b ∷ bs), (is, omega arith, IsUtf8-from_is_utf8 (b ∷ bs) text))
      | inr other ↦ (
        None,
        (
          b ∷ bs,
          is,
          λ some utf8. let text = is_utf8-from_IsUtf8 (b ∷ bs) utf8 in
              absurd cc,
        ),
      )
    ]

told : (after : List ℕ) → Told after
told after = let found = bared (trimmed after) in told_by after found.0 found.1

-- ---- tags

module _ (tag : List ℕ) (some : 0 < length tag) where
  abbrev Counted : ℕ → RunText → Type 0
  Counted seen r = (o : Option (Option (List ℕ))) × Counts tag seen r o

  counted_by : (seen : ℕ) (r : RunText) → (r.line ≢ seen) → Closing tag r.text → Counted seen r
  counted_by seen r apart (open_text none) = (None, inr none)
  counted_by seen r apart (closed before after cut first) =
      let t = told after in
      (Some t.0, (after, apart, record { before = before; cut = cut; first = first }, t.1))

  counted : (seen : ℕ) (r : RunText) → Counted seen r
  counted seen r =
      elim (cases_eq r.line seen) [
        | inl is ↦ (None, inl is)
        | inr apart ↦ counted_by seen r apart (closing tag some r.text)
      ]

  given : (seen : ℕ) (rs : List RunText) → (tags : List TagText) × Gives tag seen rs tags
  given seen [] = ([], refl)
  given seen (r ∷ rs) =
      let o = counted seen r in
      let later = given (seen_after seen r.line o.0) rs in
      (onto r.line o.0 later.0, (o.0, later.0, o.1, refl, later.1))

-- ---- files

pub stated : (file : List ℕ) → (s : Stated) × IsInfo file s.notices s.licences
stated file =
    let runs = shown_within (length file) 1 file (omega arith) in
    let notices = given notice_tag (omega arith) 0 runs.0 in
    let licences = given licence_tag (omega arith) 0 runs.0 in
    (record { notices = notices.0; licences = licences.0 }, (runs.0, runs.1, notices.1, licences.1))
