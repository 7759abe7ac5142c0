-- The tags of some runs are one list.
use Rattle.std.proofs.Common.{◌≡◌, ◌≢◌, ◌∙◌, ◌⊎◌, inl, inr, ℕ, ◌-◌, ◌<◌, List, [], ◌∷◌, ◌++◌}
use Rattle.std.proofs.Common.{length, get_or, sym, subst, ap, refl, arith, length-append}
use Rattle.std.specs.Prelude.{codes, Option, Some, None, IsUtf8}
use Rattle.std.proofs.Math.Seq.{get_or-append_right}
use Rattle.std.proofs.lemmas.List.{append_cancel_right}
use Rattle.desk_fields.specs.Text.{trim_end, trimmed}
use Rattle.desk_tree_annotations.specs.Runs.{Lacks, RunText}
use Rattle.desk_tree_annotations.specs.Tags.{IsClose, IsBare, HasTag, Tells, Counts, seen_after}
use Rattle.desk_tree_annotations.specs.Tags.{TagText, onto, Gives, IsInfo, notice_tag, licence_tag}
use Rattle.desk_tree_annotations.proofs.RunOnce.{up_to_once, shows_once}

abbrev last : List ℕ → ℕ
last xs = get_or xs (length xs - 1) 0

along : (c d x y : List ℕ) → c ≡ x → d ≡ y → last c ≡ last d → last x ≡ last y
along c d x y a b e = sym (ap last a) ∙ e ∙ ap last b

-- the ends of comments differ in their last byte
same_close : (c d : List ℕ) → IsClose c → IsClose d → last c ≡ last d → c ≡ d
same_close c d (inl a) (inl b) e = a ∙ sym b
same_close c d (inl a) (inr (inl b)) e = let n = along c d (codes "*/") (codes "-->") a b e in
    absurd (omega (arith, n))
same_close c d (inl a) (inr (inr (inl b))) e = let n = along c d (codes "*/") (codes "*)") a b e in
    absurd (omega (arith, n))
same_close c d (inl a) (inr (inr (inr b))) e = let n = along c d (codes "*/") (codes "-}") a b e in
    absurd (omega (arith, n))
same_close c d (inr (inl a)) (inl b) e = let n = along c d (codes "-->") (codes "*/") a b e in
    absurd (omega (arith, n))
same_close c d (inr (inl a)) (inr (inl b)) e = a ∙ sym b
same_close c d (inr (inl a)) (inr (inr (inl b))) e = let n =
    along c d (codes "-->") (codes "*)") a b e in absurd (omega (arith, n))
same_close c d (inr (inl a)) (inr (inr (inr b))) e = let n =
    along c d (codes "-->") (codes "-}") a b e in absurd (omega (arith, n))
same_close c d (inr (inr (inl a))) (inl b) e = let n = along c d (codes "*)") (codes "*/") a b e in
    absurd (omega (arith, n))
same_close c d (inr (inr (inl a))) (inr (inl b)) e = let n =
    along c d (codes "*)") (codes "-->") a b e in absurd (omega (arith, n))
same_close c d (inr (inr (inl a))) (inr (inr (inl b))) e = a ∙ sym b
same_close c d (inr (inr (inl a))) (inr (inr (inr b))) e = let n =
    along c d (codes "*)") (codes "-}") a b e in absurd (omega (arith, n))
same_close c d (inr (inr (inr a))) (inl b) e = let n = along c d (codes "-}") (codes "*/") a b e in
    absurd (omega (arith, n))
same_close c d (inr (inr (inr a))) (inr (inl b)) e = let n =
    along c d (codes "-}") (codes "-->") a b e in absurd (omega (arith, n))
same_close c d (inr (inr (inr a))) (inr (inr (inl b))) e = let n =
    along c d (codes "-}") (codes "*)") a b e in absurd (omega (arith, n))
same_close c d (inr (inr (inr a))) (inr (inr (inr b))) e = a ∙ sym b

some_close : (c : List ℕ) → IsClose c → 0 < length c
some_close c (inl a) = let n = ap length a in omega (arith, n)
some_close c (inr (inl a)) = let n = ap length a in omega (arith, n)
some_close c (inr (inr (inl a))) = let n = ap length a in omega (arith, n)
some_close c (inr (inr (inr a))) = let n = ap length a in omega (arith, n)

last_append : (f c : List ℕ) → 0 < length c → last (f ++ c) ≡ last c
last_append f c some =
    let len = length-append f c in
    let at : length (f ++ c) - 1 - length f ≡ length c - 1 = omega arith in
    get_or-append_right f c (length (f ++ c) - 1) 0 (omega arith) ∙ ap (λ i. get_or c i 0) at

front_once : (t f c g d : List ℕ) → IsClose c → IsClose d → t ≡ f ++ c → t ≡ g ++ d → f ≡ g
front_once t f c g d k l a b =
    let ends = sym (last_append f c (some_close c k)) ∙ ap last (sym a ∙ b)
    ∙ last_append g d (some_close d l) in
    let same = same_close c d k l ends in
    append_cancel_right f g c (sym a ∙ b ∙ ap (λ x. g ++ x) (sym same))

bare_once : (t v w : List ℕ) → IsBare t v → IsBare t w → v ≡ w
bare_once t v w (inl a) (inl b) = a.4 ∙ ap trim_end (front_once t a.0 a.1 b.0 b.1 a.2 b.2 a.3 b.3)
    ∙ sym b.4
bare_once t v w (inl a) (inr b) = absurd (b.0 a.0 a.1 a.2 a.3)
bare_once t v w (inr a) (inl b) = absurd (a.0 b.0 b.1 b.2 b.3)
bare_once t v w (inr a) (inr b) = a.1 ∙ sym b.1

not_read : (t v w : List ℕ) → IsBare t v → (0 < length v → IsUtf8 v → ⊥) → IsBare t w → 0 < length w
    → IsUtf8 w → ⊥
not_read t v w a none b some utf8 =
    let same = bare_once t v w a b in
    subst (λ x. 0 < length x → IsUtf8 x → ⊥) same none some utf8

tells_once : (after : List ℕ) (o p : Option (List ℕ)) → Tells after o → Tells after p → o ≡ p
tells_once after None None a b = refl
tells_once after None (Some w) a b = absurd (not_read (trimmed after) a.0 w a.1 a.2 b.0 b.1 b.2)
tells_once after (Some v) None a b = absurd (not_read (trimmed after) b.0 v b.1 b.2 a.0 a.1 a.2)
tells_once after (Some v) (Some w) a b = ap Some (bare_once (trimmed after) v w a.0 b.0)

no_tag : (tag : List ℕ) (seen : ℕ) (r : RunText) (after : List ℕ)
    → (r.line ≡ seen) ⊎ Lacks tag r.text → r.line ≢ seen → HasTag tag r.text after → ⊥
no_tag tag seen r after (inl e) n h = n e
no_tag tag seen r after (inr lacks) n h = lacks h.before after h.cut

counts_once : (tag : List ℕ) (seen : ℕ) (r : RunText) (o p : Option (Option (List ℕ)))
    → Counts tag seen r o → Counts tag seen r p → o ≡ p
counts_once tag seen r None None a b = refl
counts_once tag seen r None (Some p) a b = absurd (no_tag tag seen r b.0 a b.1 b.2)
counts_once tag seen r (Some o) None a b = absurd (no_tag tag seen r a.0 b a.1 a.2)
counts_once tag seen r (Some o) (Some p) a b =
    let x = a.2 in
    let y = b.2 in
    let same = (up_to_once tag x.before a.0 y.before b.0 x.first y.first (sym x.cut ∙ y.cut)).1 in
    ap Some (tells_once b.0 o p (subst (λ l. Tells l o) same a.3) b.3)

pub gives_once : (tag : List ℕ) (seen : ℕ) (rs : List RunText) (a b : List TagText)
    → Gives tag seen rs a → Gives tag seen rs b → a ≡ b
gives_once tag seen [] a b h k = h ∙ sym k
gives_once tag seen (r ∷ rs) a b h k =
    let same = counts_once tag seen r h.0 k.0 h.2 k.2 in
    let later = gives_once tag (seen_after seen r.line k.0) rs h.1 k.1
    (subst (λ o. Gives tag (seen_after seen r.line o) rs h.1) same h.4) k.4 in
    h.3 ∙ ap (λ o. onto r.line o h.1) same ∙ ap (onto r.line k.0) later ∙ sym k.3

pub info_once : (file : List ℕ) (a b c d : List TagText) → IsInfo file a b → IsInfo file c d
    → (a ≡ c) × (b ≡ d)
info_once file a b c d h k =
    let same = shows_once 1 file h.0 k.0 h.1 k.1 in (
      gives_once notice_tag 0 k.0 a c (subst (λ r. Gives notice_tag 0 r a) same h.2) k.2,
      gives_once licence_tag 0 k.0 b d (subst (λ r. Gives licence_tag 0 r b) same h.3) k.3,
    )
