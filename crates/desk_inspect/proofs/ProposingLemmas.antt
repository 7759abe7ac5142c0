-- What is proposed for a document, piece by piece.
use Rattle.std.proofs.Common.{◌≡◌, ◌≢◌, ◌∙◌, ℕ, ◌+◌, ◌<◌, ◌≤◌, pos, List, ◌∷◌, ◌++◌, [], length}
use Rattle.std.proofs.Common.{get_or, take, Option, inl, inr, ap, refl, subst, sym}
use Rattle.std.proofs.lemmas.List.{flat_map_more, take_all, take_more}
use Rattle.std.specs.Prelude.{Result, Ok, Err, IfOk, find}
use Rattle.std.specs.Io.KnownBytes.{Appends}
use Rattle.std.specs.List.{flat_map}
use Rattle.desk_expr.specs.Tree.{Tree}
use Rattle.desk_findings.specs.Fields.{IsReading}
use Rattle.desk_model.specs.Readings.{Readings}
use Rattle.desk_model.specs.Tables.{tables}
use Rattle.desk_model.specs.declared.refusal.Refusal.{Refusal}
use Rattle.desk_access.specs.Seen.{Kept, Same, Seen}
use Rattle.desk_access.proofs.Chains.{same_then_same}
use Rattle.desk_core.specs.Desks.{InHistory}
use Rattle.desk_snapshot.specs.Conditions.{profile_at}
use Rattle.desk_snapshot.specs.Tables.{snapshot_of}
use Rattle.desk_snapshot.specs.declared.snapshot.Snapshot.{Snapshot}
use Rattle.desk_subcommands.specs.declared.failure.Failure.{Failure}
use Rattle.desk_views.specs.Proposing.{ProposesHeld, choice_lines_for, is_document}
use Rattle.desk_views.specs.Proposing.{open_releases_with}
use Rattle.desk_wanting.proofs.SoFar.{SoFar}
use Rattle.desk_wanting.specs.Sole.{sole_choices_found}
use Rattle.desk_wanting.specs.declared.sole_choice.SoleChoice.{SoleChoice}
use Rattle.desk_inspect.specs.Proposing.{Proposes, ProposesBoth, ProposesRow, TellsProposals}
use Rattle.desk_inspect.specs.Proposing.{choice_lines_in}

-- the lines of one more item
lines_more : {A : Type 0} (f : A → List ℕ) (xs : List A) (i : ℕ) (x : A) → i < length xs
    → x ≡ get_or xs i x → flat_map f (take i xs) ++ f x ≡ flat_map f (take (i + 1) xs)
lines_more f xs i x within is =
    flat_map_more f [] (take i xs) x
    ∙ (ap (λ y. flat_map f (take i xs ++ y ∷ [])) is
    ∙ ap (flat_map f) (sym (take_more xs i x within)))

module _ {Left : Type 0} (is_right : Readings → Type 0) (document : ℕ) (releases : List (List ℕ))
    (i : ℕ) (a b : Seen Left) where
  -- a turn of a loop that finds the choices of one more release
  pub choices_turn : (release old new : List ℕ) (found : Result (List SoleChoice) Refusal)
      (c : Seen Left) → i < length releases → release ≡ get_or releases i release
      → SoFar (InHistory is_right
      (λ w h. old ≡ choice_lines_in w (tables w h) document (take i releases))) a b
      → Same b c → InHistory is_right (λ w h. found ≡ sole_choices_found w (tables w h) release) b c
      → new ≡ old ++ choice_lines_for document release found
      → SoFar (InHistory is_right
      (λ w h. new ≡ choice_lines_in w (tables w h) document (take (i + 1) releases))) a c
  choices_turn release old new found c within at before second is added = record {
    same = same_then_same a b c before.same second;
    found = λ w right honest h ok held.
        let t = tables w h in
        let lines = λ (r : List ℕ). choice_lines_for document r (sole_choices_found w t r) in
        let here = is w right honest h ok (before.same.kept.spared.holds t held) in
        added
        ∙ (ap (λ (found : Result (List SoleChoice) Refusal).
        old ++ choice_lines_for document release found) here
        ∙ (ap (λ (l : List ℕ). l ++ lines release)
        (before.found w right (second.kept.spared.honest honest) h ok held)
        ∙ lines_more lines releases i release within at));
  }

  -- no release is left
  pub choices_end : (text : List ℕ) → length releases ≤ i
      → SoFar (InHistory is_right
      (λ w h. text ≡ choice_lines_in w (tables w h) document (take i releases))) a b
      → InHistory is_right (λ w h. text ≡ choice_lines_in w (tables w h) document releases) a b
  choices_end text out before w right honest h ok held =
      before.found w right honest h ok held
      ∙ ap (choice_lines_in w (tables w h) document) (take_all i releases out)

-- bytes whose proposals don't come to status 0 are no document
pub refused : (w : Readings) (reads : List ℕ → Option Tree) (s : Snapshot) (number : ℕ)
    (bytes choices text : List ℕ) (status : ℕ) → status ≢ 0
    → ProposesHeld w reads s number bytes text status
    → ProposesBoth w reads s number bytes choices text status
refused w reads s number bytes choices text status some (inl (d, spells, lines)) =
    absurd (some lines.3)
refused w reads s number bytes choices text status some (inr is) = inr is

module _ {Left : Type 0} (is_right : Readings → Type 0) (s : Snapshot) (number : ℕ)
    (old new : Option (List ℕ)) where
  -- what is written with the requests that a look-up found is proposed
  pub held_told : (found choices : List ℕ) (result : Result ℕ Failure) (a b : Seen Left) → Same a b
      → InHistory is_right (λ w h. found
      ≡ choice_lines_in w (tables w h) number (open_releases_with s (pos number))) a b
      → choices ≡ found
      → ((w : Readings) (reads : List ℕ → Option Tree) → is_right w
      → IsReading (profile_at s (pos number)) reads
      → IfOk result (λ status. (text : List ℕ)
      × ProposesRow w reads s number choices (find (is_document number) s.document) text status
      × Appends old new text))
      → IfOk result (λ status. InHistory is_right
      (λ w h. Proposes w s (tables w h) number old new status) a b)
  held_told found choices (Ok status) a b same of e told = λ w right honest h ok held reads is.
      let it = told w reads right is in (
        it.0,
        subst (λ (lines : List ℕ). ProposesRow w reads s number lines
            (find (is_document number) s.document) it.0 status)
            (e ∙ of w right honest h ok held) it.1,
        it.2,
      )
  held_told found choices (Err why) a b same of e told = tt

  -- and proposed for a document of the desk, if the rows are the desk's
  pub proposals_told : (result : Result ℕ Failure) (a b c : Seen Left) → Same a b → Kept b c
      → InHistory is_right (λ w h. s ≡ snapshot_of (tables w h)) a b
      → IfOk result (λ status. InHistory is_right
      (λ w h. Proposes w s (tables w h) number old new status) b c)
      → IfOk result (TellsProposals is_right number a c old new)
  proposals_told (Ok status) a b c same kept found told = λ w right honest h ok held.
      subst (λ (s : Snapshot). Proposes w s (tables w h) number old new status)
      (found w right (kept.spared.honest honest) h ok held)
      (told w right honest h ok (same.kept.spared.holds (tables w h) held))
  proposals_told (Err why) a b c same kept found told = tt
