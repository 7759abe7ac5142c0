-- What a desk does for a command and a query, it does for a request.
use Rattle.std.proofs.Common.{◌≡◌, Bool, true, false, List, ◌∷◌, Result, Ok, Err, refl, arith}
use Rattle.std.specs.Prelude.{IfOk, IfErr, if◌then◌else◌}
use Rattle.desk_model.specs.Readings.{Readings}
use Rattle.desk_model.specs.Tables.{Tables, tables}
use Rattle.desk_model.specs.Answers.{IsHistory, is_recorded, refused_alone}
use Rattle.desk_model.specs.Faults.{MayBecome, MayFail, outcome_of}
use Rattle.desk_model.specs.Queries.{queried}
use Rattle.desk_model.specs.Runs.{IsAnswer, history_with, is_kept}
use Rattle.desk_model.specs.declared.command.Answer.{Answer}
use Rattle.desk_model.specs.declared.command.Command.{Command}
use Rattle.desk_model.specs.declared.command.Fault.{Fault}
use Rattle.desk_model.specs.declared.command.Query.{Query}
use Rattle.desk_model.specs.declared.command.StoreFault.{StoreFault}
use Rattle.desk_access.specs.Seen.{Seen, Looked, Minds}
use Rattle.desk_core.specs.Desks.{CarriesOut, InHistory}
use Rattle.desk_core.proofs.Leaving.{keeps_after, left_after, outlasts_after, stays_after}
use Rattle.desk_json.specs.declared.request.Request.TheVariants.{Act, Ask}
use Rattle.desk_script.specs.Replies.{Replies, is_recorded_by}
use Rattle.desk_script.specs.declared.answer.Reply.TheVariants.{Became}
use Rattle.desk_script.proofs.Chains.{is_answered-of}

becomes : (tells : StoreFault → Type 0) (r : Result Answer Fault) → IfErr r (MayFail tells)
    → MayBecome tells (outcome_of r)
becomes tells (Ok a) may = tt
becomes tells (Err f) may = may

recorded : (c : Command) (r : Result Answer Fault)
    → is_recorded_by (Act c) (Became (outcome_of r)) ≡ false → is_kept (outcome_of r) ≡ false
recorded c (Ok a) none = none
recorded c (Err f) none = refl

module _ (is_right : Readings → Type 0) (tells : StoreFault → Type 0) {Left : Type 0}
    (stands : Left → Tables → Type 0) (old new : Seen Left) where
  minds_honest : (r : Result Answer Fault) → Minds old new r → new.is_honest → old.is_honest
  minds_honest (Ok a) m = m.0
  minds_honest (Err f) m = m.honest

  answers_by : (w : Readings) (c : Command) (r : Result Answer Fault)
      → CarriesOut stands w c old new r → new.is_honest → (h : List Command) → IsHistory w h
      → old.holds (tables w h)
      → IsAnswer w h c (outcome_of r)
  answers_by w c (Ok a) d clean h ok held = d.right clean h ok held
  answers_by w c (Err f) d clean h ok held = tt

  holds_by : (w : Readings) (c : Command) (h : List Command) (b : Bool)
      → (b ≡ true → new.holds (tables w (c ∷ h))) → (b ≡ false → new.holds (tables w h))
      → new.holds (tables w (if b then c ∷ h else h))
  holds_by w c h true p q = p refl
  holds_by w c h false p q = q refl

  content_by : (w : Readings) (c : Command) (r : Result Answer Fault) → Minds old new r
      → CarriesOut stands w c old new r → new.is_honest → (h : List Command) → IsHistory w h
      → old.holds (tables w h) → new.holds (tables w (history_with h c (outcome_of r)))
  content_by w c (Ok a) m d clean h ok held = holds_by w c h (is_recorded a)
      (λ kept. d.holds kept clean h ok held)
      (λ none. (m.1 none).kept.spared.holds (tables w h) held)
  content_by w c (Err f) m d clean h ok held = m.holds (tables w h) held

  pub Replies-applied : (c : Command) (r : Result Answer Fault) → Minds old new r
      → ((w : Readings) → is_right w → CarriesOut stands w c old new r)
      → ((w : Readings) → is_right w → IfErr r (MayFail (λ fault. refused_alone w c ≡ false)))
      → IfErr r (MayFail tells)
      → Replies is_right tells stands old (Act c) (Became (outcome_of r)) new
  Replies-applied c r m carries alone fault = record {
    fits = becomes tells r fault;
    honest = minds_honest r m;
    keeps = λ none. keeps_after old new r m (recorded c r none);
    outlasts = outlasts_after old new r m;
    answer = λ w right clean h ok held. answers_by w c r (carries w right) clean h ok held;
    content = λ w right clean h ok held. content_by w c r m (carries w right) clean h ok held;
    alone = λ w right. becomes (λ fault. refused_alone w c ≡ false) r (alone w right);
    stays = λ none w right clean h ok held shown. stays_after stands w c old new r (carries w right)
        (is_answered-of (outcome_of r) none) clean shown;
    leaves = λ w right clean h ok held x left. left_after stands w c old new r m (carries w right)
        clean h ok held x left;
  }

  pub Replies-asked : (q : Query) (r : Result Answer Fault)
      → IfOk r (λ a. InHistory is_right (λ w h. a ≡ queried w h q) old new) → Looked old new r
      → IfErr r (MayFail tells)
      → Replies is_right tells stands old (Ask q) (Became (outcome_of r)) new
  Replies-asked q (Ok a) answer looked fault = record {
    fits = tt;
    honest = looked.kept.spared.honest;
    keeps = λ none. looked.kept.spared;
    outlasts = looked.kept.spared.outlasts;
    answer = answer;
    content = λ w right clean h ok held. looked.kept.spared.holds (tables w h) held;
    alone = λ w right. tt;
    stays = λ none w right clean h ok held shown. looked.stays clean shown;
    leaves = λ w right clean h ok held x left shown. looked.kept.leaves clean shown (tables w h)
        held x left;
  }
  Replies-asked q (Err f) answer looked fault = record {
    fits = fault;
    honest = looked.spared.honest;
    keeps = λ none. looked.spared;
    outlasts = looked.spared.outlasts;
    answer = λ w right clean h ok held. tt;
    content = λ w right clean h ok held. looked.spared.holds (tables w h) held;
    alone = λ w right. tt;
    stays = λ none. absurd (omega (arith, none));
    leaves = λ w right clean h ok held x left shown. looked.leaves clean shown (tables w h) held x
        left;
  }
