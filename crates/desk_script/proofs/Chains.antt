-- Requests one after another.
use Rattle.std.proofs.Common.{◌≡◌, ℕ, zero, suc, ◌+◌, true, false, List, [], ◌∷◌, ◌++◌}
use Rattle.std.proofs.Common.{Option, take, drop, refl, sym, ◌∙◌, ap, subst, arith, append_assoc}
use Rattle.std.proofs.Common.{⊎_elim, inl, inr}
use Rattle.std.specs.Prelude.{sum_by}
use Rattle.std.specs.Io.KnownBytes.{Appends}
use Rattle.std.proofs.KnownBytes.{Appends-nil, Appends-trans}
use Rattle.std.proofs.lemmas.Grind.{flat_map-append}
use Rattle.std.proofs.lemmas.List.Sums.{sum_by-append, sum_by-cons}
use Rattle.std.proofs.lemmas.Bool.{or_parts}
use Rattle.desk_model.specs.Readings.{Readings}
use Rattle.desk_model.specs.Tables.{Tables, tables}
use Rattle.desk_model.specs.Answers.{IsHistory}
use Rattle.desk_model.specs.Runs.{AreAnswers, history_after, history_with}
use Rattle.desk_model.specs.declared.command.Command.{Command}
use Rattle.desk_model.specs.declared.command.Outcome.{Outcome}
use Rattle.desk_model.specs.declared.command.Outcome.TheVariants.{Answered, Failed}
use Rattle.desk_model.specs.declared.command.StoreFault.{StoreFault}
use Rattle.desk_history.proofs.Running.{IsHistory-with}
use Rattle.desk_access.specs.Seen.{Seen, Outlasts, Spared}
use Rattle.desk_access.proofs.Chains.{outlasts_self, outlasts_then, spared_self, spared_then}
use Rattle.desk_core.specs.Desks.{AllSpareStore, Secures, is_answered}
use Rattle.desk_core.proofs.Leaving.{secures_after}
use Rattle.desk_json.specs.declared.request.Request.{Request}
use Rattle.desk_json.specs.declared.request.Request.TheVariants.{Act, Ask, BadCommand}
use Rattle.desk_script.specs.Losses.{AreDone, AreToldUntil, IfStop, IsOfLine, LosesLast}
use Rattle.desk_script.specs.Replies.{AreReplied, IsReply, IsRun, Replies, commands_of}
use Rattle.desk_script.specs.Replies.{history_past, is_any_recorded, is_recorded_by, outcomes_of}
use Rattle.desk_script.specs.Script.{HasRun, IsUncounted, Serves, ServesUntil}
use Rattle.desk_script.specs.Texts.{line_of, lines_of, count_refused, count_failed}
use Rattle.desk_script.specs.declared.answer.Reply.{Reply}
use Rattle.desk_script.specs.declared.answer.Reply.TheVariants.{Became, NoRequest}
use Rattle.desk_script.specs.declared.serving.ScriptEnd.{ScriptEnd}
use Rattle.desk_script.specs.declared.serving.ScriptStop.{ScriptStop}
use Rattle.desk_script.specs.declared.serving.ScriptStop.TheVariants.{Read, Write, Turns, Memory, Refused, Failed}

-- a history with the command of a request is a history
pub IsHistory-past : (w : Readings) (h : List Command) (r : Request) (p : Reply) → IsHistory w h
    → IsReply w h r p → IsHistory w (history_past h r p)
IsHistory-past w h (Act c) (Became o) ok is = IsHistory-with w h c o ok is
IsHistory-past w h (Act c) NoRequest ok is = ok
IsHistory-past w h (Ask q) p ok is = ok
IsHistory-past w h BadCommand p ok is = ok

-- what follows from a fact if a script stops
pub stop_then : {P Q : Type 0} (fault : ScriptStop) → (P → Q) → IfStop P fault → IfStop Q fault
stop_then Refused f h = f h
stop_then Failed f h = f h
stop_then Read f h = tt
stop_then Write f h = tt
stop_then Turns f h = tt
stop_then Memory f h = tt

are_done : (ps qs : List Reply) → AreDone ps → AreDone qs → AreDone (ps ++ qs)
are_done ps qs h k =
    let refused : sum_by count_refused (ps
    ++ qs) ≡ sum_by count_refused ps
    + sum_by count_refused qs = sum_by-append count_refused ps qs in
    let failed : sum_by count_failed (ps ++ qs) ≡ sum_by count_failed ps + sum_by count_failed qs =
    sum_by-append count_failed ps qs in
    (omega (arith, refused, h.0, k.0), omega (arith, failed, h.1, k.1))

both_done : (fault : ScriptStop) (ps qs : List Reply) → IfStop (AreDone ps) fault
    → IfStop (AreDone qs) fault → IfStop (AreDone (ps ++ qs)) fault
both_done Refused ps qs h k = are_done ps qs h k
both_done Failed ps qs h k = are_done ps qs h k
both_done Read ps qs h k = tt
both_done Write ps qs h k = tt
both_done Turns ps qs h k = tt
both_done Memory ps qs h k = tt

-- an outcome that doesn't count as failed is answered
pub is_answered-of : (o : Outcome) → count_failed (Became o) ≡ 0 → is_answered o ≡ true
is_answered-of (Answered a) none = refl
is_answered-of (Failed f) none = absurd (omega (arith, none))

no_failed : (p : Reply) (ps : List Reply) → sum_by count_failed (p ∷ ps) ≡ 0
    → (count_failed p ≡ 0) × (sum_by count_failed ps ≡ 0)
no_failed p ps none =
    let both : sum_by count_failed (p ∷ ps) ≡ count_failed p + sum_by count_failed ps =
    sum_by-cons count_failed p ps in
    (omega (arith, none, both), omega (arith, none, both))

-- replies that are written, and then others until a fault
told_after : (fault : ScriptStop) (ps qs : List Reply) (u v w : Option (List ℕ))
    → IfStop (AreDone ps) fault → Appends u v (lines_of ps) → AreToldUntil fault qs v w
    → AreToldUntil fault (ps ++ qs) u w
told_after fault ps qs u v w done first rest = ⊎_elim (λ whole. inl (all whole))
    (λ cut. inr (front cut)) rest
  where
    all : IsOfLine fault × Appends v w (lines_of qs)
        → IsOfLine fault × Appends u w (lines_of (ps ++ qs))
    all h = (
      h.0,
      subst (λ (bs : List ℕ). Appends u w bs) (sym (flat_map-append line_of ps qs))
          (Appends-trans u v w (lines_of ps) (lines_of qs) first h.1),
    )

    front : LosesLast fault qs v w → LosesLast fault (ps ++ qs) u w
    front h = record {
      told = ps ++ h.told;
      last = h.last;
      are = ap (λ (l : List Reply). ps ++ l) h.are ∙ sym (append_assoc ps h.told (h.last ∷ []));
      front = h.front;
      lost = h.lost;
      first = both_done fault ps h.told done h.first;
      written = subst (λ (bs : List ℕ). Appends u w bs)
          (sym (append_assoc (lines_of ps) (lines_of h.told) h.front)
          ∙ ap (λ (l : List ℕ). l ++ h.front) (sym (flat_map-append line_of ps h.told)))
          (Appends-trans u v w (lines_of ps) (lines_of h.told ++ h.front) first h.written);
    }

module _ (is_right : Readings → Type 0) (tells : StoreFault → Type 0) {Left Desk : Type 0}
    (stands : Left → Tables → Type 0) (seen : Desk → Seen Left) where
  pub AreReplied-one : (a b : Desk) (r : Request) (p : Reply)
      → Replies is_right tells stands (seen a) r p (seen b)
      → AreReplied is_right tells stands seen a (r ∷ []) (p ∷ []) b
  AreReplied-one a b r p one = (b, one, refl)

  pub AreReplied-then : (a b c : Desk) (rs ss : List Request) (ps qs : List Reply)
      → AreReplied is_right tells stands seen a rs ps b
      → AreReplied is_right tells stands seen b ss qs c
      → AreReplied is_right tells stands seen a (rs ++ ss) (ps ++ qs) c
  AreReplied-then a b c [] ss [] qs h k = subst (λ (d : Desk). AreReplied is_right tells stands seen
      d ss qs c) (sym h) k
  AreReplied-then a b c [] ss (p ∷ ps) qs h k = absurd h
  AreReplied-then a b c (r ∷ rs) ss [] qs h k = absurd h
  AreReplied-then a b c (r ∷ rs) ss (p ∷ ps) qs h k = (
    h.0,
    h.1,
    AreReplied-then h.0 b c rs ss ps qs h.2 k,
  )

  replied_honest : (a b : Desk) (rs : List Request) (ps : List Reply)
      → AreReplied is_right tells stands seen a rs ps b → (seen b).is_honest → (seen a).is_honest
  replied_honest a b [] [] h clean = subst (λ (d : Desk). (seen d).is_honest) (sym h) clean
  replied_honest a b [] (p ∷ ps) h clean = absurd h
  replied_honest a b (r ∷ rs) [] h clean = absurd h
  replied_honest a b (r ∷ rs) (p ∷ ps) h clean = h.1.honest (replied_honest h.0 b rs ps h.2 clean)

  replied_keeps : (a b : Desk) (rs : List Request) (ps : List Reply)
      → AreReplied is_right tells stands seen a rs ps b → is_any_recorded rs ps ≡ false
      → Spared (seen a) (seen b)
  replied_keeps a b [] [] h none =
      subst (λ (d : Desk). Spared (seen a) (seen d)) h (spared_self (seen a))
  replied_keeps a b [] (p ∷ ps) h none = absurd h
  replied_keeps a b (r ∷ rs) [] h none = absurd h
  replied_keeps a b (r ∷ rs) (p ∷ ps) h none =
      let both = or_parts (is_recorded_by r p) (is_any_recorded rs ps) none in
      let first = h.1.keeps both.0 in
      let second = replied_keeps h.0 b rs ps h.2 both.1 in
      spared_then (seen a) (seen h.0) (seen b) first second

  replied_outlasts : (a b : Desk) (rs : List Request) (ps : List Reply)
      → AreReplied is_right tells stands seen a rs ps b → Outlasts (seen a) (seen b)
  replied_outlasts a b [] [] h = subst (λ (d : Desk). Outlasts (seen a) (seen d)) h
      (outlasts_self (seen a))
  replied_outlasts a b [] (p ∷ ps) h = absurd h
  replied_outlasts a b (r ∷ rs) [] h = absurd h
  replied_outlasts a b (r ∷ rs) (p ∷ ps) h =
      outlasts_then (seen a) (seen h.0) (seen b) (replied_honest h.0 b rs ps h.2) h.1.outlasts
      (replied_outlasts h.0 b rs ps h.2)

  -- what is known of the commands among requests that were answered
  abbrev RunsTo : Readings → List Command → List Request → List Reply → Desk → Type 0
  RunsTo w h rs ps b =
      AreAnswers w h (commands_of rs) (outcomes_of rs ps)
      × IsHistory w (history_after h (commands_of rs) (outcomes_of rs ps))
      × (seen b).holds (tables w (history_after h (commands_of rs) (outcomes_of rs ps)))

  replied_run : (a b : Desk) (rs : List Request) (ps : List Reply)
      → AreReplied is_right tells stands seen a rs ps b → (w : Readings) → is_right w
      → (seen b).is_honest
      → (h : List Command) → IsHistory w h → (seen a).holds (tables w h) → RunsTo w h rs ps b
  replied_run a b [] [] r w right clean h ok held = (
    tt,
    ok,
    subst (λ (d : Desk). (seen d).holds (tables w h)) r held,
  )
  replied_run a b [] (p ∷ ps) r w right clean h ok held = absurd r
  replied_run a b (q ∷ rs) [] r w right clean h ok held = absurd r
  replied_run a b (Act c ∷ rs) (Became o ∷ ps) r w right clean h ok held =
      let mid = replied_honest r.0 b rs ps r.2 clean in
      let is = r.1.answer w right mid h ok held in
      let rest = replied_run r.0 b rs ps r.2 w right clean (history_with h c o)
      (IsHistory-with w h c o ok is) (r.1.content w right mid h ok held) in
      ((is, rest.0), rest.1, rest.2)
  replied_run a b (Act c ∷ rs) (NoRequest ∷ ps) r w right clean h ok held = absurd r.1.fits
  replied_run a b (Ask q ∷ rs) (Became o ∷ ps) r w right clean h ok held =
      replied_run r.0 b rs ps r.2 w right clean h ok
      (r.1.content w right (replied_honest r.0 b rs ps r.2 clean) h ok held)
  replied_run a b (Ask q ∷ rs) (NoRequest ∷ ps) r w right clean h ok held = absurd r.1.fits
  replied_run a b (BadCommand ∷ rs) (Became o ∷ ps) r w right clean h ok held =
      replied_run r.0 b rs ps r.2 w right clean h ok
      (r.1.content w right (replied_honest r.0 b rs ps r.2 clean) h ok held)
  replied_run a b (BadCommand ∷ rs) (NoRequest ∷ ps) r w right clean h ok held =
      replied_run r.0 b rs ps r.2 w right clean h ok
      (r.1.content w right (replied_honest r.0 b rs ps r.2 clean) h ok held)

  replied_alone : (a b : Desk) (rs : List Request) (ps : List Reply)
      → AreReplied is_right tells stands seen a rs ps b → (w : Readings) → is_right w
      → AllSpareStore w (commands_of rs) (outcomes_of rs ps)
  replied_alone a b [] [] r w right = tt
  replied_alone a b [] (p ∷ ps) r w right = absurd r
  replied_alone a b (q ∷ rs) [] r w right = absurd r
  replied_alone a b (Act c ∷ rs) (Became o ∷ ps) r w right = (
    r.1.alone w right,
    replied_alone r.0 b rs ps r.2 w right,
  )
  replied_alone a b (Act c ∷ rs) (NoRequest ∷ ps) r w right = absurd r.1.fits
  replied_alone a b (Ask q ∷ rs) (p ∷ ps) r w right = replied_alone r.0 b rs ps r.2 w right
  replied_alone a b (BadCommand ∷ rs) (p ∷ ps) r w right = replied_alone r.0 b rs ps r.2 w right

  -- a request that is no command leaves what was left
  kept_secure : (w : Readings) (h : List Command) (old new : Seen Left)
      → (old.is_open → new.is_open) → ((x : Left) → new.leaves x → old.is_open → old.leaves x)
      → Secures stands (tables w h) old → Secures stands (tables w h) new
  kept_secure w h old new stays leaves s = record {
    is_open = stays s.is_open;
    leaves = λ x left. s.leaves x (leaves x left s.is_open);
  }

  replied_secures : (a b : Desk) (rs : List Request) (ps : List Reply)
      → AreReplied is_right tells stands seen a rs ps b → sum_by count_failed ps ≡ 0
      → (w : Readings) → is_right w → (seen b).is_honest → (h : List Command) → IsHistory w h
      → (seen a).holds (tables w h) → Secures stands (tables w h) (seen a)
      → Secures stands (tables w (history_after h (commands_of rs) (outcomes_of rs ps))) (seen b)
  replied_secures a b [] [] r none w right clean h ok held s = subst (λ (d : Desk). Secures stands
      (tables w h) (seen d)) r s
  replied_secures a b [] (p ∷ ps) r none w right clean h ok held s = absurd r
  replied_secures a b (q ∷ rs) [] r none w right clean h ok held s = absurd r
  replied_secures a b (Act c ∷ rs) (Became o ∷ ps) r none w right clean h ok held s =
      let mid = replied_honest r.0 b rs ps r.2 clean in
      let each = no_failed (Became o) ps none in
      replied_secures r.0 b rs ps r.2 each.1 w right clean (history_with h c o)
      (IsHistory-with w h c o ok (r.1.answer w right mid h ok held))
      (r.1.content w right mid h ok held)
      (secures_after stands w c (seen a) (seen r.0) h o (is_answered-of o each.0)
      (r.1.stays each.0 w right mid h ok held) (r.1.leaves w right mid h ok held) s)
  replied_secures a b (Act c ∷ rs) (NoRequest
      ∷ ps) r none w right clean h ok held s = absurd r.1.fits
  replied_secures a b (Ask q ∷ rs) (Became o ∷ ps) r none w right clean h ok held s =
      let mid = replied_honest r.0 b rs ps r.2 clean in
      let each = no_failed (Became o) ps none in
      replied_secures r.0 b rs ps r.2 each.1 w right clean h ok (r.1.content w right mid h ok held)
      (kept_secure w h (seen a) (seen r.0) (r.1.stays each.0 w right mid h ok held)
      (r.1.leaves w right mid h ok held) s)
  replied_secures a b (Ask q ∷ rs) (NoRequest
      ∷ ps) r none w right clean h ok held s = absurd r.1.fits
  replied_secures a b (BadCommand ∷ rs) (Became o ∷ ps) r none w right clean h ok held s =
      let mid = replied_honest r.0 b rs ps r.2 clean in
      let each = no_failed (Became o) ps none in
      replied_secures r.0 b rs ps r.2 each.1 w right clean h ok (r.1.content w right mid h ok held)
      (kept_secure w h (seen a) (seen r.0) (r.1.stays each.0 w right mid h ok held)
      (r.1.leaves w right mid h ok held) s)
  replied_secures a b (BadCommand ∷ rs) (NoRequest ∷ ps) r none w right clean h ok held s =
      let mid = replied_honest r.0 b rs ps r.2 clean in
      let each = no_failed NoRequest ps none in
      replied_secures r.0 b rs ps r.2 each.1 w right clean h ok (r.1.content w right mid h ok held)
      (kept_secure w h (seen a) (seen r.0) (r.1.stays each.0 w right mid h ok held)
      (r.1.leaves w right mid h ok held) s)

  pub IsRun-of : (a b : Desk) (rs : List Request) (ps : List Reply)
      → AreReplied is_right tells stands seen a rs ps b
      → IsRun is_right stands (seen a) rs ps (seen b)
  IsRun-of a b rs ps r = record {
    honest = replied_honest a b rs ps r;
    keeps = replied_keeps a b rs ps r;
    outlasts = replied_outlasts a b rs ps r;
    alone = replied_alone a b rs ps r;
    answers = λ w right clean h ok held. (replied_run a b rs ps r w right clean h ok held).0;
    history = λ w right clean h ok held. (replied_run a b rs ps r w right clean h ok held).1;
    content = λ w right clean h ok held. (replied_run a b rs ps r w right clean h ok held).2;
    secures = replied_secures a b rs ps r;
  }

  -- the desk after this many requests
  replied_front : (n : ℕ) (a b : Desk) (rs : List Request) (ps : List Reply)
      → AreReplied is_right tells stands seen a rs ps b
      → (m : Desk) × AreReplied is_right tells stands seen a (take n rs) (take n ps) m
      × AreReplied is_right tells stands seen m (drop n rs) (drop n ps) b
  replied_front zero a b rs ps r = (a, refl, r)
  replied_front (suc n) a b [] [] r = (b, r, refl)
  replied_front (suc n) a b [] (p ∷ ps) r = absurd r
  replied_front (suc n) a b (q ∷ rs) [] r = absurd r
  replied_front (suc n) a b (q ∷ rs) (p ∷ ps) r = let at = replied_front n r.0 b rs ps r.2 in
      (at.0, (r.0, r.1, at.1), at.2)

  pub HasRun-of : (a b : Desk) (rs : List Request) (ps : List Reply)
      → AreReplied is_right tells stands seen a rs ps b → (n : ℕ)
      → HasRun is_right tells stands seen n rs ps a b
  HasRun-of a b rs ps r n =
      let at = replied_front n a b rs ps r in
      record {
        between = at.0;
        replied = at.1;
        run = IsRun-of a at.0 (take n rs) (take n ps) at.1;
        rest = at.2;
      }

  pub Serves-none : (a : Desk) (w : Option (List ℕ)) (from : ScriptEnd)
      → Serves is_right tells stands seen [] a a w w from from
  Serves-none a w from = record {
    replies = [];
    replied = refl;
    written = Appends-nil w;
    refused = omega arith;
    failed = omega arith;
  }

  pub Serves-then : (a b c : Desk) (rs ss : List Request) (u v w : Option (List ℕ))
      (from mid to : ScriptEnd)
      → Serves is_right tells stands seen rs a b u v from mid
      → Serves is_right tells stands seen ss b c v w mid to
      → Serves is_right tells stands seen (rs ++ ss) a c u w from to
  Serves-then a b c rs ss u v w from mid to h k =
      let refused : sum_by count_refused (h.replies
      ++ k.replies) ≡ sum_by count_refused h.replies + sum_by count_refused k.replies =
      sum_by-append count_refused h.replies k.replies in
      let failed : sum_by count_failed (h.replies
      ++ k.replies) ≡ sum_by count_failed h.replies + sum_by count_failed k.replies =
      sum_by-append count_failed h.replies k.replies in
      record {
        replies = h.replies ++ k.replies;
        replied = AreReplied-then a b c rs ss h.replies k.replies h.replied k.replied;
        written = subst (λ (bs : List ℕ). Appends u w bs)
            (sym (flat_map-append line_of h.replies k.replies))
            (Appends-trans u v w (lines_of h.replies) (lines_of k.replies) h.written k.written);
        refused = omega (arith, refused, h.refused, k.refused);
        failed = omega (arith, failed, h.failed, k.failed);
      }

  -- if nothing was counted, what was served is done
  uncounted_done : (a b : Desk) (rs : List Request) (u v : Option (List ℕ)) (from to : ScriptEnd)
      → (h : Serves is_right tells stands seen rs a b u v from to) → IsUncounted from to
      → AreDone h.replies
  uncounted_done a b rs u v from to h still = (
    omega (arith, h.refused, still.0),
    omega (arith, h.failed, still.1),
  )

  -- requests that were served, and then others until a fault
  pub ServesUntil-then : (fault : ScriptStop) (a b c : Desk) (rs ss : List Request)
      (u v w : Option (List ℕ)) (from mid : ScriptEnd) → IfStop (IsUncounted from mid) fault
      → Serves is_right tells stands seen rs a b u v from mid
      → ServesUntil is_right tells stands seen fault ss b c v w
      → ServesUntil is_right tells stands seen fault (rs ++ ss) a c u w
  ServesUntil-then fault a b c rs ss u v w from mid still h k = record {
    replies = h.replies ++ k.replies;
    replied = AreReplied-then a b c rs ss h.replies k.replies h.replied k.replied;
    told = told_after fault h.replies k.replies u v w
        (stop_then fault (uncounted_done a b rs u v from mid h) still) h.written k.told;
  }

  -- requests that were served before a fault that isn't that of a reply
  pub ServesUntil-line : (fault : ScriptStop) (a b : Desk) (rs : List Request)
      (u v : Option (List ℕ)) (from to : ScriptEnd) → IsOfLine fault
      → Serves is_right tells stands seen rs a b u v from to
      → ServesUntil is_right tells stands seen fault rs a b u v
  ServesUntil-line fault a b rs u v from to of_line h = record {
    replies = h.replies;
    replied = h.replied;
    told = inl (of_line, h.written);
  }
