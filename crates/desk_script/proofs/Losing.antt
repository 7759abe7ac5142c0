-- What is written of bytes if a writer fails.
use Rattle.std.proofs.Common.{◌≡◌, ℕ, ◌-◌, List, [], ◌++◌, Option, Result, Ok, Err, length, take}
use Rattle.std.proofs.Common.{drop, refl, sym, ap, ◌∙◌, subst, append_assoc, append-nil}
use Rattle.std.proofs.Common.{take-append-drop}
use Rattle.std.specs.Prelude.{OnErr, IfErr}
use Rattle.std.specs.Io.KnownBytes.{Appends, Keeps}
use Rattle.std.proofs.KnownBytes.{Appends-kept, Appends-trans}
use Rattle.std.proofs.lemmas.List.{take_rest}
use Rattle.desk_script.specs.Faults.{IsOfReply, IsOfWriter}
use Rattle.desk_script.specs.Losses.{AppendsFront, IsFrontOf, IsStopAt, Loses}
use Rattle.desk_script.specs.Texts.{line_of}
use Rattle.desk_script.specs.declared.answer.Reply.{Reply}
use Rattle.desk_script.specs.declared.serving.ScriptStop.{ScriptStop}
use Rattle.desk_script.specs.declared.serving.ScriptStop.TheVariants.{Read, Write, Turns, Memory, Refused, Failed}

-- more of the bytes
pub front_moved : (bytes front rest : List ℕ) (n : ℕ) → bytes ≡ front ++ rest
    → bytes ≡ (front ++ take n rest) ++ take (length rest - n) (drop n rest)
front_moved bytes front rest n is =
    is ∙ (ap (λ (l : List ℕ). front ++ l) (sym (take-append-drop n rest))
    ∙ (sym (append_assoc front (take n rest) (drop n rest))
    ∙ ap (λ (l : List ℕ). (front ++ take n rest) ++ l) (sym (take_rest rest n))))

-- a prefix of bytes is a prefix of the bytes and more
pub front_before : (u v : Option (List ℕ)) (text more bytes : List ℕ) → bytes ≡ text
    → AppendsFront u v bytes → AppendsFront u v (text ++ more)
front_before u v text more bytes same h =
    let cut : bytes ≡ h.0 ++ h.1.0 = h.1.1 in (
      h.0,
      (
        h.1.0 ++ more,
        ap (λ (l : List ℕ). l ++ more) (sym same ∙ cut)
            ∙ append_assoc h.0 h.1.0 more,
      ),
      h.2,
    )

-- bytes, and a prefix of more
pub front_after : (u v w : Option (List ℕ)) (text more bytes : List ℕ) → bytes ≡ text
    → Appends u v bytes → AppendsFront v w more → AppendsFront u w (text ++ more)
front_after u v w text more bytes same first h =
    let cut : more ≡ h.0 ++ h.1.0 = h.1.1 in
    let told : Appends u v text = subst (λ (l : List ℕ). Appends u v l) same first in (
      text ++ h.0,
      (h.1.0, ap (λ (l : List ℕ). text ++ l) cut ∙ sym (append_assoc text h.0 h.1.0)),
      Appends-trans u v w text h.0 told h.2,
    )

-- bytes and more, all of them
pub all_after : (u v w x : Option (List ℕ)) (text more bytes : List ℕ) → bytes ≡ text
    → Appends u v bytes → Appends v w more → Keeps w x → Appends u x (text ++ more)
all_after u v w x text more bytes same first second kept =
    Appends-kept u w x (text ++ more)
    (Appends-trans u v w text more (subst (λ (l : List ℕ). Appends u v l) same first) second) kept

pub front_whole : (u v : Option (List ℕ)) (bytes : List ℕ) → Appends u v bytes
    → AppendsFront u v bytes
front_whole u v bytes h = (bytes, ([], sym (append-nil bytes)), h)

-- the line of a reply that couldn't be written
pub lost_line : {T : Type 0} (r : Result T ScriptStop) (reply : Reply) (u v : Option (List ℕ))
    (bytes : List ℕ) → bytes ≡ line_of reply → IfErr r IsOfWriter
    → OnErr r (AppendsFront u v bytes) → IfErr r (λ fault. Loses fault reply u v)
lost_line (Ok x) reply u v bytes is of front = tt
lost_line (Err Write) reply u v bytes is of front = record {
  front = front.0;
  lost = subst (IsFrontOf front.0) is front.1;
  written = front.2;
}
lost_line (Err Read) reply u v bytes is of front = absurd of
lost_line (Err Turns) reply u v bytes is of front = absurd of
lost_line (Err Memory) reply u v bytes is of front = absurd of
lost_line (Err Refused) reply u v bytes is of front = absurd of
lost_line (Err Failed) reply u v bytes is of front = absurd of

-- the fault by which a reply is lost is that of a reply
pub lost_by : (fault : ScriptStop) (reply : Reply) (u v : Option (List ℕ)) → Loses fault reply u v
    → IsOfReply fault
lost_by Write reply u v h = tt
lost_by Memory reply u v h = tt
lost_by Read reply u v h = absurd h.lost
lost_by Turns reply u v h = absurd h.lost
lost_by Refused reply u v h = tt
lost_by Failed reply u v h = tt

-- a reply that is written, and whose line isn't done, ends the script if it is to end there
pub stopped_at : (fault : ScriptStop) (reply : Reply) (u v : Option (List ℕ))
    → IsStopAt reply fault → Appends u v (line_of reply) → Loses fault reply u v
stopped_at Refused reply u v at written = record {
  front = line_of reply;
  lost = (at, refl);
  written = written;
}
stopped_at Failed reply u v at written = record {
  front = line_of reply;
  lost = (at, refl);
  written = written;
}
stopped_at Read reply u v at written = absurd at
stopped_at Write reply u v at written = absurd at
stopped_at Turns reply u v at written = absurd at
stopped_at Memory reply u v at written = absurd at
