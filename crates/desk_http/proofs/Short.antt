-- What is written if no memory is left for the reply to an outcome.
use Rattle.std.proofs.Common.{◌≡◌, inr, refl, sym, subst}
use Rattle.std.specs.Prelude.{Bool, true, false, if◌then◌else◌}
use Rattle.desk_http.specs.Replies.{IsTold, no_memory, no_text}
use Rattle.desk_http.specs.declared.asking.Reply.TheVariants.{Became}
use Rattle.desk_http.specs.declared.asking.Shape.{Shape}
use Rattle.desk_model.specs.declared.command.Answer.{Answer}
use Rattle.desk_model.specs.declared.command.Outcome.{Outcome}
use Rattle.desk_model.specs.declared.command.Outcome.TheVariants.{Answered}

pub IsTold-short : (o : Outcome) (a : Answer) (s : Shape) (get : Bool) → o ≡ Answered a
    → IsTold (Became o s get) (if get then no_memory else no_text)
IsTold-short o a s true e =
    subst (λ (x : Outcome). IsTold (Became x s true) no_memory) (sym e) (inr refl)
IsTold-short o a s false e =
    subst (λ (x : Outcome). IsTold (Became x s false) no_text) (sym e) (inr refl)
