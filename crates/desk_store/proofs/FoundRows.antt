-- What is looked up in the rows of a history's tables.
use Rattle.std.proofs.Common.{Result, Ok, Err}
use Rattle.std.specs.Prelude.{IfOk}
use Rattle.desk_model.specs.Readings.{Readings}
use Rattle.desk_model.specs.Tables.{Tables, tables}
use Rattle.desk_access.specs.Seen.{Seen, OfRows}
use Rattle.desk_core.specs.Desks.{InHistory}

pub found_by_each : {A E Left : Type 0} (is_right : Readings → Type 0)
    (P : A → Readings → Tables → Type 0) (a b : Seen Left) (r : Result A E)
    → ((w : Readings) → is_right w → IfOk r (λ x. OfRows (P x w) a b))
    → IfOk r (λ x. InHistory is_right (λ w h. P x w (tables w h)) a b)
found_by_each is_right P a b (Ok x) it = λ w right honest h ok held. it w right honest (tables w h)
    held
found_by_each is_right P a b (Err e) it = tt

pub found_by_all : {A E Left : Type 0} (is_right : Readings → Type 0) (P : A → Tables → Type 0)
    (a b : Seen Left) (r : Result A E)
    → IfOk r (λ x. OfRows (P x) a b)
    → IfOk r (λ x. InHistory is_right (λ w h. P x (tables w h)) a b)
found_by_all is_right P a b (Ok x) it = λ w right honest h ok held. it honest (tables w h) held
found_by_all is_right P a b (Err e) it = tt
