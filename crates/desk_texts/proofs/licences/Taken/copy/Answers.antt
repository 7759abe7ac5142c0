use Rattle.std.proofs.Common.{◌∙◌, ap, refl}
use Rattle.std.specs.Prelude.{slice_get}
use Rattle.std.proofs.lemmas.Result.{on_ok_weaker}
use Rattle.desk_texts.specs.declared.licences.Taken.{Taken}
use Rattle.desk_texts.proofs.Taking.{again}
use Rattle.desk_texts.proofs.licences.Taken.copy.Goals as goal

pub returns : goal.returns
returns c = λ texts ids id are at.
    let new : Taken = record {
      left = c.args.self.now.left;
      places = c.args.self.now.places;
      found = c.push.new.self;
    } in
    on_ok_weaker c.push.result
    (λ put. again texts ids id c.args.self.now new are c.in_ok-text.text put c.args.place at
    (λ text e. c.in_ok-text.ensures text
    (ap (λ l. slice_get l c.args.place) c.as_slice.ensures ∙ e)) refl refl)
    c.push.ensures.ok
