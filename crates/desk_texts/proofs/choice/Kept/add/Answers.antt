use Rattle.std.proofs.Common.{◌<◌, true, false, length, refl, arith}
use Rattle.std.specs.Vec.{with_item}
use Rattle.desk_texts.specs.declared.choice.Kept.{Kept}
use Rattle.desk_texts.proofs.ChoiceLemmas.{kept_more, kept_same, met_at}
use Rattle.desk_texts.proofs.choice.Kept.add.Goals as goal

pub returns-then-index : goal.returns-then-index
returns-then-index c = λ own chosen kept is at.
    let old = c.args.self.now in
    let slot = c.args.slot in
    let marks = old.is_met.items in
    let within : slot < length marks = omega (arith, c.requires, old.is_met.ok.0) in
    let met = met_at marks slot c.index.result.now true within c.index.ensures c.if-index.true in
    kept_same own chosen old c.args.term slot met is kept

pub returns : goal.returns
returns c = λ own chosen kept is at.
    let old = c.args.self.now in
    let slot = c.args.slot in
    let marks = old.is_met.items in
    let within : slot < length marks = omega (arith, c.requires, old.is_met.ok.0) in
    let unset = met_at marks slot c.index.result.now false within c.index.ensures
    c.if-index.false in
    let new : Kept = record {
      is_met = with_item old.is_met slot true;
      terms = c.push.new.self;
      places = c.push-2.new.self;
    } in
    kept_more own chosen old new c.args.term slot c.args.place within unset refl
    c.in_ok-push.ensures.items c.in_ok-push-2.ensures.items at is kept
