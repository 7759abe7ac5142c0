use Rattle.std.proofs.Common.{◌∙◌, Some, length, ap, subst}
use Rattle.std.specs.BTreeMap.{UpdatesBy, get_by}
use Rattle.std.specs.Cmp.Lexicographic.{slice_cmp}
use Rattle.std.specs.Ordering.{nat_cmp}
use Rattle.std.proofs.lemmas.Result.{on_ok_weaker}
use Rattle.desk_texts.specs.declared.licences.Taken.{Taken}
use Rattle.desk_texts.proofs.Taking.{first}
use Rattle.desk_texts.proofs.licences.Taken.take.Goals as goal

pub returns : goal.returns
returns c = λ texts ids id are is none.
    let old = c.args.self.now in
    let key = c.args.key in
    let new : Taken = record {
      left = c.remove-text.new.self;
      places = c.insert.new.self;
      found = c.push.new.self;
    } in
    let places = subst (λ n. UpdatesBy (slice_cmp nat_cmp) (slice_cmp nat_cmp key) old.places
    c.insert.new.self (Some n)) (ap length c.as_slice.ensures) c.in_ok-insert.ensures.updates in
    on_ok_weaker c.push.result
    (λ put. first texts ids id old new are c.remove-text.result put key is
    (ap (λ k. get_by (slice_cmp nat_cmp k) old.places) is ∙ none) c.remove-text.ensures.value
    c.remove-text.ensures.updates places)
    c.push.ensures.ok
