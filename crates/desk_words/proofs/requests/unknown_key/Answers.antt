use Rattle.std.proofs.Common.{◌∙◌, List, None, String, Global, string_bytes, subst, sym}
use Rattle.std.specs.Prelude.{ℕ, ◌≢◌}
use Rattle.std.specs.List.{All}
use Rattle.std.specs.Map.Iter.{deref}
use Rattle.std.proofs.lemmas.List.Elements.{All-head, All-tail}
use Rattle.std.proofs.lemmas.Map.Iter.{rest_more}
use Rattle.serde_json.specs.Data.{Data}
use Rattle.serde_json.specs.Find.{get}
use Rattle.serde_json.specs.View.{view}
use Rattle.desk_words.proofs.MemberLemmas.{keys_are_found}
use Rattle.desk_words.proofs.requests.unknown_key.Goals as goal

abbrev IsMember : Data → String Global → Type 0
IsMember d key = get (string_bytes key) d ≢ None

pub loop-name-init : goal.loop-name-init
loop-name-init c = subst (All (IsMember (view c.args.value.now)))
    (sym (c.into_iter-name-iterator.ensures.into_iter_gives ∙ c.keys-name-items.ensures.rest))
    (keys_are_found (view c.args.value.now) c.in-Some.members.now.entries c.in-Some.ensures)

pub returns-then-not-has : goal.returns-then-not-has
returns-then-not-has c =
    let left = rest_more deref c.loop-name.name-iterator c.next.new.self c.next.result
    c.in-Some-name.name c.in-Some-name.is c.next.ensures.steps in
    let here = All-head (IsMember (view c.args.value.now)) c.in-Some-name.name.now c.next.new.self
    (subst (All (IsMember (view c.args.value.now))) left c.loop-name.invariant) in
    subst (λ (key : List ℕ). get key (view c.args.value.now) ≢ None)
    (sym (c.in_ok-from_str.ensures.ok ∙ c.as_str-name.ensures.value)) here

pub loop-name-preserved : goal.loop-name-preserved
loop-name-preserved c =
    let left = rest_more deref c.loop-name.name-iterator c.next.new.self c.next.result
    c.in-Some-name.name c.in-Some-name.is c.next.ensures.steps in
    All-tail (IsMember (view c.args.value.now)) c.in-Some-name.name.now c.next.new.self
    (subst (All (IsMember (view c.args.value.now))) left c.loop-name.invariant)
