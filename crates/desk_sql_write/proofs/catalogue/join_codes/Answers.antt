use Rattle.std.proofs.Common.{rules, ◌≡◌, ◌∷◌, [], ◌++◌}
use Rattle.std.specs.String.{string_bytes}
use Rattle.desk_sql_write.proofs.Lists.{joined_on}
use Rattle.desk_sql_write.proofs.catalogue.join_codes.Goals as goal

pub loop-code-preserved : goal.loop-code-preserved
loop-code-preserved c =
    let whole : c.args.codes.now ≡ c.in-Some.first.now ∷ c.in-Some.rest.now = search rules in
    let blank : string_bytes c.push.new.self ≡ string_bytes c.loop-code.text ++ 32 ∷ [] =
    search rules in
    let said : string_bytes c.push_str-in-loop-code.new.self ≡ string_bytes c.push.new.self
    ++ c.code-item.result = search rules in
    joined_on c.args.codes.now c.in-Some.rest.now c.in-Some.first.now c.code-item.result
    c.loop-code.code-index (string_bytes c.loop-code.text) (string_bytes c.push.new.self)
    (string_bytes c.push_str-in-loop-code.new.self)
    whole c.loop-code-test.true c.code-item.is c.loop-code.invariant blank said
