use Rattle.std.proofs.Common.{arith, ◌≡◌, ◌<◌, length, ◌≢◌}
use Rattle.std.proofs.Common.{rules}
use Rattle.std.specs.Prelude.{None, Some}
use Rattle.std.proofs.lemmas.List.Elements.{All-from_get_or}
use Rattle.std.proofs.lemmas.Str.Pattern.{split_parts}
use Rattle.desk_fields.specs.Text.{trimmed}
use Rattle.desk_fields.proofs.Scans.{no_tag, empty_tag, tag_facts}
use Rattle.desk_fields.proofs.scan.around_colon.Goals as goal

pub returns-in_default-clause-none : goal.returns-in_default-clause-none
returns-in_default-clause-none c = no_tag c.args.line.now
    (split_parts 58 c.args.line.now None c.in_default.ensures.cases (omega arith))

pub returns-then-is_empty-clause-none : goal.returns-then-is_empty-clause-none
returns-then-is_empty-clause-none c =
    let parts = split_parts 58 c.args.line.now (Some (c.in-Some.front, c.in-Some.after))
    c.in-Some.ensures.cases (omega arith) in
    let none : length (trimmed c.in-Some.front.now) ≡ 0 = rw (← c.trim.ensures) (search rules) in
    empty_tag c.args.line.now c.in-Some.front.now c.in-Some.after.now parts.0
    (All-from_get_or (λ d. d ≢ 58) c.in-Some.front.now 0 parts.1) none

pub returns-clause-tagged : goal.returns-clause-tagged
returns-clause-tagged c =
    let parts = split_parts 58 c.args.line.now (Some (c.in-Some.front, c.in-Some.after))
    c.in-Some.ensures.cases (omega arith) in
    let some : 0 < length (trimmed c.in-Some.front.now) = rw (← c.trim.ensures) (search rules) in (
      All-from_get_or (λ d. d ≢ 58) c.in-Some.front.now 0 parts.1,
      some,
      tag_facts c.args.line.now c.in-Some.front.now c.in-Some.after.now c.requires parts.0 some,
    )
