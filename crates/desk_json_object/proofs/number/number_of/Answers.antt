use Rattle.std.proofs.Common.{rules, ◌≡◌, true, false, ◌∷◌, ◌==◌, ap, ◌∙◌}
use Rattle.serde_json.specs.Read.{number_of, number_from}
use Rattle.desk_json_object.proofs.Numbers.{number_of-minus, number_of-other, number_of-empty}
use Rattle.desk_json_object.proofs.number.number_of.Goals as goal

pub returns-in_default : goal.returns-in_default
returns-in_default c =
    let text = c.as_bytes-bytes.result.now in
    c.positive.ensures ∙ ap (number_from false) c.scan.ensures.parts
    ∙ number_of-empty text c.in_default.ensures.cases ∙ ap number_of c.as_bytes-bytes.ensures.value

pub returns-then-first-eq45 : goal.returns-then-first-eq45
returns-then-first-eq45 c =
    let text = c.as_bytes-bytes.result.now in
    let is : text ≡ c.in-Some.first.now ∷ c.in-Some.digits.now = c.in-Some.ensures.cases.0 in
    let minus : (c.in-Some.first.now == 45) ≡ true = search rules in
    c.negative.ensures ∙ ap (number_from true) c.scan-then-first-eq45.ensures.parts
    ∙ number_of-minus text c.in-Some.digits.now c.in-Some.first.now is minus
    ∙ ap number_of c.as_bytes-bytes.ensures.value

pub returns-else-first-eq45 : goal.returns-else-first-eq45
returns-else-first-eq45 c =
    let text = c.as_bytes-bytes.result.now in
    let is : text ≡ c.in-Some.first.now ∷ c.in-Some.digits.now = c.in-Some.ensures.cases.0 in
    let other : (c.in-Some.first.now == 45) ≡ false = search rules in
    c.positive-else-first-eq45.ensures ∙ ap (number_from false) c.scan-else-first-eq45.ensures.parts
    ∙ number_of-other text c.in-Some.digits.now c.in-Some.first.now is other
    ∙ ap number_of c.as_bytes-bytes.ensures.value
