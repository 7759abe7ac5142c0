-- What the parser found in the first bytes says whether they come from elsewhere.
use Rattle.std.proofs.Common.{◌≡◌, ℕ, ◌<◌, ◌≤◌, Bool, true, false, List, length, take, drop, sym, ap, subst}
use Rattle.std.proofs.Common.{◌∙◌, refl, arith}
use Rattle.std.specs.Prelude.{map, nat_le, MatchBool}
use Rattle.std.proofs.lemmas.Bool.{leb-true, leb-false}
use Rattle.std.proofs.lemmas.List.{take_all}
use Rattle.httparse.specs.Grammar.{RequestHead, HasNoRequest}
use Rattle.httparse.specs.Spans.{header_bytes, name_and_value, IsRequestAt, IsRequestWithin}
use Rattle.httparse.specs.declared.spans.HeaderSpan.{HeaderSpan}
use Rattle.httparse.specs.declared.spans.RequestSpans.{RequestSpans}
use Rattle.desk_http_head.specs.Fields.{Field}
use Rattle.desk_http_head.specs.Heads.{BeginsWith, HasNoHead}
use Rattle.desk_http_head.specs.Limits.{head_bytes, head_fields}
use Rattle.desk_http_head.specs.Origins.{are_foreign, IsFromElsewhere}
use Rattle.desk_http_head.proofs.Found.{BeginsWith-found}
use Rattle.desk_http_head.proofs.Stability.{BeginsWith-unique, HasNoHead-front}

true_or_false : true ≡ false → ⊥
true_or_false e = cc

-- bytes with a head come from elsewhere just if its fields say so
judged-head : (port : ℕ) (bytes : List ℕ) (h : RequestHead) (after : List ℕ) (found : Bool)
    → BeginsWith bytes h after → found ≡ are_foreign port (map name_and_value h.fields)
    → MatchBool found (IsFromElsewhere port bytes) (¬ (IsFromElsewhere port bytes))
judged-head port bytes h after true b e = (h, after, b, sym e)
judged-head port bytes h after false b e = λ x.
    let same = BeginsWith-unique bytes h x.0 after x.1 b x.2 in
    true_or_false (sym x.3
    ∙ (ap (λ (k : RequestHead). are_foreign port (map name_and_value k.fields)) (sym same.0)
    ∙ sym e))

pub IsFromElsewhere-found : (port : ℕ) (bytes front : List ℕ) (spans : List HeaderSpan)
    (r : RequestSpans) (found : Bool) → front ≡ take head_bytes bytes → length front ≤ head_bytes
    → IsRequestWithin front spans r → length spans ≡ head_fields
    → (at : (h : RequestHead) × IsRequestAt front spans r h)
    → found ≡ are_foreign port (map (header_bytes front) (take r.headers spans))
    → MatchBool found (IsFromElsewhere port bytes) (¬ (IsFromElsewhere port bytes))
IsFromElsewhere-found port bytes front spans r found is most within room at e =
    judged-head port bytes at.0 (drop r.len bytes) found
    (BeginsWith-found bytes front spans r at.0 is most within room at.1)
    (e ∙ ap (λ (fields : List Field). are_foreign port fields) at.1.fields)

-- no head within its limit is none at all
no_head-cases : (bytes : List ℕ) (long : Bool) → nat_le head_bytes (length bytes) ≡ long
    → HasNoRequest (take head_bytes bytes) → HasNoHead bytes
no_head-cases bytes true e none =
    HasNoHead-front bytes (leb-true head_bytes (length bytes) e) none
no_head-cases bytes false e none = λ h after b.
    let short : length bytes < head_bytes = leb-false head_bytes (length bytes) e in
    let all : take head_bytes bytes ≡ bytes = take_all head_bytes bytes (omega arith) in
    subst HasNoRequest all none h after b.reads

pub HasNoHead-unread : (bytes front : List ℕ) → front ≡ take head_bytes bytes
    → HasNoRequest front → HasNoHead bytes
HasNoHead-unread bytes front is none =
    no_head-cases bytes (nat_le head_bytes (length bytes)) refl (subst HasNoRequest is none)

-- bytes without a head don't come from elsewhere
pub no_elsewhere : (port : ℕ) (bytes : List ℕ) → HasNoHead bytes → ¬ (IsFromElsewhere port bytes)
no_elsewhere port bytes none x = none x.0 x.1 x.2
