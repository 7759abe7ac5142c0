-- What later bytes leave of a reading.
use Rattle.std.proofs.Common.{◌≡◌, ℕ, ◌+◌, ◌<◌, ◌≤◌, ◌++◌, List, [], length, take, drop, inl, inr}
use Rattle.std.proofs.Common.{refl, sym, ap, ◌∙◌, subst, arith, append_assoc, length-append}
use Rattle.std.proofs.Common.{take-append-drop}
use Rattle.std.specs.Prelude.{◌≢◌, Bool, true, false, nat_lt, nat_le, map, codes, if◌then◌else◌}
use Rattle.std.proofs.Math.Seq.{take-append_seam}
use Rattle.std.proofs.lemmas.Bool.{leb-true, le-leb}
use Rattle.std.proofs.lemmas.List.{take-append-le, length-take-le}
use Rattle.httparse.specs.Grammar.{RequestHead, ReadsRequest, HasNoRequest, print_request}
use Rattle.httparse.specs.Spans.{RequestOverflows, name_and_value}
use Rattle.httparse.proofs.GrammarLemmas.{ReadsRequest-append, request_unique}
use Rattle.desk_http_head.specs.Fields.{has_field, length_from, unsaid}
use Rattle.desk_http_head.specs.Heads.{BeginsWith, HasNoHead, NeverHasHead}
use Rattle.desk_http_head.specs.Limits.{head_bytes, head_fields, body_bytes}
use Rattle.desk_http_head.specs.declared.status.Status.TheVariants.{BadRequest, ContentTooLarge, NotImplemented}
use Rattle.desk_http_head.specs.Framings.{Framed, part, bad, whole, with_body, by_length, after_head}
use Rattle.desk_http_head.specs.Framings.{IsFraming, Asked, closed, IsAsked, refused}
use Rattle.desk_http_head.specs.declared.fields.BodyLength.{BodyLength}
use Rattle.desk_http_head.specs.declared.fields.BodyLength.TheVariants.{Unsaid, Bytes, Bad}

-- a front that is no longer than the bytes is within them
pub front_within : (bytes more front after : List ℕ) → bytes ++ more ≡ front ++ after
    → length front ≤ length bytes → bytes ≡ front ++ drop (length front) bytes
front_within bytes more front after e fits =
    sym (take-append-drop (length front) bytes)
    ∙ ap (λ (l : List ℕ). l ++ drop (length front) bytes)
    (sym (take-append-le (length front) bytes more fits)
    ∙ (ap (take (length front)) e ∙ take-append_seam front after))

-- a head that is there stays
pub BeginsWith-more : (bytes more : List ℕ) (h : RequestHead) (after : List ℕ)
    → BeginsWith bytes h after → BeginsWith (bytes ++ more) h (after ++ more)
BeginsWith-more bytes more h after b = record {
  reads = ReadsRequest-append bytes h after more b.reads;
  short = b.short;
  few = b.few;
}

-- a head that fits into the bytes is there without those that follow
pub BeginsWith-less : (bytes more : List ℕ) (h : RequestHead) (after : List ℕ)
    → BeginsWith (bytes ++ more) h after → length (print_request h) ≤ length bytes
    → BeginsWith bytes h (drop (length (print_request h)) bytes)
BeginsWith-less bytes more h after b fits = record {
  reads = (b.reads.0, front_within bytes more (print_request h) after b.reads.1 fits);
  short = b.short;
  few = b.few;
}

-- bytes begin with at most one head
pub BeginsWith-unique : (bytes : List ℕ) (h k : RequestHead) (after later : List ℕ)
    → BeginsWith bytes h after → BeginsWith bytes k later → (h ≡ k) × (after ≡ later)
BeginsWith-unique bytes h k after later b d = request_unique bytes h k after later b.reads d.reads

-- as many bytes as a head may have, without a head, never begin with one
pub NeverHasHead-long : (bytes : List ℕ) → HasNoHead bytes → head_bytes ≤ length bytes
    → NeverHasHead bytes
NeverHasHead-long bytes none long more h after b =
    let fits : length (print_request h) ≤ length bytes = omega (arith, b.short) in
    none h (drop (length (print_request h)) bytes) (BeginsWith-less bytes more h after b fits)

-- nor do bytes that only a head with too many fields can begin with
pub NeverHasHead-over : (bytes : List ℕ) → RequestOverflows head_fields bytes → NeverHasHead bytes
NeverHasHead-over bytes over more h after b =
    let many : head_fields < length h.fields = over more h after b.reads in
    absurd (omega (arith, many, b.few))

-- ---- the bytes within the limit of a head, and all bytes

-- what follows the first bytes doesn't matter for the fields that any head would have
pub RequestOverflows-more : (room : ℕ) (front more : List ℕ) → RequestOverflows room front
    → RequestOverflows room (front ++ more)
RequestOverflows-more room front more over later h rest reads =
    over (more ++ later) h rest (subst (λ (bytes : List ℕ). ReadsRequest bytes h rest)
    (append_assoc front more later) reads)

pub RequestOverflows-front : (room n : ℕ) (bytes : List ℕ) → RequestOverflows room (take n bytes)
    → RequestOverflows room bytes
RequestOverflows-front room n bytes over =
    subst (λ (all : List ℕ). RequestOverflows room all) (take-append-drop n bytes)
    (RequestOverflows-more room (take n bytes) (drop n bytes) over)

pub HasNoHead-over : (bytes : List ℕ) → RequestOverflows head_fields bytes → HasNoHead bytes
HasNoHead-over bytes over h after b =
    let many : head_fields < length h.fields =
    over [] h (after ++ []) (ReadsRequest-append bytes h after [] b.reads) in
    absurd (omega (arith, many, b.few))

pub HasNoHead-front : (bytes : List ℕ) → head_bytes ≤ length bytes
    → HasNoRequest (take head_bytes bytes) → HasNoHead bytes
HasNoHead-front bytes long none h after b =
    let size : length (take head_bytes bytes) ≡ head_bytes = length-take-le head_bytes bytes long in
    let fits : length (print_request h) ≤ length (take head_bytes bytes) =
    omega (arith, b.short, size) in
    none h (drop (length (print_request h)) (take head_bytes bytes)) (
      b.reads.0,
      front_within (take head_bytes bytes) (drop head_bytes bytes) (print_request h) after
          (take-append-drop head_bytes bytes ∙ b.reads.1) fits,
    )

-- ---- a reading that is settled stays

closed-body-cases : (method target : List ℕ) (n : ℕ) (after more : List ℕ) (b : Bool)
    → nat_le n (length after) ≡ b → with_body method target n after ≢ part
    → closed (with_body method target n (after ++ more)) ≡ closed (with_body method target n after)
closed-body-cases method target n after more true e settled =
    let small : n ≤ length after = leb-true n (length after) e in
    let longer : length (after ++ more) ≡ length after + length more = length-append after more in
    let fits : nat_le n (length (after ++ more)) ≡ true =
    le-leb n (length (after ++ more)) (omega arith) in
    rw (e, fits, take-append-le n after more small) refl
closed-body-cases method target n after more false e settled = absurd (settled (rw e refl))

pub closed-body : (method target : List ℕ) (n : ℕ) (after more : List ℕ)
    → with_body method target n after ≢ part
    → closed (with_body method target n (after ++ more)) ≡ closed (with_body method target n after)
closed-body method target n after more = closed-body-cases method target n after more
    (nat_le n (length after)) refl

closed-limit-cases : (method target : List ℕ) (n : ℕ) (after more : List ℕ) (b : Bool)
    → (if b then bad ContentTooLarge else with_body method target n after) ≢ part
    → closed (if b then bad ContentTooLarge else with_body method target n (after ++ more))
    ≡ closed (if b then bad ContentTooLarge else with_body method target n after)
closed-limit-cases method target n after more true settled = refl
closed-limit-cases method target n after more false settled = closed-body method target n after more
    settled

pub closed-length : (method target : List ℕ) (said : BodyLength) (after more : List ℕ)
    → by_length method target said after ≢ part
    → closed (by_length method target said (after ++ more))
    ≡ closed (by_length method target said after)
closed-length method target Bad after more settled = refl
closed-length method target Unsaid after more settled = closed-body method target 0 after more
    settled
closed-length method target (Bytes n) after more settled = closed-limit-cases method target n after
    more (nat_lt body_bytes n) settled

closed-judged-cases : (method target : List ℕ) (said : BodyLength) (after more : List ℕ) (b : Bool)
    → (if b then bad NotImplemented else by_length method target said after) ≢ part
    → closed (if b then bad NotImplemented else by_length method target said (after ++ more))
    ≡ closed (if b then bad NotImplemented else by_length method target said after)
closed-judged-cases method target said after more true settled = refl
closed-judged-cases method target said after more false settled = closed-length method target said
    after more settled

pub closed-head : (h : RequestHead) (after more : List ℕ) → after_head h after ≢ part
    → closed (after_head h (after ++ more)) ≡ closed (after_head h after)
closed-head h after more settled =
    closed-judged-cases h.method h.target (length_from unsaid (map name_and_value h.fields)) after
    more
    (has_field (codes "transfer-encoding") (map name_and_value h.fields)) settled

-- What the bytes that came so far are read as, once that is settled, is what all bytes ask for,
-- whatever follows.
pub IsAsked-settled : (bytes more : List ℕ) (s : Framed) → IsFraming bytes s → s ≢ part
    → IsAsked (bytes ++ more) (closed s)
IsAsked-settled bytes more s (inl (h, after, b, e)) settled =
    inl (
      h,
      after ++ more,
      BeginsWith-more bytes more h after b,
      ap closed e ∙ sym (closed-head h after more (λ p. settled (e ∙ p))),
    )
IsAsked-settled bytes more part (inr (none, unread)) settled = absurd (settled refl)
IsAsked-settled bytes more (bad status) (inr (none, (is, inl long))) settled =
    inr (NeverHasHead-long bytes none long more, ap refused is)
IsAsked-settled bytes more (bad status) (inr (none, (is, inr over))) settled =
    inr (NeverHasHead-over bytes over more, ap refused is)
IsAsked-settled bytes more (whole method target body
    rest) (inr (none, unread)) settled = absurd unread

-- If more is awaited and nothing follows, the bytes are refused as a bad request.
pub IsAsked-ended : (bytes : List ℕ) → IsFraming bytes part → IsAsked bytes (refused BadRequest)
IsAsked-ended bytes (inl (h, after, b, e)) = inl (h, after, b, ap closed e)
IsAsked-ended bytes (inr (none, unread)) = inr (none, refl)

-- bytes ask for one thing
pub IsAsked-unique : (bytes : List ℕ) (a d : Asked) → IsAsked bytes a → IsAsked bytes d → a ≡ d
IsAsked-unique bytes a d (inl (h, after, b, e)) (inl (k, later, f, i)) =
    let same = BeginsWith-unique bytes h k after later b f in
    e ∙ (ap (λ (x : RequestHead). closed (after_head x after)) same.0
    ∙ (ap (λ (x : List ℕ). closed (after_head k x)) same.1 ∙ sym i))
IsAsked-unique bytes a d (inl (h, after, b, e)) (inr (none, i)) = absurd (none h after b)
IsAsked-unique bytes a d (inr (none, e)) (inl (k, later, f, i)) = absurd (none k later f)
IsAsked-unique bytes a d (inr (none, e)) (inr (never, i)) = e ∙ sym i
