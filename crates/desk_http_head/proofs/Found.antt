-- What the parser found in the first bytes, as a reading of all bytes.
use Rattle.std.proofs.Common.{◌≡◌, ℕ, ◌+◌, ◌<◌, ◌≤◌, ◌++◌, List, length, take, drop, inl, sym, ap}
use Rattle.std.proofs.Common.{◌∙◌, arith, append_assoc, length-append, take-append-drop}
use Rattle.std.specs.Prelude.{map}
use Rattle.std.proofs.lemmas.List.{drop-append-le, length-take-le, length-map}
use Rattle.httparse.specs.Grammar.{RequestHead, print_request}
use Rattle.httparse.specs.Spans.{header_bytes, name_and_value, IsRequestAt, IsRequestWithin}
use Rattle.httparse.specs.declared.spans.HeaderSpan.{HeaderSpan}
use Rattle.httparse.specs.declared.spans.RequestSpans.{RequestSpans}
use Rattle.desk_http_head.specs.Fields.{Field}
use Rattle.desk_http_head.specs.Heads.{BeginsWith}
use Rattle.desk_http_head.specs.Limits.{head_bytes, head_fields}
use Rattle.desk_http_head.specs.Framings.{Framed, part, judged, after_head, IsFraming, AwaitsFrom, IsAwaited, IfPart}
use Rattle.desk_http_head.specs.declared.framing.Framing.{Framing}
use Rattle.desk_http_head.specs.declared.framing.Framing.TheVariants.{Part, Bad, Whole}
use Rattle.desk_http_head.specs.declared.framing.Awaited.TheVariants.{Start, Head, Body}
use Rattle.desk_http_head.proofs.Stability.{BeginsWith-more, BeginsWith-unique}

pub BeginsWith-found : (bytes front : List ℕ) (spans : List HeaderSpan) (r : RequestSpans)
    (h : RequestHead) → front ≡ take head_bytes bytes → length front ≤ head_bytes
    → IsRequestWithin front spans r → length spans ≡ head_fields → IsRequestAt front spans r h
    → BeginsWith bytes h (drop r.len bytes)
BeginsWith-found bytes front spans r h is most within room at =
    let later : List ℕ = drop head_bytes bytes in
    let fits : r.len ≤ length front = within.section.len_fits in
    let count : r.headers ≤ length spans = within.section.count_fits in
    let same : front ++ later ≡ bytes = ap (λ (l : List ℕ). l ++ later) is
    ∙ take-append-drop head_bytes bytes in
    let rest : drop r.len front ++ later ≡ drop r.len bytes =
    sym (drop-append-le r.len front later fits) ∙ ap (drop r.len) same in
    let taken : length (take r.headers spans) ≡ r.headers = length-take-le r.headers spans count in
    let pairs : length (map (header_bytes front) (take r.headers spans)) ≡ length (map
    name_and_value h.fields) = ap length at.fields in
    let left : length (map (header_bytes front) (take r.headers spans)) ≡ length (take r.headers
    spans) = length-map (take r.headers spans) (header_bytes front) in
    let right : length (map name_and_value h.fields) ≡ length h.fields =
    length-map h.fields name_and_value in
    let size : r.len ≡ length (print_request h) = at.len in
    record {
      reads = (
        at.reads.0,
        sym same ∙ (ap (λ (l : List ℕ). l ++ later) at.reads.1
            ∙ (append_assoc (print_request h) (drop r.len front) later
            ∙ ap (λ (l : List ℕ). print_request h ++ l) rest)),
      );
      short = omega arith;
      few = omega arith;
    }

judged-same : (h : RequestHead) (method target after : List ℕ) (pairs : List Field)
    → method ≡ h.method → target ≡ h.target → pairs ≡ map name_and_value h.fields
    → judged method target pairs after ≡ after_head h after
judged-same h method target after pairs m t p =
    ap (λ (x : List ℕ). judged x target pairs after) m
    ∙ (ap (λ (x : List ℕ). judged h.method x pairs after) t
    ∙ ap (λ (x : List Field). judged h.method h.target x after) p)

-- a head that the parser found is the reading
pub IsFraming-found : (bytes front : List ℕ) (spans : List HeaderSpan) (r : RequestSpans)
    (method target : List ℕ) (s : Framed) → front ≡ take head_bytes bytes
    → length front ≤ head_bytes
    → IsRequestWithin front spans r → length spans ≡ head_fields
    → (found : (h : RequestHead) × IsRequestAt front spans r h)
    → method ≡ found.0.method → target ≡ found.0.target
    → s ≡ judged method target (map (header_bytes front) (take r.headers spans)) (drop r.len bytes)
    → IsFraming bytes s
IsFraming-found bytes front spans r method target s is most within room found m t e =
    inl (
      found.0,
      drop r.len bytes,
      BeginsWith-found bytes front spans r found.0 is most within room found.1,
      e ∙ judged-same found.0 method target (drop r.len bytes)
          (map (header_bytes front) (take r.headers spans)) m t found.1.fields,
    )

-- what is awaited after a head is what all bytes await
pub IsAwaited-found : (bytes front : List ℕ) (spans : List HeaderSpan) (r : RequestSpans)
    (method target : List ℕ) (f : Framing) → front ≡ take head_bytes bytes
    → length front ≤ head_bytes
    → IsRequestWithin front spans r → length spans ≡ head_fields
    → (found : (h : RequestHead) × IsRequestAt front spans r h)
    → method ≡ found.0.method → target ≡ found.0.target
    → AwaitsFrom r.len (judged method target (map (header_bytes front) (take r.headers spans)))
    (drop r.len bytes) f → IfPart f (IsAwaited bytes)
IsAwaited-found bytes front spans r method target (Part
    Start) is most within room found m t awaits = absurd awaits
IsAwaited-found bytes front spans r method target (Part
    Head) is most within room found m t awaits = absurd awaits
IsAwaited-found bytes front spans r method target (Bad
    status) is most within room found m t awaits = tt
IsAwaited-found bytes front spans r method target (Whole a b c
    d) is most within room found m t awaits = tt
IsAwaited-found bytes front spans r method target (Part
    (Body n)) is most within room found m t awaits =
    let h : RequestHead = found.0 in
    let after : List ℕ = drop r.len bytes in
    let begins : BeginsWith bytes h after =
    BeginsWith-found bytes front spans r h is most within room found.1 in
    let head : r.len ≡ length (print_request h) = found.1.len in
    let size : length bytes ≡ length (print_request h) + length after = ap length begins.reads.1
    ∙ length-append (print_request h) after in
    let under : r.len + length after < n = awaits.0 in (
      omega arith,
      awaits.1,
      λ more few k later there.
          let same = BeginsWith-unique (bytes ++ more) h k (after ++ more) later
          (BeginsWith-more bytes more h after begins) there in
          let total : length (bytes ++ more) ≡ length bytes + length more =
          length-append bytes more in
          let longer : length (after ++ more) ≡ length after + length more =
          length-append after more in
          let is_part : judged method target (map (header_bytes front)
          (take r.headers spans)) (after ++ more) ≡ part = awaits.2 (after ++ more) (omega arith) in
          sym (ap (λ (x : RequestHead). after_head x later) same.0)
          ∙ (sym (ap (λ (x : List ℕ). after_head h x) same.1)
          ∙ (sym (judged-same h method target (after ++ more)
          (map (header_bytes front) (take r.headers spans)) m t found.1.fields) ∙ is_part)),
    )
