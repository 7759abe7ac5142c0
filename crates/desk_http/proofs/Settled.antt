-- Bytes that are settled, and bytes that await more.
use Rattle.std.proofs.Common.{◌≡◌, ℕ, ◌++◌, List, [], length, inl, inr, refl, sym, ap, ◌∙◌, subst}
use Rattle.std.proofs.Common.{append-nil, append_assoc, arith, take}
use Rattle.std.proofs.lemmas.List.{length-take}
use Rattle.std.specs.Prelude.{◌≢◌, ◌<◌}
use Rattle.httparse.specs.Grammar.{RequestHead}
use Rattle.desk_http_head.specs.Heads.{BeginsWith, HasHead, HasNoHead, NeverHasHead, AreLineEnds}
use Rattle.desk_http_head.specs.Framings.{Framed, part, bad, whole, after_head, IsFraming, refused}
use Rattle.desk_http_head.specs.Framings.{closed, IsAsked, IsUnread, IsAwaited, AwaitsMore}
use Rattle.desk_http_head.specs.declared.framing.Awaited.{Awaited}
use Rattle.desk_http_head.specs.declared.framing.Awaited.TheVariants.{Start, Head, Body}
use Rattle.desk_http_head.proofs.Stability.{BeginsWith-unique, BeginsWith-more, IsAsked-settled, IsAsked-ended}
use Rattle.desk_http_head.proofs.Stability.{NeverHasHead-long, NeverHasHead-over}
use Rattle.std.specs.Prelude.{Option, ◌≤◌}
use Rattle.std.specs.Io.KnownBytes.{Consumes}
use Rattle.std.proofs.KnownBytes.{Consumes-trans}
use Rattle.desk_http.proofs.LineEnds.{HasNoHead-line, HasNoHead-ends, AreLineEnds-append}
use Rattle.desk_http_head.specs.Limits.{request_bytes}
use Rattle.desk_http.specs.Limits.{piece_bytes}
use Rattle.desk_http.specs.Receiving.{IsPrompt, IsUndue, HasHeadOf}
use Rattle.desk_http_head.specs.declared.status.Status.TheVariants.{BadRequest}

-- bytes without a head that are read as settled never begin with one
hopeless : (bytes more : List ℕ) (r : Framed) → HasNoHead bytes → IsUnread bytes r → r ≢ part
    → NeverHasHead bytes
hopeless bytes more part none unread settled = absurd (settled refl)
hopeless bytes more (whole a b c d) none unread settled = absurd unread
hopeless bytes more (bad status) none (is, inl long) settled = NeverHasHead-long bytes none long
hopeless bytes more (bad status) none (is, inr over) settled = NeverHasHead-over bytes over

-- if bytes are read as settled and also as awaiting more, they are refused whatever follows
IsAsked-part : (bytes more : List ℕ) (r : Framed) → IsFraming bytes r → r ≢ part
    → IsFraming bytes part → IsAsked (bytes ++ more) (refused BadRequest)
IsAsked-part bytes more r (inl (h, after, b, e)) settled (inl (k, later, d, i)) =
    let same = BeginsWith-unique bytes h k after later b d in
    absurd (settled (e ∙ (ap (λ (x : RequestHead). after_head x after) same.0
    ∙ (ap (λ (x : List ℕ). after_head k x) same.1 ∙ sym i))))
IsAsked-part bytes more r (inl (h, after, b, e)) settled (inr y) = absurd (y.0 h after b)
IsAsked-part bytes more r (inr x) settled (inl (k, later, d, i)) = absurd (x.0 k later d)
IsAsked-part bytes more r (inr x) settled (inr y) = inr (
  hopeless bytes more r x.0 x.1 settled more,
  refl,
)

-- two readings of the same bytes, one of which is settled
pub IsAsked-of : (bytes more : List ℕ) (r s : Framed) → IsFraming bytes r → r ≢ part
    → IsFraming bytes s → IsAsked (bytes ++ more) (closed s)
IsAsked-of bytes more r (bad status) x settled y = IsAsked-settled bytes more (bad status) y
    (λ e. cc)
IsAsked-of bytes more r (whole a b c d) x settled y = IsAsked-settled bytes more (whole a b c d) y
    (λ e. cc)
IsAsked-of bytes more r part x settled y = IsAsked-part bytes more r x settled y

-- bytes that are read as settled have the head of those that begin with them
HasHead-settled : (bytes more : List ℕ) (r : Framed) → IsFraming bytes r → r ≢ part
    → (h : RequestHead) → HasHead (bytes ++ more) h → HasHead bytes h
HasHead-settled bytes more r (inl (k, later, d, i)) settled h (after, b) =
    let same = BeginsWith-unique (bytes ++ more) h k after (later ++ more) b
    (BeginsWith-more bytes more k later d) in
    (later, subst (λ (x : RequestHead). BeginsWith bytes x later) (sym same.0) d)
HasHead-settled bytes more r (inr x) settled h (after, b) =
    absurd (hopeless bytes more r x.0 x.1 settled more h after b)

pub HasHeadOf-settled : (bytes more : List ℕ) (r : Framed) → IsFraming bytes r → r ≢ part
    → HasHeadOf bytes (bytes ++ more)
HasHeadOf-settled bytes more r x settled h = (
  λ y. (y.0 ++ more, BeginsWith-more bytes more h y.0 y.1),
  HasHead-settled bytes more r x settled h,
)

pub HasHeadOf-self : (bytes : List ℕ) → HasHeadOf bytes bytes
HasHeadOf-self bytes h = (λ x. x, λ x. x)

-- if the reader ends, each reading says what is asked for
pub IsAsked-end : (bytes : List ℕ) (s : Framed) → IsFraming bytes s → IsAsked bytes (closed s)
IsAsked-end bytes part x = IsAsked-ended bytes x
IsAsked-end bytes (bad status) x = subst (λ (l : List ℕ). IsAsked l (refused status))
    (append-nil bytes) (IsAsked-settled bytes [] (bad status) x (λ e. cc))
IsAsked-end bytes (whole a b c d) x = subst (λ (l : List ℕ). IsAsked l (closed (whole a b c d)))
    (append-nil bytes) (IsAsked-settled bytes [] (whole a b c d) x (λ e. cc))

-- while something is awaited, no request is whole
pub AwaitsMore-of : (bytes : List ℕ) (awaited : Awaited) → IsAwaited bytes awaited
    → AwaitsMore bytes
AwaitsMore-of bytes Start x = λ h after b. absurd (HasNoHead-ends bytes x.0 h after b)
AwaitsMore-of bytes Head x = λ h after b. absurd (x.0 h after b)
AwaitsMore-of bytes (Body count) x = subst AwaitsMore (append-nil bytes)
    (x.2 [] (subst (λ (l : List ℕ). length l < count) (sym (append-nil bytes)) x.0))

-- as long as something is awaited, there are fewer bytes than a request may have
pub IsAwaited-few : (bytes : List ℕ) (awaited : Awaited) → IsAwaited bytes awaited
    → length bytes < request_bytes
IsAwaited-few bytes Start x = omega arith
IsAwaited-few bytes Head x = omega arith
IsAwaited-few bytes (Body count) x = omega arith

-- bytes that can't complete what is awaited leave it awaited
pub IsAwaited-undue : (front came bytes : List ℕ) (awaited : Awaited) → bytes ≡ front ++ came
    → IsUndue came (length bytes) awaited → IsAwaited front awaited → IsAwaited bytes awaited
IsAwaited-undue front came bytes Start e undue x =
    (subst AreLineEnds (sym e) (AreLineEnds-append front came x.0 undue.1), undue.0)
IsAwaited-undue front came bytes Head e undue x =
    (subst HasNoHead (sym e) (HasNoHead-line front came x.0 undue.1), undue.0)
IsAwaited-undue front came bytes (Body count) e undue x = (
  undue,
  x.1,
  λ more few.
      let same : front ++ (came ++ more) ≡ bytes ++ more = sym (append_assoc front came more)
      ∙ ap (λ (l : List ℕ). l ++ more) (sym e) in
      subst AwaitsMore same (x.2 (came ++ more)
      (subst (λ (l : List ℕ). length l < count) (sym same) few)),
)

-- nothing came: a first byte is awaited
pub IsAwaited-nil : IsAwaited [] Start
IsAwaited-nil = (refl, omega arith)

-- ---- how far a reader was read

-- a reader that was read this far, and no further
pub IsPrompt-still : (old new : Option (List ℕ)) (bytes : List ℕ) (awaited : Awaited)
    → Consumes old new bytes → IsAwaited bytes awaited → IsPrompt old new
IsPrompt-still old new bytes awaited read x = record {
  before = bytes;
  piece = [];
  read = subst (Consumes old new) (sym (append-nil bytes)) read;
  awaits = AwaitsMore-of bytes awaited x;
  few = IsAwaited-few bytes awaited x;
  short = omega arith;
}

-- a reader that gave one more piece
pub IsPrompt-piece : (old mid new : Option (List ℕ)) (bytes piece : List ℕ) (awaited : Awaited)
    → Consumes old mid bytes → Consumes mid new piece → length piece ≤ piece_bytes
    → IsAwaited bytes awaited → IsPrompt old new
IsPrompt-piece old mid new bytes piece awaited first second short x = record {
  before = bytes;
  piece = piece;
  read = Consumes-trans old mid new bytes piece first second;
  awaits = AwaitsMore-of bytes awaited x;
  few = IsAwaited-few bytes awaited x;
  short = short;
}

-- the front of a buffer is short
pub IsPrompt-taken : (old mid new : Option (List ℕ)) (bytes : List ℕ) (n : ℕ) (buf : List ℕ)
    (awaited : Awaited) → Consumes old mid bytes → Consumes mid new (take n buf)
    → length buf ≤ piece_bytes → IsAwaited bytes awaited → IsPrompt old new
IsPrompt-taken old mid new bytes n buf awaited first second few =
    IsPrompt-piece old mid new bytes (take n buf) awaited first second
    (omega (arith, length-take n buf, few))
