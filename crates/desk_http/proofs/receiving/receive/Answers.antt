use Rattle.std.proofs.Common.{◌≡◌, ℕ, ◌+◌, ◌++◌, List, Option, take, length, min, sym, subst, ap}
use Rattle.std.proofs.Common.{◌∙◌, arith, length-append}
use Rattle.std.specs.Io.KnownBytes.{Consumes}
use Rattle.std.proofs.KnownBytes.{Consumes-kept, Consumes-nil, Consumes-trans}
use Rattle.std.proofs.lemmas.List.{length-take}
use Rattle.desk_http_head.specs.Framings.{IsAwaited, IsFraming}
use Rattle.desk_http_head.specs.declared.framing.Awaited.TheVariants.{Start}
use Rattle.desk_http.specs.Receiving.{IsSettled, HasHeadOf}
use Rattle.desk_script.specs.Script.{AreLeft}
use Rattle.desk_script.proofs.Progress.{AreLeft-front}
use Rattle.desk_http.proofs.Settled.{IsAwaited-nil, IsPrompt-still, IsPrompt-taken}
use Rattle.desk_http.proofs.receiving.receive.Goals as goal

pub loop-turn-init : goal.loop-turn-init
loop-turn-init g c =
    let none = c.new-bytes.ensures.items in
    record {
      read = subst (Consumes (g.R.Read.remaining c.args.reader.now)
          (g.R.Read.remaining c.args.reader.now)) (sym none)
          (Consumes-nil (g.R.Read.remaining c.args.reader.now));
      awaits = subst (λ (l : List ℕ). IsAwaited l Start) (sym none) IsAwaited-nil;
      turns = omega arith;
    }

pub returns-in_default-clause-prompt : goal.returns-in_default-clause-prompt
returns-in_default-clause-prompt g c =
    let at = c.loop-turn.invariant in
    IsPrompt-still (g.R.Read.remaining c.args.reader.now) (g.R.Read.remaining c.read.new.self)
    c.loop-turn.bytes.items c.loop-turn.awaited
    (Consumes-kept (g.R.Read.remaining c.args.reader.now) (g.R.Read.remaining c.loop-turn.reader)
    (g.R.Read.remaining c.read.new.self) c.loop-turn.bytes.items at.read
    c.in_default.ensures.bytes) at.awaits

pub returns-then-taken-eq0-clause-prompt : goal.returns-then-taken-eq0-clause-prompt
returns-then-taken-eq0-clause-prompt g c =
    IsPrompt-taken (g.R.Read.remaining c.args.reader.now) (g.R.Read.remaining c.loop-turn.reader)
    (g.R.Read.remaining c.read.new.self) c.loop-turn.bytes.items c.in-Ok.taken c.read.new.buf
    c.loop-turn.awaited c.loop-turn.invariant.read c.in-Ok.ensures.bytes.0 (omega arith)
    c.loop-turn.invariant.awaits

pub returns-clause-prompt : goal.returns-clause-prompt
returns-clause-prompt g c =
    let at = c.loop-turn.invariant in
    IsPrompt-still (g.R.Read.remaining c.args.reader.now) (g.R.Read.remaining c.loop-turn.reader)
    c.loop-turn.bytes.items c.loop-turn.awaited at.read at.awaits

pub returns-in_default-extend_from_slice-clause-prompt : goal.returns-in_default-extend_from_slice-clause-prompt
returns-in_default-extend_from_slice-clause-prompt g c =
    IsPrompt-taken (g.R.Read.remaining c.args.reader.now) (g.R.Read.remaining c.loop-turn.reader)
    (g.R.Read.remaining c.read.new.self) c.loop-turn.bytes.items c.in-Ok.taken c.read.new.buf
    c.loop-turn.awaited c.loop-turn.invariant.read c.in-Ok.ensures.bytes.0 (omega arith)
    c.loop-turn.invariant.awaits

pub returns-in-None-clause-prompt : goal.returns-in-None-clause-prompt
returns-in-None-clause-prompt g c =
    IsPrompt-taken (g.R.Read.remaining c.args.reader.now) (g.R.Read.remaining c.loop-turn.reader)
    (g.R.Read.remaining c.read.new.self) c.loop-turn.bytes.items c.in-Ok.taken c.read.new.buf
    c.loop-turn.awaited c.loop-turn.invariant.read c.in-Ok.ensures.bytes.0 (omega arith)
    c.loop-turn.invariant.awaits

-- the bytes with one more piece, and those that are left after them
with_piece : (old mid new : Option (List ℕ)) (bytes : List ℕ) (n : ℕ) (buf : List ℕ)
    → Consumes old mid bytes → Consumes mid new (take n buf)
    → (left : List ℕ) × AreLeft old ((bytes ++ take n buf) ++ left)
    × (length (bytes ++ take n buf) ≡ length bytes + min n (length buf))
    × (length ((bytes ++ take n buf) ++ left) ≡ length (bytes ++ take n buf) + length left)
with_piece old mid new bytes n buf first second =
    let left = AreLeft-front old new (bytes ++ take n buf)
    (Consumes-trans old mid new bytes (take n buf) first second) in (
      left.0,
      left.1,
      length-append bytes (take n buf) ∙ ap (λ k. length bytes + k) (length-take n buf),
      length-append (bytes ++ take n buf) left.0,
    )

pub returns-in_default-extend_from_slice-clause-ok : goal.returns-in_default-extend_from_slice-clause-ok
returns-in_default-extend_from_slice-clause-ok g c =
    let left = with_piece (g.R.Read.remaining c.args.reader.now)
    (g.R.Read.remaining c.loop-turn.reader) (g.R.Read.remaining c.read.new.self)
    c.loop-turn.bytes.items c.in-Ok.taken c.read.new.buf c.loop-turn.invariant.read
    c.in-Ok.ensures.bytes.0 in (
      (c.loop-turn.bytes.items ++ take c.in-Ok.taken c.read.new.buf) ++ left.0,
      left.1,
      omega (arith, left.2, left.3),
    )

pub returns-in-None-clause-ok : goal.returns-in-None-clause-ok
returns-in-None-clause-ok g c =
    let bytes : List ℕ = c.loop-turn.bytes.items ++ take c.in-Ok.taken c.read.new.buf in
    let items : c.extend_from_slice.new.self.items ≡ bytes =
    c.in-Ok-extend_from_slice.ensures.items in
    let left = with_piece (g.R.Read.remaining c.args.reader.now)
    (g.R.Read.remaining c.loop-turn.reader) (g.R.Read.remaining c.read.new.self)
    c.loop-turn.bytes.items c.in-Ok.taken c.read.new.buf c.loop-turn.invariant.read
    c.in-Ok.ensures.bytes.0 in
    let settled : IsSettled bytes =
    subst IsSettled (c.as_slice.ensures.value ∙ items)
    (c.in-None.ensures c.loop-turn.bytes.items (c.as_slice.ensures.value ∙ items)
    c.loop-turn.invariant.awaits) in (
      bytes ++ left.0,
      left.1,
      (
        omega (arith, left.2, left.3),
        λ s reading. (settled left.0).0 s (subst (λ (l : List ℕ). IsFraming l s) items reading),
        subst (λ (l : List ℕ). HasHeadOf l (bytes ++ left.0)) (sym items) (settled left.0).1,
      ),
    )

pub loop-turn-preserved : goal.loop-turn-preserved
loop-turn-preserved g c =
    let at = c.loop-turn.invariant in
    let piece : List ℕ = take c.in-Ok.taken c.read.new.buf in
    let items : c.extend_from_slice.new.self.items ≡ c.loop-turn.bytes.items ++ piece =
    c.in-Ok-extend_from_slice.ensures.items in
    let taken : length piece ≡ min c.in-Ok.taken (length c.read.new.buf) =
    length-take c.in-Ok.taken c.read.new.buf in
    let some : length (c.loop-turn.bytes.items
    ++ piece) ≡ length c.loop-turn.bytes.items
    + length piece = length-append c.loop-turn.bytes.items piece in
    let size : length c.extend_from_slice.new.self.items ≡ length (c.loop-turn.bytes.items
    ++ piece) = ap length items in
    record {
      read = subst (Consumes (g.R.Read.remaining c.args.reader.now)
          (g.R.Read.remaining c.read.new.self)) (sym items)
          (Consumes-trans (g.R.Read.remaining c.args.reader.now)
          (g.R.Read.remaining c.loop-turn.reader) (g.R.Read.remaining c.read.new.self)
          c.loop-turn.bytes.items piece at.read
          c.in-Ok.ensures.bytes.0);
      awaits = subst (λ (l : List ℕ). IsAwaited l c.in-Some.next) c.as_slice.ensures.value
          (c.in-Some.ensures c.loop-turn.bytes.items (c.as_slice.ensures.value ∙ items) at.awaits);
      turns = omega (arith, at.turns, c.if-taken-eq0.false);
    }
