use Rattle.std.proofs.Common.{◌∙◌, ◌∷◌, [], ap, arith, subst, length, append-nil}
use Rattle.std.proofs.Common.{length-append}
use Rattle.std.proofs.lemmas.List.{nil_from_length}
use Rattle.desk_tree_patterns.specs.Glob.{Begins}
use Rattle.desk_tree_patterns.specs.Parts.{pieces}
use Rattle.desk_tree_patterns.proofs.PartLemmas.{all_placed, byte_added, star_added, read_more}
use Rattle.desk_tree_patterns.proofs.glob.Glob.parse.Goals as goal

pub returns : goal.returns
returns c = rw append-nil at (c.loop-piece.invariant.read []
    (nil_from_length c.loop-piece.rest.now c.in_default.ensures.none))

pub loop-piece-preserved-in_ok-push-in-Byte : goal.loop-piece-preserved-in_ok-push-in-Byte
loop-piece-preserved-in_ok-push-in-Byte c =
    let bytes = c.loop-piece.bytes.items in
    let parts = c.loop-piece.parts.items in
    let byte = c.in-Byte.byte in
    let all = c.loop-piece.invariant.all in
    let longer = c.in-Some-checked_add.ensures in
    let pushed = c.in_ok-push-in-Byte.ensures.items in
    let len = ap length pushed ∙ length-append bytes (byte ∷ []) in
    record {
      all = omega arith;
      read = read_more c.args.pattern.now c.loop-piece.rest.now c.in-Some.more.now
          (pieces bytes parts) (pieces c.push.new.self.items parts) _
          (ap (λ l. pieces l parts) pushed ∙ byte_added bytes parts byte (omega arith))
          (subst (λ p. Begins c.loop-piece.rest.now p c.in-Some.more.now) c.in-Byte.is
          c.in-Some.ensures.some) c.loop-piece.invariant.read;
    }

pub loop-piece-preserved-in_ok-push-in-InName : goal.loop-piece-preserved-in_ok-push-in-InName
loop-piece-preserved-in_ok-push-in-InName c =
    let bytes = c.loop-piece.bytes.items in
    let parts = c.loop-piece.parts.items in
    let now = c.push-in-InName.new.self.items in
    let all = c.loop-piece.invariant.all in
    let pushed = c.in_ok-push-in-InName.ensures.items in
    record {
      all = all_placed bytes parts now _ pushed all;
      read = read_more c.args.pattern.now c.loop-piece.rest.now c.in-Some.more.now
          (pieces bytes parts) (pieces bytes now) _
          (ap (pieces bytes) pushed ∙ star_added bytes parts _ all)
          (subst (λ p. Begins c.loop-piece.rest.now p c.in-Some.more.now) c.in-InName.is
          c.in-Some.ensures.some) c.loop-piece.invariant.read;
    }

pub loop-piece-preserved : goal.loop-piece-preserved
loop-piece-preserved c =
    let bytes = c.loop-piece.bytes.items in
    let parts = c.loop-piece.parts.items in
    let now = c.push-in-InPath.new.self.items in
    let all = c.loop-piece.invariant.all in
    let pushed = c.in_ok-push-in-InPath.ensures.items in
    record {
      all = all_placed bytes parts now _ pushed all;
      read = read_more c.args.pattern.now c.loop-piece.rest.now c.in-Some.more.now
          (pieces bytes parts) (pieces bytes now) _
          (ap (pieces bytes) pushed ∙ star_added bytes parts _ all)
          (subst (λ p. Begins c.loop-piece.rest.now p c.in-Some.more.now) c.in-InPath.is
          c.in-Some.ensures.some) c.loop-piece.invariant.read;
    }
