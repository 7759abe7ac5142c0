use Rattle.std.proofs.Common.{arith}
use Rattle.std.proofs.lemmas.Str.{IsUtf8-nil}
use Rattle.desk_fields.proofs.scanner.ScannerIterator.next.Goals as goal

pub invariant_of-self-in-Err : goal.invariant_of-self-in-Err
invariant_of-self-in-Err c = record {
  fits = let f = c.args.self.now.fits in omega arith;
  utf8 = ∣ IsUtf8-nil ∣₁;
}
