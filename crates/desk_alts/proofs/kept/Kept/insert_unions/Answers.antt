use Rattle.std.proofs.Common.{◌+◌, ℕ, List, get_or, take, arith}
use Rattle.std.proofs.lemmas.List.{length-map}
use Rattle.desk_alts.specs.declared.masks.Mask.{Mask}
use Rattle.desk_alts.specs.declared.masks.Union.{Union}
use Rattle.desk_alts.specs.Masks.{IsAbove, IsSubset, Adds, union_masks}
use Rattle.desk_alts.proofs.Inserting.{adds_more, above_take_more, union_at, taken_all}
use Rattle.desk_alts.proofs.kept.Kept.insert_unions.Goals as goal

pub loop-union-preserved : goal.loop-union-preserved
loop-union-preserved c =
    let unions : List Union = c.args.unions.now in
    let sets : List Mask = union_masks unions in
    let at : ℕ = c.loop-union.union-index in
    let d : Union = record { size = 0; mask = record { low = 0; high = 0 } } in
    let got : Mask = (get_or unions at d).mask in
    let here = union_at unions at d c.loop-union-test.true in
    record {
      apart = c.in_ok-insert.ensures.apart;
      exact = adds_more c.args.self.now c.loop-union.self c.insert.new.self (IsAbove (take at sets))
          (IsSubset got) (IsAbove (take (at + 1) sets)) c.loop-union.invariant.exact
          c.in_ok-insert.ensures.exact
          (above_take_more sets at got here.0 here.1);
    }

pub returns-clause-exact : goal.returns-clause-exact
returns-clause-exact c =
    let sets : List Mask = union_masks c.args.unions.now in
    let long = length-map c.args.unions.now (λ (u : Union). u.mask) in
    taken_all (λ (l : List Mask). Adds c.args.self.now c.loop-union.self (IsAbove l)) sets
    c.loop-union.union-index (omega (arith, c.loop-union-test.false, long))
    c.loop-union.invariant.exact
