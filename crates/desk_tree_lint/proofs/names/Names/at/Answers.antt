use Rattle.std.proofs.Common.{◌∙◌, arith, ap, sym, length, Some, None}
use Rattle.desk_tree_lint.proofs.NameLemmas.{names_long, name_there}
use Rattle.desk_tree_lint.proofs.names.Names.at.Goals as goal

pub at-id-requires : goal.at-id-requires
at-id-requires c = let s = c.self.inside in
    omega (
      arith,
      c.requires,
      ap length c.self.view_is,
      names_long s.ids s.paths.items c.self.invariant,
      c.self.invariant,
    )

pub index-requires : goal.index-requires
index-requires c = let s = c.self.inside in
    omega (
      arith,
      c.requires,
      ap length c.self.view_is,
      names_long s.ids s.paths.items c.self.invariant,
      s.paths.ok.0,
    )

pub returns-in-Some : goal.returns-in-Some
returns-in-Some c =
    let s = c.self.inside in
    name_there s.ids s.paths.items c.args.self.now c.args.place c.at-id.result.now _
    c.index.result.now c.self.invariant c.self.view_is c.requires c.at-id.ensures
    (ap Some c.as_str.ensures ∙ sym c.in-Some.is ∙ c.index.ensures)

pub returns-in-None : goal.returns-in-None
returns-in-None c =
    let s = c.self.inside in
    name_there s.ids s.paths.items c.args.self.now c.args.place c.at-id.result.now None
    c.index.result.now c.self.invariant c.self.view_is c.requires c.at-id.ensures
    (sym c.in-None.is ∙ c.index.ensures)
