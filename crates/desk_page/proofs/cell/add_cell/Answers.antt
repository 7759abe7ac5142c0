use Rattle.desk_page.specs.Pieces.{anchor_cell, bar_cell, last_cell, link_cell, name_cell, number_cell}
use Rattle.desk_page.proofs.cell.add_cell.Goals as goal

pub returns-in-Name : goal.returns-in-Name
unfolding name_cell
returns-in-Name c = rw c.in-Name.is c.add_framed.ensures

pub returns-in-Anchor : goal.returns-in-Anchor
unfolding anchor_cell
returns-in-Anchor c = rw c.in-Anchor.is
    (simp (c.from.ensures, c.from-in-Anchor.ensures) at c.add_paired.ensures)

pub returns-in-Link : goal.returns-in-Link
unfolding link_cell
returns-in-Link c = rw c.in-Link.is
    (simp (c.from-in-Link.ensures, c.from-in-Link-2.ensures) at c.add_paired-in-Link.ensures)

pub returns-in-Count : goal.returns-in-Count
unfolding number_cell
returns-in-Count c = rw c.in-Count.is c.add_counted.ensures

pub returns-in-Last : goal.returns-in-Last
unfolding last_cell
returns-in-Last c = rw c.in-Last.is c.add_framed-in-Last.ensures

pub returns-in-Bar : goal.returns-in-Bar
unfolding bar_cell
returns-in-Bar c = rw c.in-Bar.is c.add_paired-in-Bar.ensures
