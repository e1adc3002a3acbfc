-- `dates::parts::part_from` meets its contract. Assumes nothing.
use Rattle.scanner.proofs.Unfolding.{found, found_end, found_fault}
use Rattle.dates.proofs.PartLaws.{part_ended, part_fault, part_quoted, part_unquoted}
use mathlib.Core.Logic.{inl, inr}
use Rattle.dates.proofs.parts.part_from.Goals as goal

pub first_part-requires-in_default : goal.first_part-requires-in_default
first_part-requires-in_default c =
    let a = c.args in
    let x = found a.classes.now a.text.now a.end (rw c.in-Found.is at c.next_by.ensures) in (x.starts, x.within)

pub returns-in-Quoted : goal.returns-in-Quoted
returns-in-Quoted c =
    let a = c.args in
    let x = found a.classes.now a.text.now a.end (rw c.in-Found.is at c.next_by.ensures) in
    rw c.empty.ensures (part_quoted a.classes.now a.text.now a.at a.end c.if-at-end.false x c.in-Quoted.is)

pub returns-in_default : goal.returns-in_default
returns-in_default c =
    let a = c.args in
    let x = found a.classes.now a.text.now a.end (rw c.in-Found.is at c.next_by.ensures) in
    rw (part_unquoted a.classes.now a.text.now a.at a.end c.if-at-end.false x c.in_default.not-Quoted c.in_default.not-Literal) c.first_part-in_default.ensures

pub returns-in-Ended : goal.returns-in-Ended
returns-in-Ended c =
    let a = c.args in
    rw c.empty-in-Ended.ensures
    (elim c.in-Ended.is [
      | inl e ↦ part_ended a.classes.now a.text.now a.at a.end c.if-at-end.false c.requires.inside (found_end a.classes.now a.text.now a.end (rw e at c.next_by.ensures))
      | inr f ↦ part_fault a.classes.now a.text.now a.at a.end c.if-at-end.false c.requires.inside (found_fault a.classes.now a.text.now a.end (rw f.2 at c.next_by.ensures))
    ])
