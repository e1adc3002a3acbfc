-- `editions::read_822` meets its contract: the checks and the first fault, then what the text holds. Assumes nothing.
use mathlib.Core.Path.{refl}
use borrow.Enum.Refused.{opened}
use Rattle.octets.specs.Believed.Numbers.{level_limit}
use Rattle.octets.specs.Believed.Classes.{class_of, class_of822, class_table822}
use Rattle.octets.proofs.AnswerLaws.{answered}
use Rattle.scanner.proofs.BodyChecks.{clean_by, when_refused_by}
use Rattle.grammar.specs.Executable.Machine822.{read}
use Rattle.addresses.specs.Believed.Editions.{edition822}
use Rattle.addresses.specs.Believed.Outcome.{refusal}
use Rattle.addresses.proofs.AnyEdition.{twice_outcome, clean_text}
use Rattle.editions.proofs.read_822.Goals as goal

pub returns-in-Refused : goal.returns-in-Refused
unfolding class_table822 class_of822 class_of
returns-in-Refused c =
    let a = c.args in
    rw (when_refused_by class_table822 a.message.now a.start a.end (refusal a.table.now) _ c.in-Refused.ensures) (answered refl refl)

pub read_twice-requires : goal.read_twice-requires
unfolding class_table822 class_of822 class_of
read_twice-requires c = clean_text (clean_by class_table822 _ _ _ _ c.scan_by.ensures (opened c.in_default.in_default-own.keys2))

pub returns : goal.returns
unfolding class_table822 class_of822 class_of
returns c =
    let a = c.args in
    let x = clean_by class_table822 a.message.now a.start a.end _ c.scan_by.ensures (opened c.in_default.in_default-own.keys2) in
    twice_outcome edition822 (read level_limit) a.message.now a.start a.end x.short x.ordered x.inside x.faultless c.read_twice.ensures
