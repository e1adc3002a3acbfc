-- `addresses::is_list_within` meets its contract. Assumes nothing.
use mathlib.Core.Path.{sym, ◌∙◌}
use native.Mathlib.Omega.{arith}
use lib.ListN.{length}
use Rattle.octets.specs.Believed.Classes.{class_table, class_of}
use Rattle.scanner.proofs.BodyChecks.{passed}
use Rattle.addresses.proofs.WithinLaws.{whole_text, within_unfit, within_told}
use borrow.Enum.Refused.{opened}
use Rattle.addresses.proofs.is_list_within.Goals as goal

pub returns-in-Refused : goal.returns-in-Refused
returns-in-Refused c = sym (within_unfit c.args.levels c.args.text.now (sym c.in-Refused.is ∙ c.check_body.ensures))

pub read_whole-requires : goal.read_whole-requires
unfolding class_table class_of
read_whole-requires c = (whole_text (passed c.args.text.now 0 (length c.args.text.now) c.check_body.result c.check_body.ensures (opened c.in_default.in_default-own.keys2)), omega (arith, c.min-used.ensures))

pub returns-in-Listed : goal.returns-in-Listed
unfolding class_table class_of
returns-in-Listed c = within_told c.args.levels c.args.text.now (passed c.args.text.now 0 (length c.args.text.now) c.check_body.result c.check_body.ensures (opened c.in_default.in_default-own.keys2)) c.min-used.result (sym c.min-used.ensures) (rw c.in-Listed.is at c.read_whole.ensures).within

pub returns-in_default-matches : goal.returns-in_default-matches
unfolding class_table class_of
returns-in_default-matches c = within_told c.args.levels c.args.text.now (passed c.args.text.now 0 (length c.args.text.now) c.check_body.result c.check_body.ensures (opened c.in_default.in_default-own.keys2)) c.min-used.result (sym c.min-used.ensures) (rw c.in_default-matches.is at c.read_whole.ensures).within
