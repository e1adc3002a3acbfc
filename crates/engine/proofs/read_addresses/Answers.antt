-- `engine::read_addresses` meets its contract: the checks and the first fault, then what the text holds; and condition 3. Assumes nothing.
use mathlib.Core.Path.{◌≡◌, refl, sym}
use mathlib.Core.List.{List}
use Prim.Native.Nat.{ℕ}
use lib.ListN.{take}
use lib.Seq.{length-take-le}
use Rattle.octets.specs.Believed.Classes.{class_of, class_table}
use Rattle.octets.specs.Believed.Numbers.{level_limit}
use Rattle.octets.specs.declared.answers.Answer.{Answer}
use Rattle.octets.specs.declared.answers.Answer.TheVariants.{Refused}
use Rattle.scanner.specs.Believed.Answers.{body_scanned}
use Rattle.scanner.proofs.BodyChecks.{Clean, clean, when_refused}
use Rattle.grammar.specs.Executable.Machine733.{answer}
use Rattle.addresses.specs.Believed.Editions.{edition733}
use Rattle.addresses.specs.Believed.Outcome.{refusal}
use Rattle.addresses.specs.Ties.Whole.{TwiceIs}
use Rattle.addresses.proofs.AnyEdition.{clean_text, twice_outcome}
use Rattle.addresses.proofs.WholeLaws.{Promised, promised, settles}
use Rattle.engine.specs.Ties.Actions.{action_table}
use borrow.Enum.Refused.{opened}
use Rattle.engine.proofs.read_addresses.Goals as goal

-- a body that is refused by the checks or by a fault, and one that is clean
refused_promised : (message : List ℕ) (start end : ℕ) (table : List ℕ) {n p : ℕ} → Refused n p ≡ body_scanned message start end → Promised message start end table (Refused n p) table
refused_promised message start end table {n} {p} e = promised message start end table (refusal table n p) (when_refused message start end (refusal table) _ e)

twice-promised : (message : List ℕ) (start end : ℕ) (table after : List ℕ) (r : Answer) → Clean message start end
    → TwiceIs (answer level_limit) class_table (take end message) start table after r → Promised message start end table r after
twice-promised message start end table after r c x =
    let o = twice_outcome edition733 (answer level_limit) message start end c.short c.ordered c.inside c.faultless x in
    (o, settles message start end table r after o)

pub returns-in-Refused : goal.returns-in-Refused
returns-in-Refused c =
    let a = c.args in
    let all = refused_promised a.message.now a.start a.end a.table.now (rw c.in-Refused.is at c.scan_body.ensures.outcome.1) in record { outcome = all.0; condition3 = all.1 }

pub slice_bounds-read_twice-end : goal.slice_bounds-read_twice-end
slice_bounds-read_twice-end c = sym (length-take-le _ c.args.message.now ((let a = c.args in clean a.message.now a.start a.end c.scan_body.result c.scan_body.ensures.outcome.1 (opened c.in_default.in_default-own.keys2))).inside)

pub read_twice-requires : goal.read_twice-requires
unfolding action_table class_table class_of
read_twice-requires c = (clean_text ((let a = c.args in clean a.message.now a.start a.end c.scan_body.result c.scan_body.ensures.outcome.1 (opened c.in_default.in_default-own.keys2))), refl)

pub returns : goal.returns
unfolding class_table class_of
returns c =
    let a = c.args in
    let all = twice-promised a.message.now a.start a.end a.table.now _ _ ((let a = c.args in clean a.message.now a.start a.end c.scan_body.result c.scan_body.ensures.outcome.1 (opened c.in_default.in_default-own.keys2))) c.read_twice.ensures in record { outcome = all.0; condition3 = all.1 }
