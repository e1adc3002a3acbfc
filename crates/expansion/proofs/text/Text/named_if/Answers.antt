-- `expansion::named_if` meets its contract. Assumes nothing.
use mathlib.Core.Path.{sym, ap, ◌∙◌}
use Rattle.std.specs.Prelude.{None}
use Rattle.octets.specs.Believed.Choice.{pick}
use Rattle.expansion.specs.Ties.Walk.{named_by}
use Rattle.addresses.specs.Ties.Steps.{symbols_from}
use Rattle.expansion.proofs.text.Text.named_if.Goals as goal

pub returns-then-starts : goal.returns-then-starts
returns-then-starts c = let a = c.args in c.named_by.ensures ∙ ap (λ z. pick z (named_by a.store.now (symbols_from a.self.now.classes.now a.self.now.bytes.now a.at)) None) (sym c.if-starts.true)
