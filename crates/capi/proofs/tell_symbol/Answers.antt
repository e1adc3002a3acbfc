-- `capi::tell_symbol` meets its contract. Assumes nothing.
use mathlib.Core.Path.{sym, ap, ◌∙◌}
use mathlib.Core.List.{List, [], ◌∷◌}
use Prim.Native.Nat.{ℕ}
use lib.Seq.{sets}
use Rattle.octets.specs.Believed.Choice.{pick}
use Rattle.scanner.specs.declared.Symbol.{Symbol}
use Rattle.capi.specs.Believed.Told.{symbol_told_in}
use Rattle.capi.proofs.tell_symbol.Goals as goal

-- the numbers after the first three
abbrev places : Symbol → List ℕ
places x = x.start ∷ x.end ∷ x.length ∷ pick x.apart 1 0 ∷ []

pub returns-in-Found : goal.returns-in-Found
returns-in-Found c =
    let lent = c.args.array.now in
    let x = c.in-Found.symbol in
    c.put_places.ensures
    ∙ ap (λ l. sets l 3 (places x)) c.put_three.ensures
    ∙ ap (λ (n : ℕ). sets (sets lent 0 (0 ∷ 0 ∷ n ∷ [])) 3 (places x)) c.class_number.ensures
    ∙ ap (symbol_told_in lent) (sym c.in-Found.is)

pub returns-in-Ended : goal.returns-in-Ended
returns-in-Ended c =
    c.put_places-in-Ended.ensures ∙ ap (λ l. sets l 3 (0 ∷ 0 ∷ 0 ∷ 0 ∷ [])) c.put_three-in-Ended.ensures ∙ ap (symbol_told_in c.args.array.now) (sym c.in-Ended.is)

pub returns-in-Fault : goal.returns-in-Fault
returns-in-Fault c =
    c.put_places-in-Fault.ensures ∙ ap (λ l. sets l 3 (0 ∷ 0 ∷ 0 ∷ 0 ∷ [])) c.put_three-in-Fault.ensures ∙ ap (symbol_told_in c.args.array.now) (sym c.in-Fault.is)
