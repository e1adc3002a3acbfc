-- `capi::put_places` meets its contract. Assumes nothing.
use mathlib.Core.Path.{◌∙◌, ap}
use lib.ListN.{set}
use mir.Val.{bool_byte}
use Rattle.octets.proofs.ChoiceLaws.{cast_bool}
use Rattle.capi.proofs.put_places.Goals as goal

pub returns : goal.returns
returns c =
    let a = c.args in
    rw (← (cast_bool a.apart))
    (c.store_number-4.ensures
    ∙ ap (λ l. set l 6 (bool_byte a.apart)) (c.store_number-3.ensures ∙ ap (λ l. set l 5 a.length) (c.store_number-2.ensures ∙ ap (λ l. set l 4 a.end) c.store_number.ensures)))
