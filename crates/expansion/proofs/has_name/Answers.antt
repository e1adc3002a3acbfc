use Prim.Native.Nat.{◌+◌, ◌*◌}
use native.Mathlib.Omega.{arith}
use mathlib.Core.Path.{sym, ◌∙◌}
use Rattle.octets.specs.Believed.Numbers.{store_record_size, store_name_size}
use Rattle.octets.specs.Believed.Text.{part}
use Rattle.expansion.proofs.StoreLaws.{no_name, other_front, length-tells}
use Rattle.expansion.proofs.has_name.Goals as goal

pub returns-then-name-gt-STORE_NAME_SIZE : goal.returns-then-name-gt-STORE_NAME_SIZE
returns-then-name-gt-STORE_NAME_SIZE c = let a = c.args in sym (no_name a.store.now a.name.now a.i (omega arith))

pub returns-then-same_bytes : goal.returns-then-same_bytes
returns-then-same_bytes c =
    let a = c.args in
    length-tells (part a.store.now (a.i * store_record_size) (a.i * store_record_size + store_name_size)) a.name.now c.name_length.result c.name_length.ensures.0 (sym c.same_bytes.ensures ∙ c.if-same_bytes.true) c.name_length.ensures.1

pub returns-else-same_bytes : goal.returns-else-same_bytes
returns-else-same_bytes c =
    let a = c.args in
    c.if-same_bytes.false ∙ sym (other_front (part a.store.now (a.i * store_record_size) (a.i * store_record_size + store_name_size)) a.name.now (sym c.same_bytes.ensures ∙ c.if-same_bytes.false))
