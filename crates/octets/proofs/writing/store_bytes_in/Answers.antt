-- `octets::writing::store_bytes_in` meets its contract. Assumes nothing.
use mathlib.Core.Path.{◌≡◌, sym, ap, ◌∙◌}
use mathlib.Core.List.{List}
use Prim.Native.Nat.{ℕ, ◌-◌}
use native.Mathlib.Omega.{arith}
use lib.ListN.{length, take, drop, length-drop}
use lib.Seq.{sets, take_all}
use Rattle.octets.proofs.Writes.{text_within, text_across, text_before}
use Rattle.octets.proofs.writing.store_bytes_in.Goals as goal

pub returns-then-from-n : goal.returns-then-from-n
returns-then-from-n c = let a = c.args in c.store_bytes.ensures ∙ sym (text_within a.from a.out.now a.n a.text.now c.if-from-n.true)

pub returns-then-text-from : goal.returns-then-text-from
returns-then-text-from c = let a = c.args in sym (text_before a.from a.out.now a.n a.text.now (omega arith) (omega arith))

pub returns : goal.returns
returns c =
    let a = c.args in
    let k = a.from - a.n in
    let e : take (length a.text.now - k) (drop k a.text.now) ≡ drop k a.text.now = take_all (length a.text.now - k) (drop k a.text.now) (rw length-drop (omega arith)) in
    c.store_bytes-2.ensures ∙ ap (λ (t : List ℕ). sets a.out.now 0 t) e ∙ sym (text_across a.from a.out.now a.n a.text.now (omega arith))
