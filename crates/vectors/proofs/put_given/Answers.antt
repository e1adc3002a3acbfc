-- `vectors::put_given` meets its contract. Assumes nothing.
use native.Mathlib.Omega.{arith}
use native.Mathlib.Nat.{mul-le-mul_right}
use Rattle.vectors.proofs.VectorLaws.{given_parts}
use Rattle.vectors.proofs.put_given.Goals as goal

pub overflow_mul-many : goal.overflow_mul-many
overflow_mul-many c =
    let m = mul-le-mul_right {m = c.written-many.result} {n = 65536} c.args.size (omega (arith, c.written-many.ensures.1)) in omega (arith, m)

pub returns : goal.returns
returns c =
    let args = c.args in
    given_parts args.size args.answer args.table.now c.written-many.ensures.0 c.put_answer-a.ensures c.put_counted-b.ensures c.put_kept.ensures
