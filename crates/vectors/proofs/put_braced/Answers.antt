-- `vectors::put_braced` meets its contract. Assumes nothing.
use native.Mathlib.Omega.{arith}
use Rattle.vectors.proofs.PutLaws.{puts_as}
use Rattle.vectors.proofs.ReadLaws.{tail_part, braced_times, braced_byte}
use Rattle.vectors.proofs.put_braced.Goals as goal

pub slice_bounds-put_times-count : goal.slice_bounds-put_times-count
slice_bounds-put_times-count c = omega (arith, c.cut-seam.ensures.3)

pub slice_bounds-put_times-start : goal.slice_bounds-put_times-start
slice_bounds-put_times-start c = omega (arith, c.cut-seam.ensures.3)

pub returns-then-seam-inner : goal.returns-then-seam-inner
returns-then-seam-inner c =
    let args = c.args in
    puts_as (λ rest. braced_times args.inner.now rest c.cut-seam.ensures (omega arith)) (rw (tail_part c.cut-seam.result.past args.inner.now, c.digits-many.ensures) at c.put_times.ensures)

pub returns : goal.returns
returns c = puts_as (λ rest. braced_byte c.args.inner.now rest c.cut-seam.ensures (omega arith)) (rw c.digits-many.ensures at c.put.ensures)
