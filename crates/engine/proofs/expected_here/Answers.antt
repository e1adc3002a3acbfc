-- `engine::expected_here` meets its contract. Assumes nothing.
use Rattle.engine.proofs.ExpectingLaws.{counts, sum_is}
use Rattle.engine.proofs.expected_here.Goals as goal

pub returns : goal.returns
returns c =
    λ x.
    sum_is x.state (counts _ c.counted.ensures.is (c.could.ensures x)) (counts _ c.counted-2.ensures.is (c.could-2.ensures x))
    (counts _ c.counted-3.ensures.is (c.could-3.ensures x)) (counts _ c.counted-4.ensures.is (c.could-4.ensures x))
    (counts _ c.counted-5.ensures.is (c.could-5.ensures x)) (counts _ c.counted-6.ensures.is (c.could-6.ensures x))
    (counts _ c.counted-7.ensures.is (c.could-7.ensures x)) (counts _ c.counted-8.ensures.is (c.could_end.ensures x))
