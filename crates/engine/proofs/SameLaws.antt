-- Both readers give the same. Assumes nothing.
use mathlib.Core.Path.{◌≡◌, sym, ap, ◌∙◌}
use Rattle.octets.specs.Believed.Answers.{number_of, position_of, count_of}
use Rattle.engine.specs.Believed.Same.{BothReadersSame}

pub both_readers : BothReadersSame
both_readers message start end table r r' after after' p q =
    let e : r ≡ r' = p.answer_is ∙ sym q.answer_is in
    record { number = ap number_of e; position = ap position_of e; count = ap count_of e; bytes = p.bytes_are ∙ sym q.bytes_are }
