-- `vectors::refuses_at` meets its contract. Assumes nothing.
use Rattle.vectors.proofs.AnswerLaws.{refuses_not, refuses_if}
use Rattle.vectors.proofs.refuses_at.Goals as goal

pub returns-then-number-ne-NO_LIST_GOES_ON : goal.returns-then-number-ne-NO_LIST_GOES_ON
returns-then-number-ne-NO_LIST_GOES_ON c =
    let args = c.args in
    refuses_not args.answer args.place c.number.ensures c.if-number-ne-NO_LIST_GOES_ON.true

pub returns : goal.returns
returns c =
    let args = c.args in
    refuses_if args.answer args.place c.number.ensures c.if-number-ne-NO_LIST_GOES_ON.false c.position.ensures
