-- `vectors::put_vector` meets its contract: by the letter. Assumes nothing.
use borrow.Author.Tests.{eq-eqb, ne_eqb}
use Rattle.vectors.specs.Believed.Vectors.{vector_text}
use Rattle.vectors.proofs.PutLaws.{puts_as}
use Rattle.vectors.proofs.put_vector.Goals as goal

pub returns-then-letter-eq100 : goal.returns-then-letter-eq100
unfolding vector_text
returns-then-letter-eq100 c = puts_as (λ rest. rw (eq-eqb c.args.letter 100 c.if-letter-eq100.true)) c.put_date.ensures

pub returns-then-letter-eq107 : goal.returns-then-letter-eq107
unfolding vector_text
returns-then-letter-eq107 c =
    let args = c.args in
    puts_as (λ rest. rw (ne_eqb args.letter 100 c.if-letter-eq100.false, eq-eqb args.letter 107 c.if-letter-eq107.true)) c.put_known.ensures

pub returns-then-letter-eq114 : goal.returns-then-letter-eq114
unfolding vector_text
returns-then-letter-eq114 c =
    let args = c.args in
    puts_as (λ rest. rw (ne_eqb args.letter 100 c.if-letter-eq100.false, ne_eqb args.letter 107 c.if-letter-eq107.false, eq-eqb args.letter 114 c.if-letter-eq114.true)) c.put_reply.ensures

pub returns-then-letter-eq115 : goal.returns-then-letter-eq115
unfolding vector_text
returns-then-letter-eq115 c =
    let args = c.args in
    puts_as (λ rest. rw (ne_eqb args.letter 100 c.if-letter-eq100.false, ne_eqb args.letter 107 c.if-letter-eq107.false, ne_eqb args.letter 114 c.if-letter-eq114.false, eq-eqb args.letter 115 c.if-letter-eq115.true)) c.put_scan.ensures

pub returns-then-letter-eq116 : goal.returns-then-letter-eq116
unfolding vector_text
returns-then-letter-eq116 c =
    let args = c.args in
    puts_as (λ rest. rw (ne_eqb args.letter 100 c.if-letter-eq100.false, ne_eqb args.letter 107 c.if-letter-eq107.false, ne_eqb args.letter 114 c.if-letter-eq114.false, ne_eqb args.letter 115 c.if-letter-eq115.false, eq-eqb args.letter 116 c.if-letter-eq116.true)) c.put_touch.ensures

pub returns-then-letter-eq111 : goal.returns-then-letter-eq111
unfolding vector_text
returns-then-letter-eq111 c =
    let args = c.args in
    puts_as (λ rest. rw (ne_eqb args.letter 100 c.if-letter-eq100.false, ne_eqb args.letter 107 c.if-letter-eq107.false, ne_eqb args.letter 114 c.if-letter-eq114.false, ne_eqb args.letter 115 c.if-letter-eq115.false, ne_eqb args.letter 116 c.if-letter-eq116.false, eq-eqb args.letter 111 c.if-letter-eq111.true)) c.put_opened.ensures

pub returns-then-letter-eq99 : goal.returns-then-letter-eq99
unfolding vector_text
returns-then-letter-eq99 c =
    let args = c.args in
    puts_as (λ rest. rw (ne_eqb args.letter 100 c.if-letter-eq100.false, ne_eqb args.letter 107 c.if-letter-eq107.false, ne_eqb args.letter 114 c.if-letter-eq114.false, ne_eqb args.letter 115 c.if-letter-eq115.false, ne_eqb args.letter 116 c.if-letter-eq116.false, ne_eqb args.letter 111 c.if-letter-eq111.false, eq-eqb args.letter 99 c.if-letter-eq99.true)) c.put_compared.ensures

pub returns-then-letter-eq117 : goal.returns-then-letter-eq117
unfolding vector_text
returns-then-letter-eq117 c =
    let args = c.args in
    puts_as (λ rest. rw (ne_eqb args.letter 100 c.if-letter-eq100.false, ne_eqb args.letter 107 c.if-letter-eq107.false, ne_eqb args.letter 114 c.if-letter-eq114.false, ne_eqb args.letter 115 c.if-letter-eq115.false, ne_eqb args.letter 116 c.if-letter-eq116.false, ne_eqb args.letter 111 c.if-letter-eq111.false, ne_eqb args.letter 99 c.if-letter-eq99.false, eq-eqb args.letter 117 c.if-letter-eq117.true)) c.put_unfit.ensures

pub returns : goal.returns
unfolding vector_text
returns c =
    let args = c.args in
    puts_as (λ rest. rw (ne_eqb args.letter 100 c.if-letter-eq100.false, ne_eqb args.letter 107 c.if-letter-eq107.false, ne_eqb args.letter 114 c.if-letter-eq114.false, ne_eqb args.letter 115 c.if-letter-eq115.false, ne_eqb args.letter 116 c.if-letter-eq116.false, ne_eqb args.letter 111 c.if-letter-eq111.false, ne_eqb args.letter 99 c.if-letter-eq99.false, ne_eqb args.letter 117 c.if-letter-eq117.false)) c.put_read.ensures
