-- `header::names::agrees` meets its contract. Assumes nothing.
use Rattle.std.proofs.Common.{rules}
use borrow.Author.Tests.{tests}
use Rattle.std.proofs.lemmas.Iterator.{YieldsList-from_slice, YieldsList-from_zip, cases_from_all}
use Rattle.std.proofs.lemmas.Iterator.Adapters.{YieldsList-from_skip}
use Rattle.header.proofs.CandidateLaws.{Agree, Differ, agreed}
use Rattle.header.proofs.names.agrees.Goals as goal

pub returns : goal.returns
returns c =
    let a = c.args in
    agreed c.all.result a.name.now a.text.now c.requires
    (cases_from_all c.all.new.self _ _ Agree Differ c.all.ensures.ran
    (YieldsList-from_skip 1 (YieldsList-from_zip (YieldsList-from_slice a.name.now cc) (YieldsList-from_slice a.text.now cc)) cc)
    (λ x q k. search (rules, tests))
    (λ x q k. search (rules, tests)))
