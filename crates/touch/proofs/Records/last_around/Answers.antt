-- `touch::Records::last_around` meets its contract. Assumes nothing.
use Rattle.std.proofs.Common.{rules}
use borrow.Author.Tests.{tests}
use Rattle.records.specs.Believed.AddressRecords.{record_in}
use Rattle.touch.specs.Believed.Around.{covers}
use Rattle.touch.proofs.LastLaws.{last_found}
use Rattle.touch.proofs.Records.last_around.Goals as goal

pub returns : goal.returns
returns c =
    last_found (λ i. covers c.args.place (record_in c.args.self.now.table.now i)) _ (λ x b q k. search (rules, tests)) c.args.self.now.many _ c.find.ensures.runs c.rev.ensures.runs
