-- `vectors::put_bytes` meets its contract. Assumes nothing.
use Rattle.vectors.proofs.PutLaws.{puts_as, copied_raw}
use Rattle.vectors.proofs.put_bytes.Goals as goal

pub returns : goal.returns
returns c = puts_as (copied_raw c.args.text.now) c.put_copied.ensures
