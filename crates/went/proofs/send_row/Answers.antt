-- `went::send_row` meets its contract.
use mathlib.Core.Bool.{true, false}
use Rattle.went.proofs.SendLaws.{alone_goes, alone_leaps}
use Rattle.went.proofs.send_row.Goals as goal

pub returns-clause-sent : goal.returns-clause-sent
returns-clause-sent c true a = alone_leaps a (record { leaves = c.close_up.ensures; out = c.out_of-out.ensures })
returns-clause-sent c false a = alone_goes a (record { leaves = c.close_up.ensures; out = c.out_of-out.ensures })
