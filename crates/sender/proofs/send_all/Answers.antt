-- `sender::send_all` meets its contract.
use native.Mathlib.Omega.{arith}
use mathlib.Core.Bool.{false}
use Rattle.went.proofs.SendLaws.{alone_asks}
use Rattle.sender.proofs.SenderLaws.{whole_step, all_alone, all_idle}
use Rattle.sender.proofs.send_all.Goals as goal

pub send_whole-requires : goal.send_whole-requires
send_whole-requires c =
    (whole_step c.requires.0 (λ e. omega (arith, e)) c.choose_whole-whole.ensures, c.requires.1)

pub returns-then-reach-eq0 : goal.returns-then-reach-eq0
returns-then-reach-eq0 c =
    all_idle c.requires.0 (omega arith) (omega arith) c.send_silence.ensures

pub send_row-requires : goal.send_row-requires
send_row-requires c =
    alone_asks (all_alone c.requires.0 (omega arith) (λ e. omega (arith, e)) c.first_of_all-row.ensures) c.requires.1

pub returns : goal.returns
returns c =
    c.send_row.ensures.sent false (all_alone c.requires.0 (omega arith) (λ e. omega (arith, e)) c.first_of_all-row.ensures)
