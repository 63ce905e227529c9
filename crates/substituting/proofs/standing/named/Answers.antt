-- `substituting::standing::named` meets its contract.
use mathlib.Core.Path.{refl, sym, ap, subst}
use Prim.Native.Nat.{ℕ}
use native.Mathlib.Omega.{arith}
use Rattle.rules.specs.Table.{round_in}
use Rattle.rules.specs.Calls.{ticket, blank_due}
use Rattle.round.proofs.ReadLaws.{known}
use Rattle.sub.specs.declared.Sub.{Sub}
use Rattle.substituting.specs.Finding.{There, Named}
use Rattle.substituting.proofs.standing.named.Goals as goal

pub ticket_at-requires : goal.ticket_at-requires
ticket_at-requires c =
    let t = c.args.sound.now.table.now in
    let l = subst (There (round_in t)) c.in-Row.is c.requires in
    omega (arith, l, (known t c.args.sound.now.round c.args.sound.now.ready).used)

pub returns-in-Row : goal.returns-in-Row
returns-in-Row c =
    let read = c.ticket_at in
    subst (λ (v : Sub). Named (round_in c.args.sound.now.table.now) v (ticket read.result.0)) (sym c.in-Row.is)
    (ap (λ (n : ℕ). ticket n) read.ensures.is)

pub returns-in-Blank : goal.returns-in-Blank
returns-in-Blank c =
    subst (λ (v : Sub). Named (round_in c.args.sound.now.table.now) v (blank_due c.in-Blank.slot.0)) (sym c.in-Blank.is) refl
