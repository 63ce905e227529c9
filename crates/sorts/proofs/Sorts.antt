-- A slot, a weight, a ticket or a class is its number.
use mathlib.Core.Path.{◌≡◌}
use Rattle.sorts.specs.declared.Slot.{Slot}
use Rattle.sorts.specs.declared.Weight.{Weight}
use Rattle.sorts.specs.declared.Ticket.{Ticket}
use Rattle.sorts.specs.declared.Class.{Class}

pub slot_read : (a b : Slot) → a.0 ≡ b.0 → a ≡ b
slot_read a b e i = record { 0 = e i }

pub weight_read : (a b : Weight) → a.0 ≡ b.0 → a ≡ b
weight_read a b e i = record { 0 = e i }

pub ticket_read : (a b : Ticket) → a.0 ≡ b.0 → a ≡ b
ticket_read a b e i = record { 0 = e i }

pub class_read : (a b : Class) → a.0 ≡ b.0 → a ≡ b
class_read a b e i = record { 0 = e i }
