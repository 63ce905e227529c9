-- Listing: an entry's numbers by view, a result's number and value of document 01, and what the call promises.
use Rattle.std.specs.Prelude.{◌≡◌, List, ℕ, ◌+◌, ◌≤◌, ◌<◌, length, get_or, Result, Ok, Err}
use Rattle.rules.specs.Rows.{Row}
use Rattle.rules.specs.Table.{round_in}
use Rattle.rules.specs.Calls.{Reply, refused, amount}
use Rattle.rules.specs.Looking.{View, the_plan, shows, list_answer, list_left}
use Rattle.refusals.specs.declared.Refusal.{Refusal}
use Rattle.refusals.specs.Refusals.{refusal_number}
use Rattle.listing.specs.declared.Entry.{Entry}
use Rattle.listing.specs.declared.View.{View as Asked}
use Rattle.listing.specs.declared.View.TheVariants as asked

abbrev pub of_view : Asked → View
of_view asked.Plan = the_plan

-- a row's numbers as an entry; its kind is not listed
abbrev pub entry : View → Row → Entry
entry the_plan x = record { ticket = record { 0 = x.ticket }; due = record { 0 = x.due }; weight = record { 0 = x.weight } }

abbrev pub of_listed : Result ℕ Refusal → Reply
of_listed (Ok n) = amount n
of_listed (Err r) = refused (refusal_number r)

-- the reply, and every entry of the lent list, are the rules', and every byte of the table is as it was
abbrev pub Lists : View → Reply → (table_before table-after : List ℕ) → (before after : List Entry) → Type 0
Lists v a t z es zs = (a ≡ list_answer (shows v) t (length es)) × (zs ≡ list_left (shows v) (entry v) t es) × (z ≡ t)

-- OWED: entry i of the plan's is due in slot current + i or later, so every frame listed still fits
unfoldable pub ListedEntriesFit : Type 0
ListedEntriesFit =
    (a : Reply) (t u : List ℕ) (es zs : List Entry) → Lists the_plan a t u es zs → (n : ℕ) → a ≡ amount n →
    (i : ℕ) → i < n → (z : Entry) → (round_in t).slot + i ≤ (get_or zs i z).due.0
