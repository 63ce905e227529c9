-- The calls: what each refuses, answers and leaves, on a round and on a lent table; lists of calls.
use Rattle.std.specs.Prelude.{◌≡◌, Bool, ◌||◌, cond, List, [], ◌∷◌, ℕ, ltb, leb, eqb, length}
use Rattle.rules.specs.Limits.{most_last, most_weight, ticket_limit, most_class}
use Rattle.rules.specs.Rows.{Frame, Setup, HeadTail, Row, Round}
use Rattle.rules.specs.Plan.{total, mark}
use Rattle.rules.specs.Steps.{opened, taken, sealed, goes, sent, is_ordinary}
use Rattle.rules.specs.Table.{table, round_in, table_refusal, length_good}

-- A CALL with its arguments: opening reads nothing of the table, acts write it, questions only look. Those that a request adds join here
pub data Act : Type 0 where
  taking : Frame → Act
  sending : Act
  sealing : Act

pub data Question : Type 0 where
  marking : (slot : ℕ) → Question
  totalling : Question

pub data Call : Type 0 where
  opening : Setup → Call
  acting : Act → Call
  asking : Question → Call

-- WHAT WENT OUT, and in which kind of step
pub data Out : Type 0 where
  silence : Out
  frame : (ticket : ℕ) → Out
  kept_blank : (ticket : ℕ) → Out

pub data Step : Type 0 where
  ordinary : Out → Step
  leap : Out → Step

-- A REPLY: a refusal's number alone, or what the call answers
pub data Reply : Type 0 where
  refused : (number : ℕ) → Reply
  done : Reply
  closed : Reply
  ticket : ℕ → Reply
  step : Step → Reply
  amount : ℕ → Reply
  blank_due : (slot : ℕ) → Reply

-- a reply's refusal number, 0 where it is accepted
unfoldable pub number_of : Reply → ℕ
number_of (refused n) = n
number_of done = 0
number_of closed = 0
number_of (ticket k) = 0
number_of (step s) = 0
number_of (amount n) = 0
number_of (blank_due s) = 0

-- A TEST with the number of its refusal; the number of the first test that holds, 0 where none does
pub record Test : Type 0 where
  pub holds : Bool
  pub number : ℕ

infix 10 ◌⇒◌
abbrev pub ◌⇒◌ : (holds : Bool) → (number : ℕ) → Test
b ⇒ n = record { holds = b; number = n }

abbrev pub first_of : List Test → ℕ
first_of [] = 0
first_of (x ∷ xs) = cond x.holds x.number (first_of xs)

-- REFUSALS in their order, by the numbers of a head: the round is over; it is sealed; a slot is not ahead
abbrev pub over : (slot last : ℕ) → Test
over t l = ltb l t ⇒ 5

abbrev pub is_sealed : HeadTail → Test
is_sealed m = eqb m.sealed 1 ⇒ 13

abbrev pub not_ahead : (slot last s : ℕ) → Test
not_ahead t l s = (ltb s t || ltb l s) ⇒ 7

abbrev pub open_tests : Setup → List Test
open_tests u = (ltb most_last u.last ⇒ 4) ∷ []

abbrev pub take_tests : (slot last next used room : ℕ) → HeadTail → Frame → List Test
take_tests t l n u k m f =
    over t l ∷ is_sealed m ∷ ((eqb f.weight 0 || ltb most_weight f.weight) ⇒ 6) ∷ not_ahead t l f.due ∷ (ltb most_class f.class ⇒ 14)
    ∷ (eqb n ticket_limit ⇒ 8) ∷ (leb k u ⇒ 9) ∷ []

abbrev pub send_tests : (slot last : ℕ) → List Test
send_tests t l = over t l ∷ []

abbrev pub seal_tests : (slot last : ℕ) → List Test
seal_tests t l = over t l ∷ []

abbrev pub mark_tests : (slot last s : ℕ) → List Test
mark_tests t l s = over t l ∷ not_ahead t l s ∷ []

abbrev pub total_tests : (slot last : ℕ) → List Test
total_tests t l = over t l ∷ []

-- A DEED: what a call does on a round: the tests that refuse it, in their order, its reply, and the round that it leaves
pub record Deed : Type 0 where
  pub tests : List Test
  pub reply : Reply
  pub leaves : Round

unfoldable pub out_of : Row → Out
out_of p = cond (eqb p.ticket 0) silence (cond (eqb p.tail.kind 0) (frame p.ticket) (kept_blank p.ticket))

unfoldable pub act : Act → Round → Deed
act (taking f) r =
    record {
      tests = take_tests r.slot r.last r.next (length r.rows) r.room r.tail f;
      reply = ticket r.next;
      leaves = taken r f;
    }
act sending r =
    let o = out_of (goes r) in
    record { tests = send_tests r.slot r.last; reply = step (cond (is_ordinary r) (ordinary o) (leap o)); leaves = sent r }
act sealing r = record { tests = seal_tests r.slot r.last; reply = closed; leaves = sealed r }

unfoldable pub question : Question → Round → Deed
question (marking s) r = record { tests = mark_tests r.slot r.last s; reply = amount (mark r s); leaves = r }
question totalling r = record { tests = total_tests r.slot r.last; reply = amount (total r); leaves = r }

unfoldable pub deed : Call → Round → Deed
deed (opening u) r = record { tests = open_tests u; reply = done; leaves = opened u r.room }
deed (acting a) r = act a r
deed (asking q) r = question q r

unfoldable pub round_refusal : Call → Round → ℕ
round_refusal c r = first_of (deed c r).tests

unfoldable pub says : Call → Round → Reply
says c r = (deed c r).reply

unfoldable pub leaves : Call → Round → Round
leaves c r = (deed c r).leaves

-- THE OUTCOME of a call on a lent table: the first refusal, the reply, and the bytes afterwards. Opening reads the length alone
unfoldable pub table_first : Call → List ℕ → ℕ
table_first (opening u) t = cond (length_good (length t)) 0 2
table_first (acting a) t = table_refusal t
table_first (asking q) t = table_refusal t

unfoldable pub first : (a b : ℕ) → ℕ
first a b = cond (eqb a 0) b a

unfoldable pub refusal : Call → List ℕ → ℕ
refusal c t = first (table_first c t) (round_refusal c (round_in t))

unfoldable pub answer : Call → List ℕ → Reply
answer c t = cond (eqb (refusal c t) 0) (says c (round_in t)) (refused (refusal c t))

unfoldable pub left : Call → List ℕ → List ℕ
left c t = cond (eqb (refusal c t) 0) (table (leaves c (round_in t))) t

-- WHAT A PUBLIC CALL PROMISES: its reply, and every byte of the table, are these
abbrev pub Says : Call → Reply → (entry exit : List ℕ) → Type 0
Says c a t z = (a ≡ answer c t) × (z ≡ left c t)

-- LISTS OF CALLS on one table: the bytes after them, and their replies
unfoldable pub run : List Call → List ℕ → List ℕ
run [] t = t
run (c ∷ cs) t = run cs (left c t)

unfoldable pub replies : List Call → List ℕ → List Reply
replies [] t = []
replies (c ∷ cs) t = answer c t ∷ replies cs (left c t)

-- THE MODEL: the round that the rules give from the number of rows and the arguments alone
unfoldable pub next_round : Call → Round → Round
next_round c r = cond (eqb (round_refusal c r) 0) (leaves c r) r

unfoldable pub after : List Call → Round → Round
after [] r = r
after (c ∷ cs) r = after cs (next_round c r)

unfoldable pub at : (rows : ℕ) → Setup → List Call → Round
at k u cs = after cs (opened u k)
