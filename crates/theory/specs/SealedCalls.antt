-- CALLS ON A SEALED ROUND leave it sealed, and a planned row goes among them or is planned still: sealed_next, after_sealed, goes_or_waits.
use Rattle.std.specs.Prelude.{◌≡◌, refl, ◌⊎◌, List, [], ◌∷◌, ◌++◌, ◌≤◌}
use Rattle.std.proofs.Common.{sym, ap, ◌∙◌, subst, inl, inr, arith}
use Rattle.rules.specs.Rows.{Row, Round, round, In}
use Rattle.rules.specs.Plan.{plan, planned}
use Rattle.rules.specs.Steps.{goes, sent}
use Rattle.rules.specs.Calls.{taking, sending, sealing, Call, opening, acting, asking, act, deed, round_refusal, leaves, next_round, after}
use Rattle.rules.specs.Demands.{NoOpening}
use Rattle.theory.specs.Tests.{eqb?}
use Rattle.theory.specs.All.{all_in, blank_ticket}
use Rattle.theory.specs.Bounds.{RowFine}
use Rattle.theory.specs.Full.{Fine, plan_member}
use Rattle.theory.specs.Change.{rising_same}
use Rattle.theory.specs.Same.{row_ticket, planned_in}
use Rattle.theory.specs.Gone.{in_without}
use Rattle.theory.specs.Turn.{goes_in}
use Rattle.theory.specs.First.{first_due, goes_first}
use Rattle.theory.specs.Ordinary.{ordinary_planned}
use Rattle.theory.specs.Calls.{takes, sends, opens, question_leaves, next_fine}
use Rattle.theory.specs.Sealed.{sealed_again}

-- ONE CALL on a sealed round: a slot is sent, or the round stays as it is
pub accepted_or_not : (c : Call) (r : Round) → ((round_refusal c r ≡ 0) × (next_round c r ≡ leaves c r)) ⊎ (next_round c r ≡ r)
unfolding next_round
accepted_or_not c r = elim (eqb? (round_refusal c r) 0) [ inl a ↦ inl (a.1, rw a.0) | inr a ↦ inr (rw a.0) ]

abbrev pub SendsSlot : Call → Round → Type 0
SendsSlot c r = (c ≡ acting sending) × (r.slot ≤ r.last) × (next_round c r ≡ sent r)

pub sealed_next : (c : Call) (cs : List Call) (r : Round) → r.tail.sealed ≡ 1 → NoOpening (c ∷ cs) →
    ((next_round c r ≡ r) ⊎ SendsSlot c r) × NoOpening cs
unfolding NoOpening leaves deed act
sealed_next (opening u) cs r e n = (elim (accepted_or_not (opening u) r) [ inl a ↦ absurd (omega (arith, opens u r a.0, n.0)) | inr a ↦ inl a ], n.1)
sealed_next (acting (taking f)) cs r e n = (
  elim (accepted_or_not (acting (taking f)) r) [ inl a ↦ absurd ((takes r f a.0).unsealed e) | inr a ↦ inl a ],
  n,
)
sealed_next (acting sending) cs r e n = (
  elim (accepted_or_not (acting sending) r) [ inl a ↦ inr (refl, sends r a.0, a.1) | inr a ↦ inl a ],
  n,
)
sealed_next (acting sealing) cs r e n = (
  elim (accepted_or_not (acting sealing) r) [ inl a ↦ inl (a.1 ∙ sealed_again r e) | inr a ↦ inl a ],
  n,
)
sealed_next (asking q) cs r e n = (
  elim (accepted_or_not (asking q) r) [ inl a ↦ inl (a.1 ∙ question_leaves q r) | inr a ↦ inl a ],
  n,
)

-- a sending hands the seal on
pub sent_sealed : (r : Round) → (sent r).tail ≡ r.tail
unfolding sent round
sent_sealed r = refl

pub next_sealed : (c : Call) (cs : List Call) (r : Round) → r.tail.sealed ≡ 1 → NoOpening (c ∷ cs) → (next_round c r).tail.sealed ≡ 1
next_sealed c cs r e n = elim (sealed_next c cs r e n).0 [
  | inl a ↦ rw a e
  | inr a ↦ rw (a.2, sent_sealed r) e
]

pub after_sealed : (cs : List Call) (r : Round) → r.tail.sealed ≡ 1 → NoOpening cs → (after cs r).tail.sealed ≡ 1
unfolding after
after_sealed [] r e n = e
after_sealed (c ∷ cs) r e n = after_sealed cs (next_round c r) (next_sealed c cs r e n) (sealed_next c cs r e n).1

-- A PLANNED ROW goes now, or is planned in the next slot
pub goes_or_stays : (r : Round) → Fine r → r.slot ≤ r.last → r.tail.sealed ≡ 1 → (x : Row) → In x (planned r) → (goes r ≡ x) ⊎ In x (planned (sent r))
goes_or_stays r f o e x i =
    let p = goes r in
    let xr = all_in (λ y. In y r.rows) x (planned r) (planned_in r) i in
    elim (eqb? x.ticket p.ticket) [
      | inl h ↦ inl (sym (same_member p (goes_in r f o) xr h.1))
      | inr h ↦ inr (subst (λ (xs : List Row). In x xs) (sym (ordinary_planned r f o (first_due r f o p (goes_first r f o e))))
          (in_without p.ticket x (planned r) i h.1))
    ]
  where
    same_member : (p : Row) → In p (plan r) → In x r.rows → x.ticket ≡ p.ticket → x ≡ p
    same_member p j k e = elim (plan_member r p j) [
      | inl a ↦ rising_same 1 r.next x p r.rows f.rising k a e
      | inr a ↦ absurd (omega (arith, e, blank_ticket p a.0, all_in (λ y. 1 ≤ y.ticket) x r.rows (row_ticket r f) k))
    ]

pub after_fine : (cs : List Call) (r : Round) → Fine r → Fine (after cs r)
unfolding after
after_fine [] r f = f
after_fine (c ∷ cs) r f = after_fine cs (next_round c r) (next_fine c r f)

pub planned_bounds : (r : Round) → Fine r → (x : Row) → In x (planned r) → RowFine r x
planned_bounds r f x i = all_in (RowFine r) x r.rows f.fine (all_in (λ y. In y r.rows) x (planned r) (planned_in r) i)

-- IT GOES among the calls ys from a round on
pub record GoesAmong (r : Round) (ys : List Call) (x : Row) : Type 0 where
  pub before : List Call
  pub behind : List Call
  pub among : ys ≡ before ++ (acting sending ∷ behind)
  pub its_turn : goes (after before r) ≡ x
  pub in_time : (after before r).slot ≤ x.due
  pub ahead : (after before r).slot ≤ (after before r).last
  pub sealed_then : (after before r).tail.sealed ≡ 1

pub goes_later : (c : Call) (cs : List Call) (r : Round) (x : Row) → GoesAmong (next_round c r) cs x → GoesAmong r (c ∷ cs) x
unfolding after
goes_later c cs r x g =
    record {
      before = c ∷ g.before;
      behind = g.behind;
      among = ap (λ (zs : List Call). c ∷ zs) g.among;
      its_turn = g.its_turn;
      in_time = g.in_time;
      ahead = g.ahead;
      sealed_then = g.sealed_then;
    }

pub goes_or_waits : (ys : List Call) (r : Round) → Fine r → r.tail.sealed ≡ 1 → NoOpening ys → (x : Row) → In x (planned r) →
    GoesAmong r ys x ⊎ In x (planned (after ys r))
unfolding after
goes_or_waits [] r f e n x i = inr i
goes_or_waits (c ∷ cs) r f e n x i =
    let q = sealed_next c cs r e n in
    let later : In x (planned (next_round c r)) → GoesAmong r (c ∷ cs) x ⊎ In x (planned (after cs (next_round c r))) =
    λ j. elim (goes_or_waits cs (next_round c r) (next_fine c r f) (next_sealed c cs r e n) q.1 x j) [
      | inl g ↦ inl (goes_later c cs r x g)
      | inr k ↦ inr k
    ] in
    elim q.0 [
      | inl a ↦ later (rw a i)
      | inr a ↦ elim (goes_or_stays r f a.1 e x i) [
        | inr j ↦ later (rw a.2 j)
        | inl g ↦ inl (record {
          before = [];
          behind = cs;
          among = ap (λ (b : Call). b ∷ cs) a.0;
          its_turn = g;
          in_time = (planned_bounds r f x i).due_from;
          ahead = a.1;
          sealed_then = e;
        })
      ]
    ]
