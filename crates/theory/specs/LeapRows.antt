-- A leap row by row, with a row or a blank for substitute: leap_with_row, leap_with_blank, leap_of.
use Rattle.std.specs.Prelude.{◌≡◌, refl, ◌⊎◌, ◌≢◌, false, List, [], ℕ, suc, ◌≤◌, ◌<◌}
use Rattle.std.proofs.Common.{sym, ap, subst, ◌∙◌, inl, inr, arith}
use Rattle.std.proofs.lemmas.Bool.{lt-leb}
use Rattle.rules.specs.Rows.{Row, Round, blank, row, round, All, In, going_on, Tail, blank_tail}
use Rattle.rules.specs.Plan.{plan, in_plan, planned, mark, tight_after, segment_start, first_end, substitute}
use Rattle.rules.specs.Steps.{changed, sent, goes}
use Rattle.rules.specs.StepsOf.{stands_in, end_of, Other, SlotOver, at_mark, Leaves, Becomes, Leap}
use Rattle.theory.specs.Tests.{ltb?}
use Rattle.theory.specs.All.{all_map, all_in, all_of_in, blank_ticket, due_of_blank}
use Rattle.theory.specs.Bounds.{RowFine}
use Rattle.theory.specs.Full.{Fine, plan_member, plan_due, plan_feas}
use Rattle.theory.specs.Marks.{start}
use Rattle.theory.specs.Change.{rising_above, rising_same, not_in_plan}
use Rattle.theory.specs.Send.{outside_in}
use Rattle.theory.specs.Leap.{ends_of}
use Rattle.theory.specs.Members.{planned_rows, of_rows_in, found_member, in_plan_is}
use Rattle.theory.specs.Chain.{some_chain, chain_after, Linked}
use Rattle.theory.specs.Leaping.{each, final_row, final_ticket, moves_each, start_end, start_mark}
use Rattle.theory.specs.Close.{closed, sent_row, sent_kept, sent_gone}
use Rattle.theory.specs.SlotOver.{each_same, same_over, changed_over}
use Rattle.theory.specs.Links.{links, every_link, final?, links_chain, links_distinct}

-- THE SUBSTITUTE of a later member: its segment's blank, or a row outside the plan
pub substitute? : (r : Round) (p : Row) → first_end r (plan r) < p.due → let s = substitute r (plan r) p in
    (s ≡ blank (segment_start r (plan r) p.due))
    ⊎ ((In s r.rows) × (segment_start r (plan r) p.due ≤ s.due) × (in_plan s (plan r) ≡ false))
unfolding substitute
substitute? r p h =
    let b = segment_start r (plan r) p.due in
    rw (lt-leb p.due (first_end r (plan r)) h)
    (outside_in r (plan r) b r.rows (blank b) r.rows (blank b) (inl refl) (all_of_in (λ x. In x r.rows) r.rows (λ x j. j)))

-- the rows of a round
pub sent_rows_are : (r : Round) (t : ℕ) (xs : List Row) → sent r ≡ going_on t r.next xs r → (sent r).rows ≡ xs
unfolding round
sent_rows_are r t xs e = ap (λ (z : Round). z.rows) e

-- a row's ticket
pub ticket_of_row : (k d w : ℕ) (m : Tail) → (row k d w m).ticket ≡ k
unfolding row
ticket_of_row k d w m = refl

module _ (r : Round) (f : Fine r) (i : In (goes r) (plan r)) (h : first_end r (plan r) < (goes r).due) where
  -- document 01's p and r, the end of p's segment, the next slot
  abbrev p : Row
  p = goes r

  abbrev s : Row
  s = stands_in r

  abbrev a : ℕ
  a = end_of r p

  abbrev t : ℕ
  t = suc r.slot

  -- a row's ticket is none of a blank's
  pub ticketed : (x : Row) → In x r.rows → (z : Row) → z.ticket ≡ 0 → Other x z
  ticketed x j z e q = omega (arith, e, q, rising_above 1 r.next x r.rows f.rising j)

  -- WITH A ROW
  module _ (j : In s r.rows) (n : in_plan s (plan r) ≡ false) where
    -- an h is due after p, and s is outside the plan
    pub link_other : (g : ℕ) (hs : List Row) → p.due ≤ a → Linked r (planned r) a g hs →
        All (λ z. In z r.rows × Other z p × Other z s) hs
    link_other g hs l k =
        all_map {Q = λ z. In z r.rows × Other z p × Other z s}
        (λ z (v : (In z (planned r)) × (a < z.due) × (z.due ≤ g)).
        let zr = of_rows_in r f (planned r) (planned_rows r f) z v.0 in
        (zr, later z zr v.1, λ q. not_in_plan s (plan r) n z (found_member r f (planned r) (planned_rows r f) z v.0) (sym q))) hs
        (chain_after r f (planned r) (planned_rows r f) a g hs k)
      where
        later : (z : Row) → In z r.rows → a < z.due → Other z p
        later z zr d q = elim (plan_member r p i) [
          | inl b ↦ omega (arith, l, d, ap (λ (y : Row). y.due) (rising_same 1 r.next z p r.rows f.rising zr b q))
          | inr b ↦ ticketed z zr p (blank_ticket p b.0) q
        ]

    -- a row but p's becomes an h's, s's or its own
    pub row_becomes : (hs : List Row) → All (λ z. In z r.rows) hs → (x : Row) → In x r.rows → Other x p →
        (x.ticket ≡ s.ticket → Becomes r (links r a hs) x (at_mark r s))
        × (x.ticket ≢ s.ticket → Becomes r (links r a hs) x (final_row r a hs x))
    row_becomes hs w x k o = (
      λ q. inr (inr (inl (q, o, search (ap (at_mark r) (rising_same 1 r.next s x r.rows f.rising j k (sym q)))))),
      λ q. elim (final? r f a hs x k w) [
        | inl z ↦ inr (inl (z.0, z.1, search z.2))
        | inr z ↦ inr (inr (inr (o, z.0, q, z.1)))
      ],
    )

    -- THE LEAP
    pub leap_with_row : segment_start r (plan r) p.due ≤ s.due → Leap r (sent r).rows
    leap_with_row b =
        let c = planned_rows r f in
        let u = all_in (λ x. (r.slot ≤ x.due) × (x.due ≤ r.last)) p (plan r) (plan_due r f) i in
        let st = start r (plan r) p.due (plan_feas r f) f.time u.0 in
        let en = ends_of r f p s (segment_start r (plan r) p.due) u.1 u.0 st b (all_in (RowFine r) s r.rows f.fine j).due_by in
        let g = end_of r s in
        let m : in_plan s (planned r) ≡ false = sym (in_plan_is r f (planned r) c s j) ∙ n in
        let k = some_chain r f (planned r) c s j m g a (omega (arith, u.0, en.first.from)) en.first.tight (omega arith) in
        let hs = k.0 in
        let w = link_other g hs en.first.from k.1 in
        let w-in = all_map {Q = λ z. In z r.rows} (λ z (v : In z r.rows × Other z p × Other z s). v.0) hs w in
        let e : (sent r).rows ≡ closed t p.ticket _ = sent_rows_are r t _ (sent_row r f (planned r) c p s hs refl h refl j k.1) in
        record {
          shifts = links r a hs;
          chain = links_chain r f (planned r) c g a hs en.last.tight en.order k.1;
          waiting = every_link (λ z. In z r.rows × Other z p × Other z s) r a hs w;
          distinct = links_distinct r f (planned r) c g a hs k.1;
          each_row = rw (e, moves_each r f (planned r) c 1 r.next a g hs r.rows f.rising k.1)
              (changed_over t p.ticket (Leaves r) (Becomes r (links r a hs)) s.ticket (at_mark r s)
              (ticket_of_row s.ticket s.due (mark r s.due) s.tail) (final_row r a hs) (final_ticket r a hs) 1 r.next r.rows f.rising
              (λ x _ q. (q, λ v. ticketed s j s (blank_ticket s v.0) refl)) (row_becomes hs w-in));
        }

  -- WITH A BLANK no row is shifted
  module _ (e : s ≡ blank (segment_start r (plan r) p.due)) where
    abbrev b : ℕ
    b = segment_start r (plan r) p.due

    -- its due slot, and that the mark and the end there are p's
    pub its_due : s.due ≡ b
    its_due = ap (λ (z : Row). z.due) e ∙ due_of_blank b

    pub is_blank : s ≡ blank s.due
    is_blank = e ∙ ap blank (sym its_due)

    pub its_mark : mark r s.due ≡ mark r p.due
    its_mark = ap (mark r) its_due ∙ start_mark r f (planned r) (planned_rows r f) p i

    pub its_end : a ≡ end_of r s
    its_end = sym (start_end r f (planned r) (planned_rows r f) p i) ∙ ap (tight_after r (plan r)) (sym its_due)

    -- a row but p's stays
    pub other_stays : (x : Row) → In x r.rows → Other x p → Becomes r [] x x
    other_stays x k o = inr (inr (inr (o, (λ _ z. z), ticketed x k s (blank_ticket s is_blank), refl)))

    -- THE LEAP: a kept blank where the mark is above 0, else p's row is gone
    pub leap_with_blank : Leap r (sent r).rows
    leap_with_blank =
        record {
          shifts = [];
          chain = omega (arith, its_end);
          waiting = tt;
          distinct = tt;
          each_row = elim (ltb? 0 (mark r p.due)) [
            | inl m ↦
                let y = row p.ticket b (mark r p.due) blank_tail in
                let q = sent_rows_are r t (closed t 0 (changed p.ticket y r.rows))
                (sent_kept r f (planned r) (planned_rows r f) p refl i h e m.1) in
                let v : closed t 0 (changed p.ticket y (each (λ x. x) r.rows)) ≡ (sent r).rows =
                ap (λ (zs : List Row). closed t 0 (changed p.ticket y zs)) (each_same r.rows) ∙ sym q in
                subst (λ (zs : List Row). SlotOver t (Leaves r) (Becomes r []) r.rows zs) v
                (changed_over t 0 (Leaves r) (Becomes r []) p.ticket y (ticket_of_row p.ticket b (mark r p.due) blank_tail) (λ x. x) (λ x. refl)
                1 r.next r.rows f.rising (λ x k z. absurd (ticketed x k x z refl)) (λ x k _. (
                  λ z. inl (z, (is_blank, omega (arith, its_mark, m.1)), rw (z, its_mark, its_due)),
                  λ z. other_stays x k z,
                )))
            | inr m ↦
                let q = sent_rows_are r t (closed t p.ticket r.rows)
                (sent_gone r f (planned r) (planned_rows r f) p refl i h e (omega (arith, m.1))) in
                subst (λ (zs : List Row). SlotOver t (Leaves r) (Becomes r []) r.rows zs) (sym q)
                (same_over t p.ticket (Leaves r) (Becomes r []) r.rows (λ x _ z. (z, λ w. omega (arith, m.1, its_mark, w.1))) other_stays)
          ];
        }

  -- A LEAP, whichever the substitute
  pub leap_of : Leap r (sent r).rows
  leap_of = elim (substitute? r p h) [ inl e ↦ leap_with_blank e | inr e ↦ leap_with_row e.0 e.2 e.1 ]
