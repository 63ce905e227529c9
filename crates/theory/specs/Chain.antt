-- A leap's shifts as one chain, each link the heaviest of what is left: Linked, moves, chain_is, chain_other, chain_falls, some_chain.
use Rattle.std.specs.Prelude.{◌≡◌, ◌≢◌, true, false, length}
use Rattle.std.proofs.Common.{sym, ap, ◌∙◌, subst, inl, inr, arith}
use mathlib.Core.List.{List, [], ◌∷◌, ◌++◌}
use Prim.Native.Nat.{ℕ, zero, suc, ◌+◌, ◌-◌, ◌≤◌, ◌<◌, max}
use borrow.Author.Tests.{lt-ltb}
use Rattle.rules.specs.Rows.{Row, Round, blank, heavier, row, All, In}
use Rattle.rules.specs.Plan.{plan, in_plan, tight_after, mark}
use Rattle.rules.specs.Steps.{changed, heaviest_between, shifted}
use Rattle.theory.specs.Tests.{either, ltb?}
use Rattle.theory.specs.All.{in_mid, all_map, all_in, blank_weight, blank_is}
use Rattle.theory.specs.Order.{NotOver, over_absurd, over_not, over_over, not_over_both, heavier_yes, heavier_no, over_heavier, not_over_heavier, not_over_weight}
use Rattle.theory.specs.Feas.{below, num, below_yes, below_late, below_mono, num_mono}
use Rattle.theory.specs.Bounds.{RowFine}
use Rattle.theory.specs.Full.{Fine, plan_full}
use Rattle.theory.specs.Marks.{TightIn, NextTight, next}
use Rattle.theory.specs.Change.{rising_same}
use Rattle.theory.specs.Send.{between_count, next_by}
use Rattle.theory.specs.Leap.{no_shift}
use Rattle.theory.specs.Times.{sum_less}
use Rattle.theory.specs.Select.{plan_selection}
use Rattle.theory.specs.Members.{RowsOfPlan, of_rows_in, of_rows_fine, found_member, member?, in_plan_is}
use Rattle.theory.specs.Top.{heaviest}

-- THE HEAVIEST of the rows due after e and by g
pub record HeaviestIn (rs : List Row) (e g : ℕ) (h : Row) : Type 0 where
  pub inside : In h rs
  pub after : e < h.due
  pub by : h.due ≤ g
  pub most : (y : Row) → In y rs → e < y.due → y.due ≤ g → heavier y h ≡ false

-- THE CHAIN from e to g
abbrev pub Linked : Round → (rs : List Row) → (e g : ℕ) → List Row → Type 0
Linked r rs e g [] = g ≤ e
Linked r rs e g (h ∷ hs) = HeaviestIn rs e g h × Linked r rs (tight_after r (plan r) h.due) g hs

-- a link moved to the end before it
unfoldable pub shifted_to_end : Round → (e : ℕ) → Row → Row
shifted_to_end r e h = row h.ticket e (max h.weight (mark r e)) h.tail

unfoldable pub moves : Round → (e : ℕ) → (hs xs : List Row) → List Row
moves r e [] xs = xs
moves r e (h ∷ hs) xs = moves r (tight_after r (plan r) h.due) hs (changed h.ticket (shifted_to_end r e h) xs)

module _ (r : Round) (f : Fine r) (rs : List Row) (c : RowsOfPlan r rs) where
  pub heaviest_found : (e g : ℕ) (h : Row) → HeaviestIn rs e g h → heaviest_between e g (plan r) (blank (suc g)) ≡ h
  heaviest_found e g h p =
      let z = heaviest_between e g (plan r) (blank (suc g)) in
      let t = heaviest e g (plan r) (blank (suc g)) in
      let w = (of_rows_fine r f rs c h p.inside).some in
      let o : NotOver h z = all_in (λ y. (e < y.due) × (y.due ≤ g) → NotOver y z) h (plan r) t.most (found_member r f rs c h p.inside)
      (p.after, p.by) in
      elim t.found [
        | inl d ↦ absurd (omega (
          arith,
          w,
          not_over_weight h z o,
          ap (λ (v : Row). v.weight) d,
          blank_weight (blank (suc g)) (blank_is (suc g)),
        ))
        | inr d ↦ elim (member? r f rs c z d.0) [
          | inl b ↦ absurd (omega (arith, w, not_over_weight h z o, blank_weight z b))
          | inr b ↦ rising_same 1 r.next z h r.rows f.rising (of_rows_in r f rs c z b) (of_rows_in r f rs c h p.inside)
              (not_over_both z h (heavier_no z h (p.most z b d.1.0 d.1.1)) o)
        ]
      ]

  -- ONE TURN of the loop
  pub shifted_step : (n e g : ℕ) (h : Row) (xs : List Row) → HeaviestIn rs e g h →
      shifted (suc n) r (plan r) e g xs ≡ shifted n r (plan r) (tight_after r (plan r) h.due) g (changed h.ticket (shifted_to_end r e h) xs)
  unfolding shifted shifted_to_end mark
  shifted_step n e g h xs p = rw (heaviest_found e g h p, lt-ltb e g (omega (arith, p.after, p.by)))

  pub chain_shifted : (n e g : ℕ) (hs xs : List Row) → Linked r rs e g hs → length hs ≤ n → shifted n r (plan r) e g xs ≡ moves r e hs xs
  unfolding moves
  chain_shifted n e g [] xs k l = no_shift n r e g xs k
  chain_shifted zero e g (h ∷ hs) xs k l = absurd (omega arith)
  chain_shifted (suc n) e g (h ∷ hs) xs k l =
      shifted_step n e g h xs k.0
      ∙ chain_shifted n (tight_after r (plan r) h.due) g hs (changed h.ticket (shifted_to_end r e h) xs) k.1 (omega arith)

  pub link_end : (h : Row) → In h rs → NextTight r (plan r) h.due (tight_after r (plan r) h.due)
  link_end h i = next r (plan r) h.due (of_rows_fine r f rs c h i).due_by (plan_full r f)

  pub chain_length : (e g : ℕ) (hs : List Row) → Linked r rs e g hs → length hs ≤ g - e
  chain_length e g [] k = omega arith
  chain_length e g (h ∷ hs) k =
      omega (
        arith,
        k.0.after,
        k.0.by,
        (link_end h k.0.inside).from,
        chain_length (tight_after r (plan r) h.due) g hs k.1,
      )

  -- ALL TURNS: enough fuel is the slots between
  pub chain_is : (n e g : ℕ) (hs xs : List Row) → g ≤ n → Linked r rs e g hs → shifted n r (plan r) e g xs ≡ moves r e hs xs
  chain_is n e g hs xs l k = chain_shifted n e g hs xs k (omega (arith, l, chain_length e g hs k))

  -- each link is due after the ends before it
  pub chain_after : (e g : ℕ) (hs : List Row) → Linked r rs e g hs → All (λ z. (In z rs) × (e < z.due) × (z.due ≤ g)) hs
  chain_after e g [] k = tt
  chain_after e g (h ∷ hs) k = (
    (k.0.inside, k.0.after, k.0.by),
    all_map {Q = λ z. (In z rs) × (e < z.due) × (z.due ≤ g)}
        (λ z (u : (In z rs) × (tight_after r (plan r) h.due < z.due) × (z.due ≤ g)).
        (u.0, omega (arith, u.1, k.0.after, (link_end h k.0.inside).from), u.2)) hs
        (chain_after (tight_after r (plan r) h.due) g hs k.1),
  )

  pub same_row_due : (x y : Row) → In x rs → In y rs → x.ticket ≡ y.ticket → x.due ≡ y.due
  same_row_due x y i j e =
      ap (λ (z : Row). z.due) (rising_same 1 r.next x y r.rows f.rising (of_rows_in r f rs c x i) (of_rows_in r f rs c y j) e)

  pub chain_other : (e g : ℕ) (h : Row) (hs : List Row) → Linked r rs e g (h ∷ hs) → All (λ z. h.ticket ≢ z.ticket) hs
  chain_other e g h hs k =
      all_map {Q = λ z. h.ticket ≢ z.ticket}
      (λ z (u : (In z rs) × (tight_after r (plan r) h.due < z.due) × (z.due ≤ g)) (q : h.ticket ≡ z.ticket).
      absurd (omega (arith, u.1, (link_end h k.0.inside).from, same_row_due h z k.0.inside u.0 q))) hs
      (chain_after (tight_after r (plan r) h.due) g hs k.1)

  -- A NEW STRETCH: the rows lighter than its heaviest leave the chain's end, and it is added
  pub chain_extend : (e g g2 : ℕ) (ks ls : List Row) (m : Row) → e ≤ g → TightIn r (plan r) g → Linked r rs e g (ks ++ ls) → HeaviestIn rs g g2 m →
      tight_after r (plan r) m.due ≡ g2 → All (λ h. heavier h m ≡ true) ks → All (λ h. heavier m h ≡ true) ls → Linked r rs e g2 (ks ++ (m ∷ []))
  chain_extend e g g2 [] [] m l t k p q a b = (
    record {
      inside = p.inside;
      after = omega (arith, l, p.after);
      by = p.by;
      most = λ y i u v. p.most y i (omega (arith, k, u)) v;
    },
    omega (arith, q),
  )
  chain_extend e g g2 [] (h ∷ hs) m l t k p q a b = (
    record {
      inside = p.inside;
      after = omega (arith, l, p.after);
      by = p.by;
      most = λ y i u v. elim (ltb? g y.due) [
        | inl w ↦ p.most y i w.1 v
        | inr w ↦ not_over_heavier y m (over_not m y (over_over m h y (heavier_yes m h b.0) (heavier_no y h (k.0.most y i u w.1))))
      ];
    },
    omega (arith, q),
  )
  chain_extend e g g2 (h ∷ ks) ls m l t k p q a b = (
    record {
      inside = k.0.inside;
      after = k.0.after;
      by = omega (arith, k.0.by, p.after, p.by);
      most = λ y i u v. elim (ltb? g y.due) [
        | inl w ↦ not_over_heavier y h (over_not h y (over_over h m y (heavier_yes h m a.0) (heavier_no y m (p.most y i w.1 v))))
        | inr w ↦ k.0.most y i u w.1
      ];
    },
    chain_extend (tight_after r (plan r) h.due) g g2 ks ls m
        (next_by r (plan r) h.due (tight_after r (plan r) h.due) g (link_end h k.0.inside) k.0.by t) t k.1 p q a.1 b,
  )

  -- its links fall, so where one is heavier than m all before it are
  pub chain_falls : (e g : ℕ) (h : Row) (hs : List Row) → Linked r rs e g (h ∷ hs) → All (λ x. heavier h x ≡ true) hs
  chain_falls e g h hs k =
      all_map {Q = λ x. heavier h x ≡ true}
      (λ x (u : (In x rs) × (tight_after r (plan r) h.due < x.due) × (x.due ≤ g)). falls x u.0
      (omega (arith, u.1, (link_end h k.0.inside).from)) u.2) hs
      (chain_after (tight_after r (plan r) h.due) g hs k.1)
    where
      falls : (x : Row) → In x rs → h.due < x.due → x.due ≤ g → heavier h x ≡ true
      falls x i a b = elim (either (heavier h x)) [
        | inl q ↦ q
        | inr q ↦ absurd (omega (
          arith,
          a,
          same_row_due h x k.0.inside i (not_over_both h x (heavier_no h x q) (heavier_no x h (k.0.most x i (omega (arith, a, k.0.after)) b))),
        ))
      ]

  pub chain_over : (e g : ℕ) (ks ls : List Row) (h m : Row) → Linked r rs e g (ks ++ (h ∷ ls)) → heavier h m ≡ true → All (λ x. heavier x m ≡ true) ks
  chain_over e g [] ls h m k q = tt
  chain_over e g (x ∷ ks) ls h m k q = (
    over_heavier x m (over_over x h m (heavier_yes x h (all_in (λ y. heavier x y ≡ true) h (ks ++ (h ∷ ls)) (chain_falls e g x (ks ++ (h ∷ ls)) k)
        (in_mid h ks ls)))
        (over_not h m (heavier_yes h m q))),
    chain_over (tight_after r (plan r) x.due) g ks ls h m k.1 q,
  )

  -- NO BLANKS by the end of a segment from which a row outside is due
  pub no_blank_by : (s : Row) → In s r.rows → in_plan s rs ≡ false → (x : Row) → In x (plan r) → x.due ≤ tight_after r (plan r) s.due → In x rs
  no_blank_by s i n x j h = elim (member? r f rs c x j) [
    | inl b ↦ absurd (over_absurd x s
        (heavier_yes x s (all_in (λ z. z.due ≤ tight_after r (plan r) s.due → heavier z s ≡ true) x (plan r)
        ((plan_selection r f).out s i (in_plan_is r f rs c s i ∙ n)) j h))
        (inl (omega (arith, (all_in (RowFine r) s r.rows f.fine i).some, blank_weight x b))))
    | inr b ↦ b
  ]

  pub stretch_row : (s : Row) → In s r.rows → in_plan s rs ≡ false → (e g : ℕ) → r.slot ≤ e → e < g → g ≤ tight_after r (plan r) s.due →
      TightIn r (plan r) e → TightIn r (plan r) g → (y : Row) × (In y rs) × (e < y.due) × (y.due ≤ g)
  stretch_row s i n e g l h k t u =
      let y = between_count (suc e) (suc g) (plan r) (omega (arith, t, u, l, h)) in
      (y.0, no_blank_by s i n y.0 y.1 (omega (arith, y.3, k)), y.2, omega (arith, y.3))

  -- the heaviest of some
  pub some_heaviest : (e g : ℕ) (y : Row) → In y rs → e < y.due → y.due ≤ g → (h : Row) × HeaviestIn rs e g h
  some_heaviest e g y i a b =
      let t = heaviest e g rs y in
      let z = heaviest_between e g rs y in (
        z,
        record {
          inside = elim t.found [ inl d ↦ subst (λ (v : Row). In v rs) (sym d) i | inr d ↦ d.0 ];
          after = elim t.found [ inl d ↦ omega (arith, a, ap (λ (v : Row). v.due) d) | inr d ↦ d.1.0 ];
          by = elim t.found [ inl d ↦ omega (arith, b, ap (λ (v : Row). v.due) d) | inr d ↦ d.1.1 ];
          most = λ x j u v. not_over_heavier x z (all_in (λ y. (e < y.due) × (y.due ≤ g) → NotOver y z) x rs t.most j (u, v));
        },
      )

  -- THERE IS A CHAIN
  pub some_chain : (s : Row) → In s r.rows → in_plan s rs ≡ false → (n e : ℕ) → r.slot ≤ e → TightIn r (plan r) e →
      tight_after r (plan r) s.due ≤ e + n →
      (hs : List Row) × Linked r rs e (tight_after r (plan r) s.due) hs
  some_chain s i k zero e l t h = ([], omega arith)
  some_chain s i k (suc n) e l t h =
      let g = tight_after r (plan r) s.due in
      let u = next r (plan r) s.due (all_in (RowFine r) s r.rows f.fine i).due_by (plan_full r f) in
      elim (ltb? e g) [
        | inl a ↦
            let y = stretch_row s i k e g l a.1 (omega arith) t u.tight in
            let z = some_heaviest e g y.0 y.1 y.2 y.3 in
            let m = link_end z.0 z.1.inside in
            let q = some_chain s i k n (tight_after r (plan r) z.0.due) (omega (arith, l, z.1.after, m.from)) m.tight
            (omega (arith, h, z.1.after, m.from)) in
            (z.0 ∷ q.0, (z.1, q.1))
        | inr a ↦ ([], a.1)
      ]

  -- HOW MANY SHIFTS
  pub chain_count : (e g : ℕ) (hs : List Row) → e ≤ g → TightIn r (plan r) g → Linked r rs e g hs → num 0 (suc e) rs + length hs ≤ num 0 (suc g) rs
  chain_count e g [] l t k = omega (arith, num_mono 0 (suc e) (suc g) (omega arith) rs)
  chain_count e g (h ∷ hs) l t k =
      let m = tight_after r (plan r) h.due in
      let n = link_end h k.0.inside in
      omega (
        arith,
        chain_count m g hs (next_by r (plan r) h.due m g n k.0.by t) t k.1,
        sum_less (below 0 (suc e)) (below 0 (suc m)) (below_mono 0 (suc e) (suc m) (omega (arith, k.0.after, n.from))) h
            (omega (arith, below_late 0 (suc e) h k.0.after, below_yes 0 (suc m) h (omega arith) (omega (arith, n.from)))) rs k.0.inside,
      )
