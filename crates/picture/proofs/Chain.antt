-- A leap's whole chain: the tops heavier than every later one, as a pass from the last segment back keeps them. Assumes nothing.
use Rattle.std.specs.Prelude.{◌≡◌, refl, false, ℕ, suc, ◌≤◌, ◌<◌}
use Rattle.std.proofs.Common.{sym, arith}
use Rattle.std.proofs.Math.Path.{subst}
use Rattle.std.proofs.Math.Logic.{inl, inr}
use mathlib.Core.List.{List, [], ◌∷◌}
use Rattle.rules.specs.Rows.{Row, Round, In}
use Rattle.rules.specs.Plan.{plan, in_plan, tight_after}
use Rattle.theory.specs.Tests.{leb?}
use Rattle.theory.specs.Order.{NotOver, heavier?, heavier_no, over_not, not_over_heavier, not_over_trans}
use Rattle.theory.specs.Full.{Fine}
use Rattle.theory.specs.Members.{RowsOfPlan, found_member}
use Rattle.theory.specs.Chain.{HeaviestIn, Linked, no_blank_by}
use Rattle.picture.specs.Picture.{Segment, Right, Drawn, Among}
use Rattle.picture.proofs.Places.{ends_at, lies, right_of, last_by}
use Rattle.picture.specs.Chain.{over, links}

module _ (r : Round) (f : Fine r) (xs : List Row) (members : (y : Row) → In y xs → In y (plan r)) where
  -- the heaviest of a segment and of what follows it
  pub heaviest_here : (g : Segment) → Right r g → (e d : ℕ) → g.first ≡ suc e → g.last ≤ d → In g.top xs →
      ((y : Row) → In y xs → g.last < y.due → y.due ≤ d → NotOver y g.top) → HeaviestIn xs e d g.top
  heaviest_here g w e d q k i n =
      record {
        inside = i;
        after = omega (arith, q, w.top.of.1);
        by = omega (arith, k, w.top.of.2);
        most = λ y j a b. not_over_heavier y g.top (elim (leb? y.due g.last) [
          | inl c ↦ w.top.most y (members y j, omega (arith, a, q), c.1)
          | inr c ↦ n y j c.1 b
        ]);
      }

  pub heaviest_later : (g : Segment) → Right r g → (e d : ℕ) (x : Row) → g.first ≡ suc e → NotOver g.top x → HeaviestIn xs g.last d x →
      HeaviestIn xs e d x
  heaviest_later g w e d x q n h =
      record {
        inside = h.inside;
        after = omega (arith, h.after, w.spans.by, q);
        by = h.by;
        most = λ y j a b. elim (leb? y.due g.last) [
          | inl c ↦ not_over_heavier y x (not_over_trans y g.top x (w.top.most y (members y j, omega (arith, a, q), c.1)) n)
          | inr c ↦ h.most y j c.1 b
        ];
      }

  pub chain_over : (g : Segment) → Right r g → (e d : ℕ) → g.first ≡ suc e → g.last ≤ d → In g.top xs → (hs : List Row) →
      Linked r xs g.last d hs → Linked r xs e d (over g.top hs)
  unfolding over
  chain_over g w e d q k i [] c = (
    heaviest_here g w e d q k i (λ y j a b. absurd (omega (arith, a, b, c))),
    omega (arith, c, ends_at r f g.first g.last w.spans g.top.due w.top.of.1 w.top.of.2),
  )
  chain_over g w e d q k i (x ∷ hs) c = elim (heavier? g.top x) [
    | inl a ↦ rw a.0 (
      heaviest_here g w e d q k i (λ y j u v.
          not_over_trans y x g.top (heavier_no y x (c.0.most y j u v)) (over_not g.top x a.1)),
      subst (λ s. Linked r xs s d (x ∷ hs)) (sym (ends_at r f g.first g.last w.spans g.top.due w.top.of.1 w.top.of.2)) c,
    )
    | inr a ↦ rw a.0 (heaviest_later g w e d x q a.1 c.0, c.1)
  ]

  -- THE CHAIN from e to d, of the segments between
  pub chain_links : (e d : ℕ) (gs : List Segment) → Drawn r (suc e) (suc d) gs → ((g : Segment) → Among g gs → In g.top xs) → Linked r xs e d (links gs)
  unfolding links
  chain_links e d [] p t = omega (arith, p)
  chain_links e d (g ∷ gs) p t =
      chain_over g p.1 e d p.0 (omega (arith, lies r (suc g.last) (suc d) gs p.2)) (t g (inl refl)) (links gs)
      (chain_links g.last d gs p.2 (λ h i. t h (inr i)))

-- OF THE PLAN's rows, where d is the end of a row outside: the chain of document 01's leap
pub chain_rows : (r : Round) (f : Fine r) (rs : List Row) (c : RowsOfPlan r rs) (s : Row) → In s r.rows → in_plan s rs ≡ false → (e : ℕ) (gs : List Segment) →
    Drawn r (suc e) (suc (tight_after r (plan r) s.due)) gs → Linked r rs e (tight_after r (plan r) s.due) (links gs)
chain_rows r f rs c s i n e gs p =
    let d = tight_after r (plan r) s.due in
    chain_links r f rs (found_member r f rs c) e d gs p (λ g j.
    let w = right_of r (suc e) (suc d) gs p g j in
    no_blank_by r f rs c s i n g.top w.top.of.0 (omega (arith, w.top.of.2, last_by r (suc e) (suc d) gs p g j)))
