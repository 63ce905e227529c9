-- Segments by the plan's rows alone, as code has them: up to where rows fill every slot, each field is a row's. Assumes nothing.
use Rattle.std.specs.Prelude.{List, ℕ, ◌≤◌, ◌<◌}
use Rattle.std.proofs.Common.{sym, ◌∙◌, subst, inl, inr, arith}
use Rattle.rules.specs.Rows.{Row, Round, In}
use Rattle.rules.specs.Plan.{plan}
use Rattle.rules.specs.PlanM.{Outside}
use Rattle.theory.specs.All.{all_in, blank_ticket, blank_weight, blank_is, due_of_blank}
use Rattle.theory.specs.Feas.{below, below_yes}
use Rattle.theory.specs.Full.{Fine, plan_feas}
use Rattle.theory.specs.Bounds.{RowFine}
use Rattle.theory.specs.Change.{in_sum}
use Rattle.theory.specs.Slack.{of_blanks, rows_num}
use Rattle.theory.specs.Members.{RowsOfPlan, found_member, member?, in_plan_is}
use Rattle.theory.specs.Substitute.{idle_blank}
use Rattle.theory.specs.Near.{Near, near_edge, near_is_tight, near_tight_is}
use Rattle.theory.specs.Picks.{later_blank_lighter}
use Rattle.theory.specs.Segments as counted
use Rattle.picture.specs.Picture.{Segment, Spans, Heaviest, Lightest, Within, By, Right}
use Rattle.picture.specs.Blanks.{Top}
use Rattle.picture.proofs.Blanks.{top_right}
use Rattle.picture.specs.Near.{Out}

module _ (r : Round) (f : Fine r) (rs : List Row) (c : RowsOfPlan r rs) where
  -- THE HEAVIEST OUTSIDE, as PlanM has it
  pub out_right : (b : ℕ) → b ≤ r.last → (x : Row) → Out r rs b x → Heaviest (Outside r b) x
  out_right b h x (inl o) =
      record {
        of = (o.of.2, inl (o.of.0, in_plan_is r f rs c x o.of.0 ∙ o.of.1));
        most = λ y u. elim u.1 [
          | inl a ↦ o.most y (a.0, sym (in_plan_is r f rs c y a.0) ∙ a.1, u.0)
          | inr a ↦ inl (omega (arith, blank_weight y a.0, (all_in (RowFine r) x r.rows f.fine o.of.0).some))
        ];
      }
  out_right b h x (inr (e, n)) =
      subst (λ (v : Row). Heaviest (Outside r b) v) (sym e) (record {
        of = (omega (arith, due_of_blank b), inr (blank_is b, omega (arith, due_of_blank b, h)));
        most = λ y u. elim u.1 [
          | inl a ↦ absurd (n y (a.0, sym (in_plan_is r f rs c y a.0) ∙ a.1, u.0))
          | inr a ↦ later_blank_lighter b y a.0 u.0
        ];
      })

  -- RIGHT FIELDS of any segment, its lightest so far known
  pub right_rows : (g : Segment) → Spans r g.first g.last → Top rs g.first g.last g.top → Lightest (By (plan r) g.last) g.low →
      Out r rs g.first g.out → Right r g
  right_rows g s t l o =
      record {
        spans = s;
        top = top_right r f rs c g.first g.last s g.top t;
        low = l;
        out = out_right g.first (omega (arith, s.by, s.ahead)) g.out o;
      }

module _ (r : Round) (f : Fine r) (rs : List Row) (c : RowsOfPlan r rs) (z : ℕ) (k : Near r z) where
  -- no blank is due before z
  pub member_near : (x : Row) → In x (plan r) → x.due < z → In x rs
  member_near x i h = elim (member? r f rs c x i) [
    | inl b ↦ absurd (omega (
      arith,
      near_edge r f rs c z k,
      rows_num r f rs c.same 0 z,
      plan_feas r f z k.from k.by,
      in_sum (of_blanks (below 0 z)) x (plan r) i,
      idle_blank (below 0 z) x (blank_ticket x b),
      below_yes 0 z x (omega arith) h,
    ))
    | inr j ↦ j
  ]

  -- ENDS by counts of rows
  pub spans_near : (b e : ℕ) → e < z → counted.Segment r rs b e → Spans r b e
  spans_near b e h s =
      record {
        from = s.low;
        by = s.by;
        ahead = omega (arith, h, k.by);
        edge = omega (arith, s.edge, rows_num r f rs c.same 0 b, plan_feas r f b s.low (omega (arith, s.by, h, k.by)));
        tight = near_is_tight r f rs c z k e (omega (arith, s.low, s.by)) h s.end;
        none = λ u a v t. s.none u a v (near_tight_is r f rs c z k u (omega (arith, s.low, a)) (omega (arith, v, h)) t);
      }

  -- RIGHT FIELDS by rows
  pub right_near : (g : Segment) → g.last < z → counted.Segment r rs g.first g.last → Heaviest (Within rs g.first g.last) g.top →
      Lightest (By rs g.last) g.low → Out r rs g.first g.out → Right r g
  right_near g h s t l o =
      record {
        spans = spans_near g.first g.last h s;
        top = record {
          of = (found_member r f rs c g.top t.of.0, t.of.1, t.of.2);
          most = λ y i. t.most y (member_near y i.0 (omega (arith, i.2, h)), i.1, i.2);
        };
        low = record {
          of = (found_member r f rs c g.low l.of.0, l.of.1);
          least = λ y i. l.least y (member_near y i.0 (omega (arith, i.1, h)), i.1);
        };
        out = out_right r f rs c g.first (omega (arith, s.by, h, k.by)) g.out o;
      }
