-- THE PASS BACK along a leap's chain: the link that waits, and those behind it that have moved.
use mathlib.Core.Path.{◌≡◌, sym, ap, ap₂, ◌∙◌, subst}
use mathlib.Core.Logic.{inl, inr, ◌≢◌}
use mathlib.Core.List.{List, [], ◌∷◌}
use Prim.Native.Nat.{ℕ, suc, ◌+◌, ◌*◌, ◌≤◌, ◌<◌, max}
use native.Mathlib.Omega.{arith}
use lib.ListN.{length, get_or}
use Rattle.rules.specs.Limits.{head_size, row_size}
use Rattle.rules.specs.Rows.{Row, Round, round, row, blank, In}
use Rattle.rules.specs.Plan.{plan, planned, tight_after, mark}
use Rattle.rules.specs.Steps.{changed}
use Rattle.rules.specs.Table.{table}
use Rattle.row.specs.Written.{with_shift}
use Rattle.theory.specs.Tests.{leb?}
use Rattle.theory.specs.All.{all_map, blank_weight}
use Rattle.theory.specs.Full.{Fine}
use Rattle.theory.specs.Order.{heavier_no, heavier_yes, over_not, not_over_heavier, not_over_trans}
use Rattle.theory.specs.Members.{RowsOfPlan, planned_rows, found_member, member?}
use Rattle.theory.specs.Chain.{HeaviestIn, Linked, shifted_to_end, moves, chain_other}
use Rattle.theory.specs.Leaping.{rising_moves, moved_ticket}
use Rattle.theory.specs.Whole.{length_moves}
use Rattle.picture.proofs.Places.{ends_at}
use Rattle.round.specs.Rows.{at}
use Rattle.keys.specs.Key.{weight_of, row_of, key_at}
use Rattle.keys.proofs.KeyLaws.{row_fine, weight_is, row_is, some_key, lesser_key, greater_key}
use Rattle.chain.specs.Chain.{Piece, Named, linked, having, Shifts}
use Rattle.chain.proofs.MoveLaws.{moves_changed, moves_other, length_having, table_shift}

-- A LINK THAT WAITS: row i, the heaviest of the plan's rows due after e and by g; the links behind it have moved
pub record Link (r : Round) (e g k : ℕ) (t : List ℕ) : Type 0 where
  pub row : ℕ
  pub below : row < length r.rows
  pub key : k ≡ key_at r row
  pub heaviest : HeaviestIn (planned r) e g (at r row)
  pub links : List Row
  pub chain : Linked r (planned r) (tight_after r (plan r) (at r row).due) g links
  pub bytes : t ≡ table (having r (moves r (tight_after r (plan r) (at r row).due) links r.rows))

module _ (r : Round) (f : Fine r) (small : length r.rows ≤ 1024) (cap : r.last ≤ 4095) where
  abbrev rs : List Row
  rs = planned r

  abbrev c : RowsOfPlan r (planned r)
  c = planned_rows r f

  -- a row that is a member is one of the plan's rows
  pub row_member : (i : ℕ) → i < length r.rows → In (at r i) (plan r) → In (at r i) (planned r)
  row_member i h j = elim (member? r f rs c (at r i) j) [
    | inl b ↦ absurd (omega (arith, blank_weight (at r i) b, (row_fine r f small cap i h).some))
    | inr k ↦ k
  ]

  -- A LINK MOVES to an end with the mark m
  link_chain : (e g k : ℕ) (t : List ℕ) → (l : Link r e g k t) → Linked r (planned r) e g (at r l.row ∷ l.links)
  link_chain e g k t l = (l.heaviest, l.chain)

  pub link_moved : (e g k m : ℕ) (t : List ℕ) → (l : Link r e g k t) → m ≡ mark r e →
      linked k e m t ≡ table (having r (moves r e (at r l.row ∷ l.links) r.rows))
  unfolding moves shifted_to_end
  link_moved e g k m t l q =
      let i = l.row in
      let e1 = tight_after r (plan r) (at r i).due in
      let xs = moves r e1 l.links r.rows in
      let o = chain_other r f rs c e g (at r i) l.links (link_chain e g k t l) in
      let same : get_or xs i (blank 0) ≡ at r i =
      moves_other r f rs c e1 g l.links i l.chain l.below
      (all_map {Q = λ y. y.ticket ≢ (at r i).ticket} (λ y (u : (at r i).ticket ≢ y.ticket) (v : y.ticket ≡ (at r i).ticket). u (sym v)) l.links o) in
      let long : i < length xs = omega (arith, l.below, length_moves r e1 l.links r.rows) in
      let shift = table_shift r xs 1 i (rising_moves r 1 r.next e1 l.links r.rows f.rising) long e (max (at r i).weight m) in
      ap₂ (λ (j v : ℕ). with_shift t j e (max v m)) (ap row_of l.key ∙ row_is r f small cap i l.below)
      (ap weight_of l.key ∙ weight_is r f small cap i l.below)
      ∙ ap (λ (bs : List ℕ). with_shift bs i e (max (at r i).weight m)) l.bytes
      ∙ sym shift
      ∙ ap₂ (λ (y : Row) (v : ℕ). table (having r (changed y.ticket (row y.ticket e (max (at r i).weight v) y.tail) xs))) same q
      ∙ ap (λ (ys : List Row). table (having r ys))
      (moves_changed r (at r i).ticket (shifted_to_end r e (at r i)) (moved_ticket r e (at r i)) e1 l.links r.rows o)

  -- THE END: it moves to the sent row's end
  pub link_end : (e g k m : ℕ) (t u : List ℕ) → Link r e g k t → m ≡ mark r e → u ≡ linked k e m t → Shifts r e g u
  link_end e g k m t u l q d =
      record { links = at r l.row ∷ l.links; chain = link_chain e g k t l; bytes = d ∙ link_moved e g k m t l q }

  -- ONE SEGMENT, from a to e, with the top's key n
  module _ (a b e n v : ℕ) (p : Piece r b e n v) (s : b ≡ suc a) where
    top_ends : tight_after r (plan r) (at r p.row).due ≡ e
    top_ends = ends_at r f b e p.spans (at r p.row).due p.top.of.1 p.top.of.2

    -- the last one's heaviest row waits first
    pub link_start : (t : List ℕ) → t ≡ table r → Link r a e n t
    unfolding moves round
    link_start t d =
        record {
          row = p.row;
          below = p.below;
          key = p.key;
          heaviest = record {
            inside = row_member p.row p.below p.top.of.0;
            after = omega (arith, p.top.of.1, s);
            by = p.top.of.2;
            most = λ y i j k. not_over_heavier y (at r p.row) (p.top.most y (found_member r f rs c y i, omega (arith, s, j), k));
          };
          links = [];
          chain = omega (arith, top_ends);
          bytes = d;
        }

    module _ (g k : ℕ) (t : List ℕ) (l : Link r e g k t) where
      -- no heavier row: the link waits on
      pub link_still : k ≤ n → Link r a g k t
      link_still h =
          let x = at r l.row in
          let y1 = at r p.row in
          let o = heavier_no y1 x (greater_key r f small cap p.row l.row p.below l.below (omega (arith, h, l.key, p.key))) in
          record {
            row = l.row;
            below = l.below;
            key = l.key;
            heaviest = record {
              inside = l.heaviest.inside;
              after = omega (arith, l.heaviest.after, p.spans.by, s);
              by = l.heaviest.by;
              most = λ y i j d. elim (leb? y.due e) [
                | inl z ↦ not_over_heavier y x (not_over_trans y y1 x (p.top.most y (found_member r f rs c y i, omega (arith, s, j), z.1)) o)
                | inr z ↦ l.heaviest.most y i z.1 d
              ];
            };
            links = l.links;
            chain = l.chain;
            bytes = l.bytes;
          }

      -- a heavier one: the other moves to its end
      pub link_next : n < k → (m : ℕ) → m ≡ mark r e → Link r a g n (linked k e m t)
      link_next h m q =
          let x = at r l.row in
          let y1 = at r p.row in
          let o = over_not y1 x (heavier_yes y1 x (lesser_key r f small cap p.row l.row p.below l.below (omega (arith, h, l.key, p.key)))) in
          record {
            row = p.row;
            below = p.below;
            key = p.key;
            heaviest = record {
              inside = row_member p.row p.below p.top.of.0;
              after = omega (arith, p.top.of.1, s);
              by = omega (arith, p.top.of.2, l.heaviest.after, l.heaviest.by);
              most = λ y i j d. not_over_heavier y y1 (elim (leb? y.due e) [
                | inl z ↦ p.top.most y (found_member r f rs c y i, omega (arith, s, j), z.1)
                | inr z ↦ not_over_trans y x y1 (heavier_no y x (l.heaviest.most y i z.1 d)) o
              ]);
            };
            links = x ∷ l.links;
            chain = subst (λ (v : ℕ). Linked r rs v g (x ∷ l.links)) (sym top_ends) (link_chain e g k t l);
            bytes =
                link_moved e g k m t l q
                ∙ ap (λ (v : ℕ). table (having r (moves r v (x ∷ l.links) r.rows))) (sym top_ends);
          }

  -- the link that waits stands in the table, which keeps its length
  pub link_long : (e g k : ℕ) (t : List ℕ) → length r.rows ≤ r.room → Link r e g k t → length t ≡ head_size + row_size * r.room
  link_long e g k t o l =
      let e1 = tight_after r (plan r) (at r l.row).due in
      ap length l.bytes ∙ length_having r (moves r e1 l.links r.rows) (length_moves r e1 l.links r.rows) o

  pub link_named : (e g k : ℕ) (t : List ℕ) → length r.rows ≤ r.room → Link r e g k t → Named k t
  link_named e g k t o l =
      record {
        most = omega (arith, l.key, (some_key r f small cap l.row l.below).1);
        there = omega (
          arith,
          ap row_of l.key,
          row_is r f small cap l.row l.below,
          l.below,
          o,
          link_long e g k t o l,
        );
      }
