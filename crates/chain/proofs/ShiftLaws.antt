-- The pass back, as the code makes it on a sound table.
use mathlib.Core.Path.{◌≡◌, sym, ap, ◌∙◌, subst}
use mathlib.Core.Logic.{inl, inr, ◌≢◌}
use mathlib.Core.List.{List, []}
use Prim.Native.Nat.{ℕ, suc, ◌+◌, ◌≤◌, ◌<◌, min}
use native.Mathlib.Omega.{arith}
use lib.ListN.{length, get_or}
use Rattle.rules.specs.Rows.{Round, round}
use Rattle.rules.specs.Table.{round_in}
use Rattle.theory.specs.Tests.{leb?}
use Rattle.theory.specs.Back.{length_table}
use Rattle.theory.specs.Chain.{moves}
use Rattle.theory.specs.Sane.{sound}
use Rattle.round.proofs.ReadLaws.{Known, known}
use Rattle.chain.specs.Chain.{Piece, start_of, Named, linked, passed, Chained, Shifts}
use Rattle.chain.proofs.MarkLaws.{start_later}
use Rattle.chain.proofs.ChainLaws.{Link, link_start, link_still, link_next, link_end, link_named, link_long}

-- THE PASS with segment k next
pub record Linking (r : Round) (es : List ℕ) (to own k v : ℕ) (u : List ℕ) : Type 0 where
  pub from : to ≤ k
  pub by : k ≤ own
  pub link : Link r (get_or es k 0) (get_or es to 0) v u

module _ {t es ts ms : List ℕ} {to own : ℕ} (w : Chained t es ts ms to own) where
  abbrev r : Round
  r = round_in t

  head_known : Known t w.head
  head_known = known t w.head w.ready

  room_for : length r.rows ≤ r.room
  room_for = (sound t w.ready.sound).sane.size.long

  -- all places are there
  pub places : (k : ℕ) → k ≤ own → (k < length es) × (k < length ts) × (k < length ms)
  places k h = (
    omega (arith, w.within, w.pieces.ends),
    omega (arith, w.within, w.pieces.tops),
    omega (arith, w.within, w.marks.long),
  )

  here : (k : ℕ) → k < own → Piece r (start_of r.slot w.count es k) (get_or es k 0) (get_or ts k 0) (get_or w.lows k 0)
  here k h = w.pieces.piece k (omega (arith, h, w.within))

  starts : (k : ℕ) → k < own → start_of r.slot w.count es k ≡ suc (get_or es (suc k) 0)
  starts k h = start_later r.slot w.count es k (omega (arith, h, w.within))

  -- NO LINKS within one segment
  pub shift_none : to ≡ own → Shifts r (get_or es own 0) (get_or es to 0) t
  unfolding moves round
  shift_none e = record { links = []; chain = omega (arith, ap (λ (k : ℕ). get_or es k 0) e); bytes = sym (sound t w.ready.sound).bytes }

  -- THE START
  pub shift_start : to ≢ own → Linking r es to own (to + 1) (get_or ts to 0) t
  shift_start d =
      let h : to < own = omega (arith, d, w.order) in
      let n = head_known in
      let e : suc to ≡ to + 1 = omega arith in
      record {
        from = omega arith;
        by = omega arith;
        link =
            subst (λ (k : ℕ). Link r (get_or es k 0) (get_or es to 0) (get_or ts to 0) t) e
            (link_start r n.fine n.small n.cap (get_or es (suc to) 0) (start_of r.slot w.count es to) (get_or es to 0) (get_or ts to 0)
            (get_or w.lows to 0) (here to h) (starts to h) t (sym (sound t w.ready.sound).bytes));
      }

  module _ {k v : ℕ} {u : List ℕ} (q : Linking (round_in t) es to own k v u) where
    pub shift_named : Named v u
    shift_named = let n = head_known in link_named r n.fine n.small n.cap (get_or es k 0) (get_or es to 0) v u room_for q.link

    pub shift_long : length u ≡ length t
    shift_long =
        let n = head_known in
        link_long r n.fine n.small n.cap (get_or es k 0) (get_or es to 0) v u room_for q.link
        ∙ sym (ap length (sym (sound t w.ready.sound).bytes) ∙ length_table r room_for)

    pub shift_fair : Named v u × (k < length es) × (k < length ts) × (k < length ms)
    shift_fair = let p = places k q.by in (shift_named, p.0, p.1, p.2)

    -- ONE SEGMENT
    pub shift_again : k < own → {x : ℕ} {y : List ℕ} → x ≡ min v (get_or ts k 0) → y ≡ passed es ts ms v k u → Linking r es to own (k + 1) x y
    shift_again i {x} {y} a b =
        let n = head_known in
        let e : suc k ≡ k + 1 = omega arith in
        let m = w.marks.mark k q.from (omega (arith, i, w.within)) in
        record {
          from = omega (arith, q.from);
          by = omega (arith, i);
          link = subst (λ (j : ℕ). Link r (get_or es j 0) (get_or es to 0) x y) e (elim (leb? v (get_or ts k 0)) [
            | inl d ↦
                let z : min v (get_or ts k 0) ≡ v = omega (arith, d.1) in
                rw (a, b, d.0, z) (link_still r n.fine n.small n.cap (get_or es (suc k) 0) (start_of r.slot w.count es k) (get_or es k 0)
                (get_or ts k 0) (get_or w.lows k 0) (here k i) (starts k i) (get_or es to 0) v u q.link d.1)
            | inr d ↦
                let z : min v (get_or ts k 0) ≡ get_or ts k 0 = omega (arith, d.1) in
                rw (a, b, d.0, z) (link_next r n.fine n.small n.cap (get_or es (suc k) 0) (start_of r.slot w.count es k) (get_or es k 0)
                (get_or ts k 0) (get_or w.lows k 0) (here k i) (starts k i) (get_or es to 0) v u q.link d.1 (get_or ms k 0) m)
          ]);
        }

    -- THE END
    pub shift_end : own ≤ k → {y : List ℕ} → y ≡ linked v (get_or es own 0) (get_or ms own 0) u → Shifts r (get_or es own 0) (get_or es to 0) y
    shift_end i {y} b =
        let n = head_known in
        let e : k ≡ own = omega (arith, i, q.by) in
        link_end r n.fine n.small n.cap (get_or es own 0) (get_or es to 0) v (get_or ms own 0) u y
        (subst (λ (j : ℕ). Link r (get_or es j 0) (get_or es to 0) v u) e q.link) (w.marks.mark own w.order w.within) b
