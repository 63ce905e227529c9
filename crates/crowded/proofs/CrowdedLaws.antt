-- From the counts to the plan, from the plan to its first or its segments, and from these to the step.
use mathlib.Core.Path.{◌≡◌, refl, sym, ap}
use mathlib.Core.Bool.{Bool, true, false, not}
use mathlib.Core.Logic.{inl, inr, ◌≢◌}
use mathlib.Core.List.{List}
use Prim.Native.Nat.{ℕ, ◌+◌, ◌≤◌}
use native.Mathlib.Omega.{arith}
use lib.Dec.{eqb}
use lib.ListN.{length, take, replicate, length-replicate}
use borrow.Author.Tests.{ne_eqb}
use Rattle.rules.specs.Rows.{Round}
use Rattle.rules.specs.Table.{round_in}
use Rattle.theory.specs.Tests.{leb?, ltb?}
use Rattle.theory.specs.Sum.{sum}
use Rattle.theory.specs.Count.{under, counts_none}
use Rattle.theory.specs.Flags.{with_flag, chosen_rows}
use Rattle.sorts.specs.declared.Round.{Round as Head}
use Rattle.round.specs.Rows.{Ready, top_of}
use Rattle.round.specs.Buckets.{Counted}
use Rattle.round.proofs.ReadLaws.{known}
use Rattle.keys.specs.Key.{row_of, blank_key}
use Rattle.keys.proofs.SliceLaws.{front_many, front_sorted}
use Rattle.buckets.specs.Reach.{Reaches, ReachSays, head_top}
use Rattle.buckets.specs.declared.Reach.{Reach}
use Rattle.buckets.proofs.ReachLaws.{reaches}
use Rattle.plan.specs.Plans.{Plans, HeaviestFrom}
use Rattle.plan.specs.declared.Planned.{Planned}
use Rattle.lead.specs.declared.Lead.{Lead}
use Rattle.segments.specs.Segmented.{SegmentsSay}
use Rattle.segments.proofs.GivenLaws as given-laws
use Rattle.closing.specs.Close.{DueNow}
use Rattle.step.specs.Step.{FarFirst, PlannedStep}
use Rattle.went.specs.Send.{LeavesAlone}
use Rattle.first.proofs.SendLaws.{first_sends}
use Rattle.flagged.specs.Planned as flagged
use Rattle.crowded.specs.Crowded.{Crowded, Led}

-- THE FAR ROW, as the step asks for it
far_first : (r : Round) (z k : ℕ) → HeaviestFrom r z k → FarFirst r z k
far_first r z k f =
    record {
      least = f.least;
      found = elim (ltb? k blank_key) [
        | inl g ↦ let w = f.named g.1 in inr (record { row = row_of k; below = w.0; far = w.1; key = sym w.2 })
        | inr g ↦ inl (omega (arith, g.1, f.by))
      ];
    }

-- where rows are left out some slot is filled
some_slot : (t : List ℕ) (x : Reach) → Reaches (round_in t) x → 1 ≤ x.over → 1 ≤ x.free
some_slot t x k o =
    let r = round_in t in
    let b = counts_none r.slot (top_of r) r.rows in
    let l = k.sweep.level in
    elim (leb? 1 x.free) [
      | inl g ↦ g.1
      | inr g ↦
          let z : x.free ≡ 0 = omega (arith, g.1) in
          absurd (omega (arith, o, b, l, z, ap (λ (u : ℕ). sum (under r.slot (top_of r) u) r.rows) z))
    ]

-- an unsealed round asks for its heaviest far row
pub is_asked : (b : ℕ) → b ≢ 1 → not (eqb b 1) ≡ true
is_asked b u = ap not (ne_eqb b 1 u)

-- THE PLAN MADE: its segments are given
pub led : (t cs ks fs hs ls : List ℕ) (h : Head) (x : Reach) (e : ℕ) → Crowded t cs ks fs hs ls h x e → (ks2 fs2 : List ℕ) (p : Planned) →
    (asked : Bool) → (h.sealed ≢ 1 → asked ≡ true) → Plans (round_in t) x asked ks2 fs2 p → (cs2 hs2 : List ℕ) → length cs2 ≡ length cs →
    length hs2 ≡ length hs → Led t cs2 (take p.many ks2) fs2 hs2 ls h x p e
led t cs ks fs hs ls h x e c ks2 fs2 p k m q cs2 hs2 a b =
    let g = given-laws.given t h (take p.many ks2) fs2 (length (take p.many ks2)) x.free c.lent.ready q.chosen
    (front_sorted (round_in t) x.free ks2 p.many q.many q.sorted) c.lent.reaches.near
    (some_slot t x c.lent.reaches c.lent.some) (front_many (round_in t) x.free ks2 p.many q.many q.sorted) in
    let v = known t h c.lent.ready in
    let n = given-laws.slots_most (round_in t) (take p.many ks2) fs2 (length (take p.many ks2)) h.slot.0 x.free g in
    record {
      ready = c.lent.ready;
      given = g;
      far = λ u. q.far (m u);
      ends = omega (arith, a, c.lent.counted.enough, c.lent.reaches.sweep.high);
      tops = omega (arith, b, n, v.used, c.lent.room);
      lows = omega (arith, n, v.used, c.lows);
      due = c.due;
    }

-- SEALED, the plan's first goes
pub first_lent : {t cs ks fs hs ls : List ℕ} {h : Head} {x : Reach} {p : Planned} {e : ℕ} → Led t cs ks fs hs ls h x p e → flagged.Lent ks fs (length ks)
first_lent {t} {h = h} {x = x} g = record { of = round_in t; slot = h.slot.0; free = x.free; given = g.given }

pub first_alone : {t cs ks fs hs ls : List ℕ} {h : Head} {x : Reach} {p : Planned} {e : ℕ} → Led t cs ks fs hs ls h x p e → h.sealed ≡ 1 →
    {i : ℕ} → flagged.FirstSays ks fs (length ks) i → LeavesAlone t h false i
first_alone {t} {ks = ks} {fs} {h = h} {x} {p} g u {i} s =
    let r = round_in t in
    let n = known t h g.ready in
    let f = s r h.slot.0 x.free g.given in
    record {
      ready = g.ready;
      below = omega (arith, f.below, n.used);
      sends = first_sends r n.fine n.time (with_flag r fs) (chosen_rows r n.fine fs g.given.chosen) (omega (arith, u, n.sealed))
          (r.slot + x.free) g.given.near (omega (arith, g.given.some)) i f;
    }

-- THE STEP goes by them
pub planned_step : {t cs ks fs hs ls : List ℕ} {h : Head} {x : Reach} {p : Planned} {e : ℕ} → Led t cs ks fs hs ls h x p e → h.sealed ≢ 1 →
    (es ts ms : List ℕ) (l : Lead) → SegmentsSay ks fs (length ks) h.slot.0 x.free es ts ms l → PlannedStep t h es ts ms p.far l
planned_step {t} {h = h} {x = x} {p = p} g u es ts ms l s =
    record {
      ready = g.ready;
      unsealed = λ e. u (omega (arith, e, (known t h g.ready).sealed));
      free = x.free;
      near = g.given.near;
      segments = s (round_in t) g.given;
      first_far = far_first (round_in t) ((round_in t).slot + x.free) p.far (g.far u);
    }

-- WHERE SOME ARE: arrays of one length serve each
pub crowded : (t cs : List ℕ) (h : Head) (x : Reach) → Ready t h → Counted (round_in t) cs → ReachSays cs (head_top h) x → (x.over ≡ 0 → ⊥) →
    (n : ℕ) → h.used + 2 ≤ n → (e : ℕ) → DueNow t e →
    Crowded t cs (replicate n 0) (replicate h.used 1) (replicate n 0) (replicate n 0) h x e
crowded t cs h x k c s o n m e d =
    let a = length-replicate {A = ℕ} n 0 in
    record {
      lent = record {
        ready = k;
        counted = c;
        reaches = reaches t h cs x k c s;
        some = omega (arith, o);
        keys = omega (arith, a, m);
        flags = refl;
        heap = ap (λ (v : ℕ). replicate v 0) (sym a);
        room = omega (arith, a, m);
      };
      lows = omega (arith, a, m);
      due = d;
    }
