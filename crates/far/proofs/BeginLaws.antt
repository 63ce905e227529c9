-- The way back over counts: rows that wait for an earlier bucket, and where segments begin.
use mathlib.Core.Path.{◌≡◌, ap, subst}
use mathlib.Core.Logic.{inl, inr}
use mathlib.Core.List.{List}
use Prim.Native.Nat.{ℕ, zero, suc, ◌+◌, ◌-◌, ◌≤◌, ◌<◌}
use native.Mathlib.Omega.{arith}
use lib.ListN.{get_or}
use Rattle.theory.specs.Tests.{leb?, eqb?}
use Rattle.buckets.specs.Stretch.{upto}
use Rattle.far.specs.Far.{Roomy, Flat}

-- no fewer rows up to a later bucket
pub upto_mono : (cs : List ℕ) (a b : ℕ) → a ≤ b → upto a cs ≤ upto b cs
upto_mono cs a zero h = let e : a ≡ 0 = omega arith in omega (arith, ap (λ (v : ℕ). upto v cs) e)
upto_mono cs a (suc b) h = elim (leb? a b) [
  | inl y ↦ omega (arith, upto_mono cs a b y.1)
  | inr y ↦ let e : a ≡ suc b = omega (arith, h, y.1) in omega (arith, ap (λ (v : ℕ). upto v cs) e)
]

-- WAITING: w rows want bucket s, since rows from s to some bucket behind mid do not find one each, and none wants it more
pub record Waiting (cs : List ℕ) (mid top s w : ℕ) : Type 0 where
  pub by : s ≤ top
  pub edge : ℕ
  pub past : mid < edge
  pub low : s < edge
  pub high : edge ≤ suc top
  pub is : upto edge cs + 1 ≡ upto s cs + (edge - s) + w
  pub most : (v : ℕ) → s < v → v ≤ suc top → upto v cs + 1 ≤ upto s cs + (v - s) + w

pub wait_start : (cs : List ℕ) (mid top : ℕ) → mid ≤ top → Waiting cs mid top top (get_or cs top 0)
wait_start cs mid top h =
    record {
      by = omega arith;
      edge = suc top;
      past = omega (arith, h);
      low = omega arith;
      high = omega arith;
      is = omega arith;
      most = λ v a b. let e : v ≡ suc top = omega (arith, a, b) in omega (arith, ap (λ (u : ℕ). upto u cs) e, e);
    }

wait_most : (cs : List ℕ) (mid top s w x : ℕ) → Waiting cs mid top (suc s) w → x ≡ w - 1 + get_or cs s 0 → (v : ℕ) → s < v → v ≤ suc top →
    upto v cs + 1 ≤ upto s cs + (v - s) + x
wait_most cs mid top s w x k e v a b = elim (eqb? v (suc s)) [
  | inl y ↦ omega (arith, y.1, ap (λ (u : ℕ). upto u cs) y.1, e)
  | inr y ↦ let z = y.1 in omega (arith, k.most v (omega (arith, a, z)) b, e, a)
]

wait_some : (cs : List ℕ) (mid top s w x : ℕ) → 1 ≤ w → Waiting cs mid top (suc s) w → x ≡ w - 1 + get_or cs s 0 → Waiting cs mid top s x
wait_some cs mid top s w x h k e =
    record {
      by = omega (arith, k.by);
      edge = k.edge;
      past = k.past;
      low = omega (arith, k.low);
      high = k.high;
      is = omega (arith, k.is, k.low, e, h);
      most = wait_most cs mid top s w x k e;
    }

-- one bucket back
pub wait_back : (cs : List ℕ) (mid top s w l x : ℕ) → mid < s → Waiting cs mid top s w → l ≡ w - 1 → x ≡ l + get_or cs (s - 1) 0 →
    Waiting cs mid top (s - 1) x
wait_back cs mid top zero w l x h k e d = absurd (omega arith)
wait_back cs mid top (suc s) w l x h k e d =
    let p : suc s - 1 ≡ s = omega arith in
    let c : x ≡ w - 1 + get_or cs s 0 = omega (arith, d, e, ap (λ (v : ℕ). get_or cs v 0) p) in
    rw p (elim (eqb? w 0) [
      | inr y ↦ let z = y.1 in wait_some cs mid top s w x (omega (arith, z)) k c
      | inl y ↦ record {
        by = omega (arith, k.by);
        edge = suc s;
        past = h;
        low = omega arith;
        high = omega (arith, k.by);
        is = omega (arith, c, y.1);
        most = wait_most cs mid top s w x k c;
      }
    ])

-- no segment begins where more than one row waits
pub not_flat : (cs : List ℕ) (mid top s w : ℕ) → 1 < w → Waiting cs mid top s w → Flat cs top s → ⊥
not_flat cs mid top s w h k f = omega (arith, k.is, f k.edge (omega (arith, k.low)) k.high, h)

-- THE LAST BEGINNING up to mid
pub record Seeking (cs : List ℕ) (mid top s w : ℕ) : Type 0 where
  pub upon : s ≤ mid
  pub wait : Waiting cs mid top s w
  pub none : (u : ℕ) → s < u → u ≤ mid → Flat cs top u → ⊥

-- there is room for all, so some bucket is left
pub seek_on : (cs : List ℕ) (mid top s w : ℕ) → Roomy cs mid top → 1 < w → Seeking cs mid top s w → 0 < s
seek_on cs mid top zero w r h k =
    absurd (omega (arith, k.wait.is, r.room k.wait.edge k.wait.past k.wait.high, h))
seek_on cs mid top (suc s) w r h k = omega arith

pub seek_back : (cs : List ℕ) (mid top s w x : ℕ) → Roomy cs mid top → 1 < w → Seeking cs mid top s w → x ≡ w - 1 + get_or cs (s - 1) 0 →
    Seeking cs mid top (s - 1) x
seek_back cs mid top zero w x r h k e = absurd (omega (arith, seek_on cs mid top 0 w r h k))
seek_back cs mid top (suc s) w x r h k e =
    let p : suc s - 1 ≡ s = omega arith in
    let c : x ≡ w - 1 + get_or cs s 0 = omega (arith, e, ap (λ (v : ℕ). get_or cs v 0) p) in
    rw p (record {
      upon = omega (arith, k.upon);
      wait = wait_some cs mid top s w x (omega (arith, h)) k.wait c;
      none = λ u a b f. elim (eqb? u (suc s)) [
        | inl y ↦ not_flat cs mid top (suc s) w h k.wait (subst (Flat cs top) y.1 f)
        | inr y ↦ let z = y.1 in k.none u (omega (arith, a, z)) b f
      ];
    })

-- where there is room, no bucket has many rows
pub count_few : (cs : List ℕ) (mid top s : ℕ) → Roomy cs mid top → s ≤ top → get_or cs s 0 ≤ 1024
count_few cs mid top s r h = omega (arith, r.few, upto_mono cs (suc s) (suc top) (omega (arith, h)))
