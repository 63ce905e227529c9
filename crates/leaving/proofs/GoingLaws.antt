-- The sweep on its way, with its heap: its top is the lightest row kept, and it follows the sweep's steps.
use mathlib.Core.Path.{◌≡◌, refl, sym, ap, ◌∙◌}
use mathlib.Core.Logic.{◌⊎◌, inl, inr}
use mathlib.Core.Bool.{true, cond}
use mathlib.Core.List.{List}
use Prim.Native.Nat.{ℕ, zero, suc, ◌+◌, ◌-◌, ◌≤◌, ◌<◌, max}
use native.Mathlib.Omega.{arith}
use native.Mathlib.Numerals.{add-one}
use lib.Dec.{eqb}
use lib.ListN.{length, get_or, set, replicate}
use Rattle.keys.specs.Key.{weight_of, due_of, row_of, blank_key}
use Rattle.theory.specs.Tests.{leb?, ltb?, eqb?}
use Rattle.keys.specs.DueSums.{each}
use Rattle.heap.specs.Heap.{heaped, Grown}
use Rattle.heap.proofs.HeapLaws.{heaped_at, heaped_some, top_most}
use Rattle.leaving.specs.Sweep.{Queue, Swept, Heaped, Leaves, Crowds, FirstCrowded, Filled, Greatest, Lightest, EmptyHeap, Fills, Crowd, Parted}
use Rattle.leaving.specs.Sweep.{key_on, row_on, ahead_on, weight_on, kept_on}
use Rattle.leaving.proofs.TallyLaws.{tally_yes, tally_at, tally_some, tally_all}
use Rattle.leaving.proofs.SweepLaws.{keys_differ, count_few, kept_less, swept_joins, swept_leaves, swept_none, swept_front, crowded_in}

-- 1 for one number alone
unfoldable is : (v x : ℕ) → ℕ
is v x = cond (eqb x v) 1 0

is? : (v x : ℕ) → ((is v x ≡ 1) × (x ≡ v)) ⊎ ((is v x ≡ 0) × (x ≡ v → ⊥))
unfolding is
is? v x = elim (eqb? x v) [ inl a ↦ inl (rw a.0, a.1) | inr a ↦ inr (rw a.0, a.1) ]

is_1 : (v : ℕ) → is v v ≡ 1
is_1 v = elim (is? v v) [ inl a ↦ a.0 | inr a ↦ absurd (a.1 refl) ]

is_yes : (v x : ℕ) → 1 ≤ is v x → x ≡ v
is_yes v x h = elim (is? v x) [ inl a ↦ a.1 | inr a ↦ absurd (omega (arith, h, a.0)) ]

-- THE TOP is the key of the lightest row kept
module _ (ks hs gs : List ℕ) (p count : ℕ) (H : Heaped ks hs gs p count) where
  pub top_held : 1 ≤ count → (z : ℕ) × (z < p) × (kept_on ks gs z ≡ true) × (key_on ks z ≡ get_or hs 1 0)
  top_held some =
      let v = get_or hs 1 0 in
      let a = heaped_at (is v) count hs 1 (omega arith) some in
      let r = tally_some (λ q. is v (key_on ks q)) (kept_on ks gs) p (omega (arith, a, is_1 v, H.keys (is v))) in
      (r.0, r.1, r.2, is_yes v (key_on ks r.0) r.3)

  pub under_top : (j : ℕ) → j < p → kept_on ks gs j ≡ true → key_on ks j ≤ get_or hs 1 0
  under_top j h e =
      let v = key_on ks j in
      let a = tally_at (λ q. is v (key_on ks q)) (kept_on ks gs) p j h e in
      let r = heaped_some (is v) count hs (omega (arith, a, is_1 v, H.keys (is v))) in
      omega (arith, is_yes v (get_or hs r.0 0) r.3, top_most count hs H.ordered r.0 r.0 (omega arith) r.1 r.2)

-- IN THE MIDST OF THE SWEEP
pub record Going (ks hs gs : List ℕ) (slot free over p count w : ℕ) : Type 0 where
  pub swept : Swept ks gs slot (free + over) p count w
  pub heaped : Heaped ks hs gs p count
  pub room : free + over + 2 ≤ length hs

module _ (ks hs gs : List ℕ) (slot free over p count w : ℕ) (Q : Queue ks slot free (free + over)) (G : Going ks hs gs slot free over p count w) where
  pub going_count : (count ≤ free) × (count ≤ p)
  going_count = count_few ks gs slot free (free + over) p count w Q G.swept

  module _ (here : p < free + over) (k : ℕ) (e : k ≡ key_on ks p) where
    pub going_joins : (u : List ℕ) → count ≤ ahead_on ks slot p → Grown count k hs u → Going ks u gs slot free over (p + 1) (count + 1) w
    going_joins u f R =
        rw (add-one, add-one) (record {
          swept = swept_joins ks gs slot free (free + over) p count w Q G.swept here f;
          heaped = record {
            ordered = R.heap;
            keys = λ μ. omega (
              arith,
              R.keys μ,
              G.heaped.keys μ,
              ap μ e,
              tally_yes (λ q. μ (key_on ks q)) (kept_on ks gs) p (G.swept.waits p (omega arith) here),
            );
          };
          room = omega (arith, R.long, G.room);
        })

    -- who leaves has a place, and is lighter than all others kept
    pub record Leaver (out : ℕ) : Type 0 where
      pub place : ℕ
      pub within : place ≤ p
      pub kept : kept_on ks gs place ≡ true
      pub is : out ≡ key_on ks place
      pub most : (j : ℕ) → j ≤ p → kept_on ks gs j ≡ true → (j ≡ place → ⊥) → key_on ks j < key_on ks place

    lighter : (u : List ℕ) (out z : ℕ) → Leaves count k hs u out → z ≤ p → out ≡ key_on ks z → (j : ℕ) → j ≤ p → kept_on ks gs j ≡ true → (j ≡ z → ⊥) →
        key_on ks j < key_on ks z
    lighter u out z L a b j c d n = elim (ltb? (key_on ks j) (key_on ks z)) [
      | inl y ↦ y.1
      | inr y ↦ absurd (n (keys_differ ks slot free (free + over) Q j z (omega (arith, c, here)) (omega (arith, a, here))
          (omega (arith, y.1, b, at_most))))
    ]
      where
        at_most : key_on ks j ≤ out
        at_most = elim (eqb? j p) [
          | inl x ↦ omega (arith, ap (key_on ks) x.1, e, L.over_key)
          | inr x ↦ let d' = x.1 in omega (arith, L.over_top, under_top ks hs gs p count G.heaped j (omega (arith, c)) d)
        ]

    pub leaver : (u : List ℕ) (out : ℕ) → ahead_on ks slot p < count → Leaves count k hs u out → Leaver out
    leaver u out full L = elim L.is [
      | inl a ↦
          let t = top_held ks hs gs p count G.heaped (omega (arith, full)) in
          let q : out ≡ key_on ks t.0 = a ∙ sym t.3 in
          record {
            place = t.0;
            within = omega (arith, t.1);
            kept = t.2;
            is = q;
            most = lighter u out t.0 L (omega (arith, t.1)) q;
          }
      | inr a ↦ record {
        place = p;
        within = omega arith;
        kept = G.swept.waits p (omega arith) here;
        is = a ∙ e;
        most = lighter u out p L (omega arith) (a ∙ e);
      }
    ]

    -- its key names a row with a flag
    module _ (u : List ℕ) (out : ℕ) (full : ahead_on ks slot p < count) (L : Leaves count k hs u out) where
      X : Leaver out
      X = leaver u out full L

      pub out_row : row_of out < length gs
      out_row =
          omega (arith, ap row_of X.is, G.swept.rows X.place (omega (arith, X.within, here)))

      pub out_most : out ≤ blank_key
      out_most = omega (arith, X.is, Q.most X.place (omega (arith, X.within, here)))

      pub going_leaves : length u ≡ length hs → (i v : ℕ) → i ≡ row_of out → v ≡ weight_of out →
          Going ks u (set gs i 0) slot free over (p + 1) count (w + v)
      going_leaves g i v a b =
          let ei : i ≡ row_on ks X.place = a ∙ ap row_of X.is in
          let ev : v ≡ weight_on ks X.place = b ∙ ap weight_of X.is in
          rw (ei, ev, add-one) (record {
            swept = swept_leaves ks gs slot free (free + over) p count w Q G.swept here X.place X.within X.kept full X.most;
            heaped = record {
              ordered = L.heap;
              keys = λ μ. omega (
                arith,
                L.keys μ,
                G.heaped.keys μ,
                ap μ e,
                ap μ X.is,
                kept_less ks gs slot free (free + over) p count w Q G.swept here X.place X.within X.kept (λ q. μ (key_on ks q)),
              );
            };
            room = omega (arith, g, G.room);
          })

-- THE FIRST KEYS into an empty heap
pub fills : (ks gs hs : List ℕ) (slot free over c : ℕ) → Crowd ks gs slot free over → FirstCrowded ks slot c → EmptyHeap hs (free + over) → Fills ks hs c
fills ks gs hs slot free over c C F E =
    let i = crowded_in ks gs slot free over C c F in
    record {
      empty = record { none = E.none; room = omega (arith, E.room, i) };
      within = F.within;
      small = omega (arith, i, C.queue.small);
      some = λ p h. C.queue.some p (omega (arith, h, i));
    }

pub filled_none : (ks hs : List ℕ) (n : ℕ) → EmptyHeap hs n → Filled ks hs 0
unfolding heaped each
filled_none ks hs n E =
    let e = E.none in
    record {
      ordered = record {
        room = omega (arith, E.room);
        order = λ q a b. absurd (omega (arith, a, b));
        some = λ q a b. absurd (omega (arith, a, b));
        free = λ q a. ap (λ (xs : List ℕ). get_or xs q 0) e ∙ none (length hs) q;
      };
      keys = λ μ. refl;
    }
  where
    none : (n q : ℕ) → get_or {A = ℕ} (replicate n 0) q 0 ≡ 0
    none zero q = refl
    none (suc n) zero = refl
    none (suc n) (suc q) = none n q

pub filled_more : (ks hs u : List ℕ) (n k : ℕ) → Filled ks hs n → k ≡ key_on ks n → Grown n k hs u → Filled ks u (n + 1)
unfolding each
filled_more ks hs u n k F e R =
    rw add-one (record {
      ordered = R.heap;
      keys = λ μ. omega (arith, R.keys μ, F.keys μ, ap μ e);
    })

-- in the midst of it
pub record Filling (ks hs us : List ℕ) (first n : ℕ) : Type 0 where
  pub fills : Fills ks hs first
  pub by : n ≤ first
  pub long : length us ≡ length hs
  pub filled : Filled ks us n

pub filling_none : (ks hs : List ℕ) (first : ℕ) → Fills ks hs first → Filling ks hs hs first 0
filling_none ks hs first F = record { fills = F; by = omega arith; long = refl; filled = filled_none ks hs first F.empty }

module _ (ks hs us : List ℕ) (first n : ℕ) (F : Filling ks hs us first n) (h : n < first) where
  pub filling_more : (k : ℕ) (vs : List ℕ) → k ≡ key_on ks n → Grown n k us vs → Filling ks hs vs first (n + 1)
  filling_more k vs e R =
      record {
        fills = F.fills;
        by = omega (arith, h);
        long = R.long ∙ F.long;
        filled = filled_more ks us vs n k F.filled e R;
      }

-- A CROWD has a place that crowds
pub crowd_met : (ks gs : List ℕ) (slot free over : ℕ) → Crowd ks gs slot free over → Crowds ks slot
crowd_met ks gs slot free over C =
    record {
      at = free;
      within = omega (arith, C.queue.long, C.some);
      small = omega (arith, C.queue.small);
      from = λ p a. C.queue.from p (omega (arith, a, C.some));
      over = C.queue.early free (omega (arith, C.some));
    }

-- LOOKING FOR THE FIRST CROWDED PLACE: none before place p crowds
pub record Looking (ks : List ℕ) (slot p : ℕ) : Type 0 where
  pub crowd : Crowds ks slot
  pub by : p ≤ crowd.at
  pub under : (q : ℕ) → q < p → q ≤ ahead_on ks slot q

module _ (ks : List ℕ) (slot p : ℕ) (L : Looking ks slot p) where
  pub looking_in : (p < length ks) × (p ≤ 1024)
  looking_in = (omega (arith, L.by, L.crowd.within), omega (arith, L.by, L.crowd.small))

  module _ (k a : ℕ) (e : k ≡ key_on ks p) (d : a ≡ due_of k - slot) where
    ahead : a ≡ ahead_on ks slot p
    ahead = d ∙ ap (λ (v : ℕ). due_of v - slot) e

    pub looking_more : p ≤ a → Looking ks slot (p + 1)
    looking_more h =
        record {
          crowd = L.crowd;
          by = elim (eqb? p L.crowd.at) [
            | inl b ↦ absurd (omega (arith, h, ahead, L.crowd.over, ap (ahead_on ks slot) b.1, b.1))
            | inr b ↦ let x = b.1 in omega (arith, L.by)
          ];
          under = λ q c. elim (eqb? q p) [
            | inl b ↦ omega (arith, b.1, h, ahead, ap (ahead_on ks slot) b.1)
            | inr b ↦ let x = b.1 in L.under q (omega (arith, c))
          ];
        }

    pub looking_end : a < p → FirstCrowded ks slot p
    looking_end h = record { within = looking_in.0; over = omega (arith, h, ahead); under = L.under }

-- THE SWEEP STARTS there
pub going_start : (ks gs hs us : List ℕ) (slot free over c : ℕ) → Crowd ks gs slot free over → FirstCrowded ks slot c → EmptyHeap hs (free + over) → Filled ks us c →
    length us ≡ length hs → Going ks us gs slot free over c c 0
going_start ks gs hs us slot free over c C F E X l =
    let S = swept_front ks gs slot free over C c F (omega (arith, crowded_in ks gs slot free over C c F)) c (omega arith) in
    record {
      swept = S;
      heaped = record {
        ordered = X.ordered;
        keys = λ μ. X.keys μ ∙ sym (tally_all (λ q. μ (key_on ks q)) (kept_on ks gs) c all_on);
      };
      room = omega (arith, l, E.room);
    }
  where
    all_on : (q : ℕ) → q < c → kept_on ks gs q ≡ true
    all_on q h = (swept_none ks gs slot free over C).waits q (omega arith) (omega (arith, h, crowded_in ks gs slot free over C c F))

-- ONE TOO MANY: the greatest of the keys up to the first crowded place leaves
pub greatest_more : (ks : List ℕ) (n top k v : ℕ) → Greatest ks (n + 1) top → k ≡ key_on ks (n + 1) → v ≡ max top k → Greatest ks (n + 1 + 1) v
greatest_more ks n top k v G e d = elim (leb? k top) [
  | inl a ↦ record {
    place = G.place;
    within = omega (arith, G.within);
    is = omega (arith, a.1, d, G.is);
    most = λ q h. elim (eqb? q (n + 1)) [
      | inl b ↦ omega (arith, a.1, d, e, ap (key_on ks) b.1)
      | inr b ↦ let x = b.1 in omega (arith, d, G.most q (omega (arith, h)))
    ];
  }
  | inr a ↦ record {
    place = n + 1;
    within = omega arith;
    is = omega (arith, a.1, d, e);
    most = λ q h. elim (eqb? q (n + 1)) [
      | inl b ↦ omega (arith, d, e, ap (key_on ks) b.1)
      | inr b ↦ let x = b.1 in omega (arith, d, G.most q (omega (arith, h)))
    ];
  }
]

pub lightest_end : (ks : List ℕ) (slot p top k a : ℕ) → Looking ks slot p → Greatest ks (p + 1) top → k ≡ key_on ks p → a ≡ due_of k - slot → a < p →
    Lightest ks slot top
lightest_end ks slot p top k a L G e d h = record { place = p; first = looking_end ks slot p L k a e d h; greatest = G }

module _ (ks gs : List ℕ) (slot free over top : ℕ) (C : Crowd ks gs slot free over) (L : Lightest ks slot top) where
  abbrev c : ℕ
  c = L.place

  abbrev F : FirstCrowded ks slot L.place
  F = L.first

  abbrev G : Greatest ks (L.place + 1) top
  G = L.greatest

  S : Swept ks gs slot (free + over) c c 0
  S = swept_front ks gs slot free over C c F (omega (arith, crowded_in ks gs slot free over C c F)) c (omega arith)

  in_c : c < free + over
  in_c = crowded_in ks gs slot free over C c F

  in_z : G.place < free + over
  in_z = omega (arith, in_c, G.within)

  pub one_row : row_of top < length gs
  one_row = omega (arith, ap row_of G.is, C.rows G.place in_z)

  pub one_most : top ≤ blank_key
  one_most = omega (arith, G.is, C.queue.most G.place in_z)

  pub one_left : (i v : ℕ) → over ≡ 1 → i ≡ row_of top → v ≡ weight_of top → Parted ks (set gs i 0) slot free over v
  one_left i v one a b =
      let ei : i ≡ row_on ks G.place = a ∙ ap row_of G.is in
      let ev : v ≡ 0 + weight_on ks G.place = b ∙ ap weight_of G.is ∙ omega arith in
      rw (ei, ev) (record {
        place = suc c;
        count = c;
        swept = swept_leaves ks gs slot free (free + over) c c 0 C.queue S in_c G.place (omega (arith, G.within))
            ((swept_none ks gs slot free over C).waits G.place (omega arith) in_z) F.over
            (λ j h d n. elim (ltb? (key_on ks j) (key_on ks G.place)) [
              | inl y ↦ y.1
              | inr y ↦ absurd (n (keys_differ ks slot free (free + over) C.queue j G.place (omega (arith, h, in_c)) in_z
                  (omega (arith, y.1, G.is, G.most j (omega (arith, h))))))
            ]);
        left = omega (arith, one);
      })
