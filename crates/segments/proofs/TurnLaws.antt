-- A turn of the pass and its end, as the code asks for them.
use mathlib.Core.Path.{◌≡◌, refl, ap, ◌∙◌, subst}
use mathlib.Core.Bool.{true, false}
use mathlib.Core.List.{List}
use Prim.Native.Nat.{ℕ, ◌+◌, ◌-◌, ◌≤◌, ◌<◌, min, max}
use native.Mathlib.Omega.{arith}
use lib.ListN.{length, get_or, set, length-set}
use Rattle.keys.specs.Key.{weight_of, due_of, row_of, blank_key}
use Rattle.keys.specs.Sorted.{many_due}
use Rattle.keys.proofs.DueOrder.{placed_row}
use Rattle.lead.specs.Closed.{ends_here, closed}
use Rattle.lead.specs.declared.Lead.{Lead}
use Rattle.segments.specs.Given.{Lent}
use Rattle.segments.specs.Segmented.{SegmentsSay}
use Rattle.segments.proofs.PlaceLaws.{row_told}
use Rattle.segments.proofs.PassLaws.{Pass, Passing, Meeting, pass_first, pass_last, room, fair_keys, passing_on, passing_new, passing_kept, passing_left, passing_some}

-- numbers are small
pub record Bounds (ks : List ℕ) (many slot n : ℕ) : Type 0 where
  pub some : 1 ≤ n
  pub early : slot + n ≤ 4096
  pub there : many ≤ length ks

pub bounds : {ks fs : List ℕ} {many slot n : ℕ} {es ts ls : List ℕ} → Lent ks fs many slot n es ts ls → Bounds ks many slot n
bounds w =
    let g = w.given in
    record {
      some = g.some;
      early = omega (arith, g.now, g.near.by, g.cap);
      there = omega (arith, g.all, g.sorted.enough);
    }

pub passing_first : {ks fs : List ℕ} {many slot n : ℕ} {es ts ls : List ℕ} {l : Lead} {end edge : ℕ} → l.count ≡ 0 → l.score ≡ 0 →
    end ≡ slot + n - 1 → edge ≡ slot + n → Passing ks fs many slot n es ts ls l end blank_key 0 blank_key edge many
passing_first c s e k r g = rw (e, k) (pass_first r _ _ _ _ _ g _ _ _ _ c s)

-- WHERE THE WAYS MEET: no new segment at the next place, and the arrays are as long as at first
pub record Goes (ks fs : List ℕ) (many slot n : ℕ) (es₀ ts₀ ls₀ es ts ls : List ℕ) (l : Lead) (end heavy light out edge p : ℕ) : Type 0 where
  pub meeting : Meeting ks fs many slot n es ts ls l end heavy light out edge p
  pub ends : length es ≡ length es₀
  pub tops : length ts ≡ length ts₀
  pub lows : length ls ≡ length ls₀

-- what closing a segment asks for
pub record Room (es ts ls : List ℕ) (l : Lead) (heavy light out : ℕ) : Type 0 where
  pub ends : l.count < length es
  pub tops : l.count < length ts
  pub lows : l.count < length ls
  pub heavies : heavy ≤ blank_key
  pub lights : light ≤ blank_key
  pub outs : out ≤ blank_key

module _ {ks fs : List ℕ} {many slot n : ℕ} {es₀ ts₀ ls₀ : List ℕ} (given : Lent ks fs many slot n es₀ ts₀ ls₀) {es ts ls : List ℕ} {l : Lead}
    {end heavy light out edge i : ℕ}
    (w : Passing ks fs many slot n es ts ls l end heavy light out edge i × (length es ≡ length es₀) × (length ts ≡ length ts₀) × (length ls ≡ length ls₀)) where
  it : Pass given.of fs n es ts ls l end heavy light out edge i
  it = w.0 given.of given.given

  pub roomy : Room es ts ls l heavy light out
  roomy =
      let k = room given.of ks fs many slot n given.given es ts ls l end heavy light out edge i it in
      let f = fair_keys given.of ks fs many slot n given.given es ts ls l end heavy light out edge i it in
      record {
        ends = omega (arith, k, w.1, given.ends);
        tops = omega (arith, k, w.2, given.tops);
        lows = omega (arith, k, w.3, given.lows);
        heavies = f.0;
        lights = f.1;
        outs = f.2;
      }

  -- a key's row has a flag
  pub row_there : 0 < i → {key row : ℕ} → key ≡ get_or ks (i - 1) 0 → row ≡ row_of key → row < length fs
  row_there h e d =
      let k : i - 1 < many_due given.of n = omega (arith, h, it.now.seen) in
      omega (
        arith,
        d ∙ ap row_of e,
        row_told given.of ks fs many slot n given.given (i - 1) k,
        (placed_row given.of n (i - 1) k).0,
        given.given.chosen.long,
      )

  module _ (h : 0 < i) {due : ℕ} (d : due ≡ due_of (get_or ks (i - 1) 0)) {es' ts' ls' : List ℕ} {l' : Lead} {end' heavy' light' : ℕ} where
    pub goes_on : ends_here due edge end ≡ false → es' ≡ es → ts' ≡ ts → ls' ≡ ls → l' ≡ l → end' ≡ end → heavy' ≡ heavy → light' ≡ light →
        Goes ks fs many slot n es₀ ts₀ ls₀ es' ts' ls' l' end' heavy' light' out edge (i - 1)
    goes_on t e₁ e₂ e₃ e₄ e₅ e₆ e₇ =
        rw (e₁, e₂, e₃, e₄, e₅, e₆, e₇)
        (record { meeting = passing_on ks fs many slot n es ts ls l end heavy light out edge i w.0 h due d t; ends = w.1; tops = w.2; lows = w.3 })

    pub goes_new : ends_here due edge end ≡ true → es' ≡ set es l.count end → ts' ≡ set ts l.count heavy →
        ls' ≡ set ls l.count (weight_of light) → l' ≡ closed l heavy out → end' ≡ due → heavy' ≡ blank_key → light' ≡ 0 →
        Goes ks fs many slot n es₀ ts₀ ls₀ es' ts' ls' l' end' heavy' light' out edge (i - 1)
    goes_new t e₁ e₂ e₃ e₄ e₅ e₆ e₇ =
        rw (e₁, e₂, e₃, e₄, e₅, e₆, e₇)
        (record {
          meeting = passing_new ks fs many slot n es ts ls l end heavy light out edge i w.0 h due d t roomy.ends roomy.tops roomy.lows;
          ends = length-set es l.count end ∙ w.1;
          tops = length-set ts l.count heavy ∙ w.2;
          lows = length-set ls l.count (weight_of light) ∙ w.3;
        })

  -- THE END
  pub says : i ≡ 0 → {es' ts' ls' : List ℕ} {l' : Lead} → l' ≡ closed l heavy light → es' ≡ set es l.count end → ts' ≡ set ts l.count heavy →
      ls' ≡ set ls l.count (weight_of light) → SegmentsSay ks fs many slot n es' ts' ls' l'
  says z e₁ e₂ e₃ e₄ r g =
      rw (e₁, e₂, e₃, e₄)
      (pass_last r ks fs many slot n g es ts ls l end heavy light out edge (subst (Pass r fs n es ts ls l end heavy light out edge) z (w.0 r g))
      roomy.ends roomy.tops roomy.lows)

-- ONE PLACE FURTHER
module _ {ks fs : List ℕ} {many slot n : ℕ} {es₀ ts₀ ls₀ es ts ls : List ℕ} {l : Lead} {end heavy light out edge p : ℕ}
    (w : Goes ks fs many slot n es₀ ts₀ ls₀ es ts ls l end heavy light out edge p) {key row : ℕ} (k : key ≡ get_or ks p 0)
    (j : row ≡ row_of key) where
  pub kept_further : get_or fs row 0 ≡ 1 → {heavy' light' edge' : ℕ} → heavy' ≡ min heavy key → light' ≡ max light key → edge' ≡ edge - 1 →
      Passing ks fs many slot n es ts ls l end heavy' light' out edge' p
  kept_further y e₁ e₂ e₃ =
      rw (e₁, e₂, e₃) (passing_kept ks fs many slot n es ts ls l end heavy light out edge p w.meeting key row (get_or fs row 0) k j refl y)

  pub left_further : (get_or fs row 0 ≡ 1 → ⊥) → {out' : ℕ} → out' ≡ min out key → Passing ks fs many slot n es ts ls l end heavy light out' edge p
  left_further y e = rw (e) (passing_left ks fs many slot n es ts ls l end heavy light out edge p w.meeting key row (get_or fs row 0) k j refl y)

  pub some_further : Lent ks fs many slot n es₀ ts₀ ls₀ → get_or fs row 0 ≡ 1 → 1 ≤ edge
  some_further g y =
      passing_some ks fs many slot n es ts ls l end heavy light out edge p w.meeting key row (get_or fs row 0) k j refl g.of g.given y
