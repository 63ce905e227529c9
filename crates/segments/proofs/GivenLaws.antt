-- What the pass goes by, from a table's plan.
use mathlib.Core.Path.{◌≡◌}
use mathlib.Core.List.{List, [], ◌∷◌}
use Prim.Native.Nat.{ℕ, ◌+◌, ◌≤◌}
use native.Mathlib.Omega.{arith}
use lib.ListN.{length}
use Rattle.rules.specs.Rows.{Row, Round}
use Rattle.rules.specs.Table.{round_in}
use Rattle.theory.specs.Feas.{below, num, below_1}
use Rattle.theory.specs.Near.{Near, near_edge, rows_le}
use Rattle.theory.specs.Flags.{Chosen, with_flag}
use Rattle.round.specs.Rows.{Ready}
use Rattle.round.proofs.ReadLaws.{known}
use Rattle.sorts.specs.declared.Round.{Round as Head}
use Rattle.keys.specs.Sorted.{many_due, Sorted}
use Rattle.segments.specs.Given.{Given}
use Rattle.segments.proofs.PlaceLaws.{rows_of_it}

pub given : (t : List ℕ) (h : Head) (ks fs : List ℕ) (many n : ℕ) → Ready t h → Chosen (round_in t) fs → Sorted (round_in t) n ks →
    Near (round_in t) ((round_in t).slot + n) → 1 ≤ n → many ≡ many_due (round_in t) n → Given (round_in t) ks fs many h.slot.0 n
given t h ks fs many n w c s k o m =
    let v = known t h w in
    record {
      fine = v.fine;
      time = v.time;
      cap = v.cap;
      small = v.small;
      chosen = c;
      sorted = s;
      near = k;
      some = o;
      now = v.slot;
      all = m;
    }

-- rows fill no more slots than there are rows
pub num_most : (e : ℕ) (xs : List Row) → num 0 e xs ≤ length xs
num_most e [] = omega arith
num_most e (x ∷ xs) = omega (arith, below_1 0 e x, num_most e xs)

pub slots_most : (r : Round) (ks fs : List ℕ) (many slot n : ℕ) → Given r ks fs many slot n → n ≤ length r.rows
slots_most r ks fs many slot n g =
    omega (
      arith,
      near_edge r g.fine (with_flag r fs) (rows_of_it r ks fs many slot n g) (r.slot + n) g.near,
      rows_le r g.fine (with_flag r fs) (rows_of_it r ks fs many slot n g) (below 0 (r.slot + n)),
      num_most (r.slot + n) r.rows,
    )
