-- Small rounds by hand: their pictures, the links of one, and one picture as a fact of its round. Assumes nothing.
use mathlib.Core.Path.{◌≡◌, refl, subst}
use mathlib.Core.List.{List, [], ◌∷◌}
use Prim.Native.Nat.{ℕ}
use native.Mathlib.Omega.{arith}
use Rattle.rules.specs.Rows.{Row, frame_tail, unsealed_tail, Round, row, blank, round, slots_left, heavier, into, sorted}
use Rattle.rules.specs.Plan.{due_by, fits_from, feasible, kept, blanks_from, plan, tight, tight_from, tight_after, same_row, in_plan, lightest_by, heaviest_outside}
use Rattle.theory.specs.Full.{Fine}
use Rattle.picture.specs.Picture.{Segment, segment, Picture}
use Rattle.picture.specs.Chain.{over, links}
use Rattle.picture.specs.Drawing.{heaviest_within, segment_at, picture_from, picture_of}
use Rattle.picture.proofs.Drawing.{picture_right}

-- a frame that waits
abbrev pub frame : (ticket due weight : ℕ) → Row
frame k d w = row k d w (frame_tail 0)

-- P1: a row of weight 4 due now, one of weight 10 due next: two segments, no row left out
abbrev pub first_round : Round
first_round = round 0 1 3 4 (frame 1 0 4 ∷ frame 2 1 10 ∷ []) unsealed_tail

-- three rows due by slot 1, and slot 2 free: the lightest is left out, and the blank is due in slot 2
abbrev pub second_round : Round
second_round = round 0 2 4 4 (frame 1 1 5 ∷ frame 2 1 9 ∷ frame 3 1 7 ∷ []) unsealed_tail

-- a row due in each slot, and a lighter one that is left out at the end
abbrev pub third_round : Round
third_round = round 0 3 6 8 (frame 1 0 4 ∷ frame 2 1 20 ∷ frame 3 2 9 ∷ frame 4 3 8 ∷ frame 5 3 3 ∷ []) unsealed_tail

abbrev pub first_segments : List Segment
first_segments = segment 0 0 (frame 1 0 4) (frame 1 0 4) (blank 0) ∷ segment 1 1 (frame 2 1 10) (frame 1 0 4) (blank 1) ∷ []

abbrev pub second_segments : List Segment
second_segments = segment 0 1 (frame 2 1 9) (frame 3 1 7) (frame 1 1 5) ∷ segment 2 2 (blank 2) (blank 2) (blank 2) ∷ []

-- every later segment has the row left out for its substitute
abbrev pub third_segments : List Segment
third_segments =
    segment 0 0 (frame 1 0 4) (frame 1 0 4) (frame 5 3 3) ∷
    segment 1 1 (frame 2 1 20) (frame 1 0 4) (frame 5 3 3) ∷
    segment 2 2 (frame 3 2 9) (frame 1 0 4) (frame 5 3 3) ∷
    segment 3 3 (frame 4 3 8) (frame 1 0 4) (frame 5 3 3) ∷
    []

pub first_picture : picture_of first_round ≡ first_segments
unfolding row blank round slots_left heavier into sorted due_by fits_from feasible kept blanks_from plan tight tight_from tight_after same_row in_plan lightest_by heaviest_outside segment heaviest_within segment_at picture_from picture_of
first_picture = refl

pub second_picture : picture_of second_round ≡ second_segments
unfolding row blank round slots_left heavier into sorted due_by fits_from feasible kept blanks_from plan tight tight_from tight_after same_row in_plan lightest_by heaviest_outside segment heaviest_within segment_at picture_from picture_of
second_picture = refl

pub third_picture : picture_of third_round ≡ third_segments
unfolding row blank round slots_left heavier into sorted due_by fits_from feasible kept blanks_from plan tight tight_from tight_after same_row in_plan lightest_by heaviest_outside segment heaviest_within segment_at picture_from picture_of
third_picture = refl

-- weight 4 is no link: 20 stands behind it
pub third_links : links third_segments ≡ (frame 2 1 20 ∷ frame 3 2 9 ∷ frame 4 3 8 ∷ [])
unfolding row segment heavier over links
third_links = refl

-- the list is the picture that the laws speak of
pub second_fine : Fine second_round
unfolding row round
second_fine =
    record {
      time = omega arith;
      fine = (
        record { due_from = omega arith; due_by = omega arith; some = omega arith; most = omega arith; class = omega arith },
        (record { due_from = omega arith; due_by = omega arith; some = omega arith; most = omega arith; class = omega arith }, (record { due_from = omega arith; due_by = omega arith; some = omega arith; most = omega arith; class = omega arith }, tt)),
      );
      rising = (omega arith, (omega arith, (omega arith, omega arith)));
    }

pub second_drawn : Picture second_round second_segments
second_drawn = subst (λ (gs : List Segment). Picture second_round gs) second_picture (picture_right second_round second_fine)
