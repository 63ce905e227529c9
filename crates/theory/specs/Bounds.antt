-- A ROW'S AND A HEAD'S BOUNDS as facts by name, decided by the lists of tests: tests_right, right_tests, tests_head, head_tested.
use Rattle.std.specs.Prelude.{◌≡◌, refl, Bool, true, false, ◌||◌, List, [], ◌∷◌, ℕ, suc, ◌≤◌, ◌<◌, eqb}
use Rattle.std.proofs.Common.{inl, inr, arith, ltb-true, leb-true, lt-ltb, le-leb, eq-eqb}
use Rattle.std.proofs.lemmas.Bool.{false≢true}
use Rattle.rules.specs.Limits.{most_last, most_weight, ticket_limit, most_class}
use Rattle.rules.specs.Rows.{Tail, Row, HeadTail, Round, blank, frame_tail, blank_tail, unsealed_tail, sealed_tail}
use Rattle.rules.specs.Table.{every, row_tests, tail_tests, head_tests, head_tail_tests}
use Rattle.theory.specs.Tests.{eqb?, and_true}

-- TESTS that all hold, one by one
abbrev pub Hold : List Bool → Type 0
Hold [] = Unit {0}
Hold (b ∷ bs) = (b ≡ true) × Hold bs

pub every_hold : (bs : List Bool) → every bs ≡ true → Hold bs
unfolding every
every_hold [] e = tt
every_hold (b ∷ bs) e = let h = and_true b (every bs) e in (h.0, every_hold bs h.1)

pub hold_every : (bs : List Bool) → Hold bs → every bs ≡ true
unfolding every
hold_every [] h = refl
hold_every (b ∷ bs) h = rw h.0 (hold_every bs h.1)

-- WHAT PLAN AND MARKS READ, within bounds
pub record InBounds (slot last : ℕ) (x : Row) : Type 0 where
  pub due_from : slot ≤ x.due
  pub due_by : x.due ≤ last
  pub some : 1 ≤ x.weight
  pub most : x.weight ≤ most_weight
  pub class : x.tail.class ≤ most_class

abbrev pub RowFine : Round → Row → Type 0
RowFine r x = InBounds r.slot r.last x

-- the same but for the slot
abbrev pub RowOk : Round → Row → Type 0
RowOk r x = InBounds 0 r.last x

pub row_ok : (r : Round) (x : Row) → x.due ≤ r.last → 1 ≤ x.weight → x.weight ≤ most_weight → x.tail.class ≤ most_class → RowOk r x
row_ok r x a b c d = record { due_from = omega arith; due_by = a; some = b; most = c; class = d }

-- THE TAIL within bounds: a frame's and a kept blank's are
pub record TailRight (m : Tail) : Type 0 where
  pub kinds : m.kind ≤ 1
  pub classes : m.class ≤ most_class
  pub kept : m.kind ≡ 1 → m.class ≡ most_class

abbrev pub TailFine : Row → Type 0
TailFine x = TailRight x.tail

pub frame_right : (c : ℕ) → c ≤ most_class → TailRight (frame_tail c)
frame_right c h = record { kinds = omega arith; classes = h; kept = λ e. absurd (omega (arith, e)) }

pub kept_right : TailRight blank_tail
kept_right = record { kinds = omega arith; classes = omega arith; kept = λ e. refl }

pub blank_right : (s : ℕ) → TailFine (blank s)
unfolding blank
blank_right s = frame_right most_class (omega arith)

pub tail_holds : (m : Tail) → Hold (tail_tests m) → TailRight m
tail_holds m h = record { kinds = leb-true m.kind 1 h.0; classes = leb-true m.class most_class h.1.0; kept = λ e. last_class e h.1.1.0 }
  where
    last_class : m.kind ≡ 1 → (eqb m.kind 0 || eqb m.class most_class) ≡ true → m.class ≡ most_class
    last_class e o = elim (eqb? m.class most_class) [
      | inl k ↦ k.1
      | inr k ↦ let z : false ≡ true = (rw (e, k.0) at o) in absurd (false≢true z)
    ]

pub holds_tail : (m : Tail) → TailRight m → Hold (tail_tests m)
holds_tail m t = (le-leb m.kind 1 t.kinds, (le-leb m.class most_class t.classes, (kind_or_class, tt)))
  where
    kind_or_class : (eqb m.kind 0 || eqb m.class most_class) ≡ true
    kind_or_class = elim (eqb? m.kind 0) [
      | inl k ↦ rw k.0
      | inr k ↦ let n = k.1 in rw k.0 (eq-eqb m.class most_class (t.kept (omega (arith, t.kinds))))
    ]

-- A ROW within bounds, beside the slot, the last, the next ticket and the ticket of the row before
pub record RowRight (slot last next before : ℕ) (x : Row) : Type 0 where
  pub from : before < x.ticket
  pub below : x.ticket < next
  pub bounds : InBounds slot last x
  pub tail : TailFine x

pub tests_right : (s l n b : ℕ) (x : Row) → every (row_tests s l n b x) ≡ true → RowRight s l n b x
tests_right s l n b x e =
    let h = every_hold (row_tests s l n b x) e in
    let w = h.1.1.1.1 in
    record {
      from = ltb-true b x.ticket h.0;
      below = ltb-true x.ticket n h.1.0;
      bounds = record {
        due_from = leb-true s x.due h.1.1.0;
        due_by = leb-true x.due l h.1.1.1.0;
        some = leb-true 1 x.weight w.0;
        most = leb-true x.weight most_weight w.1.0;
        class = (tail_holds x.tail w.1.1).classes;
      };
      tail = tail_holds x.tail w.1.1;
    }

pub right_tests : (s l n b : ℕ) (x : Row) → RowRight s l n b x → every (row_tests s l n b x) ≡ true
unfolding every
right_tests s l n b x r =
    rw (
      lt-ltb b x.ticket r.from,
      lt-ltb x.ticket n r.below,
      le-leb s x.due r.bounds.due_from,
      le-leb x.due l r.bounds.due_by,
      le-leb 1 x.weight r.bounds.some,
      le-leb x.weight most_weight r.bounds.most,
    )
    (hold_every (tail_tests x.tail) (holds_tail x.tail r.tail))

-- A HEAD'S TAIL within bounds: a new round's and a sealed one's are
pub record HeadTailRight (m : HeadTail) : Type 0 where
  pub sealed_flag : m.sealed ≤ 1

pub unsealed_right : HeadTailRight unsealed_tail
unsealed_right = record { sealed_flag = omega arith }

pub sealed_right : HeadTailRight sealed_tail
sealed_right = record { sealed_flag = omega arith }

pub head_tail_holds : (m : HeadTail) → Hold (head_tail_tests m) → HeadTailRight m
head_tail_holds m h = record { sealed_flag = leb-true m.sealed 1 h.0 }

pub holds_head_tail : (m : HeadTail) → HeadTailRight m → Hold (head_tail_tests m)
holds_head_tail m t = (le-leb m.sealed 1 t.sealed_flag, tt)

-- A HEAD within bounds, with the rows in use and the room for them
pub record HeadRight (slot last next used room : ℕ) (m : HeadTail) : Type 0 where
  pub last_most : last ≤ most_last
  pub slot_most : slot ≤ suc last
  pub next_least : 1 ≤ next
  pub next_most : next ≤ ticket_limit
  pub fit : used ≤ room
  pub tail : HeadTailRight m

pub tests_head : (s l n u k : ℕ) (m : HeadTail) → every (head_tests s l n u k m) ≡ true → HeadRight s l n u k m
tests_head s l n u k m e =
    let (a, (b, (c, (d, (f, g))))) = every_hold (head_tests s l n u k m) e in
    record {
      last_most = leb-true l most_last a;
      slot_most = leb-true s (suc l) b;
      next_least = leb-true 1 n c;
      next_most = leb-true n ticket_limit d;
      fit = leb-true u k f;
      tail = head_tail_holds m g;
    }

pub head_tested : (s l n u k : ℕ) (m : HeadTail) → HeadRight s l n u k m → every (head_tests s l n u k m) ≡ true
unfolding every
head_tested s l n u k m h =
    rw (
      le-leb l most_last h.last_most,
      le-leb s (suc l) h.slot_most,
      le-leb 1 n h.next_least,
      le-leb n ticket_limit h.next_most,
      le-leb u k h.fit,
    )
    (hold_every (head_tail_tests m) (holds_head_tail m h.tail))
