-- SOUND TABLES read back, stay sound and as long, and opening reads the length alone: tables_back, stays_sound, opening_alone.
use Rattle.std.specs.Prelude.{◌≡◌, refl, Bool, true, false, cond, List, ℕ, ◌+◌, ◌*◌, ◌≤◌, eqb, length}
use Rattle.std.proofs.Common.{sym, ap, ◌∙◌, inl, inr, arith}
use Rattle.rules.specs.Limits.{head_size, row_size, most_last}
use Rattle.rules.specs.Rows.{Setup, Round, round}
use Rattle.rules.specs.Steps.{opened}
use Rattle.rules.specs.Table.{table, rows_of, round_in, length_good, table_refusal}
use Rattle.rules.specs.Calls.{Call, opening, acting, asking, deed, refused, done}
use Rattle.rules.specs.Calls.{first, round_refusal, table_first, refusal, says, answer, leaves, left, next_round}
use Rattle.rules.specs.Demands.{SoundRound, TablesBack, StaysSound, OpeningAlone}
use Rattle.theory.specs.Tests.{eqb?}
use Rattle.theory.specs.Calls.{opens}
use Rattle.theory.specs.Back.{read_back, length_table, table_good, good, next_sized}
use Rattle.theory.specs.Sane.{Sane, next_sane, good_sane, sound, left_is}
use Rattle.theory.specs.Third.{opened_sane, opening_leaves}
use Rattle.theory.specs.Clauses.{length_long}

-- TABLES READ BACK
pub tables_back : TablesBack
unfolding TablesBack
tables_back = (back, forth)
  where
    back : (r : Round) → SoundRound r → (table_refusal (table r) ≡ 0) × (round_in (table r) ≡ r)
    back r h =
        let s = good_sane r h.0 h.1 h.2 in (table_good r s.fine s.size s.some, read_back r s.fine s.size)

    forth : (t : List ℕ) → table_refusal t ≡ 0 → (table (round_in t) ≡ t) × SoundRound (round_in t)
    forth t e =
        let h = sound t e in
        let s = h.sane in
        (h.bytes, (good (round_in t) s.fine s.size, s.some, s.size.room))

-- ACCEPTED CALLS LEAVE SOUND TABLES
abbrev pub SoundStill : (t u : List ℕ) → Type 0
SoundStill t u = (table_refusal u ≡ 0) × (length u ≡ length t)

pub sane_table : (r : Round) (t : List ℕ) → Sane r → length t ≡ head_size + row_size * r.room → SoundStill t (table r)
sane_table r t s l = (table_good r s.fine s.size s.some, length_table r s.size.long ∙ sym l)

-- opening, whatever the table held
pub opening_sound : (u : Setup) (t : List ℕ) → length_good (length t) ≡ true → u.last ≤ most_last → SoundStill t (left (opening u) t)
unfolding opened round
opening_sound u t g h =
    let k = rows_of t in
    let m = length_long t g in
    rw (opening_leaves t k u m.0 m.1 m.2 h) (sane_table (opened u k) t (opened_sane u k h m.1 m.2) m.0)

-- any call on a sound table, refused or not
pub call_sound : (c : Call) (t : List ℕ) → table_refusal t ≡ 0 → SoundStill t (left c t)
call_sound c t e =
    let h = sound t e in
    let r = round_in t in
    let s = h.sane in
    let z = next_sized r.room c r (refl, s.size) in
    let l : left c t ≡ table (next_round c r) = ap (left c) (sym h.bytes) ∙ left_is c r s in
    rw l (sane_table (next_round c r) t (next_sane c r s) (omega (arith, ap length h.bytes, length_table r s.size.long, z.0)))

pub first_none : (a b : ℕ) → first a b ≡ 0 → (a ≡ 0) × (b ≡ 0)
unfolding first
first_none a b e = elim (eqb? a 0) [ inl h ↦ (h.1, rw h.0 at e) | inr h ↦ absurd (h.1 (rw h.0 at e)) ]

pub opening_passes : (u : Setup) (t : List ℕ) → refusal (opening u) t ≡ 0 → (length_good (length t) ≡ true) × (u.last ≤ most_last)
unfolding refusal table_first
opening_passes u t e =
    let g = length_good (length t) in
    let a = first_none (cond g 0 2) (round_refusal (opening u) (round_in t)) e in (fits g a.0, opens u (round_in t) a.1)
  where
    fits : (g : Bool) → ◌≡◌ {A = ℕ} (cond g 0 2) 0 → g ≡ true
    fits true e = refl
    fits false e = absurd (omega arith)

pub stays_sound : StaysSound
unfolding StaysSound refusal table_first
stays_sound (opening u) t e = let h = opening_passes u t e in opening_sound u t h.0 h.1
stays_sound (acting a) t e = call_sound (acting a) t (first_none (table_refusal t) _ e).0
stays_sound (asking q) t e = call_sound (asking q) t (first_none (table_refusal t) _ e).0

-- OPENING READS THE LENGTH ALONE
pub opening_refusal : (s : Setup) (t u : List ℕ) → length t ≡ length u → refusal (opening s) t ≡ refusal (opening s) u
unfolding refusal table_first round_refusal deed
opening_refusal s t u e = rw e

pub done_when : (b : Bool) (n : ℕ) → cond b done (refused n) ≡ done → b ≡ true
done_when true n e = refl
done_when false n e = let z : ◌≡◌ {A = ℕ} 0 1 = cc in absurd (omega arith)

pub opening_alone : OpeningAlone
unfolding OpeningAlone answer left says leaves deed round_in round rows_of
opening_alone s t u e = (
  rw (opening_refusal s t u e),
  λ a. let b = done_when (eqb (refusal (opening s) t) 0) _ a in
      rw (b, sym (ap (λ (n : ℕ). eqb n 0) (opening_refusal s t u e)) ∙ b, e),
)
