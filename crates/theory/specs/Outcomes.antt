-- What a call owes, from its refusal number and the bytes it wrote: says_refused, says_accepted, by_table, by_round, mark_said, total_said.
use Rattle.std.specs.Prelude.{◌≡◌, refl, true, false, List, ℕ, length}
use Rattle.std.proofs.Common.{sym, ap, ◌∙◌, ne_eqb}
use Rattle.rules.specs.Rows.{Setup}
use Rattle.rules.specs.Plan.{total, mark}
use Rattle.rules.specs.Table.{table, round_in, table_refusal, length_good}
use Rattle.rules.specs.Calls.{Act, Question, marking, totalling, Call, opening, acting, asking, first_of, open_tests, question, deed, refused, amount, first, table_first, round_refusal}
use Rattle.rules.specs.Calls.{refusal, says, leaves, answer, left, Says}
use Rattle.rules.specs.Demands.{TablesBack}
use Rattle.theory.specs.Stays.{tables_back}

-- REFUSED: the number alone, every byte as it was
pub says_refused : (c : Call) (t : List ℕ) (n : ℕ) → refusal c t ≡ n → (n ≡ 0 → ⊥) → Says c (refused n) t t
unfolding answer left
says_refused c t n e h =
    let f = ne_eqb (refusal c t) 0 (λ z. h (sym e ∙ z)) in (rw (f, e), rw f)

-- ACCEPTED: the rules' reply, and the bytes of the round left
pub says_accepted : (c : Call) (t z : List ℕ) → refusal c t ≡ 0 → z ≡ table (leaves c (round_in t)) → Says c (says c (round_in t)) t z
unfolding answer left
says_accepted c t z e h = (rw e, h ∙ rw e)

-- a mark or a total: every byte as it was, for the table's own round is left
unchanged : (t : List ℕ) → table_refusal t ≡ 0 → t ≡ table (round_in t)
unfolding TablesBack
unchanged t e = sym (tables_back.1 t e).0

pub mark_said : (s : ℕ) (t : List ℕ) (n : ℕ) → table_refusal t ≡ 0 → refusal (asking (marking s)) t ≡ 0 → n ≡ mark (round_in t) s →
    Says (asking (marking s)) (amount n) t t
unfolding says leaves deed question
mark_said s t n e f g = let h = says_accepted (asking (marking s)) t t f (unchanged t e) in (ap amount g ∙ h.0, h.1)

pub total_said : (t : List ℕ) (n : ℕ) → table_refusal t ≡ 0 → refusal (asking totalling) t ≡ 0 → n ≡ total (round_in t) →
    Says (asking totalling) (amount n) t t
unfolding says leaves deed question
total_said t n e f g = let h = says_accepted (asking totalling) t t f (unchanged t e) in (ap amount g ∙ h.0, h.1)

-- opening: 2, then 4
pub opening_length : (u : Setup) (t : List ℕ) → length_good (length t) ≡ false → refusal (opening u) t ≡ 2
unfolding refusal first table_first
opening_length u t e = rw e

pub opening_number : (u : Setup) (t : List ℕ) → length_good (length t) ≡ true → refusal (opening u) t ≡ first_of (open_tests u)
unfolding refusal first table_first round_refusal deed
opening_number u t e = rw e

-- ON ANY TABLE a call but opening is judged by the table first
abbrev pub Judges : Call → Type 0
Judges c = (t : List ℕ) → table_first c t ≡ table_refusal t

pub act_judges : (a : Act) → Judges (acting a)
unfolding table_first
act_judges a t = refl

pub question_judges : (q : Question) → Judges (asking q)
unfolding table_first
question_judges q t = refl

pub by_table : (c : Call) (t : List ℕ) (n : ℕ) → Judges c → n ≡ table_refusal t → (n ≡ 0 → ⊥) → refusal c t ≡ n
unfolding refusal first
by_table c t n j e h = let f = ne_eqb (table_refusal t) 0 (λ z. h (e ∙ z)) in rw (j t, f) (sym e)

pub by_round : (c : Call) (t : List ℕ) → Judges c → table_refusal t ≡ 0 → refusal c t ≡ round_refusal c (round_in t)
unfolding refusal first
by_round c t j e = rw (j t, e)
