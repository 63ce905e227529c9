-- The owed statements: each is a type, proved in theory.
use Rattle.std.specs.Prelude.{◌≡◌, Bool, true, false, ◌&&◌, ◌||◌, not, cond, List, [], ◌∷◌, ◌++◌, map, ℕ, suc, ◌+◌, ◌*◌, ◌-◌, ◌≤◌, ◌<◌, leb, eqb, length, get_or, take, drop}
use Rattle.rules.specs.Limits.{head_size, row_size, most_rows, most_last, most_weight}
use Rattle.rules.specs.Rows.{Frame, Setup, Row, Round, chosen, slots_left, sorted, heavier, canonical, old_heavier, Heavier, Canonical, OldHeavier}
use Rattle.rules.specs.Plan.{plan, total, total_weight, mark, feasible, planned, listed, beats_golden, golden_more}
use Rattle.rules.specs.Steps.{opened, sent}
use Rattle.rules.specs.Table.{value, table, round_in, round_good, table_refusal}
use Rattle.rules.specs.Calls.{taking, sending, marking, totalling, Call, opening, acting, asking, Reply, refused, done, ticket, step, amount, number_of, ordinary, silence, refusal, round_refusal, says, answer, left, run, replies, at}
use Rattle.rules.specs.Looking.{substitute_answer, Shown, list_refusal, list_answer, list_left, View, the_plan, shows}
use Rattle.rules.specs.Lines.{Command, command, text, stands, read, read_refusal, payload_from, Place, payload_place, payload, write_refusal, write_answer, write_left, fresh_table, printed}
use Rattle.rules.specs.Reads.{complete_from, begun_from, calls_of, written_for, between_after, SomeBytes, joined}
use Rattle.rules.specs.Conditions.{◌⟺◌, Bytes, LengthBad, Sound, when, accepted, NoCommand, refusal_given, substitute_given, list_given, read_given}
use Rattle.rules.specs.PlanM.{PlanM, AboveGolden, GoldenMore, score}
use Rattle.rules.specs.StepsOf.{Makes, StepsOf, AnswersOf}

-- GOING OUT IN TIME: slots, no two the same, each from the current one to the row's due slot
unfoldable pub member : ℕ → List ℕ → Bool
member v [] = false
member v (x ∷ xs) = eqb x v || member v xs

unfoldable pub in_time : (slot : ℕ) → List Row → (slots : List ℕ) → Bool
in_time t [] [] = true
in_time t [] (s ∷ ss) = false
in_time t (x ∷ xs) [] = false
in_time t (x ∷ xs) (s ∷ ss) = (leb t s && leb s x.due) && (not (member s ss) && in_time t xs ss)

-- one slot after another
unfoldable pub turns : (from : ℕ) → List Row → List ℕ
turns a [] = []
turns a (x ∷ xs) = a ∷ turns (suc a) xs

-- no accepted opening among the calls
unfoldable pub NoOpening : List Call → Type 0
NoOpening [] = Unit {0}
NoOpening (opening u ∷ cs) = (most_last < u.last) × NoOpening cs
NoOpening (acting a ∷ cs) = NoOpening cs
NoOpening (asking q ∷ cs) = NoOpening cs

-- A POINT of a list: the table z is the model's round r; its plan is a best set of the waiting rows; each call answers as defined
pub record Point (r : Round) (z : List ℕ) : Type 0 where
  pub bytes : z ≡ table r
  pub reads : round_in z ≡ r
  pub sound : table_refusal z ≡ 0
  pub full : (length (plan r) ≡ slots_left r) × (feasible r (plan r) ≡ true)
  pub waiting : listed r ≡ sorted canonical (planned r)
  pub goes_out : (zs : List ℕ) × (in_time r.slot (planned r) zs ≡ true)
  pub in_order : in_time r.slot (listed r) (turns r.slot (listed r)) ≡ true
  pub none_heavier : (ms : List Bool) (ss : List ℕ) → in_time r.slot (chosen ms r.rows) ss ≡ true → total_weight (chosen ms r.rows) ≤ total r
  pub weighs : (total r ≡ total_weight (planned r)) × (total r ≡ total_weight (listed r))
  pub over : r.last < r.slot → (plan r ≡ []) × (total r ≡ 0)
  pub answers : (c : Call) → answer c z ≡ cond (eqb (round_refusal c r) 0) (says c r) (refused (round_refusal c r))

-- THE THIRD DEMAND, of a list as a whole, on a table t of k rows opened with a setup u
pub record Third (k : ℕ) (u : Setup) (t : List ℕ) (cs : List Call) : Type 0 where
  pub opens : answer (opening u) t ≡ done
  pub points : (xs ys : List Call) → cs ≡ xs ++ ys → Point (at k u xs) (run xs (left (opening u) t))
  -- marks of slots ahead never sink
  pub marks : (xs ys zs : List Call) (s : ℕ) → cs ≡ xs ++ (ys ++ zs) → NoOpening ys → (at k u (xs ++ ys)).slot ≤ s →
      s ≤ (at k u (xs ++ ys)).last → mark (at k u xs) s ≤ mark (at k u (xs ++ ys)) s
  -- a newcomer raises the total by the part of its weight above the mark
  pub newcomers : (xs ys : List Call) (f : Frame) → cs ≡ xs ++ (acting (taking f) ∷ ys) → round_refusal (acting (taking f)) (at k u xs) ≡ 0 →
      total (at k u (xs ++ (acting (taking f) ∷ []))) ≡ total (at k u xs) + (f.weight - mark (at k u xs) f.due)
  -- both once more by the replies alone
  pub marks_answered : (xs ys zs : List Call) (ps qs ts : List Reply) (s m n : ℕ) → cs ≡ xs ++ (asking (marking s) ∷ (ys ++ (asking (marking s) ∷ zs))) →
      NoOpening ys → replies cs (left (opening u) t) ≡ ps ++ (amount m ∷ (qs ++ (amount n ∷ ts))) → length ps ≡ length xs → length qs ≡ length ys → m ≤ n
  pub newcomers_answered : (xs ys : List Call) (ps qs : List Reply) (f : Frame) (k' a m b : ℕ) →
      cs ≡ xs ++ (asking totalling ∷ asking (marking f.due) ∷ acting (taking f) ∷ asking totalling ∷ ys) →
      replies cs (left (opening u) t) ≡ ps ++ (amount a ∷ amount m ∷ ticket k' ∷ amount b ∷ qs) → length ps ≡ length xs → b ≡ a + (f.weight - m)

unfoldable pub DemandThree : Type 0
DemandThree =
    (t : List ℕ) (k : ℕ) (u : Setup) (cs : List Call) → length t ≡ head_size + row_size * k → 1 ≤ k → k ≤ most_rows → u.last ≤ most_last → Third k u t cs

-- DEMAND 1: each number comes under its condition and no other; soundness is document 01's clauses; accepted calls leave sound tables
unfoldable pub Refusals : Type 0
Refusals =
    ((c : Call) (t : List ℕ) → Bytes t → refusal_given c t (refusal c t))
    × ((k : ℕ) (t : List ℕ) → Bytes t → substitute_given k t (number_of (substitute_answer k t)))
    × ((v : View) (n : ℕ) (t : List ℕ) → Bytes t → list_given v n t (number_of (list_answer (shows v) t n)))

unfoldable pub Soundness : Type 0
Soundness = (t : List ℕ) → Bytes t → (table_refusal t ≡ 0) ⟺ ((LengthBad t → ⊥) × Sound t)

unfoldable pub StaysSound : Type 0
StaysSound = (c : Call) (t : List ℕ) → refusal c t ≡ 0 → (table_refusal (left c t) ≡ 0) × (length (left c t) ≡ length t)

unfoldable pub OpeningAlone : Type 0
OpeningAlone =
    (s : Setup) (t u : List ℕ) → length t ≡ length u →
    (answer (opening s) t ≡ answer (opening s) u) × (answer (opening s) t ≡ done → left (opening s) t ≡ left (opening s) u)

-- L8: a word of bytes, however many, is 0 exactly when all of them are
unfoldable pub WordZero : Type 0
WordZero = (bs : List ℕ) → (value bs ≡ 0) ⟺ ((i : ℕ) → get_or bs i 0 ≡ 0)

-- a refusal returns its number alone and changes no lent byte; the same of the writer's buffer, and of the listing's entries, whatever these are
abbrev pub Refused : (number : ℕ) → (answered : Reply) → {A : Type 0} → (before after : A) → Type 0
Refused n a x y = (n ≡ 0 → ⊥) → (a ≡ refused n) × (y ≡ x)

unfoldable pub RefusedUnchanged : Type 0
RefusedUnchanged =
    ((c : Call) (t : List ℕ) → Refused (refusal c t) (answer c t) t (left c t))
    × ((c : Command) (ps z : List ℕ) → Refused (write_refusal c ps (length z)) (write_answer c ps (length z)) z (write_left c ps z))

unfoldable pub ListRefusedUnchanged : Type 1
ListRefusedUnchanged =
    (A E : Type 0) (shown : Round → Shown A) (entry : A → E) (t : List ℕ) (es : List E) →
    Refused (list_refusal shown t (length es)) (list_answer shown t (length es)) es (list_left shown entry t es)

-- a reply's number is the refusal's, 0 where the call is accepted
unfoldable pub Numbers : Type 0
Numbers = (c : Call) (t : List ℕ) → number_of (answer c t) ≡ refusal c t

-- DEMAND 2: tables read back; every sound round's plan, reachable or not, is PlanM's; the orders, and the golden comparison, are what their names say
abbrev pub SoundRound : Round → Type 0
SoundRound r = (round_good r ≡ true) × (1 ≤ r.room) × (r.room ≤ most_rows)

unfoldable pub TablesBack : Type 0
TablesBack =
    ((r : Round) → SoundRound r → (table_refusal (table r) ≡ 0) × (round_in (table r) ≡ r))
    × ((t : List ℕ) → table_refusal t ≡ 0 → (table (round_in t) ≡ t) × SoundRound (round_in t))

unfoldable pub Plans : Type 0
Plans = (r : Round) → round_good r ≡ true → PlanM r

-- what a sending makes of each row, and answers; and the statement of it leaves nothing open
unfoldable pub Steps : Type 0
Steps = (r : Round) → round_good r ≡ true → r.slot ≤ r.last → StepsOf r × AnswersOf r

unfoldable pub StepsOnly : Type 0
StepsOnly = (r n : Round) → round_good r ≡ true → r.slot ≤ r.last → Makes r n → n ≡ sent r

unfoldable pub Orders : Type 0
Orders =
    (a b : Row) →
    ((heavier a b ≡ true) ⟺ Heavier a b) × ((canonical a b ≡ true) ⟺ Canonical a b) × ((old_heavier a b ≡ true) ⟺ OldHeavier a b)

unfoldable pub Golden : Type 0
Golden =
    ((x y : ℕ) → (beats_golden x y ≡ true) ⟺ AboveGolden x y)
    × ((a b c d : ℕ) → (golden_more a b c d ≡ true) ⟺ GoldenMore a b c d)
    × ((a b c d : ℕ) → b ≤ most_weight → d ≤ most_weight → (golden_more a b c d ≡ true) ⟺ (score c d < score a b))

-- a listing accepted, whatever it shows: as many as there are items, first the entries of these in their order, then the old ones
unfoldable pub Listings : Type 1
Listings =
    (A E : Type 0) (shown : Round → Shown A) (entry : A → E) (t : List ℕ) (es : List E) → list_refusal shown t (length es) ≡ 0 →
    let xs = (shown (round_in t)).items in
    let n = length xs in
    (list_answer shown t (length es) ≡ amount n)
    × (n ≤ length es)
    × (take n (list_left shown entry t es) ≡ map entry xs)
    × (drop n (list_left shown entry t es) ≡ drop n es)

-- the plan accepted: as many as it has rows, first the entries of these in canonical order, then the old ones
unfoldable pub PlanListings : Type 1
PlanListings =
    (E : Type 0) (entry : Row → E) (t : List ℕ) (es : List E) → list_refusal (shows the_plan) t (length es) ≡ 0 →
    let ps = planned (round_in t) in
    let n = length ps in
    (list_answer (shows the_plan) t (length es) ≡ amount n)
    × (n ≤ length es)
    × (take n (list_left (shows the_plan) entry t es) ≡ map entry (sorted canonical ps))
    × (drop n (list_left (shows the_plan) entry t es) ≡ drop n es)

-- the i-th row listed is due in slot current + i or later; P10: a round just opened sends silence
unfoldable pub ListedFits : Type 0
ListedFits = (r : Round) → round_good r ≡ true → (xs ys : List Row) (x : Row) → listed r ≡ xs ++ (x ∷ ys) → r.slot + length xs ≤ x.due

unfoldable pub OpenedSilent : Type 0
OpenedSilent = (u : Setup) (k : ℕ) → says (acting sending) (opened u k) ≡ step (ordinary silence)

-- TEXT LINES: a line is read as a command with a payload exactly where it is their text; reader and writer undo each other; 1 before 12
unfoldable pub LinesExact : Type 0
LinesExact =
    (c : Command) (ps line : List ℕ) →
    ((read line ≡ command c) × (payload line ≡ ps)) ⟺ ((stands c ps ≡ true) × (line ≡ text c ps))

unfoldable pub WrittenRead : Type 0
WrittenRead =
    (c : Command) (ps z : List ℕ) (n : ℕ) → write_answer c ps (length z) ≡ amount n →
    (read (take n (write_left c ps z)) ≡ command c) × (payload (take n (write_left c ps z)) ≡ ps) × (drop n (write_left c ps z) ≡ drop n z)

unfoldable pub ReadWritten : Type 0
ReadWritten =
    (c : Command) (line z : List ℕ) → read line ≡ command c → length line ≤ length z →
    (write_answer c (payload line) (length z) ≡ amount (length line)) × (write_left c (payload line) z ≡ line ++ drop (length line) z)

unfoldable pub WriteRefusals : Type 0
WriteRefusals =
    (c : Command) (ps : List ℕ) (n : ℕ) →
    when 1 (stands c ps ≡ false) (when 12 (n < length (text c ps)) accepted) (number_of (write_answer c ps n))

-- the reader's refusal comes under its condition and no other; the payload's place, by the line's text
unfoldable pub ReadRefusals : Type 0
ReadRefusals = (line : List ℕ) → read_given line (read_refusal line)

abbrev pub PlaceIs : Place → (start end : ℕ) → Type 0
PlaceIs p a b = (p.start ≡ a) × (p.end ≡ b)

unfoldable pub PayloadPlaces : Type 0
PayloadPlaces =
    ((line : List ℕ) → NoCommand line → PlaceIs (payload_place line) 0 0)
    × ((c : Command) → stands c [] ≡ true → PlaceIs (payload_place (text c [])) 0 0)
    × ((c : Command) (ps : List ℕ) → stands c ps ≡ true → 1 ≤ length ps → PlaceIs (payload_place (text c ps)) (payload_from c) (payload_from c + length ps))

-- THE PROGRAM: for every way in which an input is cut into reads, what is written for them, one after another, is what the whole prints;
-- the table is that of the calls of its lines, and the line begun is held
unfoldable pub PrintedByReads : Type 0
PrintedByReads =
    (reads : List (List ℕ)) → SomeBytes reads →
    let input = joined reads in
    let s = between_after fresh_table [] reads in
    (written_for fresh_table [] (reads ++ ([] ∷ [])) ≡ printed input)
    × (s.table ≡ run (calls_of (complete_from [] input)) fresh_table)
    × (s.over ≡ false → s.held ≡ begun_from [] input)
