-- Text lines: their text, the reader, the payload and its place, the writer, and what stationround prints.
use Rattle.std.specs.Prelude.{Bool, true, false, ◌&&◌, ◌||◌, cond, List, [], ◌∷◌, ◌++◌, ℕ, zero, suc, ◌+◌, ◌*◌, ◌-◌, ◌/◌, ◌%◌, ◌^◌, ltb, leb, eqb, length, get_or, take, drop, replicate}
use Rattle.rules.specs.Limits.{head_size, row_size, most_rows, short_digits, slot_digits, wide_digits, most_payload}
use Rattle.rules.specs.Rows.{framed, until}
use Rattle.rules.specs.Calls.{taking, sending, sealing, Call, opening, acting, Out, silence, frame, kept_blank, ordinary, leap, Reply, refused, done, closed, ticket, step, amount, blank_due, answer, left}

-- DIGITS 0 to 9 and A to F as bytes, and numbers in digits, high digit first
unfoldable pub digit : ℕ → ℕ
digit v = cond (ltb v 10) (48 + v) (55 + v)

unfoldable pub is_digit : ℕ → Bool
is_digit b = (leb 48 b && leb b 57) || (leb 65 b && leb b 70)

unfoldable pub digit_value : ℕ → ℕ
digit_value b = cond (leb b 57) (b - 48) (b - 55)

unfoldable pub digits : (n v : ℕ) → List ℕ
digits zero v = []
digits (suc n) v = digits n (v / 16) ++ (digit (v % 16) ∷ [])

unfoldable pub number_from : (sum : ℕ) → List ℕ → ℕ
number_from a [] = a
number_from a (b ∷ bs) = number_from (16 * a + digit_value b) bs

unfoldable pub all_digits : List ℕ → Bool
all_digits [] = true
all_digits (b ∷ bs) = is_digit b && all_digits bs

-- NUMBERS SIDE BY SIDE, each in so many digits: how many these are, the digits, and whether they hold the numbers
unfoldable pub count_digits : (widths : List ℕ) → ℕ
count_digits [] = 0
count_digits (n ∷ ns) = n + count_digits ns

unfoldable pub numerals : (widths values : List ℕ) → List ℕ
numerals [] vs = []
numerals (n ∷ ns) [] = []
numerals (n ∷ ns) (v ∷ vs) = digits n v ++ numerals ns vs

unfoldable pub fit_digits : (widths values : List ℕ) → Bool
fit_digits [] [] = true
fit_digits [] (v ∷ vs) = false
fit_digits (n ∷ ns) [] = false
fit_digits (n ∷ ns) (v ∷ vs) = ltb v (16 ^ n) && fit_digits ns vs

-- the numbers that stand side by side from a place on
unfoldable pub number_at : (at n : ℕ) → List ℕ → ℕ
number_at a n ds = number_from 0 (take n (drop a ds))

unfoldable pub numbers_at : (at : ℕ) (widths : List ℕ) → List ℕ → List ℕ
numbers_at a [] ds = []
numbers_at a (n ∷ ns) ds = number_at a n ds ∷ numbers_at (a + n) ns ds

-- A LINE'S FORM: its number, the digits of each number behind that, and whether payload digits may follow
pub record Form : Type 0 where
  pub number : ℕ
  pub widths : List ℕ
  pub payload : Bool

abbrev pub form : (number : ℕ) (widths : List ℕ) (payload : Bool) → Form
form k ns p = record { number = k; widths = ns; payload = p }

-- THE TABLE of forms
unfoldable pub forms : List Form
forms =
    form 0 (slot_digits ∷ []) false
    ∷ form 1 (slot_digits ∷ wide_digits ∷ []) true
    ∷ form 2 [] false
    ∷ form 3 [] false
    ∷ form 4 (slot_digits ∷ wide_digits ∷ short_digits ∷ []) true
    ∷ []

-- the form of a line number; a number that no line has would stand alone, and makes no command
unfoldable pub found : (number : ℕ) → List Form → Form
found k [] = form k [] false
found k (f ∷ fs) = cond (eqb k f.number) f (found k fs)

abbrev pub form_numbered : ℕ → Form
form_numbered k = found k forms

-- how many digits come before the payload, how many payload digits there can be, and how many digits in all
unfoldable pub front_size : Form → ℕ
front_size f = short_digits + count_digits f.widths

unfoldable pub payload_fits : (payload : Bool) → (n : ℕ) → Bool
payload_fits true n = eqb (n % 2) 0 && leb n most_payload
payload_fits false n = eqb n 0

unfoldable pub has_length : Form → (n : ℕ) → Bool
has_length f n = leb (front_size f) n && payload_fits f.payload (n - front_size f)

-- A COMMAND, one for each line number: that number and its values; the call that it asks for, where 01 means class 0
pub data Command : Type 0 where
  open_line : (last : ℕ) → Command
  take_line : (due weight : ℕ) → Command
  send_line : Command
  seal_line : Command
  class_line : (due weight class : ℕ) → Command

unfoldable pub line_number : Command → ℕ
line_number (open_line l) = 0
line_number (take_line d w) = 1
line_number send_line = 2
line_number seal_line = 3
line_number (class_line d w c) = 4

unfoldable pub values_of : Command → List ℕ
values_of (open_line l) = l ∷ []
values_of (take_line d w) = d ∷ w ∷ []
values_of send_line = []
values_of seal_line = []
values_of (class_line d w c) = d ∷ w ∷ c ∷ []

unfoldable pub call_of : Command → Call
call_of (open_line l) = opening (until l)
call_of (take_line d w) = acting (taking (framed d w 0))
call_of send_line = acting sending
call_of seal_line = acting sealing
call_of (class_line d w c) = acting (taking (framed d w c))

abbrev pub form_of : Command → Form
form_of c = form_numbered (line_number c)

-- THE TEXT of a command with its payload digits, and whether they can stand in a line
abbrev pub line_end : ℕ
line_end = 10

unfoldable pub front : Command → List ℕ
front c = digits short_digits (line_number c) ++ numerals (form_of c).widths (values_of c)

unfoldable pub text : Command → (payload : List ℕ) → List ℕ
text c ps = front c ++ ps ++ (line_end ∷ [])

unfoldable pub stands : Command → (payload : List ℕ) → Bool
stands c ps = fit_digits (form_of c).widths (values_of c) && (all_digits ps && payload_fits (form_of c).payload (length ps))

-- THE READER: a command, or refusal 1. A line is its bytes with the 0A
pub data Reading : Type 0 where
  command : Command → Reading
  broken : Reading

abbrev pub reading_refusal : Reading → ℕ
reading_refusal (command c) = 0
reading_refusal broken = 1

unfoldable pub body : List ℕ → List ℕ
body line = take (length line - 1) line

-- the command of a line number and values
unfoldable pub command_of : (number : ℕ) (values : List ℕ) → Reading
command_of k vs =
    cond (eqb k 0) (command (open_line (get_or vs 0 0)))
    (cond (eqb k 1) (command (take_line (get_or vs 0 0) (get_or vs 1 0)))
    (cond (eqb k 2) (command send_line)
    (cond (eqb k 3) (command seal_line)
    (cond (eqb k 4) (command (class_line (get_or vs 0 0) (get_or vs 1 0) (get_or vs 2 0))) broken))))

unfoldable pub read_digits : List ℕ → Reading
read_digits ds =
    let k = number_at 0 short_digits ds in
    let f = form_numbered k in
    cond (has_length f (length ds)) (command_of k (numbers_at short_digits f.widths ds)) broken

unfoldable pub read : List ℕ → Reading
read line =
    cond (leb 1 (length line) && (eqb (get_or line (length line - 1) 0) line_end && all_digits (body line))) (read_digits (body line)) broken

unfoldable pub read_refusal : List ℕ → ℕ
read_refusal line = reading_refusal (read line)

-- THE PAYLOAD: its place in the line, (0, 0) where it has no digits or the line is refused, and that part
pub record Place : Type 0 where
  pub start : ℕ
  pub end : ℕ

unfoldable pub place_of : Reading → (long : ℕ) → Place
place_of (command c) n =
    let start = front_size (form_of c) in
    cond ((form_of c).payload && ltb (suc start) n) (record { start = start; end = n - 1 }) (record { start = 0; end = 0 })
place_of broken n = record { start = 0; end = 0 }

unfoldable pub payload_place : List ℕ → Place
payload_place line = place_of (read line) (length line)

unfoldable pub payload : List ℕ → List ℕ
payload line = take ((payload_place line).end - (payload_place line).start) (drop (payload_place line).start line)

-- where the payload of line 01 begins, and that of line 04; of a command, 0 where it has none
abbrev pub payload_at : ℕ
payload_at = 14

abbrev pub class_payload_at : ℕ
class_payload_at = 16

abbrev pub payload_from : Command → ℕ
payload_from (open_line l) = 0
payload_from (take_line d w) = payload_at
payload_from send_line = 0
payload_from seal_line = 0
payload_from (class_line d w c) = class_payload_at

-- THE WRITER into a lent buffer: 1, 12; the length with its 0A, and the buffer afterwards
unfoldable pub write_refusal : Command → (payload : List ℕ) → (room : ℕ) → ℕ
write_refusal c ps n = cond (stands c ps) (cond (ltb n (length (text c ps))) 12 0) 1

unfoldable pub write_answer : Command → (payload : List ℕ) → (room : ℕ) → Reply
write_answer c ps n = cond (eqb (write_refusal c ps n) 0) (amount (length (text c ps))) (refused (write_refusal c ps n))

unfoldable pub write_left : Command → (payload buffer : List ℕ) → List ℕ
write_left c ps z = cond (eqb (write_refusal c ps (length z)) 0) (text c ps ++ drop (length (text c ps)) z) z

-- STATIONROUND: a reply's line, and all that is printed for an input
unfoldable pub out_digits : (kind : ℕ) → Out → List ℕ
out_digits k silence = digits short_digits 0 ++ digits short_digits k ++ digits wide_digits 0
out_digits k (frame n) = digits short_digits 1 ++ digits short_digits k ++ digits wide_digits n
out_digits k (kept_blank n) = digits short_digits 2 ++ digits short_digits k ++ digits wide_digits n

unfoldable pub reply_digits : Reply → List ℕ
reply_digits (refused n) = digits short_digits 255 ++ digits short_digits n
reply_digits done = digits short_digits 0
reply_digits closed = digits short_digits 3
reply_digits (ticket k) = digits short_digits 1 ++ digits wide_digits k
reply_digits (step (ordinary o)) = digits short_digits 2 ++ out_digits 0 o
reply_digits (step (leap o)) = digits short_digits 2 ++ out_digits 1 o
reply_digits (amount n) = []
reply_digits (blank_due s) = []

unfoldable pub reply_text : Reply → List ℕ
reply_text r = reply_digits r ++ (line_end ∷ [])

-- the room that each reply's line fits in, and how often its line's length, at most, a reply is long
abbrev pub reply_room : ℕ
reply_room = 15

abbrev pub reply_ratio : ℕ
reply_ratio = 5

-- an input cut after each 0A; what follows the last one is a line too
unfoldable pub lines_from : (begun : List ℕ) → List ℕ → List (List ℕ)
lines_from xs [] = cond (eqb (length xs) 0) [] (xs ∷ [])
lines_from xs (b ∷ bs) =
    cond (eqb b line_end) ((xs ++ (b ∷ [])) ∷ lines_from [] bs) (lines_from (xs ++ (b ∷ [])) bs)

-- one turn: the reply's line, and what the lines after it print on the table left; nothing follows refusal 1
unfoldable pub turn : Reading → (table : List ℕ) → (rest : List ℕ → List ℕ) → List ℕ
turn broken t rest = reply_text (refused (reading_refusal broken))
turn (command c) t rest = reply_text (answer (call_of c) t) ++ rest (left (call_of c) t)

unfoldable pub printed_from : List (List ℕ) → (table : List ℕ) → List ℕ
printed_from [] t = []
printed_from (x ∷ xs) t = turn (read x) t (printed_from xs)

-- its table of 1,024 rows, all zero at first
abbrev pub fresh_table : List ℕ
fresh_table = replicate (head_size + row_size * most_rows) 0

unfoldable pub printed : List ℕ → List ℕ
printed input = printed_from (lines_from [] input) fresh_table
