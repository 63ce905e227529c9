-- Lines by hand: what the reader reads, where the payload stands, and what the writer leaves in its buffer.
use mathlib.Core.Path.{◌≡◌, refl}
use mathlib.Core.List.{List, [], ◌∷◌, ◌++◌, map}
use Prim.Native.Nat.{ℕ}
use lib.ListN.{replicate}
use Rattle.rules.specs.Rows.{until, framed}
use Rattle.rules.specs.Calls.{taking, sending, sealing, opening, acting, Reply, refused, amount}
use Rattle.rules.specs.Lines.{digit, is_digit, digit_value, digits, number_from, all_digits, count_digits, numerals, fit_digits, number_at, numbers_at}
use Rattle.rules.specs.Lines.{forms, found, front_size, payload_fits, has_length, Command, open_line, take_line, send_line, seal_line, class_line, line_number, values_of, call_of}
use Rattle.rules.specs.Lines.{front, text, stands, Reading, command, broken, body, command_of, read_digits, read, read_refusal, place_of, payload_place, payload, payload_from, write_refusal, write_answer, write_left}

-- A LINE BY HAND: what it is read as, the refusal's number, the payload's place, and the payload
pub record LineRead : Type 0 where
  pub line : List ℕ
  pub reading : Reading
  pub number : ℕ
  pub start : ℕ
  pub end : ℕ
  pub digits : List ℕ

abbrev pub reads : List ℕ → Reading → (number start end : ℕ) → List ℕ → LineRead
reads l r n s e ds = record { line = l; reading = r; number = n; start = s; end = e; digits = ds }

-- the same by the definitions
abbrev pub read_by : List LineRead → List LineRead
read_by [] = []
read_by (x ∷ xs) =
    let l = x.line in
    reads l (read l) (read_refusal l) (payload_place l).start (payload_place l).end (payload l) ∷ read_by xs

-- the sixteen digits; a taking of due slot 0102 and weight 0A0B0C0D without its payload and its 0A (hexadecimal)
abbrev pub sixteen : List ℕ
sixteen =
    48 ∷ 49 ∷ 50 ∷ 51 ∷ 52 ∷ 53 ∷ 54 ∷ 55 ∷ 56 ∷ 57 ∷ 65 ∷ 66 ∷ 67 ∷ 68 ∷ 69 ∷ 70 ∷
    []

abbrev pub taking_front : List ℕ
taking_front =
    48 ∷ 49 ∷ 48 ∷ 49 ∷ 48 ∷ 50 ∷ 48 ∷ 65 ∷ 48 ∷ 66 ∷ 48 ∷ 67 ∷ 48 ∷ 68 ∷
    []

abbrev pub the_taking : Reading
the_taking = command (take_line 258 168496141)

-- the same in line 04, before its class digits
abbrev pub class_front : List ℕ
class_front =
    48 ∷ 52 ∷ 48 ∷ 49 ∷ 48 ∷ 50 ∷ 48 ∷ 65 ∷ 48 ∷ 66 ∷ 48 ∷ 67 ∷ 48 ∷ 68 ∷
    []

abbrev pub the_class : (class : ℕ) → Reading
the_class c = command (class_line 258 168496141 c)

abbrev pub lines_read : List LineRead
lines_read =
    -- no payload
    reads (taking_front ++ (10 ∷ [])) the_taking 0 0 0 [] ∷
    -- one byte of it
    reads (taking_front ++ (70 ∷ 48 ∷ 10 ∷ [])) the_taking 0 14 16 (70 ∷ 48 ∷ []) ∷
    -- 24 bytes: 48 digits, the most
    reads (taking_front ++ sixteen ++ sixteen ++ sixteen ++ (10 ∷ [])) the_taking 0 14 62 (sixteen ++ sixteen ++ sixteen) ∷
    -- 47, 50 and 1 are none
    reads (taking_front ++ sixteen ++ sixteen ++ (48 ∷ 49 ∷ 50 ∷ 51 ∷ 52 ∷ 53 ∷ 54 ∷ 55 ∷ 56 ∷ 57 ∷ 65 ∷ 66 ∷ 67 ∷ 68 ∷ 69 ∷ 10 ∷ [])) broken 1 0 0 [] ∷
    reads (taking_front ++ sixteen ++ sixteen ++ sixteen ++ (48 ∷ 49 ∷ 10 ∷ [])) broken 1 0 0 [] ∷
    reads (taking_front ++ (48 ∷ 10 ∷ [])) broken 1 0 0 [] ∷
    -- a lower-case digit in the weight, and one in the payload
    reads (48 ∷ 49 ∷ 48 ∷ 49 ∷ 48 ∷ 50 ∷ 48 ∷ 97 ∷ 48 ∷ 66 ∷ 48 ∷ 67 ∷ 48 ∷ 68 ∷ 10 ∷ []) broken 1 0 0 [] ∷
    reads (taking_front ++ (48 ∷ 102 ∷ 10 ∷ [])) broken 1 0 0 [] ∷
    -- every digit by its value
    reads (48 ∷ 49 ∷ 51 ∷ 52 ∷ 53 ∷ 54 ∷ 55 ∷ 56 ∷ 57 ∷ 65 ∷ 66 ∷ 67 ∷ 68 ∷ 69 ∷ 10 ∷ []) (command (take_line 13398 2023406814)) 0 0 0 [] ∷
    -- bytes just outside the digits: / : @ G
    reads (48 ∷ 47 ∷ 10 ∷ []) broken 1 0 0 [] ∷
    reads (48 ∷ 48 ∷ 48 ∷ 48 ∷ 48 ∷ 58 ∷ 10 ∷ []) broken 1 0 0 [] ∷
    reads (48 ∷ 48 ∷ 48 ∷ 48 ∷ 48 ∷ 64 ∷ 10 ∷ []) broken 1 0 0 [] ∷
    reads (48 ∷ 48 ∷ 48 ∷ 48 ∷ 48 ∷ 71 ∷ 10 ∷ []) broken 1 0 0 [] ∷
    -- opening 0FFF, and with payload digits; a sending, and with them
    reads (48 ∷ 48 ∷ 48 ∷ 70 ∷ 70 ∷ 70 ∷ 10 ∷ []) (command (open_line 4095)) 0 0 0 [] ∷
    reads (48 ∷ 48 ∷ 48 ∷ 70 ∷ 70 ∷ 70 ∷ 48 ∷ 48 ∷ 10 ∷ []) broken 1 0 0 [] ∷
    reads (48 ∷ 50 ∷ 10 ∷ []) (command send_line) 0 0 0 [] ∷
    reads (48 ∷ 50 ∷ 48 ∷ 48 ∷ 10 ∷ []) broken 1 0 0 [] ∷
    -- a sealing; with one digit more, with payload digits, with lower-case ones; a 3 alone, two sealings in a line, no 0A, a 0D before it
    reads (48 ∷ 51 ∷ 10 ∷ []) (command seal_line) 0 0 0 [] ∷
    reads (48 ∷ 51 ∷ 48 ∷ 10 ∷ []) broken 1 0 0 [] ∷
    reads (48 ∷ 51 ∷ 65 ∷ 66 ∷ 10 ∷ []) broken 1 0 0 [] ∷
    reads (48 ∷ 51 ∷ 97 ∷ 98 ∷ 10 ∷ []) broken 1 0 0 [] ∷
    reads (51 ∷ 10 ∷ []) broken 1 0 0 [] ∷
    reads (48 ∷ 51 ∷ 48 ∷ 51 ∷ 10 ∷ []) broken 1 0 0 [] ∷
    reads (48 ∷ 51 ∷ []) broken 1 0 0 [] ∷
    reads (48 ∷ 51 ∷ 13 ∷ 10 ∷ []) broken 1 0 0 [] ∷
    reads (48 ∷ 51 ∷ 10 ∷ 10 ∷ []) broken 1 0 0 [] ∷
    -- digits of line 03 and the length of 00 or 01: a slot, and a slot with a weight
    reads (48 ∷ 51 ∷ 48 ∷ 48 ∷ 48 ∷ 49 ∷ 10 ∷ []) broken 1 0 0 [] ∷
    reads (48 ∷ 51 ∷ 48 ∷ 49 ∷ 48 ∷ 50 ∷ 48 ∷ 65 ∷ 48 ∷ 66 ∷ 48 ∷ 67 ∷ 48 ∷ 68 ∷ 10 ∷ []) broken 1 0 0 [] ∷
    -- line 04 of each class, also of those that its call refuses; its payload stands behind the class
    reads (class_front ++ (48 ∷ 48 ∷ 10 ∷ [])) (the_class 0) 0 0 0 [] ∷
    reads (class_front ++ (48 ∷ 49 ∷ 10 ∷ [])) (the_class 1) 0 0 0 [] ∷
    reads (class_front ++ (48 ∷ 50 ∷ 10 ∷ [])) (the_class 2) 0 0 0 [] ∷
    reads (class_front ++ (48 ∷ 51 ∷ 10 ∷ [])) (the_class 3) 0 0 0 [] ∷
    reads (class_front ++ (48 ∷ 52 ∷ 10 ∷ [])) (the_class 4) 0 0 0 [] ∷
    reads (class_front ++ (51 ∷ 48 ∷ 10 ∷ [])) (the_class 48) 0 0 0 [] ∷
    reads (class_front ++ (70 ∷ 70 ∷ 10 ∷ [])) (the_class 255) 0 0 0 [] ∷
    reads (class_front ++ (48 ∷ 50 ∷ 70 ∷ 48 ∷ 10 ∷ [])) (the_class 2) 0 16 18 (70 ∷ 48 ∷ []) ∷
    reads (class_front ++ (48 ∷ 51 ∷ sixteen) ++ sixteen ++ sixteen ++ (10 ∷ [])) (the_class 3) 0 16 64 (sixteen ++ sixteen ++ sixteen) ∷
    -- 1, 47 and 50 payload digits are none; too short by the class, by one of its digits, and by all but the number
    reads (class_front ++ (48 ∷ 50 ∷ 48 ∷ 10 ∷ [])) broken 1 0 0 [] ∷
    reads (class_front ++ (48 ∷ 51 ∷ sixteen) ++ sixteen ++ (48 ∷ 49 ∷ 50 ∷ 51 ∷ 52 ∷ 53 ∷ 54 ∷ 55 ∷ 56 ∷ 57 ∷ 65 ∷ 66 ∷ 67 ∷ 68 ∷ 69 ∷ 10 ∷ [])) broken 1 0 0 [] ∷
    reads (class_front ++ (48 ∷ 51 ∷ sixteen) ++ sixteen ++ sixteen ++ (48 ∷ 49 ∷ 10 ∷ [])) broken 1 0 0 [] ∷
    reads (class_front ++ (10 ∷ [])) broken 1 0 0 [] ∷
    reads (class_front ++ (48 ∷ 10 ∷ [])) broken 1 0 0 [] ∷
    reads (48 ∷ 52 ∷ 10 ∷ []) broken 1 0 0 [] ∷
    -- a lower-case class, bytes just outside the digits in it, no 0A, a 0D before it
    reads (class_front ++ (48 ∷ 97 ∷ 10 ∷ [])) broken 1 0 0 [] ∷
    reads (class_front ++ (47 ∷ 48 ∷ 10 ∷ [])) broken 1 0 0 [] ∷
    reads (class_front ++ (48 ∷ 58 ∷ 10 ∷ [])) broken 1 0 0 [] ∷
    reads (class_front ++ (48 ∷ 71 ∷ 10 ∷ [])) broken 1 0 0 [] ∷
    reads (class_front ++ (48 ∷ 50 ∷ [])) broken 1 0 0 [] ∷
    reads (class_front ++ (48 ∷ 50 ∷ 13 ∷ 10 ∷ [])) broken 1 0 0 [] ∷
    -- its digits in line 01 are payload
    reads (taking_front ++ (48 ∷ 51 ∷ 10 ∷ [])) the_taking 0 14 16 (48 ∷ 51 ∷ []) ∷
    -- every digit of it by its value
    reads (48 ∷ 52 ∷ 51 ∷ 52 ∷ 53 ∷ 54 ∷ 55 ∷ 56 ∷ 57 ∷ 65 ∷ 66 ∷ 67 ∷ 68 ∷ 69 ∷ 70 ∷ 49 ∷ 10 ∷ []) (command (class_line 13398 2023406814 241)) 0 0 0 [] ∷
    -- no line of number 05, 40, 30 or 20, with the length of 04 either; no 0A, none at the end, a 0D before it; empty
    reads (48 ∷ 53 ∷ 10 ∷ []) broken 1 0 0 [] ∷
    reads (48 ∷ 53 ∷ 48 ∷ 49 ∷ 48 ∷ 50 ∷ 48 ∷ 65 ∷ 48 ∷ 66 ∷ 48 ∷ 67 ∷ 48 ∷ 68 ∷ 48 ∷ 50 ∷ 10 ∷ []) broken 1 0 0 [] ∷
    reads (52 ∷ 48 ∷ 48 ∷ 49 ∷ 48 ∷ 50 ∷ 48 ∷ 65 ∷ 48 ∷ 66 ∷ 48 ∷ 67 ∷ 48 ∷ 68 ∷ 48 ∷ 50 ∷ 10 ∷ []) broken 1 0 0 [] ∷
    reads (51 ∷ 48 ∷ 10 ∷ []) broken 1 0 0 [] ∷
    reads (50 ∷ 48 ∷ 10 ∷ []) broken 1 0 0 [] ∷
    reads (48 ∷ 50 ∷ []) broken 1 0 0 [] ∷
    reads (48 ∷ 50 ∷ 10 ∷ 48 ∷ []) broken 1 0 0 [] ∷
    reads (48 ∷ 50 ∷ 13 ∷ 10 ∷ []) broken 1 0 0 [] ∷
    reads (10 ∷ []) broken 1 0 0 [] ∷
    reads [] broken 1 0 0 [] ∷
    []

pub lines_read_by_hand : read_by lines_read ≡ lines_read
unfolding is_digit digit_value number_from all_digits count_digits numbers_at forms found front_size payload_fits has_length line_number body number_at
    command_of read_digits read read_refusal place_of payload_place payload
lines_read_by_hand = refl

-- A WRITING BY HAND, into a buffer of so many sevens: the reply, and the buffer afterwards
pub record Write : Type 0 where
  pub asked : Command
  pub payload : List ℕ
  pub room : ℕ
  pub reply : Reply
  pub buffer : List ℕ

abbrev pub writes : Command → List ℕ → ℕ → Reply → List ℕ → Write
writes c ps n a z = record { asked = c; payload = ps; room = n; reply = a; buffer = z }

abbrev pub sevens : ℕ → List ℕ
sevens n = replicate n 7

abbrev pub written_by : List Write → List Write
written_by [] = []
written_by (x ∷ xs) =
    let c = x.asked in
    let ps = x.payload in
    let n = x.room in
    writes c ps n (write_answer c ps n) (write_left c ps (sevens n)) ∷ written_by xs

abbrev pub lines_written : List Write
lines_written =
    -- room to spare, just enough, and one byte too few
    writes (take_line 258 168496141) (70 ∷ 48 ∷ []) 20 (amount 17) (taking_front ++ (70 ∷ 48 ∷ 10 ∷ 7 ∷ 7 ∷ 7 ∷ [])) ∷
    writes (take_line 258 168496141) (70 ∷ 48 ∷ []) 17 (amount 17) (taking_front ++ (70 ∷ 48 ∷ 10 ∷ [])) ∷
    writes (take_line 258 168496141) (70 ∷ 48 ∷ []) 16 (refused 12) (sevens 16) ∷
    -- 48 digits; 50, 1 and lower-case ones could not stand in a line, whatever the room
    writes (take_line 258 168496141) (sixteen ++ sixteen ++ sixteen) 64 (amount 63) (taking_front ++ sixteen ++ sixteen ++ sixteen ++ (10 ∷ 7 ∷ [])) ∷
    writes (take_line 258 168496141) (sixteen ++ sixteen ++ sixteen ++ (48 ∷ 48 ∷ [])) 70 (refused 1) (sevens 70) ∷
    writes (take_line 258 168496141) (48 ∷ []) 20 (refused 1) (sevens 20) ∷
    writes (take_line 258 168496141) (102 ∷ 48 ∷ []) 20 (refused 1) (sevens 20) ∷
    -- 1 comes before 12
    writes (take_line 258 168496141) (48 ∷ []) 3 (refused 1) (sevens 3) ∷
    -- a slot of more than four digits; the most of four and of eight
    writes (take_line 65536 1) [] 20 (refused 1) (sevens 20) ∷
    writes (take_line 65535 4294967295) [] 15 (amount 15) (48 ∷ 49 ∷ 70 ∷ 70 ∷ 70 ∷ 70 ∷ 70 ∷ 70 ∷ 70 ∷ 70 ∷ 70 ∷ 70 ∷ 70 ∷ 70 ∷ 10 ∷ []) ∷
    writes (take_line 1 4294967296) [] 20 (refused 1) (sevens 20) ∷
    -- every digit by its value
    writes (take_line 13398 2023406814) [] 15 (amount 15) (48 ∷ 49 ∷ 51 ∷ 52 ∷ 53 ∷ 54 ∷ 55 ∷ 56 ∷ 57 ∷ 65 ∷ 66 ∷ 67 ∷ 68 ∷ 69 ∷ 10 ∷ []) ∷
    -- line 04: room to spare, just enough, one byte too few; 48 payload digits; 1, 50 and lower-case ones could not stand
    writes (class_line 258 168496141 2) (70 ∷ 48 ∷ []) 20 (amount 19) (class_front ++ (48 ∷ 50 ∷ 70 ∷ 48 ∷ 10 ∷ 7 ∷ [])) ∷
    writes (class_line 258 168496141 2) (70 ∷ 48 ∷ []) 19 (amount 19) (class_front ++ (48 ∷ 50 ∷ 70 ∷ 48 ∷ 10 ∷ [])) ∷
    writes (class_line 258 168496141 2) (70 ∷ 48 ∷ []) 18 (refused 12) (sevens 18) ∷
    writes (class_line 258 168496141 2) [] 17 (amount 17) (class_front ++ (48 ∷ 50 ∷ 10 ∷ [])) ∷
    writes (class_line 258 168496141 2) [] 16 (refused 12) (sevens 16) ∷
    writes (class_line 258 168496141 3) (sixteen ++ sixteen ++ sixteen) 66 (amount 65) (class_front ++ (48 ∷ 51 ∷ sixteen) ++ sixteen ++ sixteen ++ (10 ∷ 7 ∷ [])) ∷
    writes (class_line 258 168496141 3) (sixteen ++ sixteen ++ sixteen ++ (48 ∷ 48 ∷ [])) 70 (refused 1) (sevens 70) ∷
    writes (class_line 258 168496141 3) (48 ∷ []) 20 (refused 1) (sevens 20) ∷
    writes (class_line 258 168496141 3) (48 ∷ []) 3 (refused 1) (sevens 3) ∷
    writes (class_line 258 168496141 3) (102 ∷ 48 ∷ []) 20 (refused 1) (sevens 20) ∷
    -- a class above 3 stands in the line, one of more than two digits does not; nor a slot or a weight too long
    writes (class_line 258 168496141 0) [] 17 (amount 17) (class_front ++ (48 ∷ 48 ∷ 10 ∷ [])) ∷
    writes (class_line 258 168496141 4) [] 17 (amount 17) (class_front ++ (48 ∷ 52 ∷ 10 ∷ [])) ∷
    writes (class_line 258 168496141 255) [] 18 (amount 17) (class_front ++ (70 ∷ 70 ∷ 10 ∷ 7 ∷ [])) ∷
    writes (class_line 258 168496141 256) [] 18 (refused 1) (sevens 18) ∷
    writes (class_line 65536 1 0) [] 18 (refused 1) (sevens 18) ∷
    writes (class_line 1 4294967296 0) [] 18 (refused 1) (sevens 18) ∷
    writes (class_line 65535 4294967295 255) [] 17 (amount 17) (48 ∷ 52 ∷ 70 ∷ 70 ∷ 70 ∷ 70 ∷ 70 ∷ 70 ∷ 70 ∷ 70 ∷ 70 ∷ 70 ∷ 70 ∷ 70 ∷ 70 ∷ 70 ∷ 10 ∷ []) ∷
    writes (class_line 13398 2023406814 241) [] 17 (amount 17) (48 ∷ 52 ∷ 51 ∷ 52 ∷ 53 ∷ 54 ∷ 55 ∷ 56 ∷ 57 ∷ 65 ∷ 66 ∷ 67 ∷ 68 ∷ 69 ∷ 70 ∷ 49 ∷ 10 ∷ []) ∷
    -- an opening, a sending and a sealing have no payload
    writes (open_line 4095) [] 8 (amount 7) (48 ∷ 48 ∷ 48 ∷ 70 ∷ 70 ∷ 70 ∷ 10 ∷ 7 ∷ []) ∷
    writes (open_line 4095) (48 ∷ 48 ∷ []) 9 (refused 1) (sevens 9) ∷
    writes (open_line 65536) [] 9 (refused 1) (sevens 9) ∷
    writes send_line [] 3 (amount 3) (48 ∷ 50 ∷ 10 ∷ []) ∷
    writes send_line [] 2 (refused 12) (sevens 2) ∷
    writes send_line (48 ∷ 48 ∷ []) 9 (refused 1) (sevens 9) ∷
    writes seal_line [] 3 (amount 3) (48 ∷ 51 ∷ 10 ∷ []) ∷
    writes seal_line [] 5 (amount 3) (48 ∷ 51 ∷ 10 ∷ 7 ∷ 7 ∷ []) ∷
    writes seal_line [] 2 (refused 12) (sevens 2) ∷
    writes seal_line (48 ∷ 48 ∷ []) 9 (refused 1) (sevens 9) ∷
    writes seal_line (48 ∷ []) 2 (refused 1) (sevens 2) ∷
    []

pub lines_written_by_hand : written_by lines_written ≡ lines_written
unfolding digit is_digit digits all_digits numerals fit_digits forms found payload_fits line_number values_of front text stands write_refusal
    write_answer write_left
lines_written_by_hand = refl

-- EACH COMMAND's CALL, where 01 means class 0, and where its payload begins
abbrev pub commands : List Command
commands = open_line 5 ∷ take_line 6 7 ∷ send_line ∷ seal_line ∷ class_line 6 7 2 ∷ class_line 6 7 255 ∷ []

pub commands_called_by_hand :
    map call_of commands
    ≡ opening (until 5)
    ∷ acting (taking (framed 6 7 0))
    ∷ acting sending
    ∷ acting sealing
    ∷ acting (taking (framed 6 7 2))
    ∷ acting (taking (framed 6 7 255))
    ∷ []
unfolding call_of
commands_called_by_hand = refl

pub payloads_by_hand : map payload_from commands ≡ 0 ∷ 14 ∷ 0 ∷ 0 ∷ 16 ∷ 16 ∷ []
payloads_by_hand = refl

pub numbers_by_hand : map line_number commands ≡ 0 ∷ 1 ∷ 2 ∷ 3 ∷ 4 ∷ 4 ∷ []
unfolding line_number
numbers_by_hand = refl
