-- A turn by the call that its command asks for.
use mathlib.Core.Path.{◌≡◌, ap}
use mathlib.Core.List.{List}
use Prim.Native.Nat.{ℕ}
use Rattle.rules.specs.Rows.{framed, until}
use Rattle.rules.specs.Calls.{taking, opening, acting, Call, Reply, Says}
use Rattle.rules.specs.Lines.{Command, call_of, reply_text}
use Rattle.replying.specs.Replying.{Replies}
use Rattle.turns.specs.Turns.{Turns}

-- the call is made on the table, and its reply's line written
pub turned : (c : Command) {o : Reply} {t z before after : List ℕ} {r : ℕ} → Says (call_of c) o t z → Replies (reply_text o) before after r →
    Turns c t z before after r
turned c s p = record { said = rw (← s.0) p; moved = s.1 }

-- the call that a command asks for, and its reply by another name
pub asked : (c : Command) (t : List ℕ) {k : Call} {o p : Reply} {z : List ℕ} → call_of c ≡ k → p ≡ o → Says k o t z → Says (call_of c) p t z
asked c t e f s = rw (e, f) s

-- calls of equal numbers
pub same_opening : {l m : ℕ} → l ≡ m → opening (until l) ≡ opening (until m)
same_opening e = ap (λ (n : ℕ). opening (until n)) e

pub same_taking : {d e w v a b : ℕ} → d ≡ e → w ≡ v → a ≡ b → acting (taking (framed d w a)) ≡ acting (taking (framed e v b))
same_taking p q r = rw (p, q, r)
