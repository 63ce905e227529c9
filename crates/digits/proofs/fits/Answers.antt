-- `digits::fits` meets its contract: eight digits hold each number, fewer those below their power of 16.
use mathlib.Core.Path.{◌≡◌}
use Prim.Native.Nat.{ℕ, ◌^◌, ◌≤◌, ◌<◌}
use native.Mathlib.Omega.{arith}
use native.Mathlib.Nat.{pow-suc, pow-le-pow_right}
use lib.Dec.{ltb, leb}
use borrow.Author.Rules.{rules}
use borrow.Author.Tests.{lt-ltb, le-leb}
use Rattle.digits.proofs.fits.Goals as goal

pub pow-requires : goal.pow-requires
pow-requires c = omega (arith, pow-suc 16 c.args.count, pow-le-pow_right {n = 16} (omega arith) c.if-count-ge-WIDE_DIGITS.false)

eight_hold : (v n : ℕ) → v < 4294967296 → 8 ≤ n → leb 8 n ≡ ltb v (16 ^ n)
eight_hold v n f h = rw (le-leb 8 n h, lt-ltb v (16 ^ n) (omega (arith, f, pow-le-pow_right {n = 16} (omega arith) h)))

pub returns-then-count-ge-WIDE_DIGITS : goal.returns-then-count-ge-WIDE_DIGITS
returns-then-count-ge-WIDE_DIGITS c = eight_hold c.args.value c.args.count (search rules) c.if-count-ge-WIDE_DIGITS.true
