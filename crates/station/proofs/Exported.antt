-- An exported call's promise from that of the call behind it, for arguments that are equal numbers.
use mathlib.Core.Path.{◌≡◌, ap, ◌∙◌}
use mathlib.Core.List.{List}
use Prim.Native.Nat.{ℕ}
use Rattle.rules.specs.Rows.{framed, until}
use Rattle.rules.specs.Calls.{taking, marking, Call, opening, acting, asking, Reply, Says}
use Rattle.rules.specs.Looking.{substitute_answer, Looks}
use Rattle.packing.specs.Packing.{pack}
use Rattle.station.specs.Exports.{Exports, ExportsLook}

pub opening_exported : (l m n : ℕ) (a : Reply) (t z : List ℕ) → m ≡ l → n ≡ pack a → Says (opening (until m)) a t z → Exports (opening (until l)) n t z
opening_exported l m n a t z e f s = let x : Exports (opening (until m)) n t z = (f ∙ ap pack s.0, s.1) in rw e at x

pub taking_exported : (d w c d' w' c' n : ℕ) (a : Reply) (t z : List ℕ) → d' ≡ d → w' ≡ w → c' ≡ c → n ≡ pack a →
    Says (acting (taking (framed d' w' c'))) a t z → Exports (acting (taking (framed d w c))) n t z
taking_exported d w c d' w' c' n a t z e g h f s =
    let x : Exports (acting (taking (framed d' w' c'))) n t z = (f ∙ ap pack s.0, s.1) in rw (e, g, h) at x

-- sending, sealing, and a total
pub exported : (c : Call) (n : ℕ) (a : Reply) (t z : List ℕ) → n ≡ pack a → Says c a t z → Exports c n t z
exported c n a t z f s = (f ∙ ap pack s.0, s.1)

pub marking_exported : (s u n : ℕ) (a : Reply) (t z : List ℕ) → u ≡ s → n ≡ pack a → Says (asking (marking u)) a t z →
    Exports (asking (marking s)) n t z
marking_exported s u n a t z e f g = let x : Exports (asking (marking u)) n t z = (f ∙ ap pack g.0, g.1) in rw e at x

pub substitute_exported : (k u n : ℕ) (a : Reply) (t z : List ℕ) → u ≡ k → n ≡ pack a → Looks (substitute_answer u t) a t z →
    ExportsLook (substitute_answer k t) n t z
substitute_exported k u n a t z e f g = (f ∙ ap pack (g.0 ∙ ap (λ (v : ℕ). substitute_answer v t) e), g.1)
