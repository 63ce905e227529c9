-- What the rows so far must have shown.
use Rattle.std.specs.Prelude.{Bool, ◌&&◌, ltb}
use Rattle.rules.specs.Limits.{most_weight}
use Rattle.seen.specs.declared.Seen.{Seen}

-- no weight or plain word so far is out of bounds
abbrev pub fair : Seen → Bool
fair s = ltb s.weights most_weight && ltb s.plain 1024
