-- `writer::values_fit` meets its contract: the closure's test is the definition's.
use mathlib.Core.Path.{◌∙◌}
use Prim.Native.Nat.{◌^◌}
use lib.Dec.{ltb}
use borrow.Author.Rules.{rules}
use borrow.Author.Tests.{tests}
use Rattle.std.proofs.lemmas.Iterator.{YieldsList-from_slice, YieldsList-from_zip}
use Rattle.std.proofs.lemmas.Iterator.Search.{all_from_yields_List}
use Rattle.writer.proofs.Writing.{fit_zip}
use Rattle.writer.proofs.values_fit.Goals as goal

pub returns : goal.returns
returns c =
    all_from_yields_List {v = λ p. (p.0.now, p.1.now)} (λ p. ltb p.0 (16 ^ p.1)) c.all.new.self _ c.all.result c.all.ensures.ran
    (YieldsList-from_zip (YieldsList-from_slice c.args.values.now cc) (YieldsList-from_slice c.args.widths.now cc)) (λ x b q k. search (rules, tests))
    ∙ fit_zip c.args.widths.now c.args.values.now c.requires
