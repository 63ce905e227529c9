-- `round::sound::judged` meets its contract: each answer from what the tests on the way have shown.
use mathlib.Core.Path.{◌≡◌, sym, ◌∙◌}
use native.Mathlib.Omega.{arith}
use lib.ListN.{drop}
use Rattle.rules.specs.Conditions.{Bytes, row_at}
use Rattle.theory.specs.Judge.{zeros}
use Rattle.round.proofs.JudgeLaws.{good_long, good_here, HeadSound, head_here, rows_fit, refused_2, head_refused, rows_refused, unused_refused, judge_accepts, scan_accepts}
use Rattle.round.proofs.sound.judged.Goals as goal

pub returns-then-not-length_is_good : goal.returns-then-not-length_is_good
returns-then-not-length_is_good g c =
    let off = refused_2 _ (sym c.length_is_good.ensures ∙ c.if-not-length_is_good.true) in
    record { judged = off; counted = λ _. off }

pub read_head-round-requires : goal.read_head-round-requires
read_head-round-requires g c =
    (good_long _ (good_here _ _ c.length_is_good.ensures c.if-not-length_is_good.false)).0

pub head_is_sound-requires : goal.head_is_sound-requires
head_is_sound-requires g c =
    ((good_long _ (good_here _ _ c.length_is_good.ensures c.if-not-length_is_good.false)).0, c.read_head-round.ensures)

pub returns-then-not-head_is_sound : goal.returns-then-not-head_is_sound
returns-then-not-head_is_sound g c =
    let bytes : Bytes c.args.table.now = λ i. omega (arith, c.type_inv.table i) in
    let off = head_refused _ bytes (good_here _ _ c.length_is_good.ensures c.if-not-length_is_good.false)
    (sym c.head_is_sound.ensures ∙ c.if-not-head_is_sound.true) in
    record { judged = off; counted = λ _. off }

pub rows_pass-requires : goal.rows_pass-requires
rows_pass-requires g c =
    let bytes : Bytes c.args.table.now = λ i. omega (arith, c.type_inv.table i) in
    let head : HeadSound c.args.table.now c.read_head-round.result =
    head_here _ _ _ _ bytes c.length_is_good.ensures c.if-not-length_is_good.false c.read_head-round.ensures
    c.head_is_sound.ensures c.if-not-head_is_sound.false in
    ((rows_fit head).lent, λ h. c.requires h head.good)

pub returns-then-not-rows_pass : goal.returns-then-not-rows_pass
returns-then-not-rows_pass g c =
    let bytes : Bytes c.args.table.now = λ i. omega (arith, c.type_inv.table i) in
    let head : HeadSound c.args.table.now c.read_head-round.result =
    head_here _ _ _ _ bytes c.length_is_good.ensures c.if-not-length_is_good.false c.read_head-round.ensures
    c.head_is_sound.ensures c.if-not-head_is_sound.false in
    let off = rows_refused head c.rows_pass.ensures.judged c.if-not-rows_pass.true in
    record { judged = off; counted = λ _. off }

pub row_at-requires : goal.row_at-requires
row_at-requires g c =
    let bytes : Bytes c.args.table.now = λ i. omega (arith, c.type_inv.table i) in
    let head : HeadSound c.args.table.now c.read_head-round.result =
    head_here _ _ _ _ bytes c.length_is_good.ensures c.if-not-length_is_good.false c.read_head-round.ensures
    c.head_is_sound.ensures c.if-not-head_is_sound.false in
    omega (arith, (rows_fit head).lent.few)

pub zeros_from-requires : goal.zeros_from-requires
zeros_from-requires g c =
    let bytes : Bytes c.args.table.now = λ i. omega (arith, c.type_inv.table i) in
    let head : HeadSound c.args.table.now c.read_head-round.result =
    head_here _ _ _ _ bytes c.length_is_good.ensures c.if-not-length_is_good.false c.read_head-round.ensures
    c.head_is_sound.ensures c.if-not-head_is_sound.false in
    let f = rows_fit head in
    omega (arith, f.lent.within, f.whole)

pub returns-then-not-zeros_from : goal.returns-then-not-zeros_from
returns-then-not-zeros_from g c =
    let bytes : Bytes c.args.table.now = λ i. omega (arith, c.type_inv.table i) in
    let head : HeadSound c.args.table.now c.read_head-round.result =
    head_here _ _ _ _ bytes c.length_is_good.ensures c.if-not-length_is_good.false c.read_head-round.ensures
    c.head_is_sound.ensures c.if-not-head_is_sound.false in
    let unused : c.zeros_from.result ≡ zeros (drop (row_at c.read_head-round.result.used) c.args.table.now) = cc (c.row_at.ensures, c.zeros_from.ensures) in
    let off = unused_refused head (sym c.rows_pass.ensures.judged ∙ c.if-not-rows_pass.false) unused c.if-not-zeros_from.true in
    record { judged = off; counted = λ _. off }

pub returns : goal.returns
returns g c =
    let bytes : Bytes c.args.table.now = λ i. omega (arith, c.type_inv.table i) in
    let head : HeadSound c.args.table.now c.read_head-round.result =
    head_here _ _ _ _ bytes c.length_is_good.ensures c.if-not-length_is_good.false c.read_head-round.ensures
    c.head_is_sound.ensures c.if-not-head_is_sound.false in
    let unused : c.zeros_from.result ≡ zeros (drop (row_at c.read_head-round.result.used) c.args.table.now) = cc (c.row_at.ensures, c.zeros_from.ensures) in
    record {
      judged = judge_accepts head (sym c.rows_pass.ensures.judged ∙ c.if-not-rows_pass.false) unused c.if-not-zeros_from.false;
      counted = λ h. scan_accepts head (c.rows_pass.ensures.counted h) c.if-not-rows_pass.false unused c.if-not-zeros_from.false;
    }
