use Rattle.std.proofs.Common.{ltb, take, ◌∙◌, sym, rules, tests, arith}
use Rattle.std.proofs.lemmas.Iterator.{YieldsList-from_slice}
use Rattle.std.proofs.lemmas.Iterator.Search.{all_from_yields_List}
use Rattle.buffer_copies.specs.Pairs.{half, ahead}
use Rattle.buffer_layout.proofs.ColumnLaws.{within_all}
use Rattle.buffer_columns.proofs.columns.all_within.Goals as goal

pub returns : goal.returns
returns c =
    let a = c.args in
    all_from_yields_List (λ x. ltb (ahead x a.time) half) _ _ _ c.all.ensures.ran (YieldsList-from_slice (take a.n a.times.now) cc) (λ x b q k. search (rules, tests))
    ∙ sym (within_all a.times.now a.time a.n 0 (omega arith))
