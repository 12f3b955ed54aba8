use mathlib.Core.Path.{ap, sym}
use mathlib.Core.List.{List}
use Rattle.read_rows.specs.Rows.{Row}
use Rattle.read_rows.proofs.RowLaws.{rows_none, rows_more}
use Rattle.write_plan.specs.Lists.{first_time}
use Rattle.write_parts.proofs.sizes.first_time.Goals as goal

pub returns-then-rows-lt-ROW_WIDTH : goal.returns-then-rows-lt-ROW_WIDTH
returns-then-rows-lt-ROW_WIDTH c =
    sym (ap (λ (l : List Row). first_time l) (rows_none c.args.rows.now c.if-rows-lt-ROW_WIDTH.true))

pub returns : goal.returns
returns c =
    sym (ap (λ (l : List Row). first_time l) (rows_more c.args.rows.now c.if-rows-lt-ROW_WIDTH.false))
