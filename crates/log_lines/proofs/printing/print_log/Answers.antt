use mathlib.Core.Path.{ap, subst}
use mathlib.Core.Bool.{true, false}
use Rattle.log_lines.specs.FrameCounts.{AllPrinted}
use Rattle.log_lines.proofs.CountLaws.{is_opened, counts_open}
use Rattle.log_lines.proofs.printing.print_log.Goals as goal

pub returns-in_ok-print_settings-in-Ok : goal.returns-in_ok-print_settings-in-Ok
returns-in_ok-print_settings-in-Ok c =
    let o = c.open-opened in
    let e = counts_open c.args.log.now o.result.cursor o.result.answer true o.ensures (ap is_opened c.in-Ok.is) in
    subst (AllPrinted c.print_from.result) e c.print_from.ensures

pub returns-in-Err : goal.returns-in-Err
returns-in-Err c =
    let o = c.open-opened in
    let e = counts_open c.args.log.now o.result.cursor o.result.answer false o.ensures (ap is_opened c.in-Err.is) in
    subst (AllPrinted c.print_fault.result) e c.print_fault.ensures
