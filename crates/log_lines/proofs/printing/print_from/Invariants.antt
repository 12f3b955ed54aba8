use mathlib.Core.Path.{◌≡◌}
use Prim.Native.Nat.{◌+◌}
use Rattle.log_lines.specs.FrameCounts.{frames_from}
use Rattle.log_lines.proofs.CountLaws.{left}
use Rattle.log_lines.proofs.printing.print_from.Given as goal

abbrev pub invariant-loop-frames : goal.invariant-loop-frames
invariant-loop-frames l = l.frames + left l.frames l.reached l.log ≡ frames_from l.initial.reached l.log
