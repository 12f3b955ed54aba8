use Rattle.std.proofs.Common.{arith}
use Rattle.std.proofs.lemmas.Bool.Decides.{nat_tests}
use Rattle.buffer_insert.specs.Laying.{can_insert}
use Rattle.buffer_insert.proofs.LayingLaws.{insertable}
use Rattle.buffer_insert.proofs.laying.can_insert.Goals as goal

pub returns-then-size-le-SLOT_SIZE : goal.returns-then-size-le-SLOT_SIZE
unfolding can_insert
returns-then-size-le-SLOT_SIZE c = record { test = grind (arith, nat_tests); fits = λ h. insertable _ _ _ _ _ (grind (arith, nat_tests)) }

pub returns-else-size-le-SLOT_SIZE : goal.returns-else-size-le-SLOT_SIZE
unfolding can_insert
returns-else-size-le-SLOT_SIZE c = record { test = grind (arith, nat_tests); fits = λ h. insertable _ _ _ _ _ (grind (arith, nat_tests)) }
