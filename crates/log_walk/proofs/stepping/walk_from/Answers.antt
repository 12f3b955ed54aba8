use mathlib.Core.Path.{◌≡◌, sym, ap, subst, ◌∙◌}
use Rattle.std.specs.Prelude.{Ok, Err, Result}
use Rattle.rtp.specs.declared.refusal.Fault.{Fault}
use Prim.Native.Nat.{◌-◌}
use native.Mathlib.Omega.{arith}
use lib.ListN.{length, drop, length-drop}
use Rattle.rtp.proofs.AreaLaws.{part_to_end}
use Rattle.rtp.proofs.ErrorLaws.{told_whole}
use Rattle.log_walk.specs.declared.frames.Next.{Next}
use Rattle.log_walk.specs.Stepping.{next_field, further, onward, walk}
use Rattle.log_walk.proofs.FieldLaws.{NextInside, next_inside}
use Rattle.log_walk.proofs.WalkLaws.{walk_next, walk_pass}
use Rattle.log_walk.proofs.stepping.walk_from.Goals.{After-next_field}
use Rattle.log_walk.proofs.stepping.walk_from.Goals as goal

-- the field at the place, its places inside what is left of the log
found : (c : After-next_field) (x : Result Next Fault) → c.next_field.result ≡ x
    → let a = c.args in next_field a.settings a.count (drop c.loop-f.at a.log.now) ≡ x
found c x e =
    let a = c.args in
    ap (next_field a.settings a.count) (sym (part_to_end c.loop-f.at a.log.now)) ∙ sym c.next_field.ensures ∙ e

inside : (c : After-next_field) (x : Result Next Fault) → c.next_field.result ≡ x → NextInside (length c.args.log.now - c.loop-f.at) x
inside c x e =
    let a = c.args in
    rw (← length-drop c.loop-f.at a.log.now)
    (subst (NextInside (length (drop c.loop-f.at a.log.now))) (found c x e) (next_inside a.settings a.count (drop c.loop-f.at a.log.now)))

-- the answer, where the field is not passed over
answered : (c : After-next_field) (x : Result Next Fault) → c.next_field.result ≡ x
    → let a = c.args in
    further c.loop-f.at (onward (walk a.settings a.count) (drop c.loop-f.at a.log.now) x)
    ≡ further a.place (walk a.settings a.count (drop a.place a.log.now))
answered c x e =
    let a = c.args in
    ap (further c.loop-f.at) (sym (walk_next a.settings a.count (drop c.loop-f.at a.log.now) x (found c x e))) ∙ c.loop-f.invariant.1

pub overflow_add-result : goal.overflow_add-result
overflow_add-result c =
    let i = inside (goal.at.overflow_add-result c).After-next_field _ (c.in-Ok-Frame.is ∙ ap Ok c.in-Ok-Frame.field-0-is) in omega (arith, i.1)

pub overflow_add-at : goal.overflow_add-at
overflow_add-at c =
    let i = inside (goal.at.overflow_add-at c).After-next_field _ (c.in-Ok-Pass.is ∙ ap Ok c.in-Ok-Pass.field-0-is) in omega (arith, i.1)

pub loop-f-smaller : goal.loop-f-smaller
loop-f-smaller c =
    let i = inside (goal.at.loop-f-smaller c).After-next_field _ (c.in-Ok-Pass.is ∙ ap Ok c.in-Ok-Pass.field-0-is) in omega (arith, i.0, i.1)

pub loop-f-preserved : goal.loop-f-preserved
loop-f-preserved c =
    let a = (goal.at.loop-f-preserved c).After-next_field in
    let i = inside a _ (c.in-Ok-Pass.is ∙ ap Ok c.in-Ok-Pass.field-0-is) in
    (omega (arith, i.1), sym (walk_pass _ _ c.loop-f.at _ _ (found a _ (c.in-Ok-Pass.is ∙ ap Ok c.in-Ok-Pass.field-0-is))) ∙ c.loop-f.invariant.1)

pub returns-in-Ok-Frame : goal.returns-in-Ok-Frame
returns-in-Ok-Frame c =
    answered (goal.at.returns-in-Ok-Frame c).After-next_field _ (c.in-Ok-Frame.is ∙ ap Ok c.in-Ok-Frame.field-0-is)

pub returns-in-Ok-End : goal.returns-in-Ok-End
returns-in-Ok-End c =
    answered (goal.at.returns-in-Ok-End c).After-next_field _ (c.in-Ok-End.is ∙ ap Ok c.in-Ok-End.field-0-is)

pub returns-in-Err : goal.returns-in-Err
returns-in-Err c =
    let i = inside (goal.at.returns-in-Err c).After-next_field _ c.in-Err.is in
    ap Err (c.shifted.ensures ∙ told_whole _ (omega (arith, i))) ∙ answered (goal.at.returns-in-Err c).After-next_field _ c.in-Err.is
