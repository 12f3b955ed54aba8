use mathlib.Core.Path.{sym, ◌∙◌}
use native.Mathlib.Omega.{arith}
use Rattle.write_plan.proofs.ListLaws.{outside_none, outside_here, outside_more}
use Rattle.write_plan.proofs.lists.any_outside.Goals as goal

pub returns-then-n-end : goal.returns-then-n-end
returns-then-n-end c =
    let s = c.in-Some.ensures.steps in
    sym (c.loop-words.invariant.same ∙ outside_here c.args.n _ c.in-Some.words.now _ s.1.0 (s.1.1 ∙ c.loop-words.invariant.size) (omega (arith, c.if-n-end.true, c.wide-in-loop-words.ensures.0, c.wide.ensures.0)))

pub loop-words-preserved : goal.loop-words-preserved
loop-words-preserved c =
    let s = c.in-Some.ensures.steps in
    record {
      size = s.0 ∙ c.loop-words.invariant.size;
      same = c.loop-words.invariant.same ∙ outside_more c.args.n _ c.in-Some.words.now _ s.1.0 (s.1.1 ∙ c.loop-words.invariant.size) (omega (arith, c.if-n-end.false, c.wide-in-loop-words.ensures.0, c.wide.ensures.0));
    }

pub returns : goal.returns
returns c =
    sym (c.loop-words.invariant.same ∙ outside_none c.args.n _ (rw c.loop-words.invariant.size at c.in-None.ensures.steps.1.0))
