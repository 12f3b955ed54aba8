use Rattle.std.proofs.Common.{◌≡◌, ℕ, ◌+◌, ◌*◌, ◌%◌, ◌^◌, ◌≤◌, ap, ◌∙◌, mul-le-mul_left, arith}
use Rattle.formats.specs.Frames.{step_of}
use Rattle.formats.proofs.FormatLaws.{max_step, step_fine}
use Rattle.read_contents.specs.Contents.{gap_at}
use Rattle.read_rows.specs.Rows.{placed}
use Rattle.read_rows.proofs.GroupLaws.{time_none, group_none, time_more, group_put}
use Rattle.read_rows.proofs.rows.put_group.Goals as goal

pub loop-k-init : goal.loop-k-init
loop-k-init c =
    let a = c.args in
    let p = a.payload.now in
    let f = a.frame in
    record {
      counted = time_none p.mark p.format (step_of p.format) p.channels f.time f.class f.start f.size a.s.now a.rows.now;
      written = group_none p.mark p.format (step_of p.format) p.channels f.time f.class f.start f.size a.s.now a.rows.now;
    }

pub overflow_mul-skipped : goal.overflow_mul-skipped
overflow_mul-skipped c =
    let s : c.step_of-step.result ≤ max_step = omega (arith, c.step_of-step.ensures, (step_fine c.args.payload.now.format).small) in
    omega (arith, mul-le-mul_left c.gap.result s, c.gap.ensures.1)

pub loop-k-preserved : goal.loop-k-preserved
loop-k-preserved c =
    let a = c.args in
    let p = a.payload.now in
    let f = a.frame in
    let k = c.loop-k.k in
    let here = c.wrapping_add_u32-here.result in
    let place : here ≡ placed (step_of p.format) c.loop-k.time (gap_at p.format a.s.now k) =
    c.wrapping_add_u32-here.ensures.value
    ∙ ap (λ (x : ℕ). (c.loop-k.time + x) % 2 ^ 32) (ap (λ (g : ℕ). g * c.step_of-step.result) c.gap.ensures.0 ∙ ap (λ (n : ℕ). gap_at p.format a.s.now k * n) c.step_of-step.ensures) in
    record {
      counted = time_more p.mark p.format (step_of p.format) p.channels f.time f.class f.start f.size a.s.now a.rows.now k c.loop-k.time here c.loop-k.invariant.counted place _
          (c.wrapping_add_u32-time.ensures.value ∙ ap (λ (x : ℕ). (here + x) % 2 ^ 32) c.step_of-step.ensures);
      written = group_put p.mark p.format (step_of p.format) p.channels f.time f.class f.start f.size a.s.now a.rows.now k c.loop-k.time here c.loop-k.invariant.counted place _ _ c.loop-k.invariant.written c.put_block.ensures;
    }
