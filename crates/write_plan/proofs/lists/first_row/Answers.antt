use Rattle.write_plan.proofs.lists.first_row.Goals as goal

pub returns : goal.returns
returns c =
    λ k. record { time = c.word_at.ensures k; tag = c.word_at-2.ensures k; start = c.word_at-3.ensures k; length = c.word_at-4.ensures k }
