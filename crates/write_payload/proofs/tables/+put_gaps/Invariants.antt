use Rattle.write_payload.proofs.tables.+put_gaps.Given as goal

abbrev pub decreases-put_gaps : goal.decreases-put_gaps
decreases-put_gaps l = l.blocks
