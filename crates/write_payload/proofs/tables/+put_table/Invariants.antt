use lib.ListN.{length}
use Rattle.write_payload.proofs.tables.+put_table.Given as goal

abbrev pub decreases-put_table : goal.decreases-put_table
decreases-put_table l = length l.rows.now
