-- The figures of RFC 3550, appendix A.1 (document 02, P7): each is named here and used by name.
use Rattle.std.specs.Prelude.{ℕ, ◌+◌}

-- the sequence numbers there are, and one that none of them is
abbrev pub sequences : ℕ
sequences = 65536

abbrev pub no_sequence : ℕ
no_sequence = sequences + 1

-- the packets in sequence that make a source valid
abbrev pub min_sequential : ℕ
min_sequential = 2

-- a step forward is in order under the first of these, and one back under the second: the largest are 2,999 and 99
abbrev pub max_dropout : ℕ
max_dropout = 3000

abbrev pub max_misorder : ℕ
max_misorder = 100
