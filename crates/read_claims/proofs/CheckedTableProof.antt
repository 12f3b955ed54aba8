-- Document 01's checked table, lines 1 to 7, computed on the definitions.
use mathlib.Core.Path.{refl}
use Rattle.rtp.specs.Ranges.{max_channels, in_range}
use Rattle.read_headers.specs.Header.{payload_start, payload_end, fields, header}
use Rattle.read_headers.specs.Redundancy.{block_header, headers_by, headers, redundancy_headers, headers_size, redundant_size}
use Rattle.formats.specs.Formats.{format_of}
use Rattle.formats.specs.Frames.{g719_length, length_in, frame_in}
use Rattle.read_contents.specs.Contents.{min_entry, gaps_size, entry_size, entry_of, gap_at, gaps_from, meaning, contents_by, contents, size_in, frames_in}
use Rattle.read_rows.specs.Rows.{time_after, group_rows, table_rows, marked}
use Rattle.read_rows.specs.Rows.{block_rows}
use Rattle.read_payload.specs.Payloads.{payload, placed_rows, payload_rows}
use Rattle.read_redundancy.specs.Blocks.{cut, typed_block_rows, blocks_rows, redundant_rows}
use Rattle.read_packet.specs.Readings.{typed_rows, reading}
use Rattle.read_claims.specs.CheckedTable.{CheckedTable}

pub checked_table : CheckedTable
unfolding max_channels in_range payload_start payload_end fields header block_header headers_by headers redundancy_headers headers_size redundant_size format_of g719_length length_in frame_in min_entry gaps_size entry_size entry_of gap_at gaps_from meaning contents_by contents size_in frames_in time_after group_rows table_rows block_rows payload placed_rows payload_rows cut typed_block_rows blocks_rows redundant_rows typed_rows reading marked
checked_table = record {
  frame_lengths = (refl, refl, refl, refl);
  reserved_entries = (refl, refl);
  reserved_packets = (refl, refl);
  reserved_number = refl;
  mixed_size = refl;
  mixed_rows = refl;
  stereo_size = refl;
  stereo_rows = refl;
  interleaved_rows = refl;
  wrapped_rows = refl;
  block_header_lem = refl;
  block_headers_lem = refl;
  redundant_time = refl;
  redundant_rows_lem = refl;
  gsm_rows = refl;
}
