-- Document 02, P2: the checked places, computed on the definitions.
use mathlib.Core.Path.{refl}
use Rattle.rtp.specs.Ranges.{max_channels, in_range}
use Rattle.read_headers.specs.Header.{payload_start, payload_end, fields, header}
use Rattle.read_headers.specs.Redundancy.{block_header, headers_by, headers, redundancy_headers, headers_size, redundant_size}
use Rattle.formats.specs.Formats.{format_of}
use Rattle.formats.specs.Frames.{g719_length, amr_length, length_in, frame_in}
use Rattle.read_contents.specs.Contents.{min_entry, gaps_size, entry_size, entry_of, gaps_from, meaning, contents_by, contents, size_in, frames_in}
use Rattle.read_payload.specs.Payloads.{payload, placed_rows, payload_rows}
use Rattle.read_redundancy.specs.Blocks.{cut, typed_block_rows, blocks_rows, redundant_rows}
use Rattle.read_packet.specs.Readings.{typed_rows, reading}
use Rattle.read_claims.specs.Places.{CheckedPlaces}

pub checked_places : CheckedPlaces
unfolding max_channels in_range payload_start payload_end fields header block_header headers_by headers redundancy_headers headers_size redundant_size format_of g719_length amr_length length_in frame_in min_entry gaps_size entry_size entry_of gaps_from meaning contents_by contents size_in frames_in payload placed_rows payload_rows cut typed_block_rows blocks_rows redundant_rows typed_rows reading
checked_places = record {
  empty = (refl, refl);
  empty_amr = (refl, refl);
  missing = (refl, refl);
  missing_amr = (refl, refl);
  cut_short = refl;
  reserved = refl;
  no_blocks = refl;
  too_many = refl;
  mismatch = (refl, refl);
  mismatch_amr = refl;
  cut_header = (refl, refl);
  lengths = refl;
  second_block = refl;
  block_mismatch = refl;
  elsewhere = (refl, refl);
}
