-- Laws of the payloads of a packet's lists as they are put one after another, and of the room that they need.
use mathlib.Core.Path.{◌≡◌, refl, ap, sym, ◌∙◌, subst}
use Rattle.std.specs.Prelude.{Result, Ok, Err}
use Rattle.std.specs.Result.{result_unwrap_or}
use Rattle.rtp.specs.declared.refusal.Refusal.{Refusal}
use mathlib.Core.List.{List, ◌++◌}
use Prim.Native.Nat.{ℕ, ◌+◌, ◌-◌, ◌*◌, ◌%◌, ◌≤◌, ◌<◌}
use native.Mathlib.Omega.{arith}
use lib.ListN.{length, get_or, take, drop, set, length-append, length-drop}
use borrow.Author.Tests.{le-ltb, eq-eqb}
use Rattle.rtp.specs.Editions.{Edition}
use Rattle.rtp.specs.Sizes.{row_width}
use Rattle.rtp.specs.Areas.{over}
use Rattle.rtp.specs.declared.settings.Settings.{Settings}
use Rattle.read_rows.specs.Rows.{rows_in}
use Rattle.write_payload.specs.Writings.{Encoded, no_bytes, bytes_of, encoded, room_for, writing, encoded_numbers, encoded_bytes}
use Rattle.write_sizes.specs.Measures.{Numbers, written_numbers}
use Rattle.write_packet.specs.Room.{list_bytes, lists_payloads, list_header, lists_headers, list_headers_size, over_from, HeaderFits, HeadersFit, ListRoom, PayloadsRoom, BlockRoom, BlocksRoom}
use Rattle.rtp.proofs.AreaLaws.{over_one}
use Rattle.write_parts.proofs.WordLaws.{first_fits, counted_rest, inside_first, inside_rest, whole_first}
use Rattle.write_packet.proofs.FromLaws.{from_length}
use Rattle.write_packet.proofs.ListBytesLaws.{headers_one, headers_more, fit_more, payloads_one, payloads_more}

-- One list

room_all : (x : Encoded) (area : ℕ) → length (encoded_bytes x) ≤ area → room_for area x ≡ x
unfolding encoded_bytes
room_all (no_bytes q) area h = refl
room_all (bytes_of p) area h = rw (le-ltb area (length p) h)

count_all : (x : Encoded) → (encoded_numbers x).count ≡ length (encoded_bytes x)
unfolding encoded_numbers encoded_bytes
count_all (no_bytes q) = refl
count_all (bytes_of p) = refl

-- the count, and 0 on refusal
count_or : (w : Result ℕ Refusal) → result_unwrap_or w 0 ≡ (written_numbers w).count
count_or (Ok n) = refl
count_or (Err r) = refl

module _ (ed : Edition) (st : Settings) (request : ℕ) (bytes ws : List ℕ) (area : ℕ) (r : ListRoom ed st request bytes ws area) where
  pub list_writing : writing ed st request ws bytes area ≡ encoded ed st request bytes (rows_in ws)
  unfolding writing
  list_writing = rw (r.settings, r.inside, eq-eqb (length ws % row_width) 0 r.whole_rows) (room_all (encoded ed st request bytes (rows_in ws)) area r.room)

  pub list_count : (w v : Result ℕ Refusal) → w ≡ v → written_numbers w ≡ encoded_numbers (writing ed st request ws bytes area) → (written_numbers v).count ≡ length (list_bytes ed st request bytes ws)
  list_count w v e h =
      ap (λ (x : Result ℕ Refusal). (written_numbers x).count) (sym e) ∙ ap (λ (n : Numbers). n.count) h ∙ ap (λ (x : Encoded). (encoded_numbers x).count) list_writing ∙ count_all (encoded ed st request bytes (rows_in ws))

  pub list_size : (w : Result ℕ Refusal) → written_numbers w ≡ encoded_numbers (writing ed st request ws bytes area) → result_unwrap_or w 0 ≡ length (list_bytes ed st request bytes ws)
  list_size w h = count_or w ∙ list_count w w refl h

-- A first list and the others

module _ (ed : Edition) (st : Settings) (request : ℕ) (bytes counts ws : List ℕ) (area : ℕ) (r : PayloadsRoom ed st request bytes counts ws area) where
  pub room_one : length counts < 2 → ListRoom ed st request bytes ws area
  room_one h = record {
    settings = r.settings;
    inside = r.inside;
    whole_rows = omega (arith, r.counted);
    room = subst (λ (l : List ℕ). length l ≤ area) (payloads_one ed st request bytes counts ws h) r.room;
  }

  module _ (h : 2 ≤ length counts) (n : ℕ) (e : n ≡ row_width * get_or counts 0 0) where
    pub payloads_split : lists_payloads ed st request bytes counts ws ≡ list_bytes ed st request bytes (take n ws) ++ lists_payloads ed st request bytes (drop 1 counts) (drop n ws)
    payloads_split =
        subst (λ (k : ℕ). lists_payloads ed st request bytes counts ws ≡ list_bytes ed st request bytes (take k ws) ++ lists_payloads ed st request bytes (drop 1 counts) (drop k ws)) (sym e) (payloads_more ed st request bytes counts ws h)

    split_length : length (list_bytes ed st request bytes (take n ws)) + length (lists_payloads ed st request bytes (drop 1 counts) (drop n ws)) ≤ area
    split_length =
        let l = length-append (list_bytes ed st request bytes (take n ws)) (lists_payloads ed st request bytes (drop 1 counts) (drop n ws)) in
        subst (λ (k : ℕ). k ≤ area) l (subst (λ (l : List ℕ). length l ≤ area) payloads_split r.room)

    pub room_first : ListRoom ed st request bytes (take n ws) area
    room_first = record {
      settings = r.settings;
      inside = inside_first (length bytes) n (get_or counts 0 0) ws e r.inside;
      whole_rows = whole_first n (get_or counts 0 0) ws e (omega (arith, first_fits counts ws (omega arith) r.counted));
      room = omega (arith, split_length);
    }

    pub room_rest : (k : ℕ) → k ≡ length (list_bytes ed st request bytes (take n ws)) → PayloadsRoom ed st request bytes (drop 1 counts) (drop n ws) (area - k)
    room_rest k d = record {
      settings = r.settings;
      inside = inside_rest (length bytes) n (get_or counts 0 0) ws e r.inside;
      counted = counted_rest counts ws (omega arith) r.counted n e;
      room = omega (arith, split_length);
    }

-- A first block and the others

apart_rest : (c start k : ℕ) → 2 ≤ c → list_headers_size c ≤ start → list_headers_size (c - 1) ≤ start - 4 + k
apart_rest c start k h a = omega arith

inside_rest_of : (start area k : ℕ) → 4 ≤ start → start ≤ area → k ≤ area - start → start - 4 + k ≤ area - 4
inside_rest_of start area k h i r = omega arith

left_rest : (start area k : ℕ) → 4 ≤ start → area - start - k ≡ area - 4 - (start - 4 + k)
left_rest start area k h = omega arith

module _ (ed : Edition) (st : Settings) (request time : ℕ) (bytes counts ws : List ℕ) (start area : ℕ) (r : BlocksRoom ed st request time bytes counts ws start area) (h : 2 ≤ length counts) (n : ℕ) (e : n ≡ row_width * get_or counts 0 0) where
  fits : HeaderFits ed st request time bytes (take n ws) × HeadersFit ed st request time bytes (drop 1 counts) (drop n ws)
  fits =
      subst (λ (k : ℕ). HeaderFits ed st request time bytes (take k ws) × HeadersFit ed st request time bytes (drop 1 counts) (drop k ws)) (sym e)
      (fit_more ed st request time bytes counts ws h r.fit)

  pub headers_split : lists_headers ed st request time bytes counts ws ≡ list_header ed st request time bytes (take n ws) ++ lists_headers ed st request time bytes (drop 1 counts) (drop n ws)
  headers_split =
      subst (λ (k : ℕ). lists_headers ed st request time bytes counts ws ≡ list_header ed st request time bytes (take k ws) ++ lists_headers ed st request time bytes (drop 1 counts) (drop k ws)) (sym e)
      (headers_more ed st request time bytes counts ws h)

  pub block_first : BlockRoom ed st request time bytes (take n ws) start area
  block_first = record {
    fits = fits.0;
    apart = omega (arith, r.apart);
    inside = r.inside;
    list = room_first ed st request bytes counts ws (area - start) r.payloads h n e;
  }

  pub blocks_rest : (k : ℕ) → k ≡ length (list_bytes ed st request bytes (take n ws)) → BlocksRoom ed st request time bytes (drop 1 counts) (drop n ws) (start - 4 + k) (area - 4)
  blocks_rest k d =
      let room = block_first.list.room in
      let four = block_first.apart in
      record {
        fit = fits.1;
        apart = rw length-drop (apart_rest (length counts) start k h r.apart);
        inside = inside_rest_of start area k four r.inside (subst (λ (j : ℕ). j ≤ area - start) (sym d) room);
        payloads = subst (λ (a : ℕ). PayloadsRoom ed st request bytes (drop 1 counts) (drop n ws) a) (left_rest start area k four) (room_rest ed st request bytes counts ws (area - start) r.payloads h n e k d);
      }

-- the primary list alone
pub blocks_one : (ed : Edition) (st : Settings) (request time : ℕ) (bytes counts ws : List ℕ) (start : ℕ) (l m : List ℕ) → BlocksRoom ed st request time bytes counts ws start (length l) → length counts < 2
    → m ≡ over_from start (list_bytes ed st request bytes ws) l
    → set m 0 st.payload_type ≡ over (lists_headers ed st request time bytes counts ws) (over_from start (lists_payloads ed st request bytes counts ws) l)
blocks_one ed st request time bytes counts ws start l m r h e =
    let p = list_bytes ed st request bytes ws in
    let room : 1 ≤ length (over_from start p l) = omega (arith, r.apart, from_length start p l r.inside) in
    ap (λ (x : List ℕ). set x 0 st.payload_type) e
    ∙ over_one (over_from start p l) st.payload_type room
    ∙ ap (λ (x : List ℕ). over x (over_from start p l)) (sym (headers_one ed st request time bytes counts ws h))
    ∙ ap (λ (x : List ℕ). over (lists_headers ed st request time bytes counts ws) (over_from start x l)) (sym (payloads_one ed st request bytes counts ws h))
