-- Laws of a packet's lists as its parts: the sizes, headers and payloads of the lists are those of the parts.
use mathlib.Core.Path.{◌≡◌, refl, ap, sym, ◌∙◌, subst}
use mathlib.Core.List.{List, [], ◌∷◌, ◌++◌}
use mathlib.Core.Bool.{true, false}
use Prim.Native.Nat.{ℕ, suc, ◌+◌, ◌*◌, ◌%◌, ◌≤◌, ◌<◌}
use native.Mathlib.Omega.{arith}
use lib.ListN.{length, take, drop}
use lib.Dec.{ltb, eqb}
use borrow.Author.Tests.{ltb-true, ltb-false}
use Rattle.rtp.specs.Editions.{Edition}
use Rattle.rtp.specs.Sizes.{row_width}
use Rattle.rtp.specs.Ranges.{in_range}
use Rattle.rtp.specs.declared.settings.Settings.{Settings}
use Rattle.rtp.specs.declared.refusal.Refusal.{Refusal}
use Rattle.rtp.specs.declared.refusal.Refusal.TheVariants.{Unwritable}
use Rattle.rtp.proofs.TestLaws.{by-test}
use Rattle.read_rows.specs.Rows.{rows_in}
use Rattle.write_plan.specs.Lists.{outside}
use Rattle.write_payload.specs.Writings.{Encoded, no_bytes, bytes_of, encoded, encoded_numbers, encoded_bytes}
use Rattle.write_sizes.specs.Measures.{Numbers, refused_numbers, measured}
use Rattle.write_payload.proofs.WritingLaws.{in_range_some, numbers_encoded}
use Rattle.write_sizes.proofs.MeasureLaws.{measured_plan}
use Rattle.write_parts.specs.Parts.{max_offset, max_block, Part, Parts, no_parts, parts_of, primary_part, prepend_part, redundant_part, parts}
use Rattle.write_parts.specs.Headings.{block_header_bytes}
use Rattle.write_packet.specs.Packets.{headers_bytes, blocks_bytes}
use Rattle.write_parts.specs.ListSizes.{Counted, offset_of, redundant_numbers, add_numbers, lists_numbers}
use Rattle.write_packet.specs.Room.{lists_headers, HeadersFit, list_bytes, lists_payloads}
use Rattle.rtp.proofs.RangeLaws.{ranged}
use Rattle.write_parts.proofs.WordLaws.{rows_take, rows_drop, first_fits, counted_rest, inside_first, inside_rest, whole_first}
use Rattle.write_packet.proofs.ListBytesLaws.{headers_one, headers_more, payloads_one, payloads_more}
use Rattle.rtp.proofs.RefusalLaws.{number_some}
use Rattle.write_parts.proofs.ListsLaws.{lists_one, lists_more, redundant_none, redundant_long, redundant_far, redundant_all, add_none, add_rest, add_both}

pub none_numbers : (q : Refusal) → encoded_numbers (no_bytes q) ≡ refused_numbers q
unfolding encoded_numbers
none_numbers q = refl

pub bytes_numbers : (p : List ℕ) → encoded_numbers (bytes_of p) ≡ record { refusal = 0; count = length p }
unfolding encoded_numbers
bytes_numbers p = refl

-- the bytes of the parts, but for the primary block's header
abbrev pub parts_size : List Part → List ℕ → ℕ
parts_size [] p = length p
parts_size (b ∷ bs) p = 4 + length b.bytes + parts_size bs p

-- the lists are these parts
pub record Laid (ed : Edition) (st : Settings) (request : ℕ) (bytes : List ℕ) (time : ℕ) (counts ws : List ℕ) (bs : List Part) (p : List ℕ) : Type 0 where
  pub sizes : lists_numbers ed st time counts ws ≡ record { refusal = 0; count = parts_size bs p }
  pub heads : lists_headers ed st request time bytes counts ws ≡ headers_bytes st.payload_type bs
  pub fit : HeadersFit ed st request time bytes counts ws
  pub payloads : lists_payloads ed st request bytes counts ws ≡ blocks_bytes bs p
  pub many : length counts ≡ suc (length bs)

abbrev pub Agrees : Edition → Settings → ℕ → List ℕ → ℕ → List ℕ → List ℕ → Parts → Type 0
Agrees ed st request bytes time counts ws no_parts = eqb (lists_numbers ed st time counts ws).refusal 0 ≡ false
Agrees ed st request bytes time counts ws (parts_of bs p) = Laid ed st request bytes time counts ws bs p

refused_of : (n : Numbers) → refused_numbers Unwritable ≡ n → eqb n.refusal 0 ≡ false
refused_of n e = ap (λ (m : Numbers). eqb m.refusal 0) (sym e)

no_headers : (type : ℕ) → headers_bytes type [] ≡ type ∷ []
unfolding headers_bytes
no_headers type = refl

more_headers : (type : ℕ) (b : Part) (bs : List Part) → headers_bytes type (b ∷ bs) ≡ block_header_bytes type b.offset (length b.bytes) ++ headers_bytes type bs
unfolding headers_bytes
more_headers type b bs = refl

no_blocks : (p : List ℕ) → blocks_bytes [] p ≡ p
unfolding blocks_bytes
no_blocks p = refl

more_blocks : (b : Part) (bs : List Part) (p : List ℕ) → blocks_bytes (b ∷ bs) p ≡ b.bytes ++ blocks_bytes bs p
unfolding blocks_bytes
more_blocks b bs p = refl

parts_last : (ed : Edition) (st : Settings) (request : ℕ) (bytes : List ℕ) (time n : ℕ) (ws : List ℕ) → parts ed st request bytes time (n ∷ []) (rows_in ws) ≡ primary_part (encoded ed st request bytes (rows_in ws))
unfolding parts
parts_last ed st request bytes time n ws = refl

parts_more : (ed : Edition) (st : Settings) (request : ℕ) (bytes : List ℕ) (time n m : ℕ) (ns ws : List ℕ) → let k = row_width * n in
    parts ed st request bytes time (n ∷ m ∷ ns) (rows_in ws) ≡ redundant_part (offset_of time (take k ws)) (encoded ed st request bytes (rows_in (take k ws))) (parts ed st request bytes time (m ∷ ns) (rows_in (drop k ws)))
unfolding parts
parts_more ed st request bytes time n m ns ws = rw (rows_take n ws, rows_drop n ws)

module _ (ed : Edition) (st : Settings) (request : ℕ) (bytes : List ℕ) (time : ℕ) (i : in_range ed st ≡ true) where
  measured_is : (ws : List ℕ) (x : Encoded) → outside (length bytes) (rows_in ws) ≡ false → length ws % row_width ≡ 0 → encoded ed st request bytes (rows_in ws) ≡ x → measured ed st ws ≡ encoded_numbers x
  measured_is ws x o w e = measured_plan ed st ws i w ∙ sym (numbers_encoded ed st request ws bytes (in_range_some ed st i) o) ∙ ap encoded_numbers e

  bytes_is : (ws : List ℕ) (p : List ℕ) → encoded ed st request bytes (rows_in ws) ≡ bytes_of p → list_bytes ed st request bytes ws ≡ p
  unfolding encoded_bytes
  bytes_is ws p e = ap (λ (x : Encoded). encoded_bytes x) e

  -- the primary list
  agree_last : (n : ℕ) (ws : List ℕ) → outside (length bytes) (rows_in ws) ≡ false → length ws % row_width ≡ 0 → Agrees ed st request bytes time (n ∷ []) ws (primary_part (encoded ed st request bytes (rows_in ws)))
  agree_last n ws o w = go (encoded ed st request bytes (rows_in ws)) refl
    where
      go : (x : Encoded) → encoded ed st request bytes (rows_in ws) ≡ x → Agrees ed st request bytes time (n ∷ []) ws (primary_part x)
      go (no_bytes q) e = ap (λ (m : Numbers). eqb m.refusal 0) (lists_one ed st time (n ∷ []) ws (omega arith) ∙ measured_is ws (no_bytes q) o w e ∙ none_numbers q) ∙ number_some q
      go (bytes_of p) e = record {
        sizes = lists_one ed st time (n ∷ []) ws (omega arith) ∙ measured_is ws (bytes_of p) o w e ∙ bytes_numbers p;
        heads = headers_one ed st request time bytes (n ∷ []) ws (omega arith) ∙ sym (no_headers st.payload_type);
        fit = tt;
        payloads = payloads_one ed st request bytes (n ∷ []) ws (omega arith) ∙ bytes_is ws p e ∙ sym (no_blocks p);
        many = refl;
      }

  -- a redundant list before the others
  module _ (n m : ℕ) (ns ws : List ℕ) where
    abbrev front : List ℕ
    front = take (row_width * n) ws

    abbrev others : List ℕ
    others = drop (row_width * n) ws

    sum : lists_numbers ed st time (n ∷ m ∷ ns) ws ≡ add_numbers (redundant_numbers ed st time front) (lists_numbers ed st time (m ∷ ns) others)
    sum = lists_more ed st time (n ∷ m ∷ ns) ws (omega arith)

    no_front : refused_numbers Unwritable ≡ redundant_numbers ed st time front → eqb (lists_numbers ed st time (n ∷ m ∷ ns) ws).refusal 0 ≡ false
    no_front e = refused_of (lists_numbers ed st time (n ∷ m ∷ ns) ws) (add_none (redundant_numbers ed st time front) (lists_numbers ed st time (m ∷ ns) others) (refused_of (redundant_numbers ed st time front) e) ∙ sym sum)

    module _ (q : List ℕ) (z : measured ed st front ≡ record { refusal = 0; count = length q }) (y : list_bytes ed st request bytes front ≡ q) (short : length q ≤ max_block) (near : offset_of time front ≤ max_offset) where
      put : (x : Parts) → Agrees ed st request bytes time (m ∷ ns) others x → Agrees ed st request bytes time (n ∷ m ∷ ns) ws (prepend_part (record { offset = offset_of time front; bytes = q }) x)
      put no_parts h = refused_of (lists_numbers ed st time (n ∷ m ∷ ns) ws) (add_rest (redundant_numbers ed st time front) (lists_numbers ed st time (m ∷ ns) others) h ∙ sym sum)
      put (parts_of cs d) h =
          let b : Part = record { offset = offset_of time front; bytes = q } in
          let k : length (list_bytes ed st request bytes front) ≡ length q = ap (λ (l : List ℕ). length l) y in
          record {
            sizes = sum ∙ sym (add_both (redundant_numbers ed st time front) (lists_numbers ed st time (m ∷ ns) others) (4 + length q) (parts_size cs d) (sym (redundant_all ed st time front (length q) z short near)) h.sizes);
            heads = headers_more ed st request time bytes (n ∷ m ∷ ns) ws (omega arith) ∙ rw (k, h.heads) (sym (more_headers st.payload_type b cs));
            fit = (record { type = (ranged ed st i).plain; near = near; short = omega (arith, k) }, h.fit);
            payloads = payloads_more ed st request bytes (n ∷ m ∷ ns) ws (omega arith) ∙ rw (y, h.payloads) (sym (more_blocks b cs d));
            many = ap suc h.many;
          }

    agree_more : outside (length bytes) (rows_in front) ≡ false → length front % row_width ≡ 0 → (rest : Parts) → Agrees ed st request bytes time (m ∷ ns) others rest
        → Agrees ed st request bytes time (n ∷ m ∷ ns) ws (redundant_part (offset_of time front) (encoded ed st request bytes (rows_in front)) rest)
    agree_more o w rest h = go (encoded ed st request bytes (rows_in front)) refl
      where
        go : (x : Encoded) → encoded ed st request bytes (rows_in front) ≡ x → Agrees ed st request bytes time (n ∷ m ∷ ns) ws (redundant_part (offset_of time front) x rest)
        go (no_bytes q) e = no_front (redundant_none ed st time front (ap (λ (x : Numbers). eqb x.refusal 0) (measured_is front (no_bytes q) o w e ∙ none_numbers q) ∙ number_some q))
        go (bytes_of q) e =
            let z : measured ed st front ≡ record { refusal = 0; count = length q } = measured_is front (bytes_of q) o w e ∙ bytes_numbers q in
            by-test (ltb max_block (length q))
            (λ a. rw a (no_front (redundant_long ed st time front (length q) z (ltb-true max_block (length q) a))))
            (λ a. by-test (ltb max_offset (offset_of time front))
            (λ b. rw (a, b) (no_front (redundant_far ed st time front (length q) z (ltb-false max_block (length q) a) (ltb-true max_offset (offset_of time front) b))))
            (λ b. rw (a, b) (put q z (bytes_is front q e) (ltb-false max_block (length q) a) (ltb-false max_offset (offset_of time front) b) rest h)))

  pub agrees : (counts ws : List ℕ) → 0 < length counts → Counted counts ws → outside (length bytes) (rows_in ws) ≡ false → Agrees ed st request bytes time counts ws (parts ed st request bytes time counts (rows_in ws))
  agrees [] ws s k o = absurd (omega arith)
  agrees (n ∷ []) ws s k o = subst (λ (x : Parts). Agrees ed st request bytes time (n ∷ []) ws x) (sym (parts_last ed st request bytes time n ws)) (agree_last n ws o (omega (arith, k)))
  agrees (n ∷ m ∷ ns) ws s k o =
      subst (λ (x : Parts). Agrees ed st request bytes time (n ∷ m ∷ ns) ws x) (sym (parts_more ed st request bytes time n m ns ws))
      (agree_more n m ns ws (inside_first (length bytes) (row_width * n) n ws refl o) (whole_first (row_width * n) n ws refl (first_fits (n ∷ m ∷ ns) ws s k))
      (parts ed st request bytes time (m ∷ ns) (rows_in (drop (row_width * n) ws)))
      (agrees (m ∷ ns) (drop (row_width * n) ws) (omega arith) (counted_rest (n ∷ m ∷ ns) ws s k (row_width * n) refl) (inside_rest (length bytes) (row_width * n) n ws refl o)))
