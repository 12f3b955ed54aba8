-- Laws of the blocks of a redundancy payload: their rows by the first block header, and what these do not depend on.
use mathlib.Core.Path.{◌≡◌, refl, ap, sym, ◌∙◌, subst}
use Rattle.std.specs.Prelude.{Err, Ok, Result}
use Rattle.read_contents.specs.declared.entries.Sizes.{Sizes}
use Rattle.read_headers.specs.declared.redundancy.HeaderSizes.{HeaderSizes}
use mathlib.Core.List.{List, [], ◌∷◌}
use mathlib.Core.Bool.{true}
use Prim.Native.Nat.{ℕ, ◌+◌, ◌-◌, ◌*◌, ◌≤◌}
use native.Mathlib.Omega.{arith}
use lib.ListN.{length, take, drop, length-take, length-drop}
use lib.Dec.{eqb}
use borrow.Rule.Slice.PartMut.{put_mid}
use borrow.Author.Tests.{eq-eqb, ne_eqb, eqb-true, eqb-false}
use Rattle.rtp.specs.Editions.{Edition}
use Rattle.rtp.specs.Sizes.{max_packet, max_rows, row_width, row_area}
use Rattle.rtp.specs.Areas.{over}
use Rattle.rtp.specs.Ranges.{in_range}
use Rattle.rtp.specs.Time.{difference}
use Rattle.rtp.specs.Faults.{fault_at, fault, shifted}
use Rattle.row_tags.specs.Tags.{primary_mark, redundant_mark}
use Rattle.read_headers.specs.Redundancy.{block_header, Headers, refused, headers_of, prepend, headers, redundant_size, headers_answer}
use Rattle.rtp.specs.declared.settings.Settings.{Settings}
use Rattle.rtp.specs.declared.refusal.Refusal.{Refusal}
use Rattle.rtp.specs.declared.refusal.Fault.{Fault}
use Rattle.read_headers.specs.declared.redundancy.Redundant.{Redundant}
use Rattle.read_headers.specs.declared.redundancy.BlockHeader.{BlockHeader}
use Rattle.rtp.proofs.TestLaws.{by-test}
use Rattle.rtp.proofs.AreaLaws.{over_part}
use Rattle.read_headers.proofs.RedundancyLaws.{headers_step_lem, at_redundant, ahead}
use Rattle.read_contents.specs.Contents.{Contents, refused as unread, groups, contents, sizes_answer}
use Rattle.read_payload.specs.Payloads.{body, payload, Rows, no_rows, rows_of, placed_rows, payload_rows, rows_answer, rows_words, asked_rows}
use Rattle.read_rows.proofs.RowLaws.{length_marked}
use Rattle.read_payload.proofs.PayloadLaws.{length_table, start_in, at_fault, part_fault, pay_rows, pay_place, pay_small, asked_in}
use Rattle.read_redundancy.specs.Blocks.{Block, cut, typed_block_rows, then_rows, blocks_rows}
use Rattle.read_redundancy.specs.Room.{asked_block, headed_rows, blocks_from, Headed, BlocksAsked, Taken, BlocksRoom}
use Rattle.read_redundancy.proofs.AnswerLaws.{then_none, then_answer, then_answer_lem, answer_same, further, then_further, none_further, Inside, then_inside, none_inside, inside_more, then_taken, Few, then_few, answer_words, then_words}

-- a block of the bytes s
abbrev pub block : ℕ → ℕ → ℕ → ℕ → List ℕ → Block
block mark type offset at s = record { type = type; offset = offset; at = at; bytes = s; primary = mark }

-- The answer depends on no time, and the place at fault moves with the payload

placed_same : (mark mark' format ch time time' at : ℕ) (p : Contents) → rows_answer (placed_rows mark format ch time at p) ≡ rows_answer (placed_rows mark' format ch time' at p)
unfolding placed_rows rows_answer
placed_same mark mark' format ch time time' at (unread f) = refl
placed_same mark mark' format ch time time' at (groups gs) = ap Ok (rw (length_marked, length_marked, length_table, length_table))

placed_further : (mark format ch time time' n at m : ℕ) → m ≡ n + at → (p : Contents) → rows_answer (placed_rows mark format ch time m p) ≡ further n (rows_answer (placed_rows mark format ch time' at p))
unfolding placed_rows rows_answer
placed_further mark format ch time time' n at m e (unread f) = ap (λ (k : ℕ). Err (fault_at k f.refusal)) (omega arith)
placed_further mark format ch time time' n at m e (groups gs) = ap Ok (rw (length_marked, length_marked, length_table, length_table))

module _ (ed : Edition) (st : Settings) where
  block_same : (mark mark' done time time' type offset offset' at : ℕ) (s : List ℕ)
      → rows_answer (typed_block_rows ed st done time (block mark type offset at s)) ≡ rows_answer (typed_block_rows ed st done time' (block mark' type offset' at s))
  unfolding typed_block_rows payload_rows
  block_same mark mark' done time time' type offset offset' at s =
      by-test (eqb type st.payload_type)
      (λ a. by-test (eqb (length s) 0)
      (λ b. rw (a, b))
      (λ b. rw (a, b) (placed_same mark mark' st.format st.channels (difference time offset) (difference time' offset') at (payload ed st.format st.channels done s))))
      (λ a. rw a)

  block_further : (mark done time time' type offset n at m : ℕ) → m ≡ n + at → (s : List ℕ)
      → rows_answer (typed_block_rows ed st done time (block mark type offset m s)) ≡ further n (rows_answer (typed_block_rows ed st done time' (block mark type offset at s)))
  unfolding typed_block_rows payload_rows rows_answer
  block_further mark done time time' type offset n at m e s =
      by-test (eqb type st.payload_type)
      (λ a. by-test (eqb (length s) 0)
      (λ b. rw (a, b))
      (λ b. rw (a, b) (placed_further mark st.format st.channels (difference time offset) (difference time' offset) n at m e (payload ed st.format st.channels done s))))
      (λ a. rw a)

  blocks_further : (bs : List Redundant) (done time time' type n at m : ℕ) → m ≡ n + at → (d : List ℕ)
      → rows_answer (blocks_rows ed st done time (cut bs type m d)) ≡ further n (rows_answer (blocks_rows ed st done time' (cut bs type at d)))
  unfolding blocks_rows cut
  blocks_further [] done time time' type n at m e d = then_further n _ _ _ _ (block_further primary_mark done time time' type 0 n at m e d) (λ i. none_further n)
  blocks_further (b ∷ bs) done time time' type n at m e d =
      then_further n _ _ _ _ (block_further redundant_mark done time time' b.payload_type b.offset n at m e (take b.length d))
      (λ i. blocks_further bs (done + i) time time' type n (at + b.length) (m + b.length) (omega arith) (drop b.length d))

  pub from_further : (done time time' n at m : ℕ) → m ≡ n + at → (h d : List ℕ) → rows_answer (blocks_from ed st done time m h d) ≡ further n (rows_answer (blocks_from ed st done time' at h d))
  unfolding blocks_from rows_answer
  from_further done time time' n at m e h d = headed_further (headers h)
    where
      headed_further : (x : Headers) → rows_answer (headed_rows ed st done time m d x) ≡ further n (rows_answer (headed_rows ed st done time' at d x))
      headed_further (refused f) = ap (λ (k : ℕ). Err (fault_at k f.refusal)) (omega arith)
      headed_further (headers_of bs type) = blocks_further bs done time time' type n at m e d

  -- The place at fault lies inside the blocks

  pub pay_inside : (mark done time at : ℕ) (s : List ℕ) → Inside (at + length s) (rows_answer (payload_rows ed mark st.format st.channels done time at s))
  unfolding rows_answer
  pay_inside mark done time at s = table_inside (sizes_answer st.format st.channels (contents ed st.format st.channels done (body st.format s))) refl
    where
      table_inside : (r : Result Sizes Fault) → sizes_answer st.format st.channels (contents ed st.format st.channels done (body st.format s)) ≡ r
          → Inside (at + length s) (rows_answer (payload_rows ed mark st.format st.channels done time at s))
      table_inside (Err r) h =
          rw (at_fault ed mark st.format st.channels done time at s r h)
          (omega (arith, start_in ed mark st.format st.channels done time at s, pay_place ed mark st.format st.channels done time at s r h))
      table_inside (Ok t) h =
          by-test (eqb (t.size + t.frames) (length (body st.format s)))
          (λ a. rw (pay_rows ed mark st.format st.channels done time at s t h (eqb-true _ _ a)) tt)
          (λ a. rw (part_fault ed mark st.format st.channels done time at s t h (eqb-false _ _ a))
          (omega (arith, start_in ed mark st.format st.channels done time at s, (pay_small ed mark st.format st.channels done time at s t h).within)))

  block_inside : (done time : ℕ) (b : Block) → Inside (b.at + length b.bytes) (rows_answer (typed_block_rows ed st done time b))
  unfolding typed_block_rows rows_answer
  block_inside done time b =
      by-test (eqb b.type st.payload_type)
      (λ x. by-test (eqb (length b.bytes) 0)
      (λ y. rw (x, y) tt)
      (λ y. rw (x, y) (pay_inside b.primary done (difference time b.offset) b.at b.bytes)))
      (λ x. rw x tt)

  blocks_inside : (bs : List Redundant) (done time type at : ℕ) (d : List ℕ) → redundant_size bs ≤ length d → Inside (at + length d) (rows_answer (blocks_rows ed st done time (cut bs type at d)))
  unfolding blocks_rows cut redundant_size
  blocks_inside [] done time type at d l = rw then_answer_lem (then_inside (at + length d) (rows_answer (typed_block_rows ed st done time (block primary_mark type 0 at d))) (λ i. rows_answer (rows_of [])) (block_inside done time (block primary_mark type 0 at d)) (λ i. none_inside (at + length d)))
  blocks_inside (b ∷ bs) done time type at d l =
      let here : at + length (take b.length d) ≤ at + length d = simp length-take (omega arith) in
      let there : at + b.length + length (drop b.length d) ≤ at + length d = simp length-drop (omega arith) in
      let first = block redundant_mark b.payload_type b.offset at (take b.length d) in
      rw then_answer_lem (then_inside (at + length d) (rows_answer (typed_block_rows ed st done time first)) (λ i. rows_answer (blocks_rows ed st (done + i) time (cut bs type (at + b.length) (drop b.length d))))
      (inside_more _ _ (rows_answer (typed_block_rows ed st done time first)) here (block_inside done time (block redundant_mark b.payload_type b.offset at (take b.length d))))
      (λ i. inside_more _ _ (rows_answer (blocks_rows ed st (done + i) time (cut bs type (at + b.length) (drop b.length d)))) there (blocks_inside bs (done + i) time type (at + b.length) (drop b.length d) (simp length-drop (omega arith)))))

  pub from_inside : (done time at : ℕ) (h d : List ℕ) → Headed (length d) (headers_answer (headers h)) → Inside (at + length d) (rows_answer (blocks_from ed st done time at h d))
  unfolding blocks_from headers_answer
  from_inside done time at h d k = headed_inside (headers h) k
    where
      headed_inside : (x : Headers) → Headed (length d) (headers_answer x) → Inside (at + length d) (rows_answer (headed_rows ed st done time at d x))
      headed_inside (refused f) z = absurd z
      headed_inside (headers_of bs type) z = blocks_inside bs done time type at d z

  -- No more rows than a packet has

  pay_few : (mark done time at : ℕ) (s : List ℕ) → Few ed done (rows_answer (payload_rows ed mark st.format st.channels done time at s))
  unfolding rows_answer
  pay_few mark done time at s = table_few (sizes_answer st.format st.channels (contents ed st.format st.channels done (body st.format s))) refl
    where
      table_few : (r : Result Sizes Fault) → sizes_answer st.format st.channels (contents ed st.format st.channels done (body st.format s)) ≡ r
          → Few ed done (rows_answer (payload_rows ed mark st.format st.channels done time at s))
      table_few (Err r) h = rw (at_fault ed mark st.format st.channels done time at s r h) tt
      table_few (Ok t) h =
          by-test (eqb (t.size + t.frames) (length (body st.format s)))
          (λ a. rw (pay_rows ed mark st.format st.channels done time at s t h (eqb-true _ _ a)) (pay_small ed mark st.format st.channels done time at s t h).few)
          (λ a. rw (part_fault ed mark st.format st.channels done time at s t h (eqb-false _ _ a)) tt)

  pub block_few : (done time : ℕ) (b : Block) → done ≤ max_rows ed → Few ed done (rows_answer (typed_block_rows ed st done time b))
  unfolding typed_block_rows rows_answer
  block_few done time b h =
      by-test (eqb b.type st.payload_type)
      (λ x. by-test (eqb (length b.bytes) 0)
      (λ y. rw (x, y) (omega arith))
      (λ y. rw (x, y) (pay_few b.primary done (difference time b.offset) b.at b.bytes)))
      (λ x. rw x (omega arith))

  blocks_few : (bs : List Block) (done time : ℕ) → done ≤ max_rows ed → Few ed done (rows_answer (blocks_rows ed st done time bs))
  unfolding blocks_rows rows_answer
  blocks_few [] done time h = omega arith
  blocks_few (b ∷ bs) done time h =
      rw then_answer_lem (then_few ed done (rows_answer (typed_block_rows ed st done time b)) _ (block_few done time b h) (λ n k. blocks_few bs (done + n) time k))

  pub from_few : (done time at : ℕ) (h d : List ℕ) → done ≤ max_rows ed → Few ed done (rows_answer (blocks_from ed st done time at h d))
  unfolding blocks_from rows_answer
  from_few done time at h d k = headed_few (headers h)
    where
      headed_few : (x : Headers) → Few ed done (rows_answer (headed_rows ed st done time at d x))
      headed_few (refused r) = tt
      headed_few (headers_of bs type) = blocks_few (cut bs type at d) done time k

-- The rows by the first block header

pub headed_rest : (n : ℕ) (h : List ℕ) (e : Redundant) → block_header h ≡ Ok (BlockHeader.Redundant e) → Headed n (headers_answer (headers h))
    → (e.length ≤ n) × Headed (n - e.length) (headers_answer (headers (drop 4 h)))
headed_rest n h e q k = both (headers_answer (headers (drop 4 h))) (rw (at_redundant h e q) at k)
  where
    both : (x : Result HeaderSizes Fault) → Headed n (ahead e x) → (e.length ≤ n) × Headed (n - e.length) x
    both (Err r) z = absurd z
    both (Ok s) z = (omega arith, omega arith)

module _ (ed : Edition) (st : Settings) (done time at : ℕ) (h d : List ℕ) where
  pub from_refused : (r : Refusal) → block_header h ≡ Err r → blocks_from ed st done time at h d ≡ no_rows (shifted at (fault r))
  unfolding blocks_from
  from_refused r q = rw (headers_step_lem, q)

  pub from_primary : (type : ℕ) → block_header h ≡ Ok (BlockHeader.Primary type) → blocks_from ed st done time at h d ≡ typed_block_rows ed st done time (block primary_mark type 0 at d)
  unfolding blocks_from blocks_rows cut
  from_primary type q = rw (headers_step_lem, q) (then_none (typed_block_rows ed st done time (block primary_mark type 0 at d)))

  pub from_redundant : (n : ℕ) (e : Redundant) → block_header h ≡ Ok (BlockHeader.Redundant e) → Headed n (headers_answer (headers (drop 4 h)))
      → blocks_from ed st done time at h d
      ≡ then_rows (typed_block_rows ed st done time (block redundant_mark e.payload_type e.offset at (take e.length d))) (λ i. blocks_from ed st (done + i) time (at + e.length) (drop 4 h) (drop e.length d))
  unfolding blocks_from blocks_rows cut headers_answer
  from_redundant n e q k = rw (headers_step_lem h, q) (rest (headers (drop 4 h)) k)
    where
      rest : (x : Headers) → Headed n (headers_answer x) → headed_rows ed st done time at d (prepend e x)
          ≡ then_rows (typed_block_rows ed st done time (block redundant_mark e.payload_type e.offset at (take e.length d))) (λ i. headed_rows ed st (done + i) time (at + e.length) (drop e.length d) x)
      rest (refused r) z = absurd z
      rest (headers_of bs type) z = refl

-- A block of a call

module _ (ed : Edition) (mark : ℕ) (st : Settings) (done area time type offset at : ℕ) (s : List ℕ) where
  pub asked_other : (type ≡ st.payload_type → ⊥) → asked_block ed mark st done area time type offset at s ≡ rows_of []
  unfolding asked_block
  asked_other h = rw (ne_eqb _ _ h)

  pub asked_empty : type ≡ st.payload_type → length s ≡ 0 → asked_block ed mark st done area time type offset at s ≡ rows_of []
  unfolding asked_block
  asked_empty h k = rw (eq-eqb _ _ h, eq-eqb _ _ k)

  pub asked_some : type ≡ st.payload_type → (length s ≡ 0 → ⊥) → asked_block ed mark st done area time type offset at s ≡ asked_rows ed mark st done area (difference time offset) at s
  unfolding asked_block
  asked_some h k = rw (eq-eqb _ _ h, ne_eqb _ _ k)

  pub asked_block_lem : in_range ed st ≡ true → row_area ed ≤ row_width * done + area → at + length s ≤ max_packet
      → asked_block ed mark st done area time type offset at s ≡ typed_block_rows ed st done time (block mark type offset at s)
  unfolding asked_block typed_block_rows
  asked_block_lem h a b = rw (asked_in ed mark st done area (difference time offset) at s h a b)

-- The blocks of a call: the primary block alone, or a redundant block and the rest

module _ (ed : Edition) (st : Settings) (done area time at : ℕ) (h d : List ℕ) (a : BlocksAsked ed st done at h (length d)) (fits : row_area ed ≤ row_width * done + area) where
  pub asked_primary : (type : ℕ) → block_header h ≡ Ok (BlockHeader.Primary type) → asked_block ed primary_mark st done area time type 0 at d ≡ blocks_from ed st done time at h d
  asked_primary type q = asked_block_lem ed primary_mark st done area time type 0 at d a.settings fits a.inside ∙ sym (from_primary ed st done time at h d type q)

  module _ (e : Redundant) (q : block_header h ≡ Ok (BlockHeader.Redundant e)) where
    pub block_in : e.length ≤ length d
    block_in = (headed_rest (length d) h e q a.headed).0

    asked_first : (offset : ℕ) → asked_block ed redundant_mark st done area time e.payload_type offset at (take e.length d) ≡ typed_block_rows ed st done time (block redundant_mark e.payload_type offset at (take e.length d))
    asked_first offset = asked_block_lem ed redundant_mark st done area time e.payload_type offset at (take e.length d) a.settings fits (simp length-take (omega (arith, block_in, a.inside)))

    pub first_few : (offset n : ℕ) → rows_answer (asked_block ed redundant_mark st done area time e.payload_type offset at (take e.length d)) ≡ Ok n → done + n ≤ max_rows ed
    first_few offset n k = subst (λ (x : Result ℕ Fault). Few ed done x) (ap rows_answer (sym (asked_first offset)) ∙ k) (block_few ed st done time _ a.few)

    pub asked_rest : (n at' : ℕ) → done + n ≤ max_rows ed → at' ≤ at + e.length → BlocksAsked ed st (done + n) at' (drop 4 h) (length (drop e.length d))
    asked_rest n at' f i = rw (length-drop e.length d) (record {
      settings = a.settings;
      few = f;
      headed = (headed_rest (length d) h e q a.headed).1;
      inside = omega (arith, block_in, a.inside);
    })

    pub first_then : blocks_from ed st done time at h d
        ≡ then_rows (asked_block ed redundant_mark st done area time e.payload_type e.offset at (take e.length d)) (λ n. blocks_from ed st (done + n) time (at + e.length) (drop 4 h) (drop e.length d))
    first_then = rw (asked_first e.offset) (from_redundant ed st done time at h d (length d - e.length) e q (headed_rest (length d) h e q a.headed).1)

-- the primary block alone, checked as at time 0 and place 0 and whatever its mark
pub checked_primary : (ed : Edition) (st : Settings) (done : ℕ) (h d : List ℕ) → BlocksAsked ed st done 0 h (length d) → (type : ℕ) → block_header h ≡ Ok (BlockHeader.Primary type)
    → rows_answer (asked_block ed redundant_mark st done (row_area ed) 0 type 0 0 d) ≡ rows_answer (blocks_from ed st done 0 0 h d)
checked_primary ed st done h d a type q =
    ap rows_answer (asked_block_lem ed redundant_mark st done (row_area ed) 0 type 0 0 d a.settings (omega arith) a.inside)
    ∙ block_same ed st redundant_mark primary_mark done 0 0 type 0 0 0 d
    ∙ ap rows_answer (sym (from_primary ed st done 0 0 h d type q))

-- their answer, where each is taken as at time 0 and place 0: what follows is counted from its own front
pub checked : (ed : Edition) (st : Settings) (done : ℕ) (h d : List ℕ) → BlocksAsked ed st done 0 h (length d) → (e : Redundant) → block_header h ≡ Ok (BlockHeader.Redundant e)
    → rows_answer (blocks_from ed st done 0 0 h d)
    ≡ then_answer (rows_answer (asked_block ed redundant_mark st done (row_area ed) 0 e.payload_type 0 0 (take e.length d))) (λ n. further e.length (rows_answer (blocks_from ed st (done + n) 0 0 (drop 4 h) (drop e.length d))))
checked ed st done h d a e q =
    let first : rows_answer (asked_block ed redundant_mark st done (row_area ed) 0 e.payload_type e.offset 0 (take e.length d)) ≡ rows_answer (asked_block ed redundant_mark st done (row_area ed) 0 e.payload_type 0 0 (take e.length d)) =
    ap rows_answer (asked_first ed st done (row_area ed) 0 0 h d a (omega arith) e q e.offset) ∙ block_same ed st redundant_mark redundant_mark done 0 0 e.payload_type e.offset 0 0 (take e.length d)
    ∙ ap rows_answer (sym (asked_first ed st done (row_area ed) 0 0 h d a (omega arith) e q 0)) in
    ap rows_answer (first_then ed st done (row_area ed) 0 0 h d a (omega arith) e q)
    ∙ then_answer_lem _ _
    ∙ ap (λ (p : Result ℕ Fault). then_answer p (λ n. rows_answer (blocks_from ed st (done + n) 0 (0 + e.length) (drop 4 h) (drop e.length d)))) first
    ∙ answer_same (rows_answer (asked_block ed redundant_mark st done (row_area ed) 0 e.payload_type 0 0 (take e.length d)))
    (λ n. rows_answer (blocks_from ed st (done + n) 0 (0 + e.length) (drop 4 h) (drop e.length d)))
    (λ n. further e.length (rows_answer (blocks_from ed st (done + n) 0 0 (drop 4 h) (drop e.length d)))) (λ n. from_further ed st (done + n) 0 0 e.length 0 (0 + e.length) (omega arith) (drop 4 h) (drop e.length d))

-- their words
module _ (ed : Edition) (st : Settings) (done time at area : ℕ) (h d : List ℕ) (r : BlocksRoom ed st done time at h d area) (e : Redundant) (q : block_header h ≡ Ok (BlockHeader.Redundant e)) where
  abbrev First : Rows
  First = asked_block ed redundant_mark st done area time e.payload_type e.offset at (take e.length d)

  whole : blocks_from ed st done time at h d ≡ then_rows First (λ n. blocks_from ed st (done + n) time (at + e.length) (drop 4 h) (drop e.length d))
  whole = first_then ed st done area time at h d r.asked r.area_fits e q

  taken_whole : Taken (then_answer (rows_answer First) (λ n. rows_answer (blocks_from ed st (done + n) time (at + e.length) (drop 4 h) (drop e.length d))))
  taken_whole = subst (λ (x : Result ℕ Fault). Taken x) (ap rows_answer whole ∙ then_answer_lem _ _) r.taken

  pub first_taken : (f : Fault) → rows_answer First ≡ Err f → ⊥
  first_taken f k = rw k at taken_whole

  module _ (n : ℕ) (k : rows_answer First ≡ Ok n) where
    pub room_rest : BlocksRoom ed st (done + n) time (at + e.length) (drop 4 h) (drop e.length d) (area - row_width * n)
    room_rest = record {
      asked = asked_rest ed st done area time at h d r.asked r.area_fits e q n (at + e.length) (first_few ed st done area time at h d r.asked r.area_fits e q e.offset n k) (omega arith);
      taken = then_taken (rows_answer First) (λ i. rows_answer (blocks_from ed st (done + i) time (at + e.length) (drop 4 h) (drop e.length d))) n k taken_whole;
      area_fits = omega (arith, r.area_fits);
    }

    pub put_rest : (l m z : List ℕ) → m ≡ over (rows_words First) l
        → z ≡ over (rows_words (blocks_from ed st (done + n) time (at + e.length) (drop 4 h) (drop e.length d))) (take (length m - row_width * n) (drop (row_width * n) m))
        → put_mid (row_width * n) (length m - row_width * n) m z ≡ over (rows_words (blocks_from ed st done time at h d)) l
    put_rest l m z v w =
        over_part _ _ l m z (row_width * n) (answer_words First n k) v w
        ∙ ap (λ (x : List ℕ). over x l) (sym (ap rows_words whole ∙ then_words First _ n k room_rest.taken))
