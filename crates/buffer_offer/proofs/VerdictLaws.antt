-- Laws of judging one frame on the columns, one for each verdict.
use mathlib.Core.Path.{◌≡◌, refl, ap, ap₂, sym, ◌∙◌, subst}
use Rattle.std.specs.Prelude.{Err, Ok, Result}
use mathlib.Core.List.{List, Memᴰ}
use mathlib.Core.Bool.{Bool, true, false, cond, not}
use mathlib.Core.Option.{Option, none, some}
use Prim.Native.Nat.{ℕ, zero, suc, ◌+◌, ◌*◌, ◌≤◌, ◌<◌}
use native.Mathlib.Nat.{not-suc-le-zero, le_of_suc-le-suc, add-zero, add-suc, suc-add, zero-add}
use native.Mathlib.Omega.{arith}
use lib.ListN.{length, get_or, set}
use lib.Seq.{paste}
use lib.Dec.{ltb, eqb}
use borrow.Author.Tests.{lt-ltb, le-ltb, eqb-true, eqb-false}
use Rattle.rtp.proofs.TestLaws.{by-test}
use Rattle.row_tags.specs.Tags.{tag_of, either_mark, joined_tag}
use Rattle.buffer_copies.specs.declared.verdict.Verdict.{Verdict}
use Rattle.buffer_copies.specs.declared.verdict.Verdict.TheVariants.{Late, Far, Repeated, Better, NoRoom, Inserted}
use Rattle.buffer_copies.specs.Sizes.{slots, slot_size, store_size}
use Rattle.buffer_copies.specs.Copies.{Copy, better}
use Rattle.buffer_copies.specs.Entries.{Entry, view, entry_of, remarked, side_of_entry, put, find_by, always, free_slot, placed, stored}
use Rattle.buffer_copies.specs.Verdicts.{Judged, is_late, fits, is_far, keeps, holding, lays, repeats, judge_held, judge}
use Rattle.buffer_layout.specs.declared.buffer.Buffer.{Buffer}
use Rattle.buffer_insert.specs.declared.laying.FrameHead.{FrameHead}
use Rattle.buffer_slots.specs.Bits.{held_in, words_of, marked, lowest_free}
use Rattle.buffer_layout.specs.Columns.{insert_at, fits_from}
use Rattle.buffer_columns.specs.Places.{place_from}
use Rattle.buffer_layout.specs.Layout.{entry_tag, column, flag_of, encode, entry_at, entries_from, decode}
use Rattle.buffer_layout.specs.WellFormed.{well_formed}
use Rattle.buffer_layout.specs.Arrays.{Machine}
use Rattle.buffer_insert.specs.Laying.{class_in, channel_in, mark_in, copy_in, can_replace, beats, Replaced, can_insert, Laid}
use Rattle.buffer_insert.proofs.LayingLaws.{can_replace_lem, can_insert_lem}
use Rattle.buffer_insert.proofs.NumberLaws.{same_verdict}
use Rattle.buffer_offer.specs.Judging.{JudgedAs}
use Rattle.buffer_layout.proofs.ColumnLaws.{inserted}
use Rattle.buffer_slots.proofs.WordLaws.{slot_of, slots_of, free_is}
use Rattle.buffer_slots.proofs.FreeLaws.{free_when_room}
use Rattle.buffer_layout.proofs.LayoutLaws.{tag_back, no_entry, at_member, column_insert, column_set, column_same, words_insert, words_set}
use Rattle.buffer_offer.proofs.PlaceLaws.{held_by, AtPlace, place_at_lem, fits_is}
use Rattle.buffer_layout.proofs.WellFormedLaws.{facts, decode_length, words_held, encode_decode}
use Rattle.frame_codes.proofs.AllowedLaws.{allowed_frame}

-- the entry at a place of the list is that at the place of the columns
pub entries_at : (b : Buffer) (k i j : ℕ) → j < k → get_or (entries_from b k i) j no_entry ≡ entry_at b (i + j)
unfolding entries_from
entries_at b zero i j l = absurd (not-suc-le-zero l)
entries_at b (suc k) i zero l = ap (entry_at b) (sym (add-zero i))
entries_at b (suc k) i (suc j) l = entries_at b k (suc i) j (le_of_suc-le-suc l) ∙ ap (entry_at b) (suc-add i j ∙ sym (add-suc i j))

module _ (b : Buffer) (m : Machine b) (w : well_formed b ≡ true) (head : FrameHead) (frame store : List ℕ) where
  abbrev c : Copy
  c = copy_in head frame

  abbrev mark : ℕ
  mark = mark_in head

  abbrev es : List Entry
  es = (decode b).entries

  abbrev back : encode b.settings (decode b) ≡ b
  back = encode_decode b m w

  -- the buffer with other columns and marks
  abbrev laid : List ℕ → List ℕ → List ℕ → List ℕ → List ℕ → Buffer
  laid times tags lengths slots' occupied = record {
    times = times;
    tags = tags;
    lengths = lengths;
    slots = slots';
    occupied = occupied;
    last_time = b.last_time;
    last_channel = b.last_channel;
    drawn = b.drawn;
    settings = b.settings;
  }

  kept : (v : Verdict) → judge (decode b) store c mark ≡ keeps (decode b) store v → JudgedAs b b c mark store store v
  kept v q = record {
    verdict = sym (ap (λ (j : Judged). j.verdict) q);
    buffer = sym (ap (λ (j : Judged). encode b.settings j.held) q ∙ back);
    store_left = sym (ap (λ (j : Judged). j.store) q);
  }

  pub step_late : is_late (decode b) c ≡ true → JudgedAs b b c mark store store Late
  unfolding judge
  step_late t =
      kept Late
      (ap (λ (v : Bool). cond v (keeps (decode b) store Late) (cond (is_far (decode b) c) (keeps (decode b) store Far) (judge_held c mark (decode b) store (find_by (side_of_entry (entry_of c mark 0)) es)))) t)

  module _ (late : is_late (decode b) c ≡ false) where
    judge_timely : judge (decode b) store c mark ≡ cond (is_far (decode b) c) (keeps (decode b) store Far) (judge_held c mark (decode b) store (find_by (side_of_entry (entry_of c mark 0)) es))
    unfolding judge
    judge_timely =
        ap (λ (v : Bool). cond v (keeps (decode b) store Late) (cond (is_far (decode b) c) (keeps (decode b) store Far) (judge_held c mark (decode b) store (find_by (side_of_entry (entry_of c mark 0)) es)))) late

    module _ (n : ℕ) (count : n ≡ held_in b.occupied) where
      size : n ≡ length es
      size = count ∙ sym (decode_length b m w)

      fits_here : fits_from b.times head.time n ≡ fits head.time es
      fits_here =
          ap₂ (λ (xs : List ℕ) (k : ℕ). fits_from xs head.time k) (sym (ap (λ (a : Buffer). a.times) back)) size
          ∙ fits_is head.time es (facts b m w).room

      far_none : b.drawn ≡ 0 → is_far (decode b) c ≡ not (fits_from b.times head.time n)
      far_none z = ap (λ (d : ℕ). cond (eqb d 1) false (not (fits head.time es))) z ∙ ap not (sym fits_here)

      near_some : (b.drawn ≡ 0 → ⊥) → is_far (decode b) c ≡ false
      near_some z =
          by-test (eqb b.drawn 1)
          (λ t. ap (λ (v : Bool). cond v false (not (fits head.time es))) t)
          (λ t. absurd (z (sym (ap (λ (a : Buffer). a.drawn) back) ∙ ap flag_of t)))

      pub far_is : is_far (decode b) c ≡ cond (eqb b.drawn 0) (not (fits_from b.times head.time n)) false
      far_is = by-test (eqb b.drawn 0) (λ t. rw t (far_none (eqb-true b.drawn 0 t))) (λ t. rw t (near_some (eqb-false b.drawn 0 t)))

      pub step_far : is_far (decode b) c ≡ true → JudgedAs b b c mark store store Far
      step_far f =
          kept Far
          (judge_timely ∙ ap (λ (v : Bool). cond v (keeps (decode b) store Far) (judge_held c mark (decode b) store (find_by (side_of_entry (entry_of c mark 0)) es))) f)

      module _ (p : Result ℕ ℕ) (found : p ≡ place_from b.times b.tags head.time (channel_in head) n 0) where
        -- of any entry of the pair
        at : (e : Entry) → head.time ≡ e.time → channel_in head ≡ e.channel → AtPlace e es p
        at e t d =
            place_at_lem e es (facts b m w).room (λ x i. ((facts b m w).each x i).octet) p
            (found
            ∙ ap₂ (λ (xs ys : List ℕ). place_from xs ys head.time (channel_in head) n 0) (sym (ap (λ (a : Buffer). a.times) back)) (sym (ap (λ (a : Buffer). a.tags) back))
            ∙ ap (λ (k : ℕ). place_from (column (λ x. x.time) es) (column entry_tag es) head.time (channel_in head) k 0) size
            ∙ ap₂ (λ (t d : ℕ). place_from (column (λ x. x.time) es) (column entry_tag es) t d (length es) 0) t d)

        at_copy : (x k : ℕ) → AtPlace (entry_of c x k) es p
        unfolding entry_of
        at_copy x k = at (entry_of c x k) refl refl

        judge_near : is_far (decode b) c ≡ false → (o : Option Entry) → held_by p es ≡ o → judge (decode b) store c mark ≡ judge_held c mark (decode b) store o
        judge_near far o q =
            judge_timely
            ∙ ap₂ (λ (v : Bool) (o : Option Entry). cond v (keeps (decode b) store Far) (judge_held c mark (decode b) store o)) far ((at_copy mark 0).held ∙ q)

      -- The pair is held

      module _ (i : ℕ) (found : Ok i ≡ place_from b.times b.tags head.time (channel_in head) n 0) where
        abbrev here_at : (x k : ℕ) → AtPlace (entry_of c x k) es (Ok i)
        here_at = at_copy (Ok i) found

        entry_here : get_or es i no_entry ≡ entry_at b i
        entry_here = entries_at b (held_in b.occupied) 0 i (omega (arith, (here_at 0 0).within, decode_length b m w)) ∙ ap (entry_at b) (zero-add i)

        abbrev e_in : Memᴰ (get_or es i no_entry) es
        e_in = at_member es i (here_at 0 0).within

        pub held_at : length frame ≤ slot_size → store_size ≤ length store → can_replace b.lengths b.slots i (length frame) (length store) ≡ true
        held_at k l = can_replace_lem b.lengths b.slots i (length frame) (length store) (record {
          place = omega (arith, (here_at 0 0).within, (facts b m w).room);
          slot = subst (λ (e : Entry). e.slot < slots) entry_here ((facts b m w).slot_facts.within (get_or es i no_entry) e_in);
          held =
              subst (λ (e : Entry). e.length ≤ slot_size) entry_here
              (allowed_frame b.settings.format (get_or es i no_entry).class (get_or es i no_entry).length ((facts b m w).each (get_or es i no_entry) e_in).frame).1;
          short = k;
          store = l;
        })

        beats_here : better c (view store (get_or es i no_entry)) ≡ beats head frame b.tags b.lengths b.slots i store
        unfolding view
        beats_here = ap (λ (e : Entry). better c (view store e)) entry_here

        -- the entry, and its slot
        abbrev held : Entry
        held = get_or es i no_entry

        abbrev slot_of_lem : ℕ
        slot_of_lem = held.slot

        -- the copy's entry in that slot, and the entry with another mark
        abbrev replaced : Entry
        replaced = entry_of c (either_mark mark held.primary) slot_of_lem

        abbrev repeated : Entry
        repeated = remarked (either_mark held.primary mark) held

        judge_found : is_far (decode b) c ≡ false → (v : Bool) → beats head frame b.tags b.lengths b.slots i store ≡ v
            → judge (decode b) store c mark ≡ cond v (lays c (either_mark mark held.primary) slot_of_lem (decode b) store Better) (repeats held mark (decode b) store)
        unfolding judge_held
        judge_found far v q =
            judge_near (Ok i) found far (some held) refl
            ∙ ap (λ (v : Bool). cond v (lays c (either_mark mark held.primary) slot_of_lem (decode b) store Better) (repeats held mark (decode b) store)) (beats_here ∙ q)

        -- an entry of the pair in that slot takes the place of the one held
        module _ (e : Entry) (pair : (head.time ≡ e.time) × (channel_in head ≡ e.channel)) (own : e.slot ≡ slot_of_lem) where
          put_at_lem : AtPlace e es (Ok i)
          put_at_lem = at (Ok i) found e pair.0 pair.1

          put_is : placed e es ≡ set es i e
          unfolding placed
          put_is = put_at_lem.put

          column_put : (f : Entry → ℕ) → column f (placed e es) ≡ column f (set es i e)
          column_put f = ap (column f) put_is

          buffer_put : (g : ℕ) → entry_tag e ≡ g → (lengths : List ℕ) → column (λ x. x.length) (set es i e) ≡ lengths
              → encode b.settings (holding e (decode b)) ≡ laid b.times (set b.tags i g) lengths b.slots b.occupied
          buffer_put g q lengths l = λ j. record {
            times = (column_put (λ x. x.time) ∙ column_same (λ x. x.time) es i e put_at_lem.same.0 ∙ ap (λ (a : Buffer). a.times) back) j;
            tags = (column_put entry_tag ∙ column_set entry_tag es i e put_at_lem.within ∙ ap₂ (λ (a : Buffer) (g : ℕ). set a.tags i g) back q) j;
            lengths = (column_put (λ x. x.length) ∙ l) j;
            slots = (column_put slot_of ∙ column_same slot_of es i e own ∙ ap (λ (a : Buffer). a.slots) back) j;
            occupied = (ap (λ (l : List Entry). words_of (slots_of l)) put_is ∙ words_set es i e own ∙ words_held b m w) j;
            last_time = b.last_time;
            last_channel = b.last_channel;
            drawn = ap (λ (a : Buffer). a.drawn) back j;
            settings = b.settings;
          }

        abbrev tag_of_lem : ℕ
        tag_of_lem = get_or b.tags i 0

        buffer_better : encode b.settings (holding replaced (decode b))
            ≡ laid b.times (set b.tags i (joined_tag head.tag tag_of_lem)) (set b.lengths i (length frame)) b.slots b.occupied
        unfolding entry_of
        buffer_better =
            buffer_put replaced (refl, refl) refl (joined_tag head.tag tag_of_lem)
            (ap (λ (e : Entry). tag_of (either_mark mark e.primary) (class_in head) (channel_in head)) entry_here) (set b.lengths i (length frame))
            (column_set (λ x. x.length) es i replaced (here_at 0 0).within ∙ ap (λ (a : Buffer). set a.lengths i (length frame)) back)

        buffer_repeated : encode b.settings (holding repeated (decode b)) ≡ laid b.times (set b.tags i (joined_tag tag_of_lem head.tag)) b.lengths b.slots b.occupied
        unfolding entry_of remarked
        buffer_repeated =
            buffer_put repeated (here_at 0 0).same refl (joined_tag tag_of_lem head.tag)
            (ap (λ (e : Entry). tag_of (either_mark e.primary mark) e.class e.channel) entry_here) b.lengths
            (column_same (λ x. x.length) es i repeated refl ∙ ap (λ (a : Buffer). a.lengths) back)

        pub step_found : is_far (decode b) c ≡ false → (b' : Buffer) (store' : List ℕ) (v : Verdict) → Replaced head frame b b' i store store' v → JudgedAs b b' c mark store store' v
        unfolding stored
        step_found far b' store' v r =
            let buffer-by : (x : Bool) → beats head frame b.tags b.lengths b.slots i store ≡ x
            → b' ≡ record b { tags = set b.tags i (cond x (joined_tag head.tag tag_of_lem) (joined_tag tag_of_lem head.tag)); lengths = cond x (set b.lengths i (length frame)) b.lengths }
            = λ x t. r.buffer ∙ ap (λ (x : Bool). record b { tags = set b.tags i (cond x (joined_tag head.tag tag_of_lem) (joined_tag tag_of_lem head.tag)); lengths = cond x (set b.lengths i (length frame)) b.lengths }) t in
            by-test (beats head frame b.tags b.lengths b.slots i store)
            (λ t.
            let q = judge_found far true t in
            record {
              verdict = same_verdict _ _ r.verdict ∙ ap (λ (x : Bool). cond x Better Repeated) t ∙ sym (ap (λ (j : Judged). j.verdict) q);
              buffer = buffer-by true t ∙ sym (ap (λ (j : Judged). encode b.settings j.held) q ∙ buffer_better);
              store_left =
                  r.store_left ∙ ap (λ (x : Bool). cond x (paste store (slot_size * get_or b.slots i 0) frame (length frame)) store) t
                  ∙ sym (ap (λ (j : Judged). j.store) q ∙ ap (λ (e : Entry). paste store (slot_size * e.slot) frame (length frame)) entry_here);
            })
            (λ t.
            let q = judge_found far false t in
            record {
              verdict = same_verdict _ _ r.verdict ∙ ap (λ (x : Bool). cond x Better Repeated) t ∙ sym (ap (λ (j : Judged). j.verdict) q);
              buffer = buffer-by false t ∙ sym (ap (λ (j : Judged). encode b.settings j.held) q ∙ buffer_repeated);
              store_left =
                  r.store_left ∙ ap (λ (x : Bool). cond x (paste store (slot_size * get_or b.slots i 0) frame (length frame)) store) t ∙ sym (ap (λ (j : Judged). j.store) q);
            })

      -- The pair is not held

      module _ (i : ℕ) (found : Err i ≡ place_from b.times b.tags head.time (channel_in head) n 0) where
        place_in : i ≤ n
        place_in = omega (arith, (at_copy (Err i) found mark 0).within, size)

        judge_new : is_far (decode b) c ≡ false → (v : Bool) → ltb (length es) slots ≡ v
            → judge (decode b) store c mark ≡ cond v (lays c mark (free_slot es) (decode b) store Inserted) (keeps (decode b) store NoRoom)
        unfolding judge_held
        judge_new far v q =
            judge_near (Err i) found far none refl
            ∙ ap (λ (v : Bool). cond v (lays c mark (free_slot es) (decode b) store Inserted) (keeps (decode b) store NoRoom)) q

        pub step_full : is_far (decode b) c ≡ false → slots ≤ n → JudgedAs b b c mark store store NoRoom
        step_full far l = kept NoRoom (judge_new far false (le-ltb (length es) slots (omega (arith, size))))

        module _ (space : n < slots) where
          pub free_at : length frame ≤ slot_size → store_size ≤ length store → can_insert (lowest_free b.occupied) n i (length frame) (length store) ≡ true
          free_at k l =
              can_insert_lem (lowest_free b.occupied) n i (length frame) (length store)
              (record { slot_in = free_when_room b.occupied (omega (arith, count)); space = space; place = place_in; short = k; store = l })

          free_here : lowest_free b.occupied ≡ free_slot es
          free_here = ap lowest_free (sym (words_held b m w)) ∙ free_is es (facts b m w).slot_facts

          abbrev k : ℕ
          k = lowest_free b.occupied

          new_is : placed (entry_of c mark (free_slot es)) es ≡ inserted i (entry_of c mark k) es
          unfolding placed
          new_is = ap (λ (x : ℕ). put side_of_entry always (entry_of c mark x) es) (sym free_here) ∙ (at_copy (Err i) found mark k).put

          column_new : (f : Entry → ℕ) → column f (placed (entry_of c mark (free_slot es)) es) ≡ insert_at (column f es) n i (f (entry_of c mark k))
          column_new f =
              ap (column f) new_is ∙ column_insert f es i (entry_of c mark k) (omega (arith, place_in, size)) (omega (arith, size))
              ∙ ap (λ (x : ℕ). insert_at (column f es) x i (f (entry_of c mark k))) (sym size)

          buffer_new : encode b.settings (lays c mark (free_slot es) (decode b) store Inserted).held
              ≡ laid (insert_at b.times n i head.time) (insert_at b.tags n i head.tag) (insert_at b.lengths n i (length frame)) (insert_at b.slots n i k) (marked b.occupied k)
          unfolding entry_of
          buffer_new = λ j. record {
            times = (column_new (λ e. e.time) ∙ ap (λ (a : Buffer). insert_at a.times n i head.time) back) j;
            tags = (column_new entry_tag ∙ ap₂ (λ (a : Buffer) (g : ℕ). insert_at a.tags n i g) back (tag_back head.tag)) j;
            lengths = (column_new (λ e. e.length) ∙ ap (λ (a : Buffer). insert_at a.lengths n i (length frame)) back) j;
            slots = (column_new slot_of ∙ ap (λ (a : Buffer). insert_at a.slots n i k) back) j;
            occupied =
                (ap (λ (l : List Entry). words_of (slots_of l)) new_is ∙ words_insert es i (entry_of c mark k) (free_when_room b.occupied (omega (arith, count)))
                ∙ ap (λ (x : List ℕ). marked x k) (words_held b m w)) j;
            last_time = b.last_time;
            last_channel = b.last_channel;
            drawn = ap (λ (a : Buffer). a.drawn) back j;
            settings = b.settings;
          }

          pub step_new : is_far (decode b) c ≡ false → (b' : Buffer) (store' : List ℕ) → Laid head frame b b' n i store store' → JudgedAs b b' c mark store store' Inserted
          unfolding stored
          step_new far b' store' r =
              let q = judge_new far true (lt-ltb (length es) slots (omega (arith, size))) in
              record {
                verdict = sym (ap (λ (j : Judged). j.verdict) q);
                buffer = r.buffer ∙ sym (ap (λ (j : Judged). encode b.settings j.held) q ∙ buffer_new);
                store_left = r.store_left ∙ sym (ap (λ (j : Judged). j.store) q ∙ ap (λ (x : ℕ). paste store (slot_size * x) frame (length frame)) (sym free_here));
              }
