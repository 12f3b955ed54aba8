-- Laws of a table's rows, and of the room that they need.
use Rattle.std.proofs.Common.{◌≡◌, ℕ, ◌+◌, ◌-◌, ◌*◌, ◌^◌, ◌<◌, ◌≤◌, true, false, ltb, List, [], ◌∷◌, ◌++◌, length, take, drop, sym, ap, ◌∙◌, subst, append-nil, arith, ltb-false, ltb-true}
use Rattle.std.specs.Prelude.{Err, Ok, Result}
use Rattle.read_contents.specs.declared.entries.Sizes.{Sizes}
use Rattle.rtp.specs.declared.refusal.Fault.{Fault}
use borrow.Rule.Slice.PartMut.{put_mid}
use Rattle.rtp.specs.Editions.{Edition}
use Rattle.rtp.specs.Sizes.{row_width, max_rows}
use Rattle.rtp.specs.Areas.{over}
use Rattle.rtp.specs.declared.refusal.Refusal.{Refusal}
use Rattle.rtp.proofs.TestLaws.{by-test}
use Rattle.rtp.proofs.AreaLaws.{over_none, over_part, part_to_end}
use Rattle.read_contents.specs.declared.entries.Entry.{Entry}
use Rattle.formats.specs.Frames.{step_of}
use Rattle.read_contents.specs.Contents.{entry_of, gaps_from, Contents, refused, groups, meaning, prepend, contents, sizes_answer}
use Rattle.read_rows.specs.Rows.{words, time_after, group_rows, table_rows, marked}
use Rattle.read_rows.specs.Room.{GroupRoom, TableRoom, contents_words}
use Rattle.read_contents.proofs.ContentsLaws.{contents_refused, contents_last, contents_more, length_gaps, at_many, at_last, at_more, ahead}
use Rattle.read_rows.proofs.RowLaws.{length_words, words_append, length_marked, marked_append}
use Rattle.read_rows.proofs.GroupLaws.{length_group}

room_ahead : (start area ch : ℕ) (e : Entry) (r : Result Sizes Fault) → TableRoom ch start area (ahead ch e r)
    → (row_width * (e.blocks * ch) ≤ area) × (start + e.blocks * ch * e.length < 2 ^ 32) × TableRoom ch (start + e.blocks * ch * e.length) (area - row_width * (e.blocks * ch)) r
room_ahead start area ch e (Err n) h = absurd h
room_ahead start area ch e (Ok t) h = (omega arith, omega arith, (omega arith, omega arith, h.2))

module _ (ed : Edition) (format ch rows start area : ℕ) (s : List ℕ) (e : Entry) (h : entry_of format s ≡ Ok e) (r : TableRoom ch start area (sizes_answer format ch (contents ed format ch rows s))) where
  pub room_few : rows + e.blocks * ch ≤ max_rows ed
  room_few =
      by-test (ltb (max_rows ed) (rows + e.blocks * ch))
      (λ a. absurd (subst (λ (x : Result Sizes Fault). TableRoom ch start area x) (at_many ed format ch rows s e h (ltb-true _ _ a)) r))
      (λ a. ltb-false _ _ a)

  room_both : (e.more ≡ true) → (row_width * (e.blocks * ch) ≤ area) × (start + e.blocks * ch * e.length < 2 ^ 32)
      × TableRoom ch (start + e.blocks * ch * e.length) (area - row_width * (e.blocks * ch)) (sizes_answer format ch (contents ed format ch (rows + e.blocks * ch) (drop e.size s)))
  room_both m = room_ahead start area ch e (sizes_answer format ch (contents ed format ch (rows + e.blocks * ch) (drop e.size s)))
      (subst (λ (x : Result Sizes Fault). TableRoom ch start area x) (at_more ed format ch rows s e h room_few m) r)

  room_here : (row_width * (e.blocks * ch) ≤ area) × (start + e.blocks * ch * e.length < 2 ^ 32)
  room_here =
      by-test e.more
      (λ m. ((room_both m).0, (room_both m).1))
      (λ m. let z = subst (λ (x : Result Sizes Fault). TableRoom ch start area x) (at_last ed format ch rows s e h room_few m) r in (z.0, z.1))

  room_channels : ch ≤ 256
  room_channels =
      by-test e.more
      (λ m. ch_of (ahead ch e (sizes_answer format ch (contents ed format ch (rows + e.blocks * ch) (drop e.size s))))
      (subst (λ (x : Result Sizes Fault). TableRoom ch start area x) (at_more ed format ch rows s e h room_few m) r))
      (λ m. (subst (λ (x : Result Sizes Fault). TableRoom ch start area x) (at_last ed format ch rows s e h room_few m) r).2)
    where
      ch_of : (x : Result Sizes Fault) → TableRoom ch start area x → ch ≤ 256
      ch_of (Err n) z = absurd z
      ch_of (Ok t) z = z.2

  pub room_group : GroupRoom e.blocks ch start e.length area
  room_group = record { area_fits = room_here.0; channels_fit = room_channels; frames_fit = room_here.1 }

  pub room_rest : (e.more ≡ true) → TableRoom ch (start + e.blocks * ch * e.length) (area - row_width * (e.blocks * ch)) (sizes_answer format ch (contents ed format ch (rows + e.blocks * ch) (drop e.size s)))
  room_rest m = (room_both m).2

-- the words of an entry that was read
abbrev pub first_words : ℕ → ℕ → ℕ → ℕ → ℕ → List ℕ → Entry → List ℕ
first_words mark format ch time start s e = words (marked mark (group_rows (step_of format) ch time e.class start e.length (gaps_from format s 0 e.blocks)))

pub length_first : (mark format ch time start : ℕ) (s : List ℕ) (e : Entry) → length (first_words mark format ch time start s e) ≡ row_width * (e.blocks * ch)
length_first mark format ch time start s e =
    length_words (marked mark (group_rows (step_of format) ch time e.class start e.length (gaps_from format s 0 e.blocks)))
    ∙ rw (length_marked, length_group, length_gaps)

pub words_single : (mark format ch time start : ℕ) (s : List ℕ) (e : Entry) → contents_words mark format ch time start (groups (meaning format s e ∷ [])) ≡ first_words mark format ch time start s e
unfolding contents_words table_rows meaning
words_single mark format ch time start s e = rw (append-nil (group_rows (step_of format) ch time e.class start e.length (gaps_from format s 0 e.blocks)))

pub words_ahead : (mark format ch time start area : ℕ) (s : List ℕ) (e : Entry) (p : Contents) → TableRoom ch (start + e.blocks * ch * e.length) area (sizes_answer format ch p)
    → contents_words mark format ch time start (prepend e.size (meaning format s e) p)
    ≡ first_words mark format ch time start s e ++ contents_words mark format ch (time_after (step_of format) time (gaps_from format s 0 e.blocks)) (start + e.blocks * ch * e.length) p
unfolding contents_words table_rows meaning sizes_answer
words_ahead mark format ch time start area s e (refused n) r = absurd r
words_ahead mark format ch time start area s e (groups es) r = rw (length_gaps, marked_append, words_append)

-- Written entry by entry

module _ (ed : Edition) (mark format ch time start rows : ℕ) (s l : List ℕ) where
  pub put_refused : (n : Refusal) → entry_of format s ≡ Err n → l ≡ over (contents_words mark format ch time start (contents ed format ch rows s)) l
  unfolding contents_words
  put_refused n h = rw (contents_refused ed format ch rows s n h) (sym (over_none l))

  module _ (e : Entry) (h : entry_of format s ≡ Ok e) (few : rows + e.blocks * ch ≤ max_rows ed) (m : List ℕ) (w : m ≡ over (first_words mark format ch time start s e) l) where
    pub put_last : e.more ≡ false → m ≡ over (contents_words mark format ch time start (contents ed format ch rows s)) l
    put_last x = w ∙ sym (ap (λ (p : Contents). over (contents_words mark format ch time start p) l) (contents_last ed format ch rows s e h few x) ∙ ap (λ (q : List ℕ). over q l) (words_single mark format ch time start s e))

    pub put_more : e.more ≡ true → (area next : ℕ) (z : List ℕ)
        → TableRoom ch (start + e.blocks * ch * e.length) area (sizes_answer format ch (contents ed format ch (rows + e.blocks * ch) (drop e.size s)))
        → next ≡ time_after (step_of format) time (gaps_from format s 0 e.blocks)
        → z ≡ over (contents_words mark format ch next (start + e.blocks * ch * e.length) (contents ed format ch (rows + e.blocks * ch) (take (length s - e.size) (drop e.size s))))
        (take (length m - row_width * (e.blocks * ch)) (drop (row_width * (e.blocks * ch)) m))
        → put_mid (row_width * (e.blocks * ch)) (length m - row_width * (e.blocks * ch)) m z ≡ over (contents_words mark format ch time start (contents ed format ch rows s)) l
    put_more x area next z r n v =
        over_part _ _ l m z (row_width * (e.blocks * ch)) (length_first mark format ch time start s e) w v
        ∙ sym (ap (λ (p : Contents). over (contents_words mark format ch time start p) l) (contents_more ed format ch rows s e h few x)
        ∙ ap (λ (q : List ℕ). over q l) (words_ahead mark format ch time start area s e _ r)
        ∙ rw (part_to_end e.size s, n))
