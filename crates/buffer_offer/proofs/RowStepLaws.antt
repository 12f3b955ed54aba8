-- Laws of judging rows, one for each way that a row goes.
use mathlib.Core.Path.{◌≡◌, refl, ap, sym, ◌∙◌, subst}
use mathlib.Core.List.{List, [], ◌∷◌, ◌++◌}
use mathlib.Core.Bool.{Bool, true, cond}
use Prim.Native.Nat.{ℕ, ◌+◌, ◌≤◌, ◌<◌, ◌^◌}
use native.Mathlib.Omega.{arith}
use lib.ListN.{length, take, drop, length-drop}
use lib.Seq.{length-take-le}
use borrow.Author.Tests.{eq-eqb, ne_eqb}
use Rattle.rtp.specs.Editions.{Edition}
use Rattle.rtp.specs.Sizes.{row_width}
use Rattle.rtp.specs.Ranges.{in_range}
use Rattle.rtp.proofs.RangeLaws.{few_channels}
use Rattle.formats.specs.Frames.{no_data}
use Rattle.row_tags.proofs.TagLaws.{mark_small}
use Rattle.read_rows.specs.Rows.{Row, row_of, rows_in}
use Rattle.buffer_copies.specs.declared.verdict.Verdict.{Verdict}
use Rattle.buffer_copies.specs.declared.verdict.Verdict.TheVariants.{Late, Far, Repeated, Better, NoRoom, Inserted}
use Rattle.buffer_copies.specs.Sizes.{store_size}
use Rattle.buffer_copies.specs.Copies.{Received}
use Rattle.buffer_copies.specs.Entries.{Held}
use Rattle.buffer_copies.specs.Verdicts.{Counts, counted, tally, Gathered, judge, judge_all}
use Rattle.buffer_layout.specs.declared.buffer.Buffer.{Buffer}
use Rattle.buffer_insert.specs.declared.tally.Tally.{Tally}
use Rattle.buffer_insert.specs.declared.laying.FrameHead.{FrameHead}
use Rattle.buffer_layout.specs.Layout.{encode, decode}
use Rattle.frame_codes.specs.Allowed.{allowed}
use Rattle.buffer_layout.specs.WellFormed.{well_formed}
use Rattle.buffer_offer.specs.Rows.{first_row, received_as, received_in}
use Rattle.buffer_layout.specs.Arrays.{Machine}
use Rattle.buffer_insert.specs.Laying.{mark_in, copy_in}
use Rattle.buffer_insert.specs.Tallies.{counts_of, tallied}
use Rattle.buffer_insert.proofs.TallyLaws.{tallied_is}
use Rattle.buffer_offer.specs.Judging.{Judgeable, JudgedAs, RowsAllowed, RowsJudgeable, RowsJudged, PartJudged}
use Rattle.buffer_offer.proofs.StateLaws.{Good, judge_good}
use Rattle.buffer_offer.proofs.BufferLaws.{buffer_good, good_machine, good_fine, good_back}
use Rattle.buffer_layout.proofs.WellFormedLaws.{encode_decode}

-- a frame's bytes are as many as its row says
pub frame_size : (packet : List ℕ) (start n : ℕ) → start + n ≤ length packet → length (take n (drop start packet)) ≡ n
frame_size packet start n h = length-take-le n (drop start packet) (simp length-drop (omega arith))

-- a row and those behind it
row_next : (x rest : List ℕ) → length x ≡ row_width → rows_in (x ++ rest) ≡ first_row x ∷ rows_in rest
unfolding rows_in
row_next [] rest h = absurd (omega arith)
row_next (a ∷ []) rest h = absurd (omega arith)
row_next (a ∷ b ∷ []) rest h = absurd (omega arith)
row_next (a ∷ b ∷ c ∷ []) rest h = absurd (omega arith)
row_next (a ∷ b ∷ c ∷ d ∷ []) rest h = refl
row_next (a ∷ b ∷ c ∷ d ∷ e ∷ x) rest h = absurd (omega arith)

pub rows_next : (ws x rest : List ℕ) → ws ≡ x ++ rest → length x ≡ row_width → rows_in ws ≡ first_row x ∷ rows_in rest
rows_next ws x rest e h = ap rows_in e ∙ row_next x rest h

abbrev total : Counts → ℕ
total n = n.late + n.far + n.repeated + n.better + n.no_room + n.inserted

total_counted : (n : Counts) (v : Verdict) → total (counted n v) ≡ total n + 1
total_counted n Late = omega arith
total_counted n Far = omega arith
total_counted n Repeated = omega arith
total_counted n Better = omega arith
total_counted n NoRoom = omega arith
total_counted n Inserted = omega arith

module _ (ed : Edition) (b : Buffer) (packet : List ℕ) (t : Tally) (store : List ℕ) where
  -- no row is left
  pub rows_over : (rs : List Row) → RowsJudgeable ed b packet rs t store → rs ≡ [] → RowsJudged b b packet rs t t store store
  unfolding judge_all tally received_in
  rows_over rs p e =
      let q : judge_all (decode b) store (received_in packet rs) ≡ record { held = decode b; store = store; judgements = [] } =
      ap (λ (l : List Row). judge_all (decode b) store (received_in packet l)) e in
      record {
        counts = sym (ap (λ (g : Gathered). tally (counts_of t) g.judgements) q);
        buffer = sym (ap (λ (g : Gathered). encode b.settings g.held) q ∙ encode_decode b p.machine p.fine);
        store_left = sym (ap (λ (g : Gathered). g.store) q);
      }

  module _ (r : Row) (rs : List Row) where
    -- a row of no data
    pub skip_asks : RowsJudgeable ed b packet (r ∷ rs) t store → RowsJudgeable ed b packet rs t store
    skip_asks p = record { machine = p.machine; settings = p.settings; fine = p.fine; rows = p.rows.1; small = omega (arith, p.small); room = p.room }

    pub skip_gives : r.class ≡ no_data → (b' : Buffer) (t' : Tally) (store' : List ℕ) → RowsJudged b b' packet rs t t' store store' → RowsJudged b b' packet (r ∷ rs) t t' store store'
    unfolding received_in
    skip_gives z b' t' store' j =
        let q : received_in packet rs ≡ received_in packet (r ∷ rs) =
        sym (ap (λ (v : Bool). cond v (received_in packet rs) (received_as packet r ∷ received_in packet rs)) (eq-eqb r.class no_data z)) in
        record {
          counts = j.counts ∙ ap (λ (l : List Received). tally (counts_of t) (judge_all (decode b) store l).judgements) q;
          buffer = j.buffer ∙ ap (λ (l : List Received). encode b.settings (judge_all (decode b) store l).held) q;
          store_left = j.store_left ∙ ap (λ (l : List Received). (judge_all (decode b) store l).store) q;
        }

  -- a row of a frame
  module _ (head : FrameHead) (start size : ℕ) (rs : List Row) where
    abbrev r : Row
    r = row_of head.time head.tag start size

    module _ (p : RowsJudgeable ed b packet (r ∷ rs) t store) (z : r.class ≡ no_data → ⊥) (frame : List ℕ) (cut : frame ≡ take r.length (drop r.start packet)) where
      frame_allowed_lem : allowed b.settings.format r.class (length frame) ≡ true
      frame_allowed_lem =
          ap (allowed b.settings.format r.class) (ap length cut ∙ frame_size packet r.start r.length (p.rows.0 z).2) ∙ (p.rows.0 z).0

      pub copy_asks : Judgeable ed b head frame store
      copy_asks = record { machine = p.machine; settings = p.settings; fine = p.fine; class = frame_allowed_lem; channel = (p.rows.0 z).1; room = p.room }

      module _ (word : r.time < 2 ^ 32) (b' : Buffer) (store' : List ℕ) (v : Verdict) (j : JudgedAs b b' (copy_in head frame) (mark_in head) store store' v) (t' : Tally) (summed : counts_of t' ≡ tallied (counts_of t) v) where
        more : counts_of t' ≡ counted (counts_of t) v
        more = summed ∙ tallied_is t v (omega (arith, p.small))

        abbrev next : Held
        next = (judge (decode b) store (copy_in head frame) (mark_in head)).held

        good : Good b.settings next (judge (decode b) store (copy_in head frame) (mark_in head)).store
        good = judge_good b.settings (decode b) store (copy_in head frame) (mark_in head) (buffer_good ed b p.machine p.settings p.fine store p.room) (record {
          frame = frame_allowed_lem;
          channel = (p.rows.0 z).1;
          octet = omega (arith, (p.rows.0 z).1, few_channels ed b.settings p.settings);
          word = word;
        }) (mark_small head.tag)

        pub next_asks : RowsJudgeable ed b' packet rs t' store'
        next_asks = record {
          machine = subst Machine (sym j.buffer) (good_machine b.settings next _ good);
          settings = subst (λ (x : Buffer). in_range ed x.settings ≡ true) (sym j.buffer) p.settings;
          fine = subst (λ (x : Buffer). well_formed x ≡ true) (sym j.buffer) (good_fine b.settings next _ good);
          rows = subst (λ (x : Buffer). RowsAllowed x.settings (length packet) rs) (sym j.buffer) p.rows.1;
          small = let s : total (counts_of t') ≡ total (counts_of t) + 1 = ap total more ∙ total_counted (counts_of t) v in omega (arith, p.small);
          room = subst (λ (x : List ℕ). store_size ≤ length x) (sym j.store_left) good.room;
        }

        pub next_gives : (b'' : Buffer) (t'' : Tally) (store'' : List ℕ) → RowsJudged b' b'' packet rs t' t'' store' store'' → RowsJudged b b'' packet (r ∷ rs) t t'' store store''
        unfolding received_in judge_all tally
        next_gives b'' t'' store'' k =
            let h : decode b' ≡ next = ap decode j.buffer ∙ good_back b.settings next _ good in
            let n : counts_of t' ≡ counted (counts_of t) (judge (decode b) store (copy_in head frame) (mark_in head)).verdict = more ∙ ap (counted (counts_of t)) j.verdict in
            let one : judge_all (decode b') store' (received_in packet rs) ≡ judge_all next (judge (decode b) store (copy_in head frame) (mark_in head)).store (received_in packet rs) =
            λ i. judge_all (h i) (j.store_left i) (received_in packet rs) in
            let cs : record { copy = copy_in head frame; primary = mark_in head } ∷ received_in packet rs ≡ received_in packet (r ∷ rs) =
            ap (λ (x : List ℕ). record { copy = copy_in head x; primary = mark_in head } ∷ received_in packet rs) cut
            ∙ sym (ap (λ (v : Bool). cond v (received_in packet rs) (received_as packet r ∷ received_in packet rs)) (ne_eqb r.class no_data z)) in
            let all : judge_all (decode b) store (record { copy = copy_in head frame; primary = mark_in head } ∷ received_in packet rs) ≡ judge_all (decode b) store (received_in packet (r ∷ rs)) =
            ap (judge_all (decode b) store) cs in
            record {
              counts = k.counts ∙ (λ i. tally (n i) (one i).judgements) ∙ ap (λ (g : Gathered). tally (counts_of t) g.judgements) all;
              buffer = k.buffer ∙ (λ i. encode (j.buffer i).settings (one i).held) ∙ ap (λ (g : Gathered). encode b.settings g.held) all;
              store_left = k.store_left ∙ ap (λ (g : Gathered). g.store) one ∙ ap (λ (g : Gathered). g.store) all;
            }

-- the rows, one after another

module _ (ed : Edition) (b : Buffer) (packet : List ℕ) (rs : List Row) (t : Tally) (store : List ℕ) where
  -- none judged yet
  pub part_none : (left : List Row) (t' : Tally) → left ≡ rs → t' ≡ t → RowsJudgeable ed b packet rs t store → PartJudged ed b b packet rs left t t' store store
  part_none left t' e u p = rw (e, u) (record { others = p; all = λ b'' t'' store'' j. j })

  module _ (b' : Buffer) (left : List Row) (t' : Tally) (store' : List ℕ) (p : PartJudged ed b b' packet rs left t t' store store') where
    -- one more
    pub part_more : (r : Row) (others : List Row) (b'' : Buffer) (t'' : Tally) (store'' : List ℕ) → left ≡ r ∷ others
        → (RowsJudgeable ed b' packet (r ∷ others) t' store' → PartJudged ed b' b'' packet (r ∷ others) others t' t'' store' store'')
        → PartJudged ed b b'' packet rs others t t'' store store''
    part_more r others b'' t'' store'' e f =
        let j = f (subst (λ (l : List Row). RowsJudgeable ed b' packet l t' store') e p.others) in
        record {
          others = j.others;
          all = λ z n s k. p.all z n s (subst (λ (l : List Row). RowsJudged b' z packet l t' n store' s) (sym e) (j.all z n s k));
        }

    -- none left
    pub part_all : left ≡ [] → RowsJudged b b' packet rs t t' store store'
    part_all e = p.all b' t' store' (rows_over ed b' packet t' store' left p.others e)
