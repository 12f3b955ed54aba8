-- Laws of a group's rows.
use Rattle.std.proofs.Common.{◌≡◌, ℕ, zero, suc, ◌+◌, ◌-◌, ◌*◌, ◌%◌, ◌^◌, List, [], ◌∷◌, ◌++◌, length, take, drop, sym, refl, ap, ◌∙◌, suc-mul, add-mul, zero-mul, append_assoc, append-nil, add-one, arith, length-append}
use borrow.Rule.Slice.PartMut.{put_mid}
use Rattle.rtp.specs.Sizes.{row_width}
use Rattle.rtp.specs.Areas.{over}
use Rattle.rtp.proofs.AreaLaws.{over_none, over_part}
use Rattle.read_contents.specs.Contents.{gap_at, gaps_from}
use Rattle.read_contents.proofs.ContentsLaws.{length_gaps}
use Rattle.read_rows.specs.Rows.{words, placed, next_place, time_after, block_rows, group_rows, marked}
use Rattle.read_rows.proofs.RowLaws.{length_words, words_append, length_marked, marked_append, length_block}

-- a group with one frame-block more
gaps_more : (format : ℕ) (s : List ℕ) (k n : ℕ) → gaps_from format s k (suc n) ≡ gaps_from format s k n ++ (gap_at format s (k + n) ∷ [])
unfolding gaps_from
gaps_more format s k zero = let at : k + 0 ≡ k = omega arith in rw at
gaps_more format s k (suc n) = let at : k + 1 + n ≡ k + suc n = omega arith in rw (gaps_more format s (k + 1) n, at)

gaps_next : (format : ℕ) (s : List ℕ) (k : ℕ) → gaps_from format s 0 (k + 1) ≡ gaps_from format s 0 k ++ (gap_at format s k ∷ [])
gaps_next format s k = let none : 0 + k ≡ k = omega arith in rw (add-one, gaps_more format s 0 k, none)

time_last : (step time g : ℕ) (gs : List ℕ) → time_after step time (gs ++ (g ∷ [])) ≡ next_place step (time_after step time gs) g
unfolding time_after
time_last step time g [] = refl
time_last step time g (x ∷ gs) = time_last step (next_place step time x) g gs

group_last : (step ch time class start len g : ℕ) (gs : List ℕ) → group_rows step ch time class start len (gs ++ (g ∷ []))
    ≡ group_rows step ch time class start len gs ++ block_rows ch 0 (placed step (time_after step time gs) g) class (start + length gs * ch * len) len
unfolding group_rows time_after
group_last step ch time class start len g [] =
    let from : start + 0 * ch * len ≡ start = rw (zero-mul, zero-mul) (omega arith) in
    rw (append-nil, from)
group_last step ch time class start len g (x ∷ gs) =
    let from : start + ch * len + length gs * ch * len ≡ start + suc (length gs) * ch * len = omega (arith, add-mul ch (length gs * ch) len, suc-mul (length gs) ch) in
    rw (group_last step ch (next_place step time x) class (start + ch * len) len g gs, from, append_assoc)

pub length_group : (step ch time class start len : ℕ) (gs : List ℕ) → length (group_rows step ch time class start len gs) ≡ length gs * ch
unfolding group_rows
length_group step ch time class start len [] = simp zero-mul
length_group step ch time class start len (g ∷ gs) =
    let e = length_group step ch (next_place step time g) class (start + ch * len) len gs in
    simp (length-append, length_block, suc-mul) (omega (arith, e))

module _ (mark format step ch time class start len : ℕ) (s l : List ℕ) where
  pub time_none : time ≡ time_after step time (gaps_from format s 0 0)
  unfolding time_after gaps_from
  time_none = refl

  pub group_none : l ≡ over (words (marked mark (group_rows step ch time class start len (gaps_from format s 0 0)))) l
  unfolding group_rows words marked gaps_from
  group_none = sym (over_none l)

  module _ (k so_far here : ℕ) (o : so_far ≡ time_after step time (gaps_from format s 0 k)) (p : here ≡ placed step so_far (gap_at format s k)) where
    pub time_more : (next : ℕ) → next ≡ (here + step) % 2 ^ 32 → next ≡ time_after step time (gaps_from format s 0 (k + 1))
    time_more next q =
        q ∙ ap (λ (x : ℕ). (x + step) % 2 ^ 32) p
        ∙ ap (λ (x : ℕ). next_place step x (gap_at format s k)) o
        ∙ sym (time_last step time (gap_at format s k) (gaps_from format s 0 k))
        ∙ ap (time_after step time) (sym (gaps_next format s k))

    rows_more : words (marked mark (group_rows step ch time class start len (gaps_from format s 0 k))) ++ words (marked mark (block_rows ch 0 here class (start + k * ch * len) len))
        ≡ words (marked mark (group_rows step ch time class start len (gaps_from format s 0 (k + 1))))
    rows_more = rw (gaps_next format s k, group_last step ch time class start len (gap_at format s k) (gaps_from format s 0 k), marked_append, words_append, length_gaps, p, o)

    pub group_put : (m e : List ℕ) → m ≡ over (words (marked mark (group_rows step ch time class start len (gaps_from format s 0 k)))) l
        → e ≡ over (words (marked mark (block_rows ch 0 here class (start + k * ch * len) len))) (take (length m - row_width * (k * ch)) (drop (row_width * (k * ch)) m))
        → put_mid (row_width * (k * ch)) (length m - row_width * (k * ch)) m e ≡ over (words (marked mark (group_rows step ch time class start len (gaps_from format s 0 (k + 1))))) l
    group_put m e a b =
        let before = group_rows step ch time class start len (gaps_from format s 0 k) in
        over_part (words (marked mark before)) _ l m e (row_width * (k * ch))
        (length_words (marked mark before) ∙ ap (λ (x : ℕ). row_width * x)
        (length_marked mark before ∙ length_group step ch time class start len (gaps_from format s 0 k) ∙ ap (λ (x : ℕ). x * ch) (length_gaps format s 0 k))) a b
        ∙ ap (λ (w : List ℕ). over w l) rows_more
