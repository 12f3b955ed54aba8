-- Laws of a table of contents that was read: its groups are runs, one after another, also with the first entry's DIS1 passed over.
use mathlib.Core.Path.{◌≡◌, refl, ap, sym, ◌∙◌, subst}
use Rattle.rtp.specs.declared.refusal.Refusal.{Refusal}
use Rattle.std.specs.Prelude.{None, Option, Some, Err, Ok, Result}
use Rattle.formats.specs.declared.frames.Frame.{Frame}
use mathlib.Core.List.{List, [], ◌∷◌}
use mathlib.Core.Bool.{Bool}
use Prim.Native.Nat.{ℕ, zero, suc, ◌+◌, ◌*◌, ◌/◌, ◌%◌, ◌≤◌, ◌<◌}
use native.Mathlib.Omega.{arith}
use lib.ListN.{length, get_or, drop}
use lib.Dec.{ltb, eqb}
use Rattle.rtp.specs.Editions.{Edition}
use Rattle.rtp.specs.Sizes.{max_rows}
use Rattle.rtp.specs.Numbers.{byte_at}
use Rattle.rtp.proofs.TestLaws.{by-test}
use Rattle.rtp.proofs.ByteLaws.{Bytes, bytes_drop}
use Rattle.formats.specs.Formats.{format_of, max_gap}
use Rattle.read_contents.specs.declared.entries.Entry.{Entry}
use Rattle.formats.specs.Frames.{frame_of}
use Rattle.read_contents.specs.Contents.{min_entry, code_in, blocks_in, entry_size, coded_entry, entry_of, Group, Contents, refused, groups, half_at, gap_at, gaps_from, meaning, prepend, contents_step, contents, direct, pass_first}
use Rattle.read_contents.proofs.EntryLaws.{past, same_entry, code_in_lem, fair}
use Rattle.read_contents.proofs.ContentsLaws.{contents_step_lem, shorter, blocks_of_lem}
use Rattle.read_rows.proofs.FirstLaws.{length_direct}
use Rattle.frame_codes.specs.Codes.{no_code, code_for}
use Rattle.write_plan.specs.Entries.{max_blocks}
use Rattle.write_plan.specs.Plans.{head_gap}
use Rattle.frame_codes.proofs.CodeLaws.{code_some}
use Rattle.write_claims.proofs.EntryBackLaws.{Run}
use Rattle.write_claims.proofs.TableBackLaws.{Runs, Counts}
use Rattle.write_claims.proofs.AttachLaws.{same_groups, first_gap}

-- The gaps of an entry

half_small : (s : List ℕ) (k : ℕ) → Bytes s → half_at s k ≤ 15
half_small s k bs = by-test (eqb (k % 2) 0) (λ a. rw a (omega (arith, bs (k / 2)))) (λ a. rw a (omega arith))

gap_near : (format : ℕ) (s : List ℕ) (k : ℕ) → Bytes s → gap_at format s k ≤ max_gap format
unfolding gap_at max_gap
gap_near format s k bs =
    by-test (format_of format).displaced (λ b. rw b (half_small (drop (min_entry format) s) k (bytes_drop (min_entry format) s bs))) (λ b. rw b (omega arith))

gaps_near : (format : ℕ) (s : List ℕ) (k n i : ℕ) → Bytes s → get_or (gaps_from format s k n) i 0 ≤ max_gap format
unfolding gaps_from
gaps_near format s k zero i bs = omega arith
gaps_near format s k (suc n) zero bs = gap_near format s k bs
gaps_near format s k (suc n) (suc i) bs = gaps_near format s (k + 1) n i bs

-- An entry

record Told (format : ℕ) (s : List ℕ) (e : Entry) : Type 0 where
  code : code_for format e.class e.length < no_code
  blocks : e.blocks ≡ blocks_in format s

told_coded : (format k : ℕ) (s : List ℕ) (m : Bool) (size : ℕ) (e : Entry) (c : Option Frame) → k < (format_of format).codes → frame_of format k ≡ c
    → coded_entry m (blocks_in format s) size c ≡ Ok e → Told format s e
told_coded format k s m size e None l q h = let z : ◌≡◌ {A = ℕ} 0 1 = cc in absurd (omega arith)
told_coded format k s m size e (Some f) l q h =
    let p = past (eqb (blocks_in format s) 0) _ _ e h in
    subst (Told format s) (same_entry _ e p.1) (record { code = code_some format f.class f.length k l q; blocks = refl })

told : (format : ℕ) (s : List ℕ) (e : Entry) → entry_of format s ≡ Ok e → Told format s e
unfolding entry_of
told format s e h =
    let p1 = past (ltb (length s) (min_entry format)) _ _ e h in
    let p2 = past (ltb (length s) (entry_size format (blocks_in format s))) _ _ e p1.1 in
    told_coded format (code_in format (byte_at s 0)) s _ _ e (frame_of format (code_in format (byte_at s 0))) (code_in_lem format (byte_at s 0)) refl p2.1

read_run : (format : ℕ) (s : List ℕ) (e : Entry) → entry_of format s ≡ Ok e → Bytes s → Run format (meaning format s e)
unfolding meaning
read_run format s e h bs =
    let t = told format s e h in
    let f = fair format s e h in
    let n : length (gaps_from format s 0 e.blocks) ≡ e.blocks = unfold meaning in blocks_of_lem format s e in
    record {
      code = t.code;
      some = omega arith;
      near = λ i. gaps_near format s 0 e.blocks (suc i) bs;
      alone = λ a. n ∙ t.blocks ∙ rw a;
    }

read_few : (format : ℕ) (s : List ℕ) (e : Entry) → entry_of format s ≡ Ok e → Bytes s → length (meaning format s e).gaps ≤ max_blocks
read_few format s e h bs =
    let few : blocks_in format s ≤ max_blocks = by-test (format_of format).counted (λ a. rw a (omega (arith, bs 1))) (λ a. rw a (omega arith)) in
    omega (arith, blocks_of_lem format s e, (told format s e h).blocks, few)

read_first : (format : ℕ) (s : List ℕ) (e : Entry) → Bytes s → head_gap (meaning format s e) ≤ max_gap format
unfolding meaning
read_first format s e bs = gaps_near format s 0 e.blocks 0 bs

-- A table

abbrev Read : ℕ → List Group → Type 0
Read format hs = Runs format hs × (1 ≤ length hs) × Counts hs

read_step : (ed : Edition) (format ch rows : ℕ) (s : List ℕ) (hs : List Group) → Bytes s
    → ((n : ℕ) (e : Entry) → entry_of format s ≡ Ok e → (gs : List Group) → contents ed format ch n (drop e.size s) ≡ groups gs → Read format gs)
    → (r : Result Entry Refusal) → entry_of format s ≡ r → contents_step ed format ch rows s (λ n t. contents ed format ch n t) r ≡ groups hs → Read format hs
unfolding meaning
read_step ed format ch rows s hs bs ih (Err q) h k = let z : ◌≡◌ {A = ℕ} 0 1 = cc in absurd (omega arith)
read_step ed format ch rows s hs bs ih (Ok e) h k =
    by-test (ltb (max_rows ed) (rows + e.blocks * ch))
    (λ a. let y = rw a at k in let z : ◌≡◌ {A = ℕ} 0 1 = cc in absurd (omega arith))
    (λ a. by-test e.more
    (λ b. more (contents ed format ch (rows + e.blocks * ch) (drop e.size s)) refl (rw (a, b) at k))
    (λ b. subst (Read format) (same_groups (meaning format s e ∷ []) hs (rw (a, b) at k)) ((read_run format s e h bs, read_first format s e bs, tt), omega arith, (read_few format s e h bs, tt))))
  where
    more : (x : Contents) → contents ed format ch (rows + e.blocks * ch) (drop e.size s) ≡ x → prepend e.size (meaning format s e) x ≡ groups hs → Read format hs
    more (refused q) i j = let z : ◌≡◌ {A = ℕ} 0 1 = cc in absurd (omega arith)
    more (groups gs) i j = subst (Read format) (same_groups (meaning format s e ∷ gs) hs j) ((read_run format s e h bs, read_first format s e bs, (ih (rows + e.blocks * ch) e h gs i).0), omega arith, (read_few format s e h bs, (ih (rows + e.blocks * ch) e h gs i).2))

read_by : (ed : Edition) (f format ch rows : ℕ) (s : List ℕ) (hs : List Group) → length s < f → Bytes s → contents ed format ch rows s ≡ groups hs → Read format hs
read_by ed zero format ch rows s hs l bs h = absurd (omega arith)
read_by ed (suc f) format ch rows s hs l bs h =
    read_step ed format ch rows s hs bs (λ n e q gs k. read_by ed f format ch n (drop e.size s) gs (omega (arith, shorter format s e q)) (bytes_drop e.size s bs) k)
    (entry_of format s) refl (rw (contents_step_lem ed) at h)

pub read_runs : (ed : Edition) (format ch rows : ℕ) (s : List ℕ) (hs : List Group) → Bytes s → contents ed format ch rows s ≡ groups hs → Read format hs
read_runs ed format ch rows s hs bs h = read_by ed (suc (length s)) format ch rows s hs (omega arith) bs h

-- The first entry's DIS1 passed over

run_direct : (format : ℕ) (g : Group) → Run format g → Run format (record { class = g.class; length = g.length; gaps = direct g.gaps })
run_direct format g r =
    let n = length_direct g.gaps in
    record { code = r.code; some = omega (arith, r.some); near = λ i. later g.gaps i (r.near i); alone = λ a. n ∙ r.alone a }
  where
    later : (l : List ℕ) (i : ℕ) → get_or l (suc i) 0 ≤ max_gap format → get_or (direct l) (suc i) 0 ≤ max_gap format
    later [] i h = h
    later (x ∷ l) i h = h

direct_first : (l : List ℕ) → get_or (direct l) 0 0 ≡ 0
direct_first [] = refl
direct_first (x ∷ l) = refl

-- of a table that was read
pub read_passed : (ed : Edition) (format ch rows : ℕ) (s : List ℕ) (hs : List Group) → Bytes s → pass_first (contents ed format ch rows s) ≡ groups hs → Read format hs
read_passed ed format ch rows s hs bs h = go (contents ed format ch rows s) refl h
  where
    go : (x : Contents) → contents ed format ch rows s ≡ x → pass_first x ≡ groups hs → Read format hs
    go (refused q) e k = let z : ◌≡◌ {A = ℕ} 0 1 = cc in absurd (omega arith)
    go (groups []) e k = let r = read_runs ed format ch rows s [] bs e in absurd (omega (arith, r.1))
    go (groups (g ∷ gs)) e k =
        let r = read_runs ed format ch rows s (g ∷ gs) bs e in
        subst (Read format) (same_groups _ hs k) ((run_direct format g r.0.0, omega (arith, direct_first g.gaps), r.0.2), omega arith, (omega (arith, length_direct g.gaps, r.2.0), r.2.1))

-- where nothing stands before the first frame-block, nothing is passed over
pub pass_none : (gs : List Group) → first_gap gs ≡ 0 → pass_first (groups gs) ≡ groups gs
pass_none [] f = refl
pass_none (g ∷ gs) f = λ j. groups (record { class = g.class; length = g.length; gaps = same g.gaps f j } ∷ gs)
  where
    same : (l : List ℕ) → get_or l 0 0 ≡ 0 → direct l ≡ l
    same [] e = refl
    same (x ∷ l) e = ap (λ (y : ℕ). y ∷ l) (sym e)
