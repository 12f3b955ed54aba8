-- Laws of what is written: each element is a byte.
use mathlib.Core.Path.{◌≡◌, refl}
use mathlib.Core.List.{List, [], ◌∷◌, ◌++◌}
use mathlib.Core.Bool.{Bool, true, false, cond}
use Prim.Native.Nat.{ℕ, zero, suc, ◌+◌, ◌*◌, ◌≤◌, ◌<◌}
use native.Mathlib.Omega.{arith}
use lib.ListN.{length, get_or, take, drop}
use lib.Dec.{eqb}
use Rattle.rtp.proofs.ByteLaws.{bytes_drop}
use Rattle.read_contents.specs.Contents.{Group}
use Rattle.read_rows.specs.Rows.{Row, frame_in}
use Rattle.formats.specs.Formats.{format_of, max_gap}
use Rattle.write_plan.specs.Plans.{head_gap}
use Rattle.write_payload.specs.Bytes.{halves, first_byte, start_bytes, gap_bytes, entry_bytes, table_bytes, frames}
use Rattle.write_sizes.specs.Asking.{request_bytes, max_request}
use Rattle.write_claims.specs.ReadingBack.{Bytes}
use Rattle.write_payload.proofs.EntryLaws.{first_small}
use Rattle.write_claims.proofs.EntryBackLaws.{Run, small_gaps}
use Rattle.write_claims.proofs.TableBackLaws.{Runs, Counts}

bytes_none : Bytes []
bytes_none i = omega arith

bytes_one : (x : ℕ) (s : List ℕ) → x < 256 → Bytes s → Bytes (x ∷ s)
bytes_one x s h b zero = h
bytes_one x s h b (suc i) = b i

pub bytes_append : (a b : List ℕ) → Bytes a → Bytes b → Bytes (a ++ b)
bytes_append [] b h k = k
bytes_append (x ∷ a) b h k = bytes_one x (a ++ b) (h 0) (bytes_append a b (λ i. h (suc i)) k)

bytes_take : (n : ℕ) (s : List ℕ) → Bytes s → Bytes (take n s)
bytes_take zero s h = bytes_none
bytes_take (suc n) [] h = bytes_none
bytes_take (suc n) (x ∷ s) h = bytes_one x (take n s) (h 0) (bytes_take n s (λ i. h (suc i)))

bytes_halves : (ns : List ℕ) → ((i : ℕ) → get_or ns i 0 < 16) → Bytes (halves ns)
unfolding halves
bytes_halves [] h = bytes_none
bytes_halves (a ∷ []) h = bytes_one (16 * a) [] (omega (arith, h 0)) bytes_none
bytes_halves (a ∷ b ∷ ns) h = bytes_one (16 * a + b) (halves ns) (omega (arith, h 0, h 1)) (bytes_halves ns (λ i. h (suc (suc i))))

bytes_either : (t : Bool) (a b : List ℕ) → (t ≡ true → Bytes a) → (t ≡ false → Bytes b) → Bytes (cond t a b)
bytes_either true a b h k = h refl
bytes_either false a b h k = k refl

bytes_entry : (format : ℕ) (more : Bool) (g : Group) → Run format g → head_gap g ≤ max_gap format → length g.gaps < 256 → Bytes (entry_bytes format more g)
unfolding entry_bytes
bytes_entry format more g r f few =
    bytes_append (start_bytes format more g.class g.length (length g.gaps)) (gap_bytes format g.gaps)
    (bytes_one (first_byte format more g.class g.length) (cond (format_of format).counted (length g.gaps ∷ []) []) (first_small format more g.class g.length r.code)
    (bytes_either (format_of format).counted (length g.gaps ∷ []) [] (λ a. bytes_one (length g.gaps) [] few bytes_none) (λ a. bytes_none)))
    (bytes_either (format_of format).displaced (halves g.gaps) [] (λ b. bytes_halves g.gaps (small_gaps format more g [] r f)) (λ b. bytes_none))

-- the mode request
pub bytes_request : (format request : ℕ) → request ≤ max_request → Bytes (request_bytes format request)
unfolding request_bytes
bytes_request format request h = bytes_either (eqb (format_of format).header 0) [] (16 * request ∷ []) (λ a. bytes_none) (λ a. bytes_one (16 * request) [] (omega arith) bytes_none)

-- a table
pub bytes_table : (format : ℕ) (gs : List Group) → Runs format gs → Counts gs → Bytes (table_bytes format gs)
unfolding table_bytes
bytes_table format [] v c = bytes_none
bytes_table format (g ∷ []) v c = bytes_entry format false g v.0 v.1 (omega (arith, c.0))
bytes_table format (g ∷ f ∷ gs) v c =
    bytes_append (entry_bytes format true g) (table_bytes format (f ∷ gs)) (bytes_entry format true g v.0 v.1 (omega (arith, c.0))) (bytes_table format (f ∷ gs) v.2 c.1)

pub bytes_frames : (bytes : List ℕ) (rs : List Row) → Bytes bytes → Bytes (frames bytes rs)
unfolding frames
bytes_frames bytes [] h = bytes_none
bytes_frames bytes (r ∷ rs) h = bytes_append (frame_in bytes r) (frames bytes rs) (bytes_take r.length (drop r.start bytes) (bytes_drop r.start bytes h)) (bytes_frames bytes rs h)
