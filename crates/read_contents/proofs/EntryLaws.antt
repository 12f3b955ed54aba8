-- Laws of one table entry.
use mathlib.Core.Path.{◌≡◌, refl, subst, ◌∙◌}
use Rattle.std.specs.Prelude.{None, Option, Some, Err, Ok, Result}
use Rattle.formats.specs.declared.frames.Frame.{Frame}
use mathlib.Core.List.{List}
use mathlib.Core.Bool.{Bool, true, false, cond}
use Prim.Native.Nat.{ℕ, ◌+◌, ◌/◌, ◌%◌, ◌≤◌, ◌<◌}
use native.Mathlib.Omega.{arith}
use native.Mathlib.Nat.{mod-lt}
use lib.ListN.{length, get_or, drop, get_or-eq_default}
use lib.Seq.{get_or-drop}
use lib.Dec.{ltb, eqb}
use borrow.Author.Tests.{ltb-false, eqb-false}
use Rattle.rtp.specs.Numbers.{byte_at}
use Rattle.rtp.specs.Sizes.{max_frame}
use Rattle.rtp.specs.declared.refusal.Refusal.{Refusal}
use Rattle.rtp.proofs.TestLaws.{by-test}
use Rattle.rtp.proofs.ByteLaws.{Bytes}
use Rattle.read_contents.specs.declared.entries.Entry.{Entry}
use Rattle.formats.specs.Formats.{format_of}
use Rattle.formats.specs.Frames.{max_class, frame_of}
use Rattle.read_contents.specs.Contents.{min_entry, code_in, blocks_in, entry_size, coded_entry, entry_of, half_at}
use Rattle.formats.proofs.FormatLaws.{code_placed, small_frame_lem}

-- what is read past a refusal
pub past : (b : Bool) (r : Refusal) (x : Result Entry Refusal) (e : Entry) → cond b (Err r) x ≡ Ok e → (b ≡ false) × (x ≡ Ok e)
past true r x e h = let z : ◌≡◌ {A = ℕ} 0 1 = cc in absurd (omega arith)
past false r x e h = (refl, h)

pub same_entry : (a b : Entry) → ◌≡◌ {A = Result Entry Refusal} (Ok a) (Ok b) → a ≡ b
same_entry a b h = cc

pub min_some : (format : ℕ) → 1 ≤ min_entry format
unfolding min_entry
min_some format = by-test (format_of format).counted (λ a. rw a (omega arith)) (λ a. rw a (omega arith))

pub min_few : (format : ℕ) → min_entry format ≤ 2
unfolding min_entry
min_few format = by-test (format_of format).counted (λ a. rw a (omega arith)) (λ a. rw a (omega arith))

pub min_counted : (format : ℕ) → (format_of format).counted ≡ true → min_entry format ≡ 2
unfolding min_entry
min_counted format c = rw c

pub size_some : (format n : ℕ) → 1 ≤ entry_size format n
unfolding entry_size
size_some format n = omega (arith, min_some format)

pub size_min : (format n : ℕ) → min_entry format ≤ entry_size format n
unfolding entry_size
size_min format n = omega arith

-- the code of any first byte is one of the format's
pub code_in_lem : (format first : ℕ) → code_in format first < (format_of format).codes
code_in_lem format first = mod-lt (first / (format_of format).unit) (code_placed format).some

-- what an entry that was read says of itself
pub record Fair (format : ℕ) (s : List ℕ) (e : Entry) : Type 0 where
  pub some : 1 ≤ e.size
  pub within : e.size ≤ length s
  pub blocks_some : 1 ≤ e.blocks
  pub few : Bytes s → e.blocks < 256
  pub short : e.length ≤ max_frame
  pub classes : e.class ≤ max_class
  pub sized : e.size ≡ entry_size format e.blocks

few_blocks : (format : ℕ) (s : List ℕ) → Bytes s → blocks_in format s < 256
few_blocks format s bs = by-test (format_of format).counted (λ a. rw a (bs 1)) (λ a. rw a (omega arith))

coded_fair : (format code : ℕ) (s : List ℕ) (m : Bool) (e : Entry) → code < (format_of format).codes → entry_size format (blocks_in format s) ≤ length s
    → (c : Option Frame) → frame_of format code ≡ c → coded_entry m (blocks_in format s) (entry_size format (blocks_in format s)) c ≡ Ok e → Fair format s e
coded_fair format code s m e l w None q h = let z : ◌≡◌ {A = ℕ} 0 1 = cc in absurd (omega arith)
coded_fair format code s m e l w (Some f) q h =
    let p = past (eqb (blocks_in format s) 0) _ _ e h in
    let k = small_frame_lem format code f l q in
    subst (λ (x : Entry). Fair format s x) (same_entry _ e p.1) (record {
      some = size_some format (blocks_in format s);
      within = w;
      blocks_some = omega (arith, eqb-false (blocks_in format s) 0 p.0);
      few = few_blocks format s;
      short = k.short;
      classes = k.classes;
      sized = refl;
    })

pub fair : (format : ℕ) (s : List ℕ) (e : Entry) → entry_of format s ≡ Ok e → Fair format s e
unfolding entry_of
fair format s e h =
    let p1 = past (ltb (length s) (min_entry format)) _ _ e h in
    let p2 = past (ltb (length s) (entry_size format (blocks_in format s))) _ _ e p1.1 in
    coded_fair format (code_in format (byte_at s 0)) s _ e (code_in_lem format (byte_at s 0)) (ltb-false (length s) (entry_size format (blocks_in format s)) p2.0) (frame_of format (code_in format (byte_at s 0))) refl p2.1

-- a half byte past the end is 0
pub half_past : (s : List ℕ) (n k : ℕ) → length s ≤ n + k / 2 → half_at (drop n s) k ≡ 0
half_past s n k h =
    let z : get_or (drop n s) (k / 2) 0 ≡ 0 = get_or-drop n s (k / 2) 0 ∙ get_or-eq_default s 0 h in
    by-test (eqb (k % 2) 0) (λ a. rw (a, z)) (λ a. rw (a, z))
