-- Laws of measuring a payload, case by case.
use mathlib.Core.Path.{◌≡◌, refl, ap, sym, ◌∙◌}
use Rattle.std.specs.Prelude.{None, Ok, Option, Some}
use mathlib.Core.List.{List}
use mathlib.Core.Bool.{true, false}
use Prim.Native.Nat.{ℕ, ◌%◌}
use native.Mathlib.Omega.{arith}
use lib.ListN.{length}
use borrow.Author.Tests.{eq-eqb, ne_eqb}
use Rattle.rtp.specs.Editions.{Edition}
use Rattle.rtp.specs.Sizes.{row_width}
use Rattle.rtp.specs.Ranges.{in_range}
use Rattle.rtp.specs.declared.settings.Settings.{Settings}
use Rattle.rtp.specs.declared.refusal.Refusal.TheVariants.{SettingsOutOfRange, Unwritable}
use Rattle.read_contents.specs.Contents.{Group, Contents, refused, groups, size_in}
use Rattle.write_plan.specs.declared.planning.Sizes.{Sizes}
use Rattle.write_plan.specs.Lists.{rows_in}
use Rattle.write_plan.specs.Plans.{unwritable, payload_size, plan}
use Rattle.write_plan.specs.Room.{list_answer}
use Rattle.write_sizes.specs.Measures.{written_numbers, planned_numbers, refused_numbers, measured}
use Rattle.write_sizes.proofs.PlannedLaws.{plan_refused}

-- The plan that an answer stands for

abbrev table_of : Option Sizes → ℕ
table_of (Some s) = s.table
table_of None = 0

abbrev payload_of : Option Sizes → ℕ
payload_of (Some s) = s.payload
payload_of None = 0

pub record Answered (format ch : ℕ) (x : Contents) (s : Sizes) : Type 0 where
  pub table_groups : List Group
  pub planned : x ≡ groups table_groups
  pub table : s.table ≡ size_in format table_groups
  pub payload : s.payload ≡ payload_size format ch table_groups

pub answered : (format ch : ℕ) (x : Contents) (s : Sizes) → Some s ≡ list_answer format ch x → Answered format ch x s
unfolding list_answer
answered format ch (refused q) s e = let z : ◌≡◌ {A = ℕ} 0 1 = cc in absurd (omega arith)
answered format ch (groups gs) s e = record { table_groups = gs; planned = refl; table = ap table_of e; payload = ap payload_of e }

pub unanswered : (ed : Edition) (format ch : ℕ) (ws : List ℕ) → None ≡ list_answer format ch (plan ed format ch (rows_in ws)) → plan ed format ch (rows_in ws) ≡ refused unwritable
unanswered ed format ch ws e = by_plan (plan ed format ch (rows_in ws)) refl e
  where
    by_plan : (x : Contents) → plan ed format ch (rows_in ws) ≡ x → None ≡ list_answer format ch x → plan ed format ch (rows_in ws) ≡ refused unwritable
    by_plan (refused q) x y = x ∙ ap refused (plan_refused ed format ch (rows_in ws) q x)
    by_plan (groups gs) x y = let z : ◌≡◌ {A = ℕ} 0 1 = unfold list_answer in cc in absurd (omega arith)

-- Measuring

pub measured_out : (ed : Edition) (st : Settings) (ws : List ℕ) → in_range ed st ≡ false → refused_numbers SettingsOutOfRange ≡ measured ed st ws
unfolding measured
measured_out ed st ws h = rw h

module _ (ed : Edition) (st : Settings) (ws : List ℕ) (i : in_range ed st ≡ true) where
  pub measured_cut : (length ws % row_width ≡ 0 → ⊥) → refused_numbers Unwritable ≡ measured ed st ws
  unfolding measured
  measured_cut w = rw (i, ne_eqb (length ws % row_width) 0 w)

  module _ (w : length ws % row_width ≡ 0) where
    pub measured_plan : measured ed st ws ≡ planned_numbers st.format st.channels (plan ed st.format st.channels (rows_in ws))
    unfolding measured
    measured_plan = rw (i, eq-eqb (length ws % row_width) 0 w)

    pub measured_none : plan ed st.format st.channels (rows_in ws) ≡ refused unwritable → refused_numbers Unwritable ≡ measured ed st ws
    measured_none e = sym (measured_plan ∙ ap (planned_numbers st.format st.channels) e)

    pub measured_all : (s : Sizes) → Answered st.format st.channels (plan ed st.format st.channels (rows_in ws)) s → written_numbers (Ok s.payload) ≡ measured ed st ws
    measured_all s d = sym (measured_plan ∙ ap (planned_numbers st.format st.channels) d.planned ∙ rw (← d.payload))
