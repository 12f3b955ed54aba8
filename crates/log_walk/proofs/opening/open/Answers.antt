use Prim.Native.Nat.{ℕ}
use mathlib.Core.Path.{◌≡◌, sym, ap, ◌∙◌}
use Rattle.std.specs.Prelude.{Err}
use Rattle.rtp.specs.Editions.{current}
use Rattle.log_walk.specs.Opening.{open_numbers, no_cursor}
use Rattle.log_walk.specs.declared.opening.Cursor.{Cursor}
use Rattle.log_walk.proofs.FieldLaws.{open_as}
use Rattle.log_walk.proofs.opening.open.Goals as goal

-- the default record is that of zeros
made : (f c p r at n : ℕ) → f ≡ 0 → c ≡ 0 → p ≡ 0 → r ≡ 0 → at ≡ 0 → n ≡ 0 → ◌≡◌ {A = Cursor} (record { settings = record { format = f; channels = c; payload_type = p; redundancy_type = r }; place = at; count = n }) no_cursor
made f c p r at n a b d e g h = rw (a, b, d, e, g, h)

pub returns-in-Ok : goal.returns-in-Ok
returns-in-Ok c =
    sym (open_as current _ _ (sym c.first_field.ensures ∙ c.in-Ok.is))

pub returns-in-Err : goal.returns-in-Err
returns-in-Err c =
    ap (λ (u : Cursor). record { answer = open_numbers (Err c.in-Err.refusal); cursor = u }) (let e = c.default.ensures in made _ _ _ _ _ _ e.0.0 e.0.1.0 e.0.1.1.0 e.0.1.1.1 e.1.0 e.1.1)
    ∙ sym (open_as current _ _ (sym c.first_field.ensures ∙ c.in-Err.is))
