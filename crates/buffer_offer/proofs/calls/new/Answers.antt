use Prim.Native.Nat.{ℕ}
use mathlib.Core.Path.{◌≡◌, sym, ◌∙◌, ap}
use Rattle.rtp.specs.Editions.{current}
use Rattle.rtp.specs.Refusals.{number}
use Rattle.rtp.specs.declared.refusal.Refusal.TheVariants.{SettingsOutOfRange}
use Rattle.std.specs.Prelude.{Result}
use Rattle.rtp.specs.declared.refusal.Refusal.{Refusal}
use Rattle.buffer_layout.specs.declared.buffer.Buffer.{Buffer}
use Rattle.buffer_layout.specs.declared.buffer.Answered.{Answered}
use Rattle.buffer_layout.specs.Layout.{fresh}
use Rattle.buffer_offer.specs.Calls.{NewOutcome, new_number}
use Rattle.buffer_offer.proofs.CallLaws.{new_in, new_out}
use Rattle.buffer_offer.proofs.calls.new.Goals as goal

-- an outcome by its buffer
outcome : ℕ → Buffer → NewOutcome
outcome n b = record { refusal = n; buffer = b }

answered : Answered (Result Unit Refusal) → NewOutcome
answered r = record { refusal = new_number r.answer; buffer = r.buffer }

-- the default settings are zeros
zeros : (f c p r : ℕ) → f ≡ 0 → c ≡ 0 → p ≡ 0 → r ≡ 0 → fresh (record { format = f; channels = c; payload_type = p; redundancy_type = r }) ≡ fresh (record { format = 0; channels = 0; payload_type = 0; redundancy_type = 0 })
zeros f c p r a b d e = rw (a, b, d, e)

pub returns-then-in_range : goal.returns-then-in_range
unfolding outcome
returns-then-in_range c =
    ap (outcome 0) c.fresh_buffer.ensures ∙ sym (new_in current c.args.settings (sym c.in_range.ensures ∙ c.if-in_range.true))

pub returns : goal.returns
unfolding outcome answered
returns c =
    ap answered c.refused.ensures ∙ ap (outcome (number SettingsOutOfRange)) (c.fresh_buffer-2.ensures ∙ (let e = c.default-none.ensures in zeros _ _ _ _ e.0 e.1.0 e.1.1.0 e.1.1.1)) ∙ sym (new_out current c.args.settings (sym c.in_range.ensures ∙ c.if-in_range.false))
