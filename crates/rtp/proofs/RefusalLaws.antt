-- Laws of the refusal numbers.
use Rattle.std.proofs.Common.{◌≡◌, ℕ, ◌<◌, false, eqb, [], ◌∷◌, get_or, sym, refl, ap, ◌∙◌, arith, ne_eqb}
use Rattle.rtp.specs.declared.refusal.Refusal.{Refusal}
use Rattle.rtp.specs.declared.refusal.Refusal.TheVariants.{PacketLength, Version, HeaderTruncated, PaddingCount, UnknownPayloadType, ContentsTruncated, ReservedCode, NoFrameBlocks, TooManyRows, LengthMismatch, SettingsOutOfRange, AreaTooShort, Unwritable, RowOutsideBytes, Malformed, CutField, MisplacedTag, NotAllowed, WrongCount}
use Rattle.rtp.specs.declared.refusal.Fault.{Fault}
use Rattle.rtp.specs.Refusals.{number}
use Rattle.rtp.specs.Faults.{fault_at}

-- no refusal has the number 0
pub number_positive : (r : Refusal) → 0 < number r
number_positive PacketLength = omega arith
number_positive Version = omega arith
number_positive HeaderTruncated = omega arith
number_positive PaddingCount = omega arith
number_positive UnknownPayloadType = omega arith
number_positive ContentsTruncated = omega arith
number_positive ReservedCode = omega arith
number_positive NoFrameBlocks = omega arith
number_positive TooManyRows = omega arith
number_positive LengthMismatch = omega arith
number_positive SettingsOutOfRange = omega arith
number_positive AreaTooShort = omega arith
number_positive Unwritable = omega arith
number_positive RowOutsideBytes = omega arith
number_positive Malformed = omega arith
number_positive CutField = omega arith
number_positive MisplacedTag = omega arith
number_positive NotAllowed = omega arith
number_positive WrongCount = omega arith

-- each has its own
refusal_of : ℕ → Refusal
refusal_of n = get_or (PacketLength ∷ PacketLength ∷ Version ∷ HeaderTruncated ∷ PaddingCount ∷ UnknownPayloadType ∷ ContentsTruncated ∷ ReservedCode ∷ NoFrameBlocks ∷ TooManyRows ∷ LengthMismatch ∷ SettingsOutOfRange ∷ AreaTooShort ∷ Unwritable ∷ RowOutsideBytes ∷ Malformed ∷ PacketLength ∷ CutField ∷ MisplacedTag ∷ NotAllowed ∷ WrongCount ∷ []) n PacketLength

back : (r : Refusal) → refusal_of (number r) ≡ r
unfolding refusal_of
back PacketLength = refl
back Version = refl
back HeaderTruncated = refl
back PaddingCount = refl
back UnknownPayloadType = refl
back ContentsTruncated = refl
back ReservedCode = refl
back NoFrameBlocks = refl
back TooManyRows = refl
back LengthMismatch = refl
back SettingsOutOfRange = refl
back AreaTooShort = refl
back Unwritable = refl
back RowOutsideBytes = refl
back Malformed = refl
back CutField = refl
back MisplacedTag = refl
back NotAllowed = refl
back WrongCount = refl

pub same_number : (a b : Refusal) → number a ≡ number b → a ≡ b
same_number a b h = sym (back a) ∙ ap refusal_of h ∙ back b

-- faults of the same reason and place are the same
pub same_fault : (a b : Fault) → number a.refusal ≡ number b.refusal → a.offset ≡ b.offset → a ≡ b
same_fault a b h k = ap (λ (r : Refusal). fault_at a.offset r) (same_number a.refusal b.refusal h) ∙ ap (λ (n : ℕ). fault_at n b.refusal) k

pub not-zero {ℓ} : {P : Type ℓ} (r : Refusal) → number r ≡ 0 → P
not-zero r h = absurd (omega (arith, number_positive r))

pub number_some : (q : Refusal) → eqb (number q) 0 ≡ false
number_some q = ne_eqb (number q) 0 (λ h. not-zero q h)
