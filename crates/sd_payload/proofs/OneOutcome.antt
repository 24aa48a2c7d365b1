-- Each promise of this crate allows one outcome: the answer, the whole lent table where there is one, and the parts byte by byte.
-- Assumes nothing.
use Rattle.std.specs.Prelude.{Result, Ok, Err, ℕ}
use Rattle.refusal.specs.declared.Refusal.{Refusal}
use Rattle.sd_payload.specs.declared.reading.SdPayload.{SdPayload}
use Prim.Native.Nat.{ℕ}
use mathlib.Core.Path.{◌≡◌, sym, ap, ◌∙◌}
use mathlib.Core.List.{List}
use Rattle.numbers.specs.Answers.{Answer}
use Rattle.numbers.proofs.AnswerLaws.{accepted_inj, not_refused}
use Rattle.sd_format.specs.Payload.{Reading}
use Rattle.refusal.specs.Said.{count_said}
use Rattle.refusal.proofs.OneToOne.{same_refusal, count_one_to_one}
use Rattle.sd_payload.specs.Sized.{sized}
use Rattle.sd_payload.specs.Reads.{payload_said, PayloadRead}
use Rattle.sd_payload.specs.Parts.{handed}

payload_one : (x y : Result SdPayload Refusal) → payload_said x ≡ payload_said y → x ≡ y
payload_one (Ok p) (Ok q) same = ap Ok (accepted_inj p q same)
payload_one (Ok p) (Err q) same = not_refused _ p (sym same)
payload_one (Err r) (Ok q) same = not_refused _ q same
payload_one (Err r) (Err q) same = ap Err (same_refusal r q same)

-- `judge_sizes`
pub sizes_only : (s : List ℕ) (x y : Result ℕ Refusal) → count_said x ≡ sized s → count_said y ≡ sized s → x ≡ y
sizes_only s x y p q = count_one_to_one x y (p ∙ sym q)

-- `read_payload` and `read_message`
pub read_only : (a : Answer Reading) (tab tab₁ tab₂ : List ℕ) (x y : Result SdPayload Refusal) → PayloadRead a tab tab₁ x → PayloadRead a tab tab₂ y → (x ≡ y) × (tab₁ ≡ tab₂)
read_only a tab tab₁ tab₂ x y p q = (payload_one x y (p.told ∙ sym q.told), p.slots ∙ sym q.slots)

-- `entries_part` and `options_part`
pub part_only : (answer : Result SdPayload Refusal) (s part x y : List ℕ) → x ≡ handed answer s part → y ≡ handed answer s part → x ≡ y
part_only answer s part x y p q = p ∙ sym q
