-- Each promise of this crate allows one outcome: the answer, and the whole lent table where there is one. (A part is promised byte by byte, so
-- there is nothing to show of it.) Assumes nothing.
use Rattle.sd_option.specs.declared.reading.OptionHead.{OptionHead}
use Rattle.refusal.specs.declared.answers.Step.{Step}
use Rattle.std.specs.Prelude.{Result, Ok, Err, ℕ}
use Rattle.refusal.specs.declared.Refusal.{Refusal}
use Rattle.sd_index.specs.declared.lookup.Found.{Found}
use Prim.Native.Nat.{ℕ}
use mathlib.Core.Path.{◌≡◌, sym, ap, ◌∙◌}
use mathlib.Core.List.{List}
use Rattle.numbers.specs.Answers.{Answer, given}
use Rattle.numbers.proofs.AnswerLaws.{accepted_inj, not_refused}
use Rattle.sd_format.specs.Settings.{Settings}
use Rattle.sd_format.specs.Frames.{Frame, Run, next_option}
use Rattle.refusal.proofs.OneToOne.{same_refusal, count_one_to_one}
use Rattle.sd_option.specs.Reading.{head_of}
use Rattle.sd_option.proofs.OneAnswer.{one_option_answer}
use Rattle.sd_index.specs.declared.cursor.OptionCursor.{OptionCursor}
use Rattle.sd_index.specs.declared.cursor.RunCursor.{RunCursor}
use Rattle.sd_index.specs.Indexed.{Indexed, cleared}
use Rattle.sd_index.specs.Found.{found_said, look_up_told}
use Rattle.sd_index.specs.Steps.{run_of, run_said, OptionStepped, RunStepped}

-- ---- what is said of them keeps them apart

found_one : (x y : (Result Found Refusal)) → found_said x ≡ found_said y → x ≡ y
found_one (Ok f) (Ok g) same = ap Ok (accepted_inj f g same)
found_one (Ok f) (Err q) same = not_refused _ f (sym same)
found_one (Err r) (Ok g) same = not_refused _ g same
found_one (Err r) (Err q) same = ap Err (same_refusal r q same)

place_one : (x y : OptionCursor) → x.at.0 ≡ y.at.0 → x ≡ y
place_one x y same = λ i. record { at = record { 0 = same i } }

run_one : (x y : RunCursor) → run_said x ≡ run_said y → x ≡ y
run_one x y same = λ i. record { next = record { 0 = (same i).next }; left = (same i).left }

-- ---- so a promise allows one

-- `read_options` and `read_index`
pub index_only : (a : Answer (List Frame)) (tab tab₁ tab₂ : List ℕ) (x y : (Result ℕ Refusal)) → Indexed a tab tab₁ x → Indexed a tab tab₂ y → (x ≡ y) × (tab₁ ≡ tab₂)
index_only a tab tab₁ tab₂ x y p q = (count_one_to_one x y (p.told ∙ sym q.told), p.slots ∙ sym q.slots)

-- `clear_slots`
pub clear_only : (tab tab₁ tab₂ : List ℕ) → tab₁ ≡ cleared tab → tab₂ ≡ cleared tab → tab₁ ≡ tab₂
clear_only tab tab₁ tab₂ p q = p ∙ sym q

-- `look_up`
pub look_up_only : (s tab : List ℕ) (count k : ℕ) (x y : (Result Found Refusal)) → found_said x ≡ look_up_told s tab count k → found_said y ≡ look_up_told s tab count k → x ≡ y
look_up_only s tab count k x y p q = found_one x y (p ∙ sym q)

-- `OptionCursor::new` and `next`
pub option_new_only : (x y : OptionCursor) → x.at.0 ≡ 0 → y.at.0 ≡ 0 → x ≡ y
option_new_only x y p q = place_one x y (p ∙ sym q)

pub option_next_only : (g : Settings) (s : List ℕ) (at : ℕ) (x y : (Step OptionHead OptionCursor)) → OptionStepped g s at x → OptionStepped g s at y → x ≡ y
option_next_only g s at x y p q =
    let answer = one_option_answer (given head_of (next_option g s at)) x.answer y.answer p.answer q.answer in
    let cursor = place_one x.after y.after (p.cursor ∙ sym q.cursor) in
    λ i. record { answer = answer i; after = cursor i }

-- `RunCursor::new` and `next`
pub run_new_only : (start count : ℕ) (x y : RunCursor) → run_said x ≡ run_of start count → run_said y ≡ run_of start count → x ≡ y
run_new_only start count x y p q = run_one x y (p ∙ sym q)

pub run_next_only : (s tab : List ℕ) (count : ℕ) (r : Run) (x y : (Step Found RunCursor)) → RunStepped s tab count r x → RunStepped s tab count r y → x ≡ y
run_next_only s tab count r x y p q =
    let answer = found_one x.answer y.answer (p.answer ∙ sym q.answer) in
    let cursor = run_one x.after y.after (p.cursor ∙ sym q.cursor) in
    λ i. record { answer = answer i; after = cursor i }
