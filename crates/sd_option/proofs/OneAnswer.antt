-- Any two answers that one promise of this crate allows are the same one. (A part is promised byte by byte, and a verdict is kept apart by what is
-- said of it, so there is nothing to show of them.) Assumes nothing.
use Rattle.std.specs.Prelude.{Result}
use Rattle.refusal.specs.declared.Refusal.{Refusal}
use Prim.Native.Nat.{ℕ}
use mathlib.Core.Path.{◌≡◌, sym, ◌∙◌}
use Rattle.numbers.specs.Answers.{Answer}
use Rattle.refusal.proofs.OneToOne.{said_one_to_one}
use Rattle.sd_format.specs.Kinds.{kind_of}
use Rattle.sd_option.specs.declared.kinds.OptionKind.{OptionKind}
use Rattle.sd_option.specs.declared.reading.OptionHead.{OptionHead}
use Rattle.sd_option.specs.Kinds.{kind_said}
use Rattle.sd_option.specs.Reading.{option_said}
use Rattle.sd_option.proofs.KindLaws.{kind_one_to_one}

-- `kind_of`
pub one_kind : (t : ℕ) (x y : OptionKind) → kind_said x ≡ kind_of t → kind_said y ≡ kind_of t → x ≡ y
one_kind t x y a b = kind_one_to_one x y (a ∙ sym b)

-- `read_option`, `read_option_unscanned`
pub option_one_to_one : (x y : Result OptionHead Refusal) → option_said x ≡ option_said y → x ≡ y
option_one_to_one = said_one_to_one (λ h. h) (λ h k same. same)

pub one_option_answer : (told : Answer OptionHead) (x y : Result OptionHead Refusal) → option_said x ≡ told → option_said y ≡ told → x ≡ y
one_option_answer told x y a b = option_one_to_one x y (a ∙ sym b)
