-- Each promise of this crate allows one outcome: options and answers are kept apart by what is said of them. (A part and a code are promised as
-- they are.) Assumes nothing.
use Rattle.std.specs.Prelude.{Result}
use Rattle.refusal.specs.declared.Refusal.{Refusal}
use Rattle.sd_field.specs.declared.Fields.{Fields}
use Prim.Native.Nat.{ℕ}
use native.Mathlib.Omega.{arith}
use mathlib.Core.Path.{◌≡◌, sym, ap, ◌∙◌}
use mathlib.Core.List.{List}
use Rattle.numbers.specs.Answers.{given}
use Rattle.sd_format.specs.Settings.{Settings}
use Rattle.sd_format.specs.Frames.{read_option}
use Rattle.refusal.proofs.OneToOne.{said_one_to_one}
use Rattle.sd_field.specs.declared.SdOption.{SdOption}
use Rattle.sd_field.specs.Said.{option_said, Decoded, decoded, fields_said, rest_of}
use Rattle.sd_field.specs.Own.{option_coded}

-- ---- the code's option, back from what is said of it

pub option_back : (rest : List ℕ) (x : SdOption) → option_coded (option_said rest x) ≡ x
option_back rest x = grind arith

-- ---- one-to-one

pub option_one_to_one : (rest : List ℕ) (x y : SdOption) → option_said rest x ≡ option_said rest y → x ≡ y
option_one_to_one rest x y same = sym (option_back rest x) ∙ ap option_coded same ∙ option_back rest y

pub fields_one_to_one : (rest : List ℕ) (x y : Result Fields Refusal) → fields_said rest x ≡ fields_said rest y → x ≡ y
fields_one_to_one rest =
    said_one_to_one (λ (f : Fields). record { option = option_said rest f.option; size = f.size })
    (λ x y same. let option = option_one_to_one rest x.option y.option (ap (λ (d : Decoded). d.option) same) in
    let size = ap (λ (d : Decoded). d.size) same in
    λ i. record { option = option i; size = size i })

-- ---- any two outcomes that a promise allows are the same

pub read_fields_only : (g : Settings) (s : List ℕ) (x y : Result Fields Refusal) → fields_said (rest_of g s) x ≡ given decoded (read_option g s)
    → fields_said (rest_of g s) y ≡ given decoded (read_option g s) → x ≡ y
read_fields_only g s x y p q = fields_one_to_one (rest_of g s) x y (p ∙ sym q)
