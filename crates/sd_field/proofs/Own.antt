-- Reading an option that was laid out gives its own fields, and its type code is the one in its layout. Assumes nothing.
use Rattle.std.specs.Prelude.{Result, Ok, Err}
use Rattle.refusal.specs.declared.Refusal.{Refusal}
use Rattle.sd_field.specs.declared.Fields.{Fields}
use Prim.Native.Nat.{ℕ}
use native.Mathlib.Omega.{arith}
use mathlib.Core.Path.{◌≡◌, sym, ap, ◌∙◌}
use mathlib.Core.List.{List, ◌++◌}
use lib.ListN.{length, drop}
use lib.Seq.{drop-drop}
use Rattle.numbers.specs.Answers.{Answer, accepted, given, part}
use Rattle.numbers.specs.Bytes.{be16}
use Rattle.numbers.proofs.AnswerLaws.{accepted_inj, not_refused}
use Rattle.sd_format.specs.Settings.{Settings}
use Rattle.sd_format.specs.Options.{Opt}
use Rattle.sd_format.specs.Kinds.{judge_content}
use Rattle.sd_format.specs.Frames.{Frame, read_option}
use Rattle.sd_format.specs.Layout.{lay_option, wire, OptionFits}
use Rattle.sd_format.proofs.FrameLaws.{length_frame, option_lay}
use Rattle.sd_format.proofs.FieldLaws.{wired}
use Rattle.refusal.specs.Said.{said}
use Rattle.sd_option.specs.Reading.{body_of}
use Rattle.sd_field.specs.declared.SdOption.{SdOption}
use Rattle.sd_field.specs.Said.{option_said, Decoded, decoded, fields_said, rest_of}
use Rattle.sd_field.specs.Own.{option_coded, ReadsOwn, CodeLaid}
use Rattle.sd_field.proofs.OneOutcome.{option_back}

module _ (g : Settings) (o : Opt) (later : List ℕ) (fits : OptionFits g o) where
  abbrev laid : List ℕ
  laid = lay_option o ++ later

  read_own : read_option g laid ≡ accepted (wire o)
  read_own =
      let w = wired g o fits in
      ap (λ (l : List ℕ). read_option g (l ++ later)) (sym w.layout) ∙ option_lay (judge_content g) (wire o) later w.sound

  fields_own : (r : Result Fields Refusal) → fields_said (rest_of g laid) r ≡ given decoded (read_option g laid) → r ≡ Ok (record { option = option_coded o; size = length (lay_option o) })
  unfolding given
  fields_own (Ok f) told =
      let w = wired g o fits in
      let same : ◌≡◌ {A = Decoded} (record { option = option_said (rest_of g laid) f.option; size = f.size }) (decoded (wire o)) = accepted_inj _ _ (told ∙ ap (given decoded) read_own) in
      let option : f.option ≡ option_coded o = sym (option_back (rest_of g laid) f.option) ∙ ap option_coded (ap (λ (d : Decoded). d.option) same ∙ w.own) in
      let size : f.size ≡ length (lay_option o) = ap (λ (d : Decoded). d.size) same ∙ sym (length_frame (wire o)) ∙ ap length w.layout in
      λ i. Ok (record { option = option i; size = size i })
  fields_own (Err q) told = not_refused (said q) (decoded (wire o)) (told ∙ ap (given decoded) read_own)

  pub reads_own : ReadsOwn g o later
  unfolding given
  reads_own =
      record {
        fields = fields_own;
        rest = ap (λ (a : Answer Frame). drop 1 (part (given body_of a))) read_own ∙ drop-drop 1 3 (lay_option o);
      }

pub code_laid : (x : SdOption) (rest : List ℕ) → CodeLaid x rest
unfolding lay_option be16
code_laid x rest = record { code = grind arith }
