-- An option's fields by its kind, from the head that the reading told and the bytes after the type; and its type code. Assumes nothing.
use Rattle.std.specs.Prelude.{Ok}
use Rattle.numbers.specs.Refusals.{Refusal}
use Prim.Native.Nat.{ℕ, ◌-◌, ◌≤◌}
use mathlib.Core.Path.{◌≡◌, refl, sym, ap, ◌∙◌}
use mathlib.Core.List.{List}
use native.Mathlib.Omega.{arith}
use lib.ListN.{length, take, drop}
use Rattle.numbers.specs.Answers.{accepted, refused, pass, given}
use Rattle.numbers.proofs.AnswerLaws.{given_refused}
use Rattle.sd_format.specs.Settings.{Settings}
use Rattle.sd_format.specs.Kinds.{Row, row_of, kind_of, judge_length, judge_content}
use Rattle.sd_format.specs.Frames.{read_option}
use Rattle.sd_format.specs.Fields.{string, fields_of, fields}
use Rattle.sd_format.specs.Layout.{lay_length}
use Rattle.sd_format.proofs.KindLaws.{row_configuration, row_load_balancing, row_address, row_unknown, type-cases}
use Rattle.sd_format.proofs.FieldLaws.{exact_length, lengths}
use Rattle.sd_option.specs.declared.reading.OptionHead.{OptionHead}
use Rattle.sd_option.specs.Reading.{head_of}
use Rattle.sd_option.proofs.ReadingLaws.{Found, found_head, front_length}
use Rattle.sd_field.specs.declared.SdOption.{SdOption}
use Rattle.sd_field.specs.Said.{option_said, decoded, fields_said, rest_of, needed, Headed}

-- ---- the option in front of some bytes

-- the length that a kind asks holds its fields
holds : (body : List ℕ) (type : ℕ) → 1 ≤ length body → judge_length (row_of type).len (length body) ≡ pass → needed (kind_of type) ≤ length body
holds body type some =
    type-cases type
    (at row_configuration (λ j. some))
    (at row_load_balancing (λ j. omega (arith, (exact_length 5 body).0 j)))
    (λ family role. at (row_address family role) (λ j. omega (arith, (exact_length (lay_length family) body).0 j, lengths family)))
    (λ u. at (row_unknown type u) (λ j. some) refl)
  where
    Asks : Row → Type 0
    Asks r = judge_length r.len (length body) ≡ pass → needed r.kind ≤ length body

    at : {code : ℕ} {r : Row} → row_of code ≡ r → Asks r → type ≡ code → Asks (row_of type)
    at row asks this = rw (this, row) asks

-- the bytes after the type, as the code takes them
abbrev body_in : List ℕ → OptionHead → List ℕ
body_in s h = take (h.size - 3) (drop 3 s)

module _ (g : Settings) (s : List ℕ) where
  module _ (h : OptionHead) (told : accepted h ≡ given head_of (read_option g s)) where
    there : Found (judge_content g) s h
    there = found_head (judge_content g) s h (sym told)

    pub found_headed : Headed h (body_in s h)
    found_headed =
        let few = there.some in
        let len = front_length s (h.size - 3) (omega (arith, there.within)) in
        record {
          bit = sym (ap (λ (x : OptionHead). x.discardable) there.head);
          long = holds (body_in s h) h.code (omega arith) (rw len there.fits);
        }

    pub found_fields : (o : SdOption) → option_said (string (body_in s h)) o ≡ fields_of (kind_of h.code) h.code (body_in s h)
        → fields_said (rest_of g s) (Ok (record { option = o; size = h.size })) ≡ given decoded (read_option g s)
    unfolding given fields
    found_fields o is =
        let option = is ∙ ap (λ (c : ℕ). fields_of (kind_of c) c (body_in s h)) there.type in
        let size = sym (ap (λ (x : OptionHead). x.size) there.head) in
        rw there.reads (λ i. accepted (record { option = option i; size = size i }))

  -- a refusal of the reading
  pub refused_fields : {r : Refusal} → refused r ≡ given head_of (read_option g s) → refused r ≡ given decoded (read_option g s)
  unfolding given
  refused_fields {r} told = rw (given_refused head_of (read_option g s) r (sym told))
