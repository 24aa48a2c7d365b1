-- What is promised of the options part and of one option. Assumes nothing: these are definitions.
use Rattle.std.specs.Prelude.{ℕ, ◌-◌, ◌≡◌, cond, List, [], length}
use Rattle.numbers.specs.Answers.{given}
use Rattle.numbers.specs.Answers as paper
use Rattle.sd_format.specs.Settings.{Settings}
use Rattle.sd_format.specs.Options.{First, Opt, configuring, balancing, addressed, unrecognised}
use Rattle.sd_format.specs.Frames.{Frame, read_option, lent, table_after, read_index}
use Rattle.sd_format.specs.Layout.{lay_type, address_length}
use Rattle.sd_field.specs.Said.{Decoded, decoded}
use Rattle.hub.specs.declared.answers.Answer.{Answer}
use Rattle.hub.specs.declared.options.Option.{Option}
use Rattle.hub.specs.Answers.{row, refusal_row, told, one_value}

-- the index: how many options there are, and the lent table after it
pub record Indexes (g : Settings) (s tab : List ℕ) (r : Answer) (tab' : List ℕ) : Type 0 where
  pub answers : r ≡ told one_value (given length (lent tab (read_index g s)))
  pub slots : tab' ≡ table_after tab (read_index g s)
  -- 0 is answered for what is accepted alone
  pub zero : r.number ≡ 0 → (fs : List Frame) × (lent tab (read_index g s) ≡ paper.accepted fs)

-- ---- one option with its fields

-- a part of an option: where it starts among the option's bytes, and how long it is
pub record Span : Type 0 where
  pub at : ℕ
  pub len : ℕ

-- one that it has not, and one behind its first byte, which is byte 3
abbrev pub nowhere : Span
nowhere = record { at = 0; len = 0 }

abbrev pub behind_first : ℕ → Span
behind_first n = record { at = 4; len = n }

-- the fields of an option of that type and so many bytes
abbrev pub fields : (type size : ℕ) → First → (priority weight : ℕ) → Span → (protocol port : ℕ) → Span → Option
fields type size first priority weight address protocol port string =
    record {
      answer = row 0 [];
      code = type;
      size = size;
      discardable = cond first.discardable 1 0;
      priority = priority;
      weight = weight;
      address_at = address.at;
      address_len = address.len;
      protocol = protocol;
      port = port;
      string_at = string.at;
      string_len = string.len;
    }

-- an option by its kind's own fields; those that its kind has not hold 0
abbrev pub option_fields : (size : ℕ) → Opt → Option
option_fields size (configuring first items) = fields 0x01 size first 0 0 nowhere 0 0 (behind_first (size - 4))
option_fields size (balancing first priority weight) = fields 0x02 size first priority weight nowhere 0 0 nowhere
option_fields size (addressed family role first address reserved protocol port) =
    fields (lay_type family role) size first 0 0 (behind_first (address_length family)) protocol port nowhere
option_fields size (unrecognised type first rest) = fields type size first 0 0 nowhere 0 0 nowhere

-- nothing but an answer
abbrev pub no_option : Answer → Option
no_option a =
    record {
      answer = a;
      code = 0;
      size = 0;
      discardable = 0;
      priority = 0;
      weight = 0;
      address_at = 0;
      address_len = 0;
      protocol = 0;
      port = 0;
      string_at = 0;
      string_len = 0;
    }

abbrev pub option_told : paper.Answer Decoded → Option
option_told (paper.accepted d) = option_fields d.size d.option
option_told (paper.refused r) = no_option (refusal_row r)

-- the option in front of the bytes `s`, what it holds judged
unfoldable pub read_option_told : Settings → List ℕ → Option
read_option_told g s = option_told (given decoded (read_option g s))
