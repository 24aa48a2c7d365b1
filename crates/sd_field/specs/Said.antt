-- The code's options by their fields, and what is answered of them, in the words of the definitions. Assumes nothing: these are definitions.
use Rattle.refusal.specs.declared.Refusal.{Refusal}
use Rattle.sd_field.specs.declared.Fields.{Fields}
use Rattle.std.specs.Prelude.{ℕ, ◌+◌, ◌≤◌, ◌≡◌, List, length, drop, Result}
use Rattle.numbers.specs.Answers.{Answer, given, part}
use Rattle.sd_format.specs.Settings.{Settings}
use Rattle.sd_format.specs.Options.{Family, ipv4, ipv6, Role, First, Opt, configuring, balancing, addressed, unrecognised, width, protocol}
use Rattle.sd_format.specs.Strings.{read_string}
use Rattle.sd_format.specs.Kinds.{Kind, configuration, load_balancing, address, unknown, kind_of}
use Rattle.sd_format.specs.Frames.{Frame, size, read_option}
use Rattle.sd_format.specs.Fields.{discardable, address_bytes, reserved, port, items_of, fields}
use Rattle.sd_format.specs.Layout.{lay_type}
use Rattle.refusal.specs.Said.{said_by}
use Rattle.sd_option.specs.declared.reading.OptionHead.{OptionHead}
use Rattle.sd_option.specs.Kinds.{role_said}
use Rattle.sd_option.specs.Reading.{body_of}
use Rattle.sd_field.specs.declared.OptionFirst.{OptionFirst}
use Rattle.sd_field.specs.declared.IpAddress.{IpAddress}
use Rattle.sd_field.specs.declared.IpAddress.TheVariants.{V4, V6}
use Rattle.sd_field.specs.declared.SdOption.{SdOption}
use Rattle.sd_field.specs.declared.SdOption.TheVariants.{Configuration, LoadBalancing, Address, Unknown}

-- ---- an option

abbrev pub first_said : OptionFirst → First
first_said b = record { discardable = b.discardable; others = b.others }

-- an address has its family and its bytes
pub record AddressOf : Type 0 where
  pub family : Family
  pub bytes : List ℕ

abbrev pub address_said : IpAddress → AddressOf
address_said (V4 a) = record { family = ipv4; bytes = a }
address_said (V6 a) = record { family = ipv6; bytes = a }

-- `rest` is what stands behind the option's first byte
abbrev pub option_said : (rest : List ℕ) → SdOption → Opt
option_said rest (Configuration b) = configuring (first_said b) (items_of (read_string rest))
option_said rest (LoadBalancing b priority weight) = balancing (first_said b) priority weight
option_said rest (Address role b a reserved protocol port) =
    addressed (address_said a).family (role_said role) (first_said b) (address_said a).bytes reserved protocol port
option_said rest (Unknown code b) = unrecognised code (first_said b) rest

-- its type code
abbrev pub code_said : SdOption → ℕ
code_said (Configuration b) = 0x01
code_said (LoadBalancing b priority weight) = 0x02
code_said (Address role b a reserved protocol port) = lay_type (address_said a).family (role_said role)
code_said (Unknown code b) = code

-- ---- what is answered

-- the option by its fields, and the bytes that it takes
pub record Decoded : Type 0 where
  pub option : Opt
  pub size : ℕ

abbrev pub decoded : Frame → Decoded
decoded f = record { option = fields f; size = size f }

abbrev pub fields_said : (rest : List ℕ) → Result Fields Refusal → Answer Decoded
fields_said rest = said_by (λ f. record { option = option_said rest f.option; size = f.size })

-- the bytes behind the first byte of the option in front of `s`; a refusal hands back an empty part
abbrev pub rest_of : Settings → List ℕ → List ℕ
rest_of g s = drop 1 (part (given body_of (read_option g s)))

-- ---- what the fields ask of their bytes

-- how many bytes after the type the fields of a kind take
abbrev pub needed : Kind → ℕ
needed configuration = 1
needed load_balancing = 5
needed (address family role) = 5 + width family
needed unknown = 1

-- the address behind the first byte
abbrev pub address_in : Family → List ℕ → AddressOf
address_in family body = record { family = family; bytes = address_bytes family body }

-- an option with an address, whose other fields stand in these bytes
abbrev pub address_fields : Family → Role → First → List ℕ → Opt
address_fields family role b body =
    addressed family role b (address_bytes family body) (reserved family body) (protocol family body) (port family body)

-- a head, and the bytes after the type that it was read from
pub record Headed (head : OptionHead) (body : List ℕ) : Type 0 where
  pub bit : head.discardable ≡ discardable body
  pub long : needed (kind_of head.code) ≤ length body
