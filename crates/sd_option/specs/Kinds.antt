-- What the code's kinds say, and the rules' table in the code's form. Assumes nothing: these are definitions.
use Rattle.std.specs.Prelude.{ℕ, Bool, true, false, ◌||◌, cond, Option, Some, None, eqb}
use Rattle.sd_format.specs.Options as format
use Rattle.sd_format.specs.Kinds.{Kind, configuration, load_balancing, address, unknown, Length, exactly, one_or_more, Row}
use Rattle.sd_option.specs.declared.kinds.Family.{Family}
use Rattle.sd_option.specs.declared.kinds.Family.TheVariants as family
use Rattle.sd_option.specs.declared.kinds.Role.{Role}
use Rattle.sd_option.specs.declared.kinds.Role.TheVariants as role
use Rattle.sd_option.specs.declared.kinds.OptionKind.{OptionKind}
use Rattle.sd_option.specs.declared.kinds.OptionKind.TheVariants as kind
use Rattle.sd_option.specs.declared.kinds.KindRow.{KindRow}

abbrev pub family_said : Family → format.Family
family_said family.Ipv4 = format.ipv4
family_said family.Ipv6 = format.ipv6

abbrev pub role_said : Role → format.Role
role_said role.Endpoint = format.endpoint
role_said role.Multicast = format.multicast
role_said role.SdEndpoint = format.sd_endpoint

abbrev pub kind_said : OptionKind → Kind
kind_said kind.Configuration = configuration
kind_said kind.LoadBalancing = load_balancing
kind_said (kind.Address f r) = address (family_said f) (role_said r)
kind_said kind.Unknown = unknown

-- ---- the table in the code's form

abbrev pub length_encoded : Length → Option ℕ
length_encoded (exactly n) = Some n
length_encoded one_or_more = None

-- whether a protocol stands beside an address
abbrev pub has_protocol : Kind → Bool
has_protocol configuration = false
has_protocol load_balancing = false
has_protocol (address f r) = true
has_protocol unknown = false

abbrev pub encoded : Row → KindRow
encoded w = record { code = w.code; exact_len = length_encoded w.len; has_protocol = has_protocol w.kind }

-- ---- and out of it

abbrev pub length_said : Option ℕ → Length
length_said (Some n) = exactly n
length_said None = one_or_more

-- whether a protocol may stand beside the address of an option of this type: multicast's types have UDP alone
abbrev pub taken : (code protocol : ℕ) → Bool
taken code p = cond (eqb code 0x14 || eqb code 0x16) (eqb p 0x11) (eqb p 0x06 || eqb p 0x11)
