-- What the code has for an option, constructor by constructor; and the statements that reading an option that was laid out gives just that,
-- and that its type code is the one in its layout. Written beside `option_said` and not by it: fields that are swapped in `option_said` and in the
-- code together are refused here. proofs/Own.antt proves them. Assumes nothing: these are definitions.
use Rattle.refusal.specs.declared.Refusal.{Refusal}
use Rattle.sd_field.specs.declared.Fields.{Fields}
use Rattle.std.specs.Prelude.{ℕ, ◌≡◌, List, ◌++◌, length, drop, Result, Ok}
use Rattle.numbers.specs.Answers.{given}
use Rattle.sd_format.specs.Settings.{Settings}
use Rattle.sd_format.specs.Options as format
use Rattle.sd_format.specs.Options.{Family, ipv4, ipv6, First, Opt, configuring, balancing, addressed, unrecognised}
use Rattle.sd_format.specs.Frames.{read_option}
use Rattle.sd_format.specs.Layout.{lay_option, wire}
use Rattle.sd_option.specs.declared.kinds.Role.{Role}
use Rattle.sd_option.specs.declared.kinds.Role.TheVariants.{Endpoint, Multicast, SdEndpoint}
use Rattle.sd_field.specs.declared.OptionFirst.{OptionFirst}
use Rattle.sd_field.specs.declared.IpAddress.{IpAddress}
use Rattle.sd_field.specs.declared.IpAddress.TheVariants.{V4, V6}
use Rattle.sd_field.specs.declared.SdOption.{SdOption}
use Rattle.sd_field.specs.declared.SdOption.TheVariants.{Configuration, LoadBalancing, Address, Unknown}
use Rattle.sd_field.specs.Said.{option_said, code_said, decoded, fields_said, rest_of}

abbrev pub first_coded : First → OptionFirst
first_coded b = record { discardable = b.discardable; others = b.others }

abbrev pub role_coded : format.Role → Role
role_coded format.endpoint = Endpoint
role_coded format.multicast = Multicast
role_coded format.sd_endpoint = SdEndpoint

abbrev pub address_coded : Family → List ℕ → IpAddress
address_coded ipv4 a = V4 a
address_coded ipv6 a = V6 a

abbrev pub option_coded : Opt → SdOption
option_coded (configuring b items) = Configuration (first_coded b)
option_coded (balancing b priority weight) = LoadBalancing (first_coded b) priority weight
option_coded (addressed family role b address reserved protocol port) =
    Address (role_coded role) (first_coded b) (address_coded family address) reserved protocol port
option_coded (unrecognised type b rest) = Unknown type (first_coded b)

-- what `read_fields` and `option_rest` promise over `o`, laid out in front of any bytes
pub record ReadsOwn (g : Settings) (o : Opt) (later : List ℕ) : Type 0 where
  pub fields : (r : Result Fields Refusal) → fields_said (rest_of g (lay_option o ++ later)) r ≡ given decoded (read_option g (lay_option o ++ later))
      → r ≡ Ok (record { option = option_coded o; size = length (lay_option o) })
  pub rest : rest_of g (lay_option o ++ later) ≡ drop 4 (lay_option o)

-- what `code_of` promises, whatever stands behind the first byte
pub record CodeLaid (x : SdOption) (rest : List ℕ) : Type 0 where
  pub code : code_said x ≡ (wire (option_said rest x)).type
