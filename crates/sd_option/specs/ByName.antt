-- The rules' table by the code's own names, in literal numbers: which type has which kind, family, role, length, and whether it has a protocol;
-- and the settings by their names. Written beside `kind_said`, `encoded` and `settings_said` and not by them: names that are swapped there and in
-- the code together are refused here. proofs/ByName.antt proves it. Assumes nothing: these are definitions.
use Rattle.std.specs.Prelude.{ℕ, ◌≡◌, Bool, true, false, ◌↔◌, ◌⊎◌, Option, Some, None}
use Rattle.sd_format.specs.Kinds.{row_of, kind_of}
use Rattle.sd_format.specs.Layout.{Unknown}
use Rattle.sd_option.specs.declared.Settings.{Settings}
use Rattle.sd_option.specs.declared.kinds.Family.TheVariants.{Ipv4, Ipv6}
use Rattle.sd_option.specs.declared.kinds.Role.TheVariants.{Endpoint, Multicast, SdEndpoint}
use Rattle.sd_option.specs.declared.kinds.OptionKind.{OptionKind}
use Rattle.sd_option.specs.declared.kinds.OptionKind.TheVariants as kind
use Rattle.sd_option.specs.declared.kinds.KindRow.{KindRow}
use Rattle.sd_option.specs.Kinds.{kind_said, taken, encoded}
use Rattle.sd_option.specs.Settings.{settings_said}

-- what `kind_of` and `row_of` may answer of the type `code`: this kind, this length, a protocol or none, and no other
pub record Named (code : ℕ) (named : OptionKind) (exact_len : Option ℕ) (protocol : Bool) : Type 0 where
  pub kind : (k : OptionKind) → kind_said k ≡ kind_of code → k ≡ named
  pub row : (w : KindRow) → w ≡ encoded (row_of code) → w ≡ record { code = code; exact_len = exact_len; has_protocol = protocol }

pub record ByName : Type 0 where
  pub configuration : Named 0x01 kind.Configuration None false
  pub load_balancing : Named 0x02 kind.LoadBalancing (Some 5) false
  pub ipv4_endpoint : Named 0x04 (kind.Address Ipv4 Endpoint) (Some 9) true
  pub ipv4_multicast : Named 0x14 (kind.Address Ipv4 Multicast) (Some 9) true
  pub ipv4_sd_endpoint : Named 0x24 (kind.Address Ipv4 SdEndpoint) (Some 9) true
  pub ipv6_endpoint : Named 0x06 (kind.Address Ipv6 Endpoint) (Some 21) true
  pub ipv6_multicast : Named 0x16 (kind.Address Ipv6 Multicast) (Some 21) true
  pub ipv6_sd_endpoint : Named 0x26 (kind.Address Ipv6 SdEndpoint) (Some 21) true
  pub unknown : (code : ℕ) → Unknown code → Named code kind.Unknown None false
  -- and which protocols it takes of them
  pub endpoints : (code p : ℕ) → (code ≡ 0x04) ⊎ ((code ≡ 0x24) ⊎ ((code ≡ 0x06) ⊎ (code ≡ 0x26))) → (taken code p ≡ true) ↔ ((p ≡ 0x06) ⊎ (p ≡ 0x11))
  pub multicasts : (code p : ℕ) → (code ≡ 0x14) ⊎ (code ≡ 0x16) → (taken code p ≡ true) ↔ (p ≡ 0x11)
  -- a setting is on where its field is
  pub discard : (g : Settings) → (settings_said g).discard ≡ g.discard_unknown_option
  pub strict : (g : Settings) → (settings_said g).strict ≡ g.strict
