-- The strict setting by computation, in literal numbers: each of the six kinds with an address under three transport protocols, with the
-- setting on and off; and at which byte each call tells the protocol. The order of 23 among the other refusals is in specs/Order.antt.
-- Assumes nothing: these are definitions.
use Rattle.std.specs.Prelude.{ℕ, ◌≡◌, List, [], ◌∷◌, ◌++◌, replicate}
use Rattle.numbers.specs.Answers.{pass, verdict, ◌gives◌with◌}
use Rattle.sd_format.specs.Frames.{read_option, read_options, read_index, next_option}
use Rattle.sd_format.specs.Payload.{read_payload, read_message}
use Rattle.sd_format.specs.Order.{plain, strictly, header, entry, entries_and_options, ipv4_carrying}
use Rattle.sd_format.specs.PlacesTold.{before}

abbrev pub ipv6_carrying : (type protocol : ℕ) → List ℕ
ipv6_carrying type protocol = 0x00 ∷ 0x15 ∷ type ∷ 0x00 ∷ (replicate 16 1 ++ (0x07 ∷ protocol ∷ 0x1f ∷ 0x90 ∷ []))

-- accepted, whether the setting is on or off
abbrev pub Taken : List ℕ → Type 0
Taken s = (verdict (read_option strictly s) ≡ pass) × (verdict (read_option plain s) ≡ pass)

-- refused by 23 with these values where it is on, and accepted where it is off
abbrev pub Barred : List ℕ → (protocol place : ℕ) → Type 0
Barred s protocol place = (read_option strictly s gives 23 with (protocol ∷ place ∷ [])) × (verdict (read_option plain s) ≡ pass)

pub record Protocols : Type 0 where
  -- 0x99 in none of the six
  pub ipv4_endpoint_0x99 : Barred (ipv4_carrying 0x04 0x99) 0x99 9
  pub ipv4_multicast_0x99 : Barred (ipv4_carrying 0x14 0x99) 0x99 9
  pub ipv4_sd_endpoint_0x99 : Barred (ipv4_carrying 0x24 0x99) 0x99 9
  pub ipv6_endpoint_0x99 : Barred (ipv6_carrying 0x06 0x99) 0x99 21
  pub ipv6_multicast_0x99 : Barred (ipv6_carrying 0x16 0x99) 0x99 21
  pub ipv6_sd_endpoint_0x99 : Barred (ipv6_carrying 0x26 0x99) 0x99 21
  -- TCP, but not for multicast
  pub ipv4_endpoint_tcp : Taken (ipv4_carrying 0x04 0x06)
  pub ipv4_multicast_tcp : Barred (ipv4_carrying 0x14 0x06) 0x06 9
  pub ipv4_sd_endpoint_tcp : Taken (ipv4_carrying 0x24 0x06)
  pub ipv6_endpoint_tcp : Taken (ipv6_carrying 0x06 0x06)
  pub ipv6_multicast_tcp : Barred (ipv6_carrying 0x16 0x06) 0x06 21
  pub ipv6_sd_endpoint_tcp : Taken (ipv6_carrying 0x26 0x06)
  -- UDP in all six
  pub ipv4_endpoint_udp : Taken (ipv4_carrying 0x04 0x11)
  pub ipv4_multicast_udp : Taken (ipv4_carrying 0x14 0x11)
  pub ipv4_sd_endpoint_udp : Taken (ipv4_carrying 0x24 0x11)
  pub ipv6_endpoint_udp : Taken (ipv6_carrying 0x06 0x11)
  pub ipv6_multicast_udp : Taken (ipv6_carrying 0x16 0x11)
  pub ipv6_sd_endpoint_udp : Taken (ipv6_carrying 0x26 0x11)
  -- no other kind has one: a load balancing option, and an unknown one of the same bytes, read alone
  pub load_balancing : Taken (0x00 ∷ 0x05 ∷ 0x02 ∷ 0x00 ∷ 0x99 ∷ 0x99 ∷ 0x99 ∷ 0x99 ∷ [])
  pub unknown : Taken (ipv4_carrying 0x77 0x99)
  -- among all options and in the index the protocol's byte is counted from the first of them, by the cursor from the option's own
  pub options : read_options strictly (before (ipv4_carrying 0x04 0x99)) gives 23 with (0x99 ∷ 13 ∷ [])
  pub index : read_index strictly (before (ipv6_carrying 0x06 0x99)) gives 23 with (0x99 ∷ 25 ∷ [])
  pub cursor : next_option strictly (before (ipv6_carrying 0x06 0x99)) 4 gives 23 with (0x99 ∷ 21 ∷ [])
  -- neither the entries nor the header in front of the options are counted
  pub in_payload : read_payload strictly (entries_and_options 16 (entry 0x00 0x00) 16 (before (ipv4_carrying 0x04 0x99))) gives 23 with (0x99 ∷ 13 ∷ [])
  pub in_message : read_message strictly (header 0xffff8100 0 1 1 0x02 0 ++ entries_and_options 16 (entry 0x00 0x00) 12 (ipv4_carrying 0x14 0x06))
      gives 23 with (0x06 ∷ 9 ∷ [])
