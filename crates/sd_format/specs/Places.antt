-- Each field by its name at its place, by computation: the flags, an entry of each type, an option of each kind, over bytes no two of which are
-- alike where they could be taken for each other. Assumes nothing: these are definitions.
use Rattle.std.specs.Prelude.{ℕ, ◌≡◌, Bool, true, false, List, [], ◌∷◌, ◌++◌, replicate}
use Rattle.numbers.specs.Answers.{Answer, accepted, given}
use Rattle.sd_format.specs.Options.{Family, ipv4, ipv6, Role, endpoint, multicast, sd_endpoint, First, Opt, configuring, balancing, addressed, unrecognised}
use Rattle.sd_format.specs.Frames.{read_option}
use Rattle.sd_format.specs.Fields.{fields}
use Rattle.sd_format.specs.Entries.{Head, Group, find, offer, subscribe, subscribe_ack, group, read_entry}
use Rattle.sd_format.specs.Layout.{Flags}
use Rattle.sd_format.specs.Payload.{handed_out}
use Rattle.sd_format.specs.Order.{plain}

-- ---- byte 0: reboot 0x80, unicast 0x40, explicit initial data control 0x20

-- the flags of a payload with this first byte
abbrev pub flags_of : ℕ → Answer Flags
flags_of byte = given (λ p. p.flags) (handed_out plain (byte ∷ replicate 11 0))

abbrev pub flagged : (reboot unicast control : Bool) → Answer Flags
flagged reboot unicast control = accepted (record { reboot = reboot; unicast = unicast; initial_data_control = control })

-- ---- an entry of this type

abbrev pub entry : ℕ → List ℕ
entry type = type ∷ 0x01 ∷ 0x02 ∷ 0x34 ∷ 0x05 ∷ 0x06 ∷ 0x07 ∷ 0x08 ∷ 0x09 ∷ 0x0a ∷ 0x0b ∷ 0x0c ∷ 0x0d ∷ 0x9e ∷ 0x0f ∷ 0x10 ∷ []

abbrev pub its_head : Head
its_head = record { start1 = 1; start2 = 2; count1 = 3; count2 = 4; service = 0x0506; instance = 0x0708; major = 9; ttl = 0x0a0b0c }

abbrev pub its_group : Group
its_group = record { reserved = 0x0d; initial_data = true; spare = 1; counter = 14; eventgroup = 0x0f10 }

-- the eventgroup fields of an entry whose byte 13 is this and whose other bytes are 0
abbrev pub group_of : ℕ → Group
group_of byte = group (replicate 13 0 ++ (byte ∷ 0 ∷ 0 ∷ []))

abbrev pub grouped : (initial_data : Bool) (spare counter : ℕ) → Group
grouped initial_data spare counter = record { reserved = 0; initial_data = initial_data; spare = spare; counter = counter; eventgroup = 0 }

-- ---- an option by its kind's own fields

abbrev pub option : List ℕ → Answer Opt
option s = given fields (read_option plain s)

-- the byte after the type: the discardable bit and a 5, or a 5 alone
abbrev pub may_go : First
may_go = record { discardable = true; others = 5 }

abbrev pub stays : First
stays = record { discardable = false; others = 5 }

-- an address, a reserved byte, the protocol and the port
abbrev pub four : List ℕ
four = 1 ∷ 2 ∷ 3 ∷ 4 ∷ []

abbrev pub sixteen_bytes : List ℕ
sixteen_bytes = four ++ (four ++ (four ++ (5 ∷ 6 ∷ 7 ∷ 8 ∷ [])))

abbrev pub ipv4_option : (type : ℕ) → List ℕ
ipv4_option type = 0x00 ∷ 0x09 ∷ type ∷ 0x05 ∷ (four ++ (0x0a ∷ 0x0b ∷ 0x0c ∷ 0x0d ∷ []))

abbrev pub ipv6_option : (type : ℕ) → List ℕ
ipv6_option type = 0x00 ∷ 0x15 ∷ type ∷ 0x05 ∷ (sixteen_bytes ++ (0x0a ∷ 0x0b ∷ 0x0c ∷ 0x0d ∷ []))

abbrev pub with_address : Family → Role → List ℕ → Answer Opt
with_address family role address = accepted (addressed family role stays address 0x0a 0x0b 0x0c0d)

pub record Places : Type 0 where
  pub reboot : flags_of 0x80 ≡ flagged true false false
  pub unicast : flags_of 0x40 ≡ flagged false true false
  pub control : flags_of 0x20 ≡ flagged false false true
  pub other_bits : flags_of 0x1f ≡ flagged false false false
  -- entries
  pub code_0x00_finds : read_entry (entry 0x00) ≡ accepted (find its_head 0x0d9e0f10)
  pub code_0x01_offers : read_entry (entry 0x01) ≡ accepted (offer its_head 0x0d9e0f10)
  pub code_0x06_subscribes : read_entry (entry 0x06) ≡ accepted (subscribe its_head its_group)
  pub code_0x07_acknowledges : read_entry (entry 0x07) ≡ accepted (subscribe_ack its_head its_group)
  pub initial_data : group_of 0x80 ≡ grouped true 0 0
  pub spare : group_of 0x70 ≡ grouped false 7 0
  pub counter : group_of 0x0f ≡ grouped false 0 15
  -- options
  pub code_0x01_configures : option (0x00 ∷ 0x05 ∷ 0x01 ∷ 0x85 ∷ 0x02 ∷ 0x41 ∷ 0x42 ∷ 0x00 ∷ []) ≡ accepted (configuring may_go ((0x41 ∷ 0x42 ∷ []) ∷ []))
  pub code_0x02_balances : option (0x00 ∷ 0x05 ∷ 0x02 ∷ 0x85 ∷ 0x01 ∷ 0x02 ∷ 0x03 ∷ 0x04 ∷ []) ≡ accepted (balancing may_go 0x0102 0x0304)
  pub code_0x04_ipv4_endpoint : option (ipv4_option 0x04) ≡ with_address ipv4 endpoint four
  pub code_0x14_ipv4_multicast : option (ipv4_option 0x14) ≡ with_address ipv4 multicast four
  pub code_0x24_ipv4_sd_endpoint : option (ipv4_option 0x24) ≡ with_address ipv4 sd_endpoint four
  pub code_0x06_ipv6_endpoint : option (ipv6_option 0x06) ≡ with_address ipv6 endpoint sixteen_bytes
  pub code_0x16_ipv6_multicast : option (ipv6_option 0x16) ≡ with_address ipv6 multicast sixteen_bytes
  pub code_0x26_ipv6_sd_endpoint : option (ipv6_option 0x26) ≡ with_address ipv6 sd_endpoint sixteen_bytes
  pub code_0x77_unknown : option (0x00 ∷ 0x03 ∷ 0x77 ∷ 0x85 ∷ 0x01 ∷ 0x02 ∷ []) ≡ accepted (unrecognised 0x77 may_go (0x01 ∷ 0x02 ∷ []))
