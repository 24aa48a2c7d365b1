-- How entries, options and a whole payload are laid out, written from the layout itself and not from the reading: each kind with its own type
-- code and length. Numbers need no bounds here: one that is too large gives an element that is no byte. Assumes nothing: these are definitions.
use Rattle.std.specs.Prelude.{ℕ, ◌+◌, ◌*◌, ◌<◌, ◌≤◌, ◌≡◌, Bool, true, cond, ◌⊎◌, List, [], ◌∷◌, ◌++◌, length, drop, get_or}
use Rattle.numbers.specs.Bytes.{be16, be24, be32}
use Rattle.numbers.specs.Answers.{All}
use Rattle.sd_format.specs.Settings.{Settings}
use Rattle.sd_format.specs.Options.{Family, ipv4, ipv6, Role, endpoint, multicast, sd_endpoint, First, Opt, configuring, balancing, addressed, unrecognised, discardable_bit}
use Rattle.sd_format.specs.Frames.{Frame}
use Rattle.sd_format.specs.Entries.{Head, Group, Entry, find, offer, subscribe, subscribe_ack, head_of, initial_data_bit}

-- a bit of value `v` in a byte
abbrev pub bit : ℕ → Bool → ℕ
bit v b = cond b v 0

-- the elements' layouts, one after the other
unfoldable pub lay_all : {A : Type 0} → (A → List ℕ) → List A → List ℕ
lay_all lay [] = []
lay_all lay (x ∷ xs) = lay x ++ lay_all lay xs

-- ---- configuration strings

-- of each item its length and its bytes, and a zero at the end
unfoldable pub lay_items : List (List ℕ) → List ℕ
lay_items [] = 0 ∷ []
lay_items (item ∷ items) = length item ∷ (item ++ lay_items items)

-- key bytes lie in 0x20 to 0x7e, and `=` is none of them; the key is neither empty nor all spaces
pub record GoodKey (key : List ℕ) : Type 0 where
  pub not_empty : key ≡ [] → ⊥
  pub printable : All (λ b. (0x20 ≤ b) × (b ≤ 0x7e) × (b ≡ 0x3d → ⊥)) key
  pub not_all_spaces : All (λ b. b ≡ 0x20) key → ⊥

-- an item is a key alone, or a key, `=` and any value
pub record GoodItem (item : List ℕ) : Type 0 where
  pub key : List ℕ
  pub good_key : GoodKey key
  pub shape : (item ≡ key) ⊎ ((value : List ℕ) × (item ≡ key ++ (0x3d ∷ value)))

-- ---- options

-- the byte after the type
abbrev pub lay_first : First → ℕ
lay_first b = bit discardable_bit b.discardable + b.others

abbrev pub lay_type : Family → Role → ℕ
lay_type ipv4 endpoint = 0x04
lay_type ipv4 multicast = 0x14
lay_type ipv4 sd_endpoint = 0x24
lay_type ipv6 endpoint = 0x06
lay_type ipv6 multicast = 0x16
lay_type ipv6 sd_endpoint = 0x26

abbrev pub lay_length : Family → ℕ
lay_length ipv4 = 9
lay_length ipv6 = 21

abbrev pub address_length : Family → ℕ
address_length ipv4 = 4
address_length ipv6 = 16

unfoldable pub lay_option : Opt → List ℕ
lay_option (configuring b items) = be16 (1 + length (lay_items items)) ++ (0x01 ∷ lay_first b ∷ lay_items items)
lay_option (balancing b priority weight) = be16 5 ++ (0x02 ∷ lay_first b ∷ (be16 priority ++ be16 weight))
lay_option (addressed family role b address reserved protocol port) =
    be16 (lay_length family) ++ (lay_type family role ∷ lay_first b ∷ (address ++ (reserved ∷ protocol ∷ be16 port)))
lay_option (unrecognised type b rest) = be16 (1 + length rest) ++ (type ∷ lay_first b ∷ rest)

-- an option as lookup hands it out: its type, and the bytes after it
abbrev pub wire : Opt → Frame
wire o = record { type = get_or (lay_option o) 2 0; body = drop 3 (lay_option o) }

-- the eight known types
pub record Unknown (type : ℕ) : Type 0 where
  pub not_configuration : type ≡ 0x01 → ⊥
  pub not_load_balancing : type ≡ 0x02 → ⊥
  pub not_address : (family : Family) (role : Role) → type ≡ lay_type family role → ⊥

-- the first byte's other seven bits
abbrev pub SevenBits : First → Type 0
SevenBits b = b.others < 128

-- a transport protocol under the strict setting: it is 0x06 or 0x11, and 0x11 for multicast
pub record ProtocolFits (role : Role) (protocol : ℕ) : Type 0 where
  pub tcp_or_udp : (protocol ≡ 0x06) ⊎ (protocol ≡ 0x11)
  pub multicast_udp : role ≡ multicast → protocol ≡ 0x11

-- what is asked of an option: good items, an address of its family's length and under the strict setting its protocol, an unknown type that may
-- be discarded unless that setting is on
abbrev pub OptionFits : Settings → Opt → Type 0
OptionFits g (configuring b items) = SevenBits b × All GoodItem items
OptionFits g (balancing b priority weight) = SevenBits b
OptionFits g (addressed family role b address reserved protocol port) =
    SevenBits b × (length address ≡ address_length family) × (g.strict ≡ true → ProtocolFits role protocol)
OptionFits g (unrecognised type b rest) = SevenBits b × Unknown type × ((b.discardable ≡ true) ⊎ (g.discard ≡ true))

-- ---- entries

unfoldable pub lay_head : Head → List ℕ
lay_head h =
    h.start1 ∷ h.start2 ∷ (h.count1 * 16 + h.count2) ∷
    (be16 h.service ++ (be16 h.instance ++ (h.major ∷ be24 h.ttl)))

unfoldable pub lay_group : Group → List ℕ
lay_group e = e.reserved ∷ (bit initial_data_bit e.initial_data + e.spare * 16 + e.counter) ∷ be16 e.eventgroup

unfoldable pub lay_entry : Entry → List ℕ
lay_entry (find h minor) = 0x00 ∷ (lay_head h ++ be32 minor)
lay_entry (offer h minor) = 0x01 ∷ (lay_head h ++ be32 minor)
lay_entry (subscribe h g) = 0x06 ∷ (lay_head h ++ lay_group g)
lay_entry (subscribe_ack h g) = 0x07 ∷ (lay_head h ++ lay_group g)

-- a run of no option may start anywhere; any other lies inside the list of `n` options
abbrev pub RunFits : (n start count : ℕ) → Type 0
RunFits n start count = (count ≡ 0) ⊎ (start + count ≤ n)

pub record HeadFits (n : ℕ) (h : Head) : Type 0 where
  pub run1 : RunFits n h.start1 h.count1
  pub run2 : RunFits n h.start2 h.count2
  pub four_bits : h.count2 < 16

abbrev pub GroupFits : Group → Type 0
GroupFits e = (e.spare < 8) × (e.counter < 16)

abbrev pub TailFits : Entry → Type 0
TailFits (find h minor) = Unit {0}
TailFits (offer h minor) = Unit {0}
TailFits (subscribe h g) = GroupFits g
TailFits (subscribe_ack h g) = GroupFits g

abbrev pub EntryFits : ℕ → Entry → Type 0
EntryFits n e = HeadFits n (head_of e) × TailFits e

-- ---- the payload

pub record Flags : Type 0 where
  pub reboot : Bool
  pub unicast : Bool
  pub initial_data_control : Bool

-- their bits in byte 0, by their values
abbrev pub reboot_bit : ℕ
reboot_bit = 0x80

abbrev pub unicast_bit : ℕ
unicast_bit = 0x40

abbrev pub initial_data_control_bit : ℕ
initial_data_control_bit = 0x20

-- `spare` is the other five bits of byte 0, `reserved` bytes 1 to 3
pub record Payload : Type 0 where
  pub flags : Flags
  pub spare : ℕ
  pub reserved : ℕ
  pub entries : List Entry
  pub options : List Opt

unfoldable pub lay_opening : Flags → ℕ → ℕ → List ℕ
lay_opening f spare reserved =
    (bit reboot_bit f.reboot + bit unicast_bit f.unicast + bit initial_data_control_bit f.initial_data_control + spare) ∷ be24 reserved

-- a part with its length in front
unfoldable pub sized : List ℕ → List ℕ
sized s = be32 (length s) ++ s

abbrev pub lay_entries : List Entry → List ℕ
lay_entries = lay_all lay_entry

abbrev pub lay_options : List Opt → List ℕ
lay_options = lay_all lay_option

-- a payload behind any opening bytes
unfoldable pub lay_parts : List ℕ → List Entry → List Opt → List ℕ
lay_parts opening entries options = opening ++ (sized (lay_entries entries) ++ sized (lay_options options))

abbrev pub lay : Payload → List ℕ
lay p = lay_parts (lay_opening p.flags p.spare p.reserved) p.entries p.options

-- the conditions of demand 3
pub record Fits (g : Settings) (p : Payload) : Type 0 where
  pub five_bits : p.spare < 32
  pub entries_short : length (lay_entries p.entries) ≤ 1388
  pub options_short : length (lay_options p.options) ≤ 1388
  pub all_short : length (lay p) ≤ 1400
  pub entries_fit : All (EntryFits (length p.options)) p.entries
  pub options_fit : All (OptionFits g) p.options

-- ---- the message

-- what an SD header may hold freely: its length field and protocol version are not judged here, and its session is not 0
pub record Header : Type 0 where
  pub length_field : ℕ
  pub session : ℕ
  pub protocol_version : ℕ

-- message id, length, client 0, session, protocol version, interface version 1, type 0x02, return code 0
unfoldable pub lay_header : Header → List ℕ
lay_header h =
    be32 0xffff8100 ++ (be32 h.length_field ++ (be16 0 ++ (be16 h.session ++ (h.protocol_version ∷ 1 ∷ 0x02 ∷ 0 ∷ []))))
