-- Options by their kinds' own fields. Reserved bits and bytes are kept as sent. Assumes nothing: these are definitions.
use Rattle.std.specs.Prelude.{ℕ, ◌+◌, ◌/◌, ◌%◌, Bool, List, get_or, eqb}

pub data Family : Type 0 where
  ipv4 : Family
  ipv6 : Family

pub data Role : Type 0 where
  endpoint : Role
  multicast : Role
  sd_endpoint : Role

-- the byte after the type: the discardable bit, and its seven other bits
pub record First : Type 0 where
  pub discardable : Bool
  pub others : ℕ

pub data Opt : Type 0 where
  configuring : First → (items : List (List ℕ)) → Opt
  balancing : First → (priority weight : ℕ) → Opt
  addressed : Family → Role → First → (address : List ℕ) → (reserved protocol port : ℕ) → Opt
  unrecognised : (type : ℕ) → First → (rest : List ℕ) → Opt

-- the discardable bit, by its value
abbrev pub discardable_bit : ℕ
discardable_bit = 0x80

-- whether the byte `b` has the bit of value `v`
abbrev pub has : (b v : ℕ) → Bool
has b v = eqb (b / v % 2) 1

-- how many bytes an address has
abbrev pub width : Family → ℕ
width ipv4 = 4
width ipv6 = 16

-- the transport protocol, among the bytes after the type: behind the first byte, the address and a reserved byte
abbrev pub protocol : Family → List ℕ → ℕ
protocol family body = get_or body (2 + width family) 0
