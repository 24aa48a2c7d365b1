-- The fields of an option, by their places among the bytes after its type; and the option that these bytes are, by its kind's own fields.
-- Assumes nothing: these are definitions.
use Rattle.std.specs.Prelude.{ℕ, ◌+◌, ◌%◌, Bool, List, [], take, drop, get_or}
use Rattle.numbers.specs.Answers.{Answer, accepted, refused}
use Rattle.numbers.specs.Bytes.{at16}
use Rattle.sd_format.specs.Options.{Family, First, Opt, configuring, balancing, addressed, unrecognised, discardable_bit, has, width, protocol}
use Rattle.sd_format.specs.Strings.{read_string}
use Rattle.sd_format.specs.Kinds.{Kind, configuration, load_balancing, address, unknown, kind_of}
use Rattle.sd_format.specs.Frames.{Frame}

-- ---- where the fields stand

abbrev pub discardable : List ℕ → Bool
discardable body = has (get_or body 0 0) discardable_bit

abbrev pub first : List ℕ → First
first body = record { discardable = discardable body; others = get_or body 0 0 % 128 }

-- all bytes after the first
abbrev pub string : List ℕ → List ℕ
string body = drop 1 body

abbrev pub priority : List ℕ → ℕ
priority body = at16 body 1

abbrev pub weight : List ℕ → ℕ
weight body = at16 body 3

-- the address, a reserved byte, the transport protocol (specs/Options.antt), the port
abbrev pub address_bytes : Family → List ℕ → List ℕ
address_bytes family body = take (width family) (drop 1 body)

abbrev pub reserved : Family → List ℕ → ℕ
reserved family body = get_or body (1 + width family) 0

abbrev pub port : Family → List ℕ → ℕ
port family body = at16 body (3 + width family)

-- ---- the option by its kind's own fields

-- the items of a string that was accepted
unfoldable pub items_of : Answer (List (List ℕ)) → List (List ℕ)
items_of (accepted items) = items
items_of (refused r) = []

unfoldable pub fields_of : Kind → ℕ → List ℕ → Opt
fields_of configuration type body = configuring (first body) (items_of (read_string (string body)))
fields_of load_balancing type body = balancing (first body) (priority body) (weight body)
fields_of (address family role) type body =
    addressed family role (first body) (address_bytes family body) (reserved family body) (protocol family body) (port family body)
fields_of unknown type body = unrecognised type (first body) (string body)

unfoldable pub fields : Frame → Opt
fields f = fields_of (kind_of f.type) f.type f.body
