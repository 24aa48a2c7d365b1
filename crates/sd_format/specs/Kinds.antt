-- The kinds of options: the table of the eight known kinds and their lengths, and what a kind asks of the bytes after the type.
-- Assumes nothing: these are definitions.
use Rattle.std.specs.Prelude.{ℕ, ◌+◌, Bool, not, ◌&&◌, ◌||◌, cond, List, [], ◌∷◌, length, drop, eqb}
use Rattle.numbers.specs.Refusals.{option_length, wrong_protocol}
use Rattle.numbers.specs.Answers.{Verdict, pass, ◌>>◌, refuse◌when◌else◌, further, verdict}
use Rattle.sd_format.specs.Settings.{Settings}
use Rattle.sd_format.specs.Options.{Family, ipv4, ipv6, Role, endpoint, multicast, sd_endpoint, width, protocol}
use Rattle.sd_format.specs.Strings.{read_string}

pub data Kind : Type 0 where
  configuration : Kind
  load_balancing : Kind
  address : Family → Role → Kind
  unknown : Kind

pub data Length : Type 0 where
  exactly : ℕ → Length
  one_or_more : Length

-- a row of the rules' table
pub record Row : Type 0 where
  pub code : ℕ
  pub kind : Kind
  pub len : Length

abbrev pub row : ℕ → Kind → Length → Row
row code kind len = record { code = code; kind = kind; len = len }

unfoldable pub kinds : List Row
kinds =
    row 0x01 configuration one_or_more
    ∷ row 0x02 load_balancing (exactly 5)
    ∷ row 0x04 (address ipv4 endpoint) (exactly 9)
    ∷ row 0x14 (address ipv4 multicast) (exactly 9)
    ∷ row 0x24 (address ipv4 sd_endpoint) (exactly 9)
    ∷ row 0x06 (address ipv6 endpoint) (exactly 21)
    ∷ row 0x16 (address ipv6 multicast) (exactly 21)
    ∷ row 0x26 (address ipv6 sd_endpoint) (exactly 21)
    ∷ []

-- the first row with this type; an unknown type needs length 1 or more
unfoldable pub row_in : List Row → ℕ → Row
row_in [] type = row type unknown one_or_more
row_in (r ∷ rows) type = cond (eqb type r.code) r (row_in rows type)

-- the type byte decides the kind
unfoldable pub row_of : ℕ → Row
row_of type = row_in kinds type

abbrev pub kind_of : ℕ → Kind
kind_of type = (row_of type).kind

-- ---- what a kind asks of the bytes after the type

-- another length for a fixed kind is 7 with source 1; that the length is not zero was judged before
unfoldable pub judge_length : Length → (had : ℕ) → Verdict
judge_length (exactly n) had = refuse option_length n had 1 when not (eqb had n) else pass
judge_length one_or_more had = pass

-- what is said of a string alone, and of one in its option, whose fifth byte is the string's first
abbrev pub string_alone : List ℕ → Verdict
string_alone s = verdict (read_string s)

abbrev pub scanned : List ℕ → Verdict
scanned s = further 4 (string_alone s)

-- which transport protocols a role may carry under the strict setting: 0x06 (TCP) and 0x11 (UDP), multicast 0x11 alone
unfoldable pub may_carry : Role → (protocol : ℕ) → Bool
may_carry endpoint p = eqb p 0x06 || eqb p 0x11
may_carry multicast p = eqb p 0x11
may_carry sd_endpoint p = eqb p 0x06 || eqb p 0x11

-- an option with an address under the strict setting: 23 with its protocol, at the byte behind its length, type, first byte, address and
-- reserved byte
unfoldable pub judge_protocol : (strict : Bool) → Family → Role → List ℕ → Verdict
judge_protocol strict family role body =
    refuse wrong_protocol (protocol family body) (5 + width family) when strict && not (may_carry role (protocol family body)) else
    pass

-- what a kind holds, judged by the reading: a configuration option's string, which is all bytes after the first; an address's protocol
unfoldable pub judge_content : Settings → Kind → List ℕ → Verdict
judge_content g configuration body = scanned (drop 1 body)
judge_content g load_balancing body = pass
judge_content g (address family role) body = judge_protocol g.strict family role body
judge_content g unknown body = pass

-- and by lookup, which scans no string and knows no setting
abbrev pub unscanned : Kind → List ℕ → Verdict
unscanned kind body = pass

-- a kind judged: its length, then what it holds
unfoldable pub judge_kind : (content : Kind → List ℕ → Verdict) → (type : ℕ) → List ℕ → Verdict
judge_kind content type body = judge_length (row_of type).len (length body) >> content (kind_of type) body
