-- The rules' marked cases (*) of service discovery and of configuration strings, as one table. Assumes nothing: these are definitions.
use Rattle.std.specs.Prelude.{ℕ, ◌≡◌, Bool, true, false, List, [], ◌∷◌, ◌++◌, map, replicate}
use Rattle.numbers.specs.Refusals.{refusal, ◌at_byte◌}
use Rattle.numbers.specs.Answers.{Answer, accepted, refused, given, All}
use Rattle.sd_format.specs.Settings.{Settings}
use Rattle.sd_format.specs.Options.{ipv4, endpoint, Opt, addressed, unrecognised}
use Rattle.sd_format.specs.Strings.{read_string}
use Rattle.sd_format.specs.Frames.{read_options}
use Rattle.sd_format.specs.Fields.{fields}
use Rattle.sd_format.specs.Entries.{Entry, offer}
use Rattle.sd_format.specs.Layout.{Payload}
use Rattle.sd_format.specs.Payload.{handed_out}

-- a payload, an options part or a configuration string, with the answer that is due
pub data Case : Type 0 where
  payload : List ℕ → Answer Payload → Case
  options : (discard : Bool) → List ℕ → Answer (List Opt) → Case
  string : List ℕ → Answer (List (List ℕ)) → Case

abbrev pub discarding : Bool → Settings
discarding d = record { discard = d; strict = false }

-- the case's answer is what the definitions give
abbrev pub Holds : Case → Type 0
Holds (payload s a) = handed_out (discarding false) s ≡ a
Holds (options d s a) = given (map fields) (read_options (discarding d) s) ≡ a
Holds (string s a) = read_string s ≡ a

-- `80000000 00000010 01000010 12345678 01000E10 01000000 0000000C 00090400 C0A80101 00061F90`, with run 1 from `start`
abbrev pub whole : ℕ → List ℕ
whole start =
    0x80 ∷ 0x00 ∷ 0x00 ∷ 0x00 ∷ 0x00 ∷ 0x00 ∷ 0x00 ∷ 0x10
    ∷ 0x01 ∷ start ∷ 0x00 ∷ 0x10 ∷ 0x12 ∷ 0x34 ∷ 0x56 ∷ 0x78 ∷ 0x01 ∷ 0x00 ∷ 0x0e ∷ 0x10 ∷ 0x01 ∷ 0x00 ∷ 0x00 ∷ 0x00
    ∷ 0x00 ∷ 0x00 ∷ 0x00 ∷ 0x0c
    ∷ 0x00 ∷ 0x09 ∷ 0x04 ∷ 0x00 ∷ 0xc0 ∷ 0xa8 ∷ 0x01 ∷ 0x01 ∷ 0x00 ∷ 0x06 ∷ 0x1f ∷ 0x90 ∷ []

-- offer of service 0x1234, TTL 3600, run 1 holds one option
abbrev pub the_offer : Entry
the_offer =
    offer (record { start1 = 0; start2 = 0; count1 = 1; count2 = 0; service = 0x1234; instance = 0x5678; major = 1; ttl = 3600 }) 0x01000000

-- IPv4 endpoint 192.168.1.1, TCP, 8080
abbrev pub the_endpoint : Opt
the_endpoint = addressed ipv4 endpoint (record { discardable = false; others = 0 }) (192 ∷ 168 ∷ 1 ∷ 1 ∷ []) 0 0x06 8080

abbrev pub payload_of : Bool → List Entry → List Opt → Payload
payload_of reboot es os =
    record { flags = record { reboot = reboot; unicast = false; initial_data_control = false }; spare = 0; reserved = 0; entries = es; options = os }

abbrev pub table : List Case
table =
    payload (replicate 12 0) (accepted (payload_of false [] []))
    ∷ payload (replicate 13 0) (refused (refusal 6 (12 ∷ 13 ∷ [])))
    ∷ payload (replicate 7 0 ++ (17 ∷ replicate 4 0)) (refused (refusal 3 (17 ∷ [])))
    ∷ payload (whole 0) (accepted (payload_of true (the_offer ∷ []) (the_endpoint ∷ [])))
    ∷ payload (whole 1) (refused (refusal 12 (1 ∷ 1 ∷ 1 ∷ 1 ∷ [])))
    ∷ options false (0x00 ∷ 0x01 ∷ 0x77 ∷ 0x80 ∷ []) (accepted (unrecognised 0x77 (record { discardable = true; others = 0 }) [] ∷ []))
    ∷ options false (0x00 ∷ 0x01 ∷ 0x77 ∷ 0x00 ∷ []) (refused (refusal 10 (0x77 ∷ []) at_byte 3))
    ∷ options true (0x00 ∷ 0x01 ∷ 0x77 ∷ 0x00 ∷ []) (accepted (unrecognised 0x77 (record { discardable = false; others = 0 }) [] ∷ []))
    ∷ string [] (refused (refusal 9 (1 ∷ []) at_byte 0))
    ∷ string (0x00 ∷ []) (accepted [])
    ∷ string (0x01 ∷ 0x3d ∷ 0x00 ∷ []) (refused (refusal 9 (4 ∷ 0 ∷ []) at_byte 0))
    ∷ string (0x03 ∷ 0x41 ∷ 0x3d ∷ 0xff ∷ 0x00 ∷ []) (accepted ((0x41 ∷ 0x3d ∷ 0xff ∷ []) ∷ []))
    ∷ []

abbrev pub Cases : Type 0
Cases = All Holds table
