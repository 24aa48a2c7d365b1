-- The readings as they stood before there was a strict setting (request W7), over definitions that did not change with it, and the statements
-- that hold it to them: off, it changes no reading; on, it refuses more, and changes nothing of what is accepted. proofs/StrictLaws.antt
-- proves them. Assumes nothing: these are definitions.
use Rattle.std.specs.Prelude.{ℕ, ◌-◌, ◌≡◌, true, false, ◌↔◌, List, map, length, take, drop, ltb}
use Rattle.numbers.specs.Refusals.{index_too_large}
use Rattle.numbers.specs.Answers.{Answer, accepted, Verdict, pass, ◌>>=◌, ◌>>◌, refuse◌when◌else◌, given, further, All}
use Rattle.sd_format.specs.Settings.{Settings}
use Rattle.sd_format.specs.Sequences.{all, next_at, each_from}
use Rattle.sd_format.specs.Options.{Opt, configuring, balancing, addressed, unrecognised}
use Rattle.sd_format.specs.Kinds.{Kind, configuration, load_balancing, address, unknown, scanned}
use Rattle.sd_format.specs.Frames.{Frame, size, one_option, read_option, permit, read_options, read_index, next_option}
use Rattle.sd_format.specs.Fields.{fields}
use Rattle.sd_format.specs.Entries.{read_entries}
use Rattle.sd_format.specs.Layout.{ProtocolFits, Payload}
use Rattle.sd_format.specs.Payload.{sizes, entries_length, options_length, entries_part, options_part, Reading, read_payload, handed_out, header_length, header, read_message}
use Rattle.sd_format.specs.Demand3.{table_left}

-- ---- the readings without it

-- beyond a kind's length a configuration option's string was judged, and nothing else
abbrev pub string_judged : Kind → List ℕ → Verdict
string_judged configuration body = scanned (drop 1 body)
string_judged load_balancing body = pass
string_judged (address family role) body = pass
string_judged unknown body = pass

abbrev pub option_before : List ℕ → Answer Frame
option_before = one_option string_judged

abbrev pub all_before : List ℕ → Answer (List Frame)
all_before s = all (λ t. further (length s - length t) (option_before t)) size s

abbrev pub options_before : Settings → List ℕ → Answer (List Frame)
options_before g s = all_before s >>= λ fs. each_from size (permit g) 0 fs >> accepted fs

abbrev pub index_before : List ℕ → Answer (List Frame)
index_before s =
    refuse index_too_large (length s) when ltb 1388 (length s) else
    all_before s

abbrev pub payload_before : Settings → List ℕ → Answer Reading
payload_before g s =
    sizes (length s) (entries_length s) (options_length s) >>
    (options_before g (options_part s) >>= λ fs.
    read_entries (length fs) (entries_part s) >>= λ es.
    accepted (record { opening = take 4 s; entries = es; frames = fs }))

abbrev pub message_before : Settings → List ℕ → Answer Reading
message_before g s = header s >> payload_before g (drop header_length s)

-- ---- off: every reading is that one

pub record AsBefore (g : Settings) (s : List ℕ) : Type 0 where
  pub option : read_option g s ≡ option_before s
  pub cursor : (at : ℕ) → next_option g s at ≡ next_at option_before s at
  pub options : read_options g s ≡ options_before g s
  pub index : read_index g s ≡ index_before s
  pub payload : read_payload g s ≡ payload_before g s
  pub message : read_message g s ≡ message_before g s

-- ---- on: what is accepted is what is accepted without it, and has protocols that fit

abbrev pub without_strict : Settings → Settings
without_strict g = record { discard = g.discard; strict = false }

-- an option with an address has one; no other option has a protocol
abbrev pub Carries : Opt → Type 0
Carries (configuring first items) = Unit {0}
Carries (balancing first priority weight) = Unit {0}
Carries (addressed family role first bytes reserved protocol port) = ProtocolFits role protocol
Carries (unrecognised type first rest) = Unit {0}

pub record OnlyRefusesMore (g : Settings) (s : List ℕ) : Type 0 where
  pub payload : (p : Payload) → (handed_out g s ≡ accepted p) ↔ ((handed_out (without_strict g) s ≡ accepted p) × (g.strict ≡ true → All Carries p.options))
  pub index : (os : List Opt) → (given (map fields) (read_index g s) ≡ accepted os)
      ↔ ((given (map fields) (read_index (without_strict g) s) ≡ accepted os) × (g.strict ≡ true → All Carries os))
  -- the table is left the same, so that lookup and the run cursor, which are told no setting, answer the same
  pub table : (p : Payload) → handed_out g s ≡ accepted p → (tab : List ℕ) → table_left g s tab ≡ table_left (without_strict g) s tab
