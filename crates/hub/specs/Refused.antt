-- What C is told where a payload, a message, the options or one option is refused: the refusal's own number and values, its place the last of them;
-- and that the place is the place. proofs/Refused.antt proves it. Assumes nothing: these are definitions.
use Rattle.std.specs.Prelude.{ℕ, ◌≤◌, ◌≡◌, List, length, drop}
use Rattle.numbers.specs.Refusals.{Refusal, gives, told}
use Rattle.numbers.specs.Answers.{refused}
use Rattle.numbers.specs.Bytes.{Bytes}
use Rattle.sd_format.specs.Frames.{read_option, read_index}
use Rattle.sd_format.specs.Payload.{options_part, read_payload, read_message}
use Rattle.sd_format.specs.Faults.{OneRefused, Stopped}
use Rattle.sd_payload.specs.OfTheCode.{RefusedThere}
use Rattle.hub.specs.declared.answers.Answer.{Answer}
use Rattle.hub.specs.declared.options.Option.{Option}
use Rattle.hub.specs.Answers.{row}
use Rattle.hub.specs.Options.{Indexes, read_option_told}
use Rattle.hub.specs.Settings.{settings_of}
use Rattle.hub.specs.Payload.{Reads}

-- the refusal `q` told as `r`, and what is so of the place that it tells
pub record ToldRefused (There : ℕ → Type 0) (q : Refusal) (r : Answer) : Type 0 where
  pub answer : r ≡ row q.number (gives q)
  pub place : (p : ℕ) → q.place ≡ told p → There p

-- Each `r` is any outcome that the call's promise allows.
pub record RefusedToC : Type 0 where
  -- viaductle_read and viaductle_read_message: the place in the options part
  pub payload : (word : ℕ) (s tab tab' : List ℕ) (r : Answer) → Bytes s → 347 ≤ length tab → Reads (read_payload (settings_of word) s) tab r tab'
      → (q : Refusal) → read_payload (settings_of word) s ≡ refused q → ToldRefused (λ p. RefusedThere (settings_of word) (options_part s) q) q r
  pub message : (word : ℕ) (m tab tab' : List ℕ) (r : Answer) → Bytes m → 347 ≤ length tab → Reads (read_message (settings_of word) m) tab r tab'
      → (q : Refusal) → read_message (settings_of word) m ≡ refused q → ToldRefused (λ p. RefusedThere (settings_of word) (options_part (drop 16 m)) q) q r
  -- viaductle_index: the same, but for 10
  pub index : (word : ℕ) (s tab tab' : List ℕ) (r : Answer) → Bytes s → 347 ≤ length tab → Indexes (settings_of word) s tab r tab'
      → (q : Refusal) → read_index (settings_of word) s ≡ refused q → ToldRefused (λ p. Stopped (settings_of word) s q) q r
  -- viaductle_read_option: the place in that option
  pub option : (word : ℕ) (s : List ℕ) (r : Option) → Bytes s → r ≡ read_option_told (settings_of word) s
      → (q : Refusal) → read_option (settings_of word) s ≡ refused q → ToldRefused (OneRefused (settings_of word) s q) q r.answer
