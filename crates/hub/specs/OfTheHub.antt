-- Demand 3 of what C calls: what is so of every outcome that the promises of the exported functions allow, all for what was laid out;
-- proofs/OfTheHub.antt proves it. Places are counted in the layout, and no word of the reading stands here. Assumes nothing: these are definitions.
use Rattle.std.specs.Prelude.{ℕ, ◌+◌, ◌*◌, ◌/◌, ◌≤◌, ◌≡◌, cond, ◌↔◌, List, [], ◌∷◌, length, take, drop, get_or, eqb}
use Rattle.numbers.specs.Answers.{accepted}
use Rattle.sd_format.specs.Settings.{Settings}
use Rattle.sd_format.specs.Sequences.{counted}
use Rattle.sd_format.specs.Options.{Opt}
use Rattle.sd_format.specs.Frames.{look_up, next_option, next_of_run}
use Rattle.sd_format.specs.Entries.{Entry, next_entry}
use Rattle.sd_format.specs.Layout.{lay_option, lay_entries, lay_options, Payload}
use Rattle.sd_format.specs.Demand3.{LaidOut, NoStricter, IndexLaidOut, MessageLaidOut}
use Rattle.sd_index.specs.Steps.{run_of}
use Rattle.hub.specs.declared.answers.Answer.{Answer}
use Rattle.hub.specs.declared.entries.Entry as exported
use Rattle.hub.specs.declared.options.Option.{Option}
use Rattle.hub.specs.declared.payload.Places.{Places}
use Rattle.hub.specs.Answers.{row, told, option_values}
use Rattle.hub.specs.Entries.{entry_told}
use Rattle.hub.specs.Options.{option_fields, read_option_told}
use Rattle.hub.specs.Settings.{settings_of, ByBits}
use Rattle.hub.specs.Payload.{places_told}

-- where option k starts in the options part: behind the layouts of those before it
abbrev pub start : List Opt → ℕ → ℕ
start os k = length (lay_options (take k os))

-- what is told of an option that starts at `at`: its type byte, where it starts, and how many bytes its layout has
abbrev pub laid_values : (at : ℕ) → Opt → List ℕ
laid_values at o = get_or (lay_option o) 2 0 ∷ at ∷ length (lay_option o) ∷ []

-- what is told of option k: 20 at or past the end
abbrev pub told_of : List Opt → ℕ → Answer
told_of os k = told (laid_values (start os k)) (counted os k)

-- What C is told of the entries `es` and the options `os` of a payload that was accepted under the settings `g`, over its two parts and the table
-- `tab` that was left. Each `r` is any outcome that the call's promise allows. A call that is told settings is told any that ask no more than `g`,
-- as the word 0 does.
pub record HandedToC (g : Settings) (es : List Entry) (os : List Opt) (tab : List ℕ) : Type 0 where
  -- viaductle_next_entry at 16 k gives entry k with its own fields, and 20 behind the last
  pub entries : (k : ℕ) (r : exported.Entry) → r ≡ entry_told (next_entry (lay_entries es) (16 * k)) → r ≡ entry_told (counted es k)
  -- viaductle_lookup of any number gives what counting from the front gives
  pub looked_up : (k : ℕ) (r : Answer) → r ≡ told (option_values (get_or tab k 0)) (look_up (lay_options os) tab (length os) k) → r ≡ told_of os k
  -- viaductle_next_option where option k starts gives option k, and 20 at the end
  pub options : (word : ℕ) → NoStricter (settings_of word) g → (k : ℕ) → k ≤ length os
      → (r : Answer) → r ≡ told (option_values (start os k)) (next_option (settings_of word) (lay_options os) (start os k)) → r ≡ told_of os k
  -- viaductle_next_of_run gives the option of that number as long as some of the run are left, and 20 then
  pub runs : (next left : ℕ) (r : Answer) → r ≡ told (option_values (get_or tab next 0)) (next_of_run (lay_options os) tab (length os) (run_of next left))
      → r ≡ cond (eqb left 0) (row 20 []) (told_of os next)
  -- viaductle_read_option where option k starts gives its own fields
  pub fields : (word : ℕ) → NoStricter (settings_of word) g → (k : ℕ) (o : Opt) → counted os k ≡ accepted o
      → (r : Option) → r ≡ read_option_told (settings_of word) (drop (start os k) (lay_options os)) → r ≡ option_fields (length (lay_option o)) o

-- ---- the payload

-- two parts of `s` where they are told to be: its entries and its options, laid out
pub record PartsOf (q : Payload) (s : List ℕ) (p : Places) : Type 0 where
  pub entries : take p.entries_len (drop p.entries_at s) ≡ lay_entries q.entries
  pub entries_inside : p.entries_at + p.entries_len ≤ length s
  pub options : take p.options_len (drop p.options_at s) ≡ lay_options q.options
  pub options_inside : p.options_at + p.options_len ≤ length s

-- what C is told after the payload `s`, which `q` lays out, was read under the settings `g` with the answer `r` and left the table `tab`
pub record ToldToC (g : Settings) (q : Payload) (s tab : List ℕ) (r : Answer) : Type 0 where
  -- the three flags as byte 0 has them, how many entries, and how many options
  pub answer : r ≡ row 0 ((get_or s 0 0 / 32 * 32) ∷ length q.entries ∷ length q.options ∷ [])
  pub parts : (p : Places) → p ≡ places_told r.number s → PartsOf q s p
  pub handed : HandedToC g q.entries q.options tab

-- the payload `s` was read under the settings' word `word` with the answer `r` and left the table `tab`
pub record OfTheHub (word : ℕ) (s tab : List ℕ) (r : Answer) : Type 0 where
  -- each setting is on exactly where its bit is set
  pub settings : ByBits word
  -- 0 is answered exactly where entries and options, laid out by the rules, give those very bytes
  pub exactly : (r.number ≡ 0) ↔ ((q : Payload) × LaidOut (settings_of word) s q)
  -- and then all that C is told is what was laid out
  pub after : (q : Payload) → LaidOut (settings_of word) s q → ToldToC (settings_of word) q s tab r
  -- after a refusal the parts are empty
  pub empty_parts : (r.number ≡ 0 → ⊥) → (p : Places) → p ≡ places_told r.number s
      → p ≡ record { entries_at = 0; entries_len = 0; options_at = 0; options_len = 0 }

-- the options part `s` was read alone so: 0 exactly where it is options laid out, then how many they are, and each of them is told
pub record OfTheIndex (word : ℕ) (s tab : List ℕ) (r : Answer) : Type 0 where
  pub settings : ByBits word
  pub exactly : (r.number ≡ 0) ↔ ((os : List Opt) × IndexLaidOut (settings_of word) s os)
  pub answer : (os : List Opt) → IndexLaidOut (settings_of word) s os → r ≡ row 0 (length os ∷ [])
  pub handed : (os : List Opt) → IndexLaidOut (settings_of word) s os → HandedToC (settings_of word) [] os tab

-- the message `m` was read so: the same of what stands behind its header
pub record OfTheMessage (word : ℕ) (m tab : List ℕ) (r : Answer) : Type 0 where
  pub exactly : (r.number ≡ 0) ↔ ((q : Payload) × MessageLaidOut (settings_of word) m q)
  pub after : r.number ≡ 0 → OfTheHub word (drop 16 m) tab r
