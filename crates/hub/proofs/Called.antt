-- The theorems over what C calls, from the contracts themselves: what a caller learns of a call (`Learnt`: its arguments, its result, and what was
-- lent as it is after it) is what the theorems of specs/ ask. A contract that leaves out an argument, or takes another, is refused here, also where
-- its code does the same. Assumes nothing.
use Prim.Native.Nat.{ℕ, ◌*◌, ◌≤◌}
use mathlib.Core.Path.{◌≡◌, ◌∙◌}
use mathlib.Core.List.{List}
use lib.ListN.{length, drop, get_or}
use Rattle.numbers.specs.Answers.{accepted, verdict}
use Rattle.numbers.specs.Bytes.{Bytes}
use Rattle.sd_format.specs.Sequences.{counted}
use Rattle.sd_format.specs.Options.{Opt}
use Rattle.sd_format.specs.Strings.{read_string}
use Rattle.sd_format.specs.Settings.{Settings}
use Rattle.sd_format.specs.Demand3.{NoStricter}
use Rattle.sd_format.specs.Frames.{look_up, next_option, next_of_run}
use Rattle.sd_format.specs.Entries.{Entry, read_entry, next_entry}
use Rattle.sd_format.specs.Layout.{lay_option, lay_entries, lay_options, Payload}
use Rattle.config_string.specs.Items.{next_item}
use Rattle.sd_index.specs.Steps.{run_of}
use Rattle.hub.specs.Answers.{told, no_values, option_values, item_values}
use Rattle.hub.specs.Entries.{entry_told}
use Rattle.hub.specs.Settings.{settings_of}
use Rattle.hub.specs.Options.{option_fields, read_option_told}
use Rattle.hub.specs.Payload.{places_told}
use Rattle.hub.specs.Tp.{Begins, Consumes, completes, Takes, Clears}
use Rattle.hub.specs.OfTheHub.{start, told_of, HandedToC, PartsOf, ToldToC, OfTheHub, OfTheIndex, OfTheMessage}
use Rattle.hub.proofs.OfTheHub.{of_the_hub, of_the_index, of_the_message}
use Rattle.hub.proofs.entries.viaductle_read_entry.Reads as read_entry_of
use Rattle.hub.proofs.entries.viaductle_next_entry.Reads as next_entry_of
use Rattle.hub.proofs.options.viaductle_index.Reads as index_of
use Rattle.hub.proofs.options.viaductle_lookup.Reads as lookup_of
use Rattle.hub.proofs.options.viaductle_next_option.Reads as next_option_of
use Rattle.hub.proofs.options.viaductle_next_of_run.Reads as next_of_run_of
use Rattle.hub.proofs.options.viaductle_string.Reads as string_of
use Rattle.hub.proofs.options.viaductle_next_item.Reads as next_item_of
use Rattle.hub.proofs.options.viaductle_read_option.Reads as read_option_of
use Rattle.hub.proofs.payload.viaductle_read.Reads as read_of
use Rattle.hub.proofs.payload.viaductle_read_message.Reads as read_message_of
use Rattle.hub.proofs.payload.viaductle_parts.Reads as parts_of
use Rattle.hub.proofs.tp.viaductle_begin.Reads as begin_of
use Rattle.hub.proofs.tp.viaductle_consume.Reads as consume_of
use Rattle.hub.proofs.tp.viaductle_complete.Reads as complete_of
use Rattle.hub.proofs.tp.viaductle_take.Reads as take_of
use Rattle.hub.proofs.tp.viaductle_clear.Reads as clear_of

-- ---- a payload or a message, and its parts

pub reads : (κs : _) (a : _) (r : _) (e : _) → read_of.Learnt κs a r e → Bytes a.0.now → 347 ≤ length a.1.0.now
    → OfTheHub a.1.1.0 a.0.now e.1.0.now r
reads κs a r e learnt b long = of_the_hub a.1.1.0 a.0.now a.1.0.now e.1.0.now r b long learnt

pub reads_message : (κs : _) (a : _) (r : _) (e : _) → read_message_of.Learnt κs a r e → Bytes a.0.now → 347 ≤ length a.1.0.now
    → OfTheMessage a.1.1.0 a.0.now e.1.0.now r
reads_message κs a r e learnt b long = of_the_message a.1.1.0 a.0.now a.1.0.now e.1.0.now r b long learnt

pub indexes : (κs : _) (a : _) (r : _) (e : _) → index_of.Learnt κs a r e → Bytes a.0.now → 347 ≤ length a.1.0.now
    → OfTheIndex a.1.1.0 a.0.now e.1.0.now r
indexes κs a r e learnt b long = of_the_index a.1.1.0 a.0.now a.1.0.now e.1.0.now r b long learnt

-- the parts after an answer to which the theorem holds
pub parts : (g : Settings) (q : Payload) (s tab : List ℕ) (κs : _) (a : _) (r : _) (e : _) → parts_of.Learnt κs a r e → a.0.now ≡ s → ToldToC g q s tab a.1.0
    → PartsOf q s r
parts g q s tab κs a r e learnt same t = t.parts r (learnt ∙ (λ i. places_told a.1.0.number (same i)))

-- ---- entries and options of a payload that was read

module _ (g : Settings) (es : List Entry) (os : List Opt) (tab : List ℕ) (h : HandedToC g es os tab) where
  pub entries : (κs : _) (a : _) (r : _) (e : _) → next_entry_of.Learnt κs a r e → (k : ℕ) → a.0.now ≡ lay_entries es → a.1.0 ≡ 16 * k → r ≡ entry_told (counted es k)
  entries κs a r e learnt k part place = h.entries k r (learnt ∙ (λ i. entry_told (next_entry (part i) (place i))))

  pub looked_up : (κs : _) (a : _) (r : _) (e : _) → lookup_of.Learnt κs a r e → a.0.now ≡ lay_options os → a.1.0.now ≡ tab → a.1.1.0 ≡ length os
      → r ≡ told_of os a.1.1.1.0
  looked_up κs a r e learnt part table count =
      let k : ℕ = a.1.1.1.0 in
      h.looked_up k r (learnt ∙ (λ i. told (option_values (get_or (table i) k 0)) (look_up (part i) (table i) (count i) k)))

  pub options : (κs : _) (a : _) (r : _) (e : _) → next_option_of.Learnt κs a r e → NoStricter (settings_of a.1.1.0) g → (k : ℕ) → k ≤ length os
      → a.0.now ≡ lay_options os → a.1.0 ≡ start os k → r ≡ told_of os k
  options κs a r e learnt less k few part place =
      h.options a.1.1.0 less k few r (learnt ∙ (λ i. told (option_values (place i)) (next_option (settings_of a.1.1.0) (part i) (place i))))

  pub fields : (κs : _) (a : _) (r : _) (e : _) → read_option_of.Learnt κs a r e → NoStricter (settings_of a.1.0) g → (k : ℕ) (o : Opt) → counted os k ≡ accepted o
      → a.0.now ≡ drop (start os k) (lay_options os) → r ≡ option_fields (length (lay_option o)) o
  fields κs a r e learnt less k o is part = h.fields a.1.0 less k o is r (learnt ∙ (λ i. read_option_told (settings_of a.1.0) (part i)))

-- ---- what the other calls promise, as the theorems take it

pub read_entries : (κs : _) (a : _) (r : _) (e : _) → read_entry_of.Learnt κs a r e → r ≡ entry_told (read_entry a.0.now)
read_entries κs a r e learnt = learnt

pub of_runs : (κs : _) (a : _) (r : _) (e : _) → next_of_run_of.Learnt κs a r e
    → r ≡ told (option_values (get_or a.1.0.now a.1.1.1.0 0)) (next_of_run a.0.now a.1.0.now a.1.1.0 (run_of a.1.1.1.0 a.1.1.1.1.0))
of_runs κs a r e learnt = learnt

pub strings : (κs : _) (a : _) (r : _) (e : _) → string_of.Learnt κs a r e → r ≡ told no_values (verdict (read_string a.0.now))
strings κs a r e learnt = learnt

pub items : (κs : _) (a : _) (r : _) (e : _) → next_item_of.Learnt κs a r e → r ≡ told (item_values a.1.0) (next_item a.0.now a.1.0)
items κs a r e learnt = learnt

-- ---- streams

pub begins : (κs : _) (a : _) (r : _) (e : _) → begin_of.Learnt κs a r e → Begins a.0.now a.1.0 r e.0.now
begins κs a r e learnt = learnt

pub consumes : (κs : _) (a : _) (r : _) (e : _) → consume_of.Learnt κs a r e
    → Consumes a.0.now a.1.0.now a.1.1.0.now r e.0.now e.1.1.0.now
consumes κs a r e learnt = learnt

pub is_complete : (κs : _) (a : _) (r : _) (e : _) → complete_of.Learnt κs a r e → r ≡ completes a.0.now
is_complete κs a r e learnt = learnt

pub takes : (κs : _) (a : _) (r : _) (e : _) → take_of.Learnt κs a r e → Takes a.0.now a.1.0.now r e.1.0.now
takes κs a r e learnt = learnt

pub clears : (κs : _) (a : _) (r : _) (e : _) → clear_of.Learnt κs a r e → Clears a.0.now r e.0.now
clears κs a r e learnt = learnt
