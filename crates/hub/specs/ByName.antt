-- What C is told of one entry, one option and one item, by the names of the exported fields: an entry laid out by its names at the rules'
-- places is its layout; the told places of an option hold its address and its string; fields that a kind has not hold 0, and so do all after a
-- refusal. Written from the layout, beside the definitions that the promises cite and not by them. proofs/ByName.antt proves it. Assumes
-- nothing: these are definitions.
use Rattle.std.specs.Prelude.{ℕ, ◌+◌, ◌*◌, ◌/◌, ◌≡◌, List, [], ◌∷◌, ◌++◌, length, take, drop, get_or}
use Rattle.numbers.specs.Refusals.{Refusal, gives}
use Rattle.numbers.specs.Answers as paper
use Rattle.numbers.specs.Bytes.{be16, be24, be32}
use Rattle.sd_format.specs.Settings.{Settings}
use Rattle.sd_format.specs.Options.{Opt, configuring, balancing, addressed, unrecognised}
use Rattle.sd_format.specs.Entries as format
use Rattle.sd_format.specs.Layout.{lay_items, lay_option, OptionFits, lay_entry}
use Rattle.config_string.specs.Items.{next_item}
use Rattle.hub.specs.declared.answers.Answer.{Answer}
use Rattle.hub.specs.declared.entries.Entry.{Entry}
use Rattle.hub.specs.declared.options.Option.{Option}
use Rattle.hub.specs.Answers.{row, told, no_values, one_value, item_values}
use Rattle.hub.specs.Entries.{entry_told}
use Rattle.hub.specs.Options.{option_fields, option_told}

-- ---- an entry

-- type; run 1 start; run 2 start; one byte with count 1 in the high four bits and count 2 in the low four; service id (2); instance id (2);
-- major version; TTL (3)
abbrev pub head_by_name : Entry → List ℕ
head_by_name e =
    e.code ∷ e.start1 ∷ e.start2 ∷ (e.count1 * 16 + e.count2) ∷
    (be16 e.service ++ (be16 e.instance ++ (e.major ∷ be24 e.ttl)))

-- the four bytes behind it: a service's minor version
abbrev pub service_by_name : Entry → List ℕ
service_by_name e = be32 e.minor

-- an eventgroup's: a reserved byte; the bit that asks for the initial data, three reserved bits, and the counter in the low four; its id (2)
abbrev pub eventgroup_by_name : Entry → List ℕ
eventgroup_by_name e = e.reserved ∷ (e.initial_data * 0x80 + e.spare * 16 + e.counter) ∷ be16 e.eventgroup

-- the fields that services alone, and eventgroups alone, have
pub record NoService (e : Entry) : Type 0 where
  pub minor : e.minor ≡ 0

pub record NoEventgroup (e : Entry) : Type 0 where
  pub initial_data : e.initial_data ≡ 0
  pub counter : e.counter ≡ 0
  pub eventgroup : e.eventgroup ≡ 0
  pub reserved : e.reserved ≡ 0
  pub spare : e.spare ≡ 0

abbrev pub TellsEntry : format.Entry → Entry → Type 0
TellsEntry (format.find h minor) r = (head_by_name r ++ service_by_name r ≡ lay_entry (format.find h minor)) × NoEventgroup r
TellsEntry (format.offer h minor) r = (head_by_name r ++ service_by_name r ≡ lay_entry (format.offer h minor)) × NoEventgroup r
TellsEntry (format.subscribe h g) r = (head_by_name r ++ eventgroup_by_name r ≡ lay_entry (format.subscribe h g)) × NoService r
TellsEntry (format.subscribe_ack h g) r = (head_by_name r ++ eventgroup_by_name r ≡ lay_entry (format.subscribe_ack h g)) × NoService r

-- an entry with no fields
pub record EmptyEntry (e : Entry) : Type 0 where
  pub head : (e.code ≡ 0) × (e.start1 ≡ 0) × (e.start2 ≡ 0) × (e.count1 ≡ 0) × (e.count2 ≡ 0)
  pub ids : (e.service ≡ 0) × (e.instance ≡ 0) × (e.major ≡ 0) × (e.ttl ≡ 0)
  pub no_service : NoService e
  pub no_eventgroup : NoEventgroup e

-- ---- an option

-- the option `o` told as `r`: what every option has, by its layout; and these fields, where the parts are empty that its kind has not
pub record Tells (o : Opt) (priority weight : ℕ) (address : List ℕ) (protocol port : ℕ) (string : List ℕ) (r : Option) : Type 0 where
  pub type : r.code ≡ get_or (lay_option o) 2 0
  pub size : r.size ≡ length (lay_option o)
  pub discardable : r.discardable ≡ get_or (lay_option o) 3 0 / 128
  pub priority_told : r.priority ≡ priority
  pub weight_told : r.weight ≡ weight
  pub protocol_told : r.protocol ≡ protocol
  pub port_told : r.port ≡ port
  pub address_there : take r.address_len (drop r.address_at (lay_option o)) ≡ address
  pub address_long : r.address_len ≡ length address
  pub no_address : address ≡ [] → r.address_at ≡ 0
  pub string_there : take r.string_len (drop r.string_at (lay_option o)) ≡ string
  pub string_long : r.string_len ≡ length string
  pub no_string : string ≡ [] → r.string_at ≡ 0

abbrev pub TellsOption : Opt → Option → Type 0
TellsOption (configuring first items) r = Tells (configuring first items) 0 0 [] 0 0 (lay_items items) r
TellsOption (balancing first priority weight) r = Tells (balancing first priority weight) priority weight [] 0 0 [] r
TellsOption (addressed family role first address reserved protocol port) r =
    Tells (addressed family role first address reserved protocol port) 0 0 address protocol port [] r
TellsOption (unrecognised type first rest) r = Tells (unrecognised type first rest) 0 0 [] 0 0 [] r

-- an option with no fields
pub record EmptyOption (o : Option) : Type 0 where
  pub head : (o.code ≡ 0) × (o.size ≡ 0) × (o.discardable ≡ 0)
  pub balancing : (o.priority ≡ 0) × (o.weight ≡ 0)
  pub address : (o.address_at ≡ 0) × (o.address_len ≡ 0) × (o.protocol ≡ 0) × (o.port ≡ 0)
  pub string : (o.string_at ≡ 0) × (o.string_len ≡ 0)

-- ---- an item

-- where its bytes start, behind the length byte at `at`, and how many they are: those of the string `s` that stand there
pub record TellsItem (s : List ℕ) (at : ℕ) (item : List ℕ) (r : Answer) : Type 0 where
  pub answer : r ≡ row 0 ((at + 1) ∷ length item ∷ [])
  pub there : take (length item) (drop (at + 1) s) ≡ item

-- ---- all of them, for each outcome that the definitions allow

pub record ByName : Type 0 where
  pub entry : (e : format.Entry) (r : Entry) → r ≡ entry_told (paper.accepted e) → (r.answer ≡ row 0 []) × TellsEntry e r
  pub no_entry : (q : Refusal) (r : Entry) → r ≡ entry_told (paper.refused q) → (r.answer ≡ row q.number (gives q)) × EmptyEntry r
  pub option : (g : Settings) (o : Opt) → OptionFits g o → (r : Option) → r ≡ option_fields (length (lay_option o)) o → (r.answer ≡ row 0 []) × TellsOption o r
  pub no_option : (q : Refusal) (r : Option) → r ≡ option_told (paper.refused q) → (r.answer ≡ row q.number (gives q)) × EmptyOption r
  pub item : (s : List ℕ) (at : ℕ) (item : List ℕ) → next_item s at ≡ paper.accepted item → TellsItem s at item (told (item_values at) (next_item s at))
  -- a verdict is told with no value, a count with itself
  pub verdict : told no_values paper.pass ≡ row 0 []
  pub count : (n : ℕ) → told one_value (paper.accepted n) ≡ row 0 (n ∷ [])
