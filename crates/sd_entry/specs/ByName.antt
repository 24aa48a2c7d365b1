-- An entry by the names that the code has for its fields, at the rules' places, and the statement that these are the places of what it says.
-- Written from the rules' text, with nothing of the reading or of sd_format's layout. proofs/ByName.antt proves it. Assumes nothing: these
-- are definitions.
use Rattle.std.specs.Prelude.{ℕ, ◌+◌, ◌*◌, ◌≡◌, cond, List, ◌∷◌, ◌++◌}
use Rattle.numbers.specs.Bytes.{be16, be24, be32}
use Rattle.sd_format.specs.Layout.{lay_entry}
use Rattle.sd_entry.specs.Said.{entry_said}
use Rattle.sd_entry.specs.declared.SdServiceEntryType.{SdServiceEntryType}
use Rattle.sd_entry.specs.declared.SdServiceEntryType.TheVariants.{FindService, OfferService}
use Rattle.sd_entry.specs.declared.EventGroupEntryType.{EventGroupEntryType}
use Rattle.sd_entry.specs.declared.EventGroupEntryType.TheVariants.{SubscribeOrStop, SubscribeAckOrNack}
use Rattle.sd_entry.specs.declared.EntryHead.{EntryHead}
use Rattle.sd_entry.specs.declared.EventGroup.{EventGroup}
use Rattle.sd_entry.specs.declared.SdEntry.{SdEntry}
use Rattle.sd_entry.specs.declared.SdEntry.TheVariants.{Service, Eventgroup}

abbrev pub service_type : SdServiceEntryType → ℕ
service_type FindService = 0x00
service_type OfferService = 0x01

abbrev pub eventgroup_type : EventGroupEntryType → ℕ
eventgroup_type SubscribeOrStop = 0x06
eventgroup_type SubscribeAckOrNack = 0x07

-- run 1 start; run 2 start; one byte with count 1 in the high four bits and count 2 in the low four; service id (2); instance id (2);
-- major version; TTL (3)
abbrev pub head_by_name : EntryHead → List ℕ
head_by_name h =
    h.start_index_options_1 ∷ h.start_index_options_2 ∷ (h.number_of_options_1 * 16 + h.number_of_options_2) ∷
    (be16 h.service_id ++ (be16 h.instance_id ++ (h.major_version ∷ be24 h.ttl)))

-- a reserved byte; the bit that asks for the initial data, three reserved bits, and the counter in the low four; eventgroup id (2)
abbrev pub group_by_name : EventGroup → List ℕ
group_by_name g =
    g.reserved ∷ (cond g.initial_data_requested 0x80 0 + g.spare * 16 + g.counter) ∷ be16 g.eventgroup_id

-- the type, what every entry has, and four more bytes: minor version for services
abbrev pub laid_by_name : SdEntry → List ℕ
laid_by_name (Service type h minor) = service_type type ∷ (head_by_name h ++ be32 minor)
laid_by_name (Eventgroup type h g) = eventgroup_type type ∷ (head_by_name h ++ group_by_name g)

-- what an entry says lies where its fields' names belong
pub record ByName (e : SdEntry) : Type 0 where
  pub laid : laid_by_name e ≡ lay_entry (entry_said e)
