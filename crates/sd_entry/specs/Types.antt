-- What the reading of a type from its code answers. Assumes nothing: these are definitions.
use Rattle.std.specs.Prelude.{ℕ, ◌≡◌, ◌<◌, ◌⊎◌, Result, Ok, Err}
use Rattle.refusal.specs.declared.Refusal.{Refusal}
use Rattle.refusal.specs.declared.Refusal.TheVariants.{UnknownEntry}
use Rattle.sd_entry.specs.ByName.{service_type, eventgroup_type}
use Rattle.sd_entry.specs.declared.SdServiceEntryType.{SdServiceEntryType}
use Rattle.sd_entry.specs.declared.EventGroupEntryType.{EventGroupEntryType}

-- the type of a code; 11 with the code where no type has it
abbrev pub ServiceTyped : ℕ → Result SdServiceEntryType Refusal → Type 0
ServiceTyped code (Ok type) = service_type type ≡ code
ServiceTyped code (Err r) = (r ≡ UnknownEntry code) × (0x01 < code)

abbrev pub EventgroupTyped : ℕ → Result EventGroupEntryType Refusal → Type 0
EventgroupTyped code (Ok type) = eventgroup_type type ≡ code
EventgroupTyped code (Err r) = (r ≡ UnknownEntry code) × ((code < 0x06) ⊎ (0x07 < code))
